-- One module closed after the other.
use Rattle.std.proofs.Common.{◌≡◌, sym, ◌∙◌, ap, subst, ℕ, suc, ◌+◌, ◌<◌, List, [], ◌∷◌, ◌++◌, Some, None, length, length-append, slice_get, arith, All}
use mathlib.Core.Logic.{dite}
use native.Mathlib.Decide.{dec_le}
use Rattle.std.proofs.lemmas.List.{length-set}
use Rattle.std.proofs.lemmas.Option.{slice_get_within}
use Rattle.lazy_core.specs.History.{entry_caller}
use Rattle.lazy_core.specs.Slots.{CoreState}
use Rattle.shared_module.proofs.PrefixLemmas.{one_behind}
use Rattle.cecil_top.specs.Acts.{acts_of}
use Rattle.cecil_top.specs.Explained.{ExplainsCaller}
use Rattle.cecil_top.specs.declared.actor.Actor.{Actor}
use Rattle.cecil_top.specs.inner.Ends.{AllAreClosed, AllAreSameFrom, AreWithout, CanClose, IsClosed, IsSameFrom}
use Rattle.cecil_top.specs.inner.Passes.{IsThere, Shared, seen_by}
use Rattle.cecil_top.proofs.PlaceLemmas.{front_item, item_at, other_item, same_at}

module _ (n : ℕ) (old now : List Actor) (s : AllAreSameFrom n old now) where
  -- what an actor was
  was : (i : ℕ) (x : Actor) → slice_get now i ≡ Some x → (a : Actor) × (slice_get old i ≡ Some a) × IsSameFrom n a x
  was i x at =
      let many = s.as_many in
      let within = slice_get_within now i x at in
      let a = item_at old i (omega (arith, many, within)) in
      (a.0, a.1, s.each i a.0 x a.1 at)

  -- the next module can be closed as it could at first
  pub can_close_still : (l : Shared) → CanClose l n old → CanClose l n now
  can_close_still l can = record {
    callers = can.callers ∙ sym s.as_many;
    there = λ i x at.
        let a = was i x at in
        let there = can.there i a.0 a.1 in
        let many = a.2.as_many in
        (omega (arith, many, there.0), subst IsThere (sym (a.2.passes n (omega arith))) there.1);
    passes = λ i x p at is. let a = was i x at in can.passes i a.0 p a.1 (sym (a.2.passes n (omega arith)) ∙ is);
    explained = λ i x p at is.
        let a = was i x at in
        subst (λ cs. ExplainsCaller l.base i n (acts_of cs x.said) (seen_by p)) (sym a.2.commands)
        (subst (λ y. ExplainsCaller l.base i n (acts_of a.0.commands y) (seen_by p)) (sym a.2.said)
        (can.explained i a.0 p a.1 (sym (a.2.passes n (omega arith)) ∙ is)));
  }

  -- what is explained of the actors now was explained of them at first
  pub closed_at_first : (l : Shared) (core : CoreState) → IsClosed l n now core → IsClosed l n old core
  closed_at_first l core c = record {
    bytes = c.bytes;
    legal = c.legal;
    callers = subst (λ k. All (λ e. entry_caller e < k) core.history) s.as_many c.callers;
    explained = λ i a at.
        let many = s.as_many in
        let within = slice_get_within old i a at in
        let x = item_at now i (omega (arith, many, within)) in
        let same = s.each i a x.0 at x.1 in
        subst (λ cs. ExplainsCaller core.bytes i n (acts_of cs a.said) core.history) same.commands
        (subst (λ y. ExplainsCaller core.bytes i n (acts_of x.0.commands y) core.history) same.said (c.explained i x.0 x.1));
  }

  pub same_without : (new : List Actor) → AreWithout n now new (length now) → AllAreSameFrom (n + 1) old new
  same_without new w = record {
    as_many = w.as_many ∙ s.as_many;
    each = λ i a y at is.
        let many = s.as_many in
        let within = slice_get_within old i a at in
        let x = item_at now i (omega (arith, many, within)) in
        let same = s.each i a x.0 at x.1 in
        let now_is = w.before i x.0 y (omega (arith, many, within)) x.1 is in
        record {
          commands = ap (λ (z : Actor). z.commands) now_is ∙ same.commands;
          said = ap (λ (z : Actor). z.said) now_is ∙ same.said;
          as_many = ap (λ (z : Actor). length z.passes) now_is ∙ length-set x.0.passes n None ∙ same.as_many;
          passes = λ m l. ap (λ (z : Actor). slice_get z.passes m) now_is ∙ other_item x.0.passes n m None (λ e. absurd (omega (arith, e))) ∙ same.passes m (omega arith);
        };
  }

-- a module more is closed
pub closed_more : (modules : List Shared) (actors : List Actor) (cores : List CoreState) (n : ℕ) (l : Shared) (core : CoreState)
    → AllAreClosed modules actors cores n → slice_get modules n ≡ Some l → IsClosed l n actors core → AllAreClosed modules actors (cores ++ core ∷ []) (n + 1)
closed_more modules actors cores n l core all at c = record {
  as_many = (let many = all.as_many in omega (arith, many, length-append cores (core ∷ [])));
  each = λ m x y there is.
      dite (dec_le (suc m) (length cores))
      (λ less. all.each m x y there (sym (front_item cores (core ∷ []) m (omega arith)) ∙ is))
      (λ past.
      let last = one_behind cores core y m (omega arith) is in
      let here : m ≡ n = last.1 ∙ all.as_many in
      let same : l ≡ x = same_at modules n l x at (ap (slice_get modules) (sym here) ∙ there) in
      subst (λ z. IsClosed x m actors z) (sym last.0) (subst (λ z. IsClosed z m actors core) same (subst (λ k. IsClosed l k actors core) (sym here) c)));
}
