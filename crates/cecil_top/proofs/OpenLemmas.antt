-- Actors that are made, and passes that are handed out.
use Rattle.std.proofs.Common.{◌≡◌, ◌≢◌, sym, ◌∙◌, ap, subst, ℕ, suc, ◌+◌, ◌<◌, ◌⊎◌, inl, inr, List, [], ◌∷◌, ◌++◌, Option, Some, length, length-append, map, slice_get, slice_set, arith}
use Rattle.std.specs.List.{range_with_len}
use Rattle.std.proofs.lemmas.List.{length-map, length-set}
use Rattle.std.proofs.lemmas.List.FromFn.{length-map-range_with_len, get_or-map-range_with_len}
use Rattle.std.proofs.lemmas.Option.{slice_get-get_or, slice_get_within}
use mathlib.Core.Logic.{dite}
use native.Mathlib.Decide.{dec_le}
use Rattle.turn_lock.specs.Passes.{fresh_passes, new_pass}
use Rattle.job_text.specs.declared.command.Command.{Command}
use Rattle.lazy_core.specs.Slots.{CoreState}
use Rattle.node_model.specs.declared.entry.Entry.{Entry}
use Rattle.shared_module.proofs.PrefixLemmas.{one_behind}
use Rattle.cecil_top.specs.declared.actor.Actor.{Actor}
use Rattle.cecil_top.specs.inner.Opens.{AllAreNew, AreFresh, AreHandedOut, AreOpened, IsNew, with_pass}
use Rattle.cecil_top.specs.inner.Passes.{Held, Shared}
use Rattle.cecil_top.proofs.PlaceLemmas.{front_item, item_at, item_mapped, other_item, same_at, same_items, same_or_not, set_item}

-- an actor more is made
pub new_more : (given : List (List Command)) (n : ℕ) (actors : List Actor) (a : Actor) (cs : List Command) → AllAreNew [] given actors n
    → slice_get given n ≡ Some cs → IsNew [] n cs a → AllAreNew [] given (actors ++ a ∷ []) (n + 1)
new_more given n actors a cs all at new = record {
  as_many = (let many = all.as_many in omega (arith, many, length-append actors (a ∷ [])));
  each = λ i c x there is.
      let many = all.as_many in
      dite (dec_le (suc i) n)
      (λ less. all.each i c x there (sym (front_item actors (a ∷ []) i (omega (arith, many))) ∙ is))
      (λ past.
      let last = one_behind actors a x i (omega (arith, many)) is in
      let here : i ≡ n = last.1 ∙ many in
      let same : cs ≡ c = same_at given n cs c at (ap (slice_get given) (sym here) ∙ there) in
      subst (λ y. IsNew [] i c y) (sym last.0) (subst (λ y. IsNew [] i y a) same (subst (λ j. IsNew [] j cs a) (sym here) new)));
}

-- what new actors were given
pub given_is : (modules : List Shared) (given : List (List Command)) (actors : List Actor) → AllAreNew modules given actors (length given) → map (λ (a : Actor). a.given) actors ≡ given
given_is modules given actors all =
    same_items (map (λ (a : Actor). a.given) actors) given (length-map actors (λ (a : Actor). a.given) ∙ all.as_many)
    (λ i x y is at.
    let a = item_mapped (λ (a : Actor). a.given) actors i x is in
    sym a.2 ∙ (all.each i y a.0 at a.1).given)

-- an actor more has got its pass
pub handed_more : (passes : List Held) (old mid new : List Actor) (n : ℕ) (a : Actor) (p : Held) → AreHandedOut passes old mid n → slice_get mid n ≡ Some a
    → slice_get passes n ≡ Some p → new ≡ slice_set mid n (with_pass p a) → AreHandedOut passes old new (n + 1)
handed_more passes old mid new n a p h at it is = record {
  as_many = ap length is ∙ length-set mid n (with_pass p a) ∙ h.as_many;
  before = λ i x y q less was now there. by_place i x y q less was now there (same_or_not i n);
  behind = λ i l. ap (λ xs. slice_get xs i) is ∙ other_item mid n i (with_pass p a) (λ e. absurd (omega (arith, e))) ∙ h.behind i (omega arith);
}
  where
    by_place : (i : ℕ) (x y : Actor) (q : Held) → i < n + 1 → slice_get old i ≡ Some x → slice_get new i ≡ Some y → slice_get passes i ≡ Some q
        → (i ≡ n) ⊎ (i ≢ n) → y ≡ with_pass q x
    by_place i x y q less was now there (inl e) =
        let within = slice_get_within mid n a at in
        let new_is = same_at new n (with_pass p a) y (ap (λ xs. slice_get xs n) is ∙ set_item mid n (with_pass p a) within) (ap (slice_get new) (sym e) ∙ now) in
        let old_is = same_at old n a x (sym (h.behind n (omega arith)) ∙ at) (ap (slice_get old) (sym e) ∙ was) in
        let pass_is = same_at passes n p q it (ap (slice_get passes) (sym e) ∙ there) in
        sym new_is ∙ ap (with_pass p) old_is ∙ ap (λ r. with_pass r x) pass_is
    by_place i x y q less was now there (inr o) =
        h.before i x y q (omega (arith, o, less)) was (sym (other_item mid n i (with_pass p a) o) ∙ ap (λ xs. slice_get xs i) (sym is) ∙ now) there

-- the new pass of a number
fresh_at : (l : Shared) (i : ℕ) → i < l.callers → slice_get (fresh_passes {E = Entry} l) i ≡ Some (new_pass l.id (Some l.base) i)
fresh_at l i less =
    let f : ℕ → Held = new_pass l.id (Some l.base) in
    let long : length (map f (range_with_len 0 l.callers)) ≡ l.callers = length-map-range_with_len f 0 l.callers in
    slice_get-get_or (map f (range_with_len 0 l.callers)) i (f 0) (omega (arith, long)) ∙ ap Some (get_or-map-range_with_len f 0 l.callers i i (f 0) less (omega arith))

-- passes of a module more
fresh_more : (modules : List Shared) (l : Shared) (i : ℕ) (passes : List (Option Held)) → AreFresh modules i passes
    → AreFresh (modules ++ l ∷ []) i (passes ++ Some (new_pass l.id (Some l.base) i) ∷ [])
fresh_more modules l i passes f = record {
  as_many = (let many = f.as_many in omega (arith, many, length-append passes (p ∷ []), length-append modules (l ∷ [])));
  each = λ m k o there is.
      let many = f.as_many in
      dite (dec_le (suc m) (length modules))
      (λ less. f.each m k o (sym (front_item modules (l ∷ []) m (omega arith)) ∙ there) (sym (front_item passes (p ∷ []) m (omega (arith, many))) ∙ is))
      (λ past.
      let here = one_behind modules l k m (omega arith) there in
      let pass = one_behind passes p o m (omega (arith, many)) is in
      subst (λ z. o ≡ Some (new_pass z.id (Some z.base) i)) (sym here.0) pass.0);
}
  where
    p : Option Held
    p = Some (new_pass l.id (Some l.base) i)

-- a module more is shared, and its passes are handed out
pub opened_for_all : (modules : List Shared) (l : Shared) (given : List (List Command)) (mid new : List Actor) → l.callers ≡ length mid
    → AreHandedOut (fresh_passes l) mid new (length mid) → AllAreNew modules given mid (length mid) → AllAreNew (modules ++ l ∷ []) given new (length mid)
opened_for_all modules l given mid new many h all = record {
  as_many = h.as_many;
  each = each;
}
  where
    each : (i : ℕ) (cs : List Command) (x : Actor) → slice_get given i ≡ Some cs → slice_get new i ≡ Some x → IsNew (modules ++ l ∷ []) i cs x
    each i cs x at is =
        let within = slice_get_within new i x is in
        let long = h.as_many in
        let y = item_at mid i (omega (arith, long, within)) in
        let was = all.each i cs y.0 at y.1 in
        let p : Held = new_pass l.id (Some l.base) i in
        let now : x ≡ with_pass p y.0 = h.before i y.0 x p (omega (arith, long, within)) y.1 is (fresh_at l i (omega (arith, many, long, within))) in
        record {
          number = ap (λ (z : Actor). z.number) now ∙ was.number;
          given = ap (λ (z : Actor). z.given) now ∙ was.given;
          none_done = ap (λ (z : Actor). z.commands) now ∙ was.none_done;
          none_said = ap (λ (z : Actor). z.said) now ∙ was.none_said;
          passes = subst (AreFresh (modules ++ l ∷ []) i) (sym (ap (λ (z : Actor). z.passes) now)) (fresh_more modules l i y.0.passes was.passes);
        }

pub opened_more : (cores : List CoreState) (n m : ℕ) (modules : List Shared) (core : CoreState) (l : Shared) → AreOpened cores n modules m
    → slice_get cores m ≡ Some core → l.base ≡ core.bytes → l.callers ≡ n → AreOpened cores n (modules ++ l ∷ []) (m + 1)
opened_more cores n m modules core l all at base callers = record {
  as_many = (let many = all.as_many in omega (arith, many, length-append modules (l ∷ [])));
  each = λ j x k there is.
      let many = all.as_many in
      dite (dec_le (suc j) (length modules))
      (λ less. all.each j x k there (sym (front_item modules (l ∷ []) j (omega arith)) ∙ is))
      (λ past.
      let last = one_behind modules l k j (omega arith) is in
      let same : core ≡ x = same_at cores m core x at (ap (slice_get cores) (sym (last.1 ∙ many)) ∙ there) in
      (ap (λ (z : Shared). z.base) last.0 ∙ base ∙ ap (λ (z : CoreState). z.bytes) same, ap (λ (z : Shared). z.callers) last.0 ∙ callers));
}
