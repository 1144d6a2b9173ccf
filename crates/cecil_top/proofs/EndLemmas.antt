-- Passes out of all actors, and the end of one module.
use Rattle.std.proofs.Common.{◌≡◌, sym, subst, ℕ, ◌<◌, List, Some, length, slice_get, arith, All, Any}
use mathlib.Core.List.{IsPrefix}
use Rattle.std.proofs.lemmas.Option.{get_or_from_slice_get, slice_get_within}
use Rattle.turn_lock.specs.Passes.{AreAllOf, IsPassOf}
use Rattle.turn_lock.specs.Views.{own}
use Rattle.lazy_core.specs.History.{entry_caller}
use Rattle.lazy_core.specs.Legal.{Legal}
use Rattle.lazy_core.specs.Slots.{CoreState}
use Rattle.cecil_top.specs.Acts.{acts_of}
use Rattle.cecil_top.specs.Explained.{ExplainsCaller}
use Rattle.cecil_top.specs.declared.actor.Actor.{Actor}
use Rattle.cecil_top.specs.inner.Ends.{AreGiven, CanClose, IsClosed}
use Rattle.cecil_top.specs.inner.Passes.{Held, Shared}
use Rattle.cecil_top.proofs.CallerLemmas.{explains_longer}
use Rattle.cecil_top.proofs.PlaceLemmas.{all_at, at_all, item_at}

module _ (l : Shared) (m : ℕ) (actors : List Actor) (passes : List Held) (can : CanClose l m actors) (g : AreGiven m actors passes (length actors)) where
  pass_of : (i : ℕ) (a : Actor) (p : Held) → slice_get actors i ≡ Some a → slice_get passes i ≡ Some p → IsPassOf l p × (p.number ≡ i)
  pass_of i a p at is = can.passes i a (Some p) at (g.each i a p at is)

  -- the passes that the actors gave are all passes of the module
  pub are_all : AreAllOf l passes
  are_all = (at_all (IsPassOf l) passes of_module, each_number)
    where
      of_module : (i : ℕ) (p : Held) → slice_get passes i ≡ Some p → IsPassOf l p
      of_module i p is =
          let many = g.as_many in
          let within = slice_get_within passes i p is in
          let a = item_at actors i (omega (arith, many, within)) in
          (pass_of i a.0 p a.1 is).0

      each_number : (k : ℕ) → k < l.callers → Any (λ p. p.number ≡ k) passes
      each_number k less =
          let many = g.as_many in
          let callers = can.callers in
          let a = item_at actors k (omega (arith, callers, less)) in
          let here : k < length passes = omega (arith, many, callers, less) in
          let p = item_at passes k here in
          (k, p.0, here, get_or_from_slice_get passes k p.0 p.0 p.1, (pass_of k a.0 p.0 a.1 p.1).1)

  pub is_closed : (core : CoreState) → core.bytes ≡ l.base → Legal core.bytes core.history → All (λ p. IsPrefix p.seen core.history) passes
      → All (λ p. own entry_caller p.number core.history ≡ own entry_caller p.number p.seen) passes
      → All (λ e. entry_caller e < l.callers) core.history → IsClosed l m actors core
  is_closed core bytes legal seen mine callers = record {
    bytes = bytes;
    legal = legal;
    callers = subst (λ n. All (λ e. entry_caller e < n) core.history) can.callers callers;
    explained = explained;
  }
    where
      explained : (i : ℕ) (a : Actor) → slice_get actors i ≡ Some a → ExplainsCaller core.bytes i m (acts_of a.commands a.said) core.history
      explained i a at =
          let many = g.as_many in
          let within = slice_get_within actors i a at in
          let p = item_at passes i (omega (arith, many, within)) in
          let its = pass_of i a p.0 at p.1 in
          let front = all_at (λ (q : Held). IsPrefix q.seen core.history) passes seen i p.0 p.1 in
          let same = subst (λ k. own entry_caller k core.history ≡ own entry_caller k p.0.seen) its.1
          (all_at (λ (q : Held). own entry_caller q.number core.history ≡ own entry_caller q.number q.seen) passes mine i p.0 p.1) in
          subst (λ b. ExplainsCaller b i m (acts_of a.commands a.said) core.history) (sym bytes)
          (explains_longer l.base i m (acts_of a.commands a.said) p.0.seen (can.explained i a (Some p.0) at (g.each i a p.0 at p.1)) core.history front same)
