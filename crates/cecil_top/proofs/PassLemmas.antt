-- Passes that are taken out, and put back.
use Rattle.std.proofs.Common.{◌≡◌, ◌≢◌, refl, sym, ◌∙◌, ap, subst, ℕ, ◌<◌, ◌⊎◌, inl, inr, List, Option, Some, None, Result, Ok, Err, IfOk, length, slice_get, slice_set, arith}
use Rattle.std.proofs.lemmas.List.{length-set}
use Rattle.std.proofs.lemmas.Option.{slice_get_within}
use Rattle.cil_base.specs.declared.no_memory.NoMemory.{NoMemory}
use Rattle.job_text.specs.declared.command.Command.TheVariants as commands
use Rattle.node_model.specs.declared.edit.Edit.{Edit}
use Rattle.node_model.specs.declared.query.Query.{Query}
use Rattle.shared_module.specs.Adds.{AddsFills, IsForEdit, IsForQuery, by_of}
use Rattle.shared_module.specs.Answers.{EndsWithDone, IsAnswer, IsEdited, before_done}
use Rattle.shared_module.specs.declared.ask.Answer.{Answer}
use Rattle.shared_module.specs.declared.edit.Edited.{Edited}
use Rattle.cecil_top.specs.Acts.{Act, single_act}
use Rattle.cecil_top.specs.Commands.{home_of}
use Rattle.cecil_top.specs.declared.said.Said.TheVariants as saids
use Rattle.cecil_top.specs.inner.Passes.{HasPassAt, HasPasses, Held, IsPassFor, IsPassStep, IsThere, Shared, seen_by}
use Rattle.cecil_top.specs.inner.Steps.{IsStep}
use Rattle.cecil_top.proofs.PlaceLemmas.{item_at, other_item, same_at, same_or_not, set_item}
use Rattle.cecil_top.proofs.StepLemmas.{step_asked, step_edited}

-- an actor with its passes has one of each module
pub pass_there : (modules : List Shared) (k : ℕ) (passes : List (Option Held)) → HasPasses modules k passes → (m : ℕ) → m < length modules → HasPassAt passes m
pass_there modules k passes has m less =
    let many = has.as_many in
    let l = item_at modules m less in
    let here : m < length passes = omega (arith, many, less) in
    let p = item_at passes m here in
    (here, subst IsThere (sym p.1) (is_there p.0 l.0 (has.each m l.0 p.0 l.1 p.1)))
  where
    is_there : (p : Option Held) (l : Shared) → IsPassFor l k p → IsThere (Some p)
    is_there (Some p) l is = tt
    is_there None l is = absurd is

-- a pass goes out, and another comes back in its place
module _ (modules : List Shared) (k m : ℕ) (old mid new : List (Option Held)) (p q : Held) (l : Shared)
    (at : slice_get modules m ≡ Some l) (was : slice_get old m ≡ Some (Some p)) (out : mid ≡ slice_set old m None) (back : new ≡ slice_set mid m (Some q)) where
  pass_now : slice_get new m ≡ Some (Some q)
  pass_now =
      let less = slice_get_within old m (Some p) was in
      let long : length mid ≡ length old = ap length out ∙ length-set old m None in
      ap (λ xs. slice_get xs m) back ∙ set_item mid m (Some q) (omega (arith, less, long))

  other_pass : (j : ℕ) → j ≢ m → slice_get new j ≡ slice_get old j
  other_pass j n = ap (λ xs. slice_get xs j) back ∙ other_item mid m j (Some q) n ∙ ap (λ xs. slice_get xs j) out ∙ other_item old m j None n

  pub passes_back : HasPasses modules k old → IsPassFor l k (Some q) → HasPasses modules k new
  passes_back has is = record {
    as_many = ap length back ∙ length-set mid m (Some q) ∙ ap length out ∙ length-set old m None ∙ has.as_many;
    each = λ j x o there now. by_place j x o there now (same_or_not j m);
  }
    where
      by_place : (j : ℕ) (x : Shared) (o : Option Held) → slice_get modules j ≡ Some x → slice_get new j ≡ Some o → (j ≡ m) ⊎ (j ≢ m) → IsPassFor x k o
      by_place j x o there now (inl e) =
          let same_module = same_at modules m l x at (ap (slice_get modules) (sym e) ∙ there) in
          let same_pass = same_at new m (Some q) o pass_now (ap (slice_get new) (sym e) ∙ now) in
          subst (λ y. IsPassFor y k o) same_module (subst (λ y. IsPassFor l k y) same_pass is)
      by_place j x o there now (inr n) = has.each j x o there (sym (other_pass j n) ∙ now)

  pub pass_step : (act : Act) → home_of act.asked ≡ m → IsStep l.base (by_of k act.command act.step) act.asked act.said p.seen q.seen
      → IsPassStep modules k act old new
  pass_step act here step = record {
    others = λ j other. other_pass j (λ e. other (e ∙ sym here));
    own = λ x o r there before now.
        let same_module = same_at modules m l x at (ap (slice_get modules) (sym here) ∙ there) in
        let same_old = same_at old m (Some p) o was (ap (slice_get old) (sym here) ∙ before) in
        let same_new = same_at new m (Some q) r pass_now (ap (slice_get new) (sym here) ∙ now) in
        subst (λ y. IsStep y.base (by_of k act.command act.step) act.asked act.said (seen_by o) (seen_by r)) same_module
        (subst (λ y. IsStep l.base (by_of k act.command act.step) act.asked act.said (seen_by o) (seen_by y)) same_new
        (subst (λ y. IsStep l.base (by_of k act.command act.step) act.asked act.said (seen_by y) q.seen) same_old step));
  }

  module _ (number : p.number ≡ k) (n : ℕ) where
    pub query_step : (step : ℕ) (query : Query) (r : Result Answer NoMemory) → AddsFills (by_of p.number n step) (IsForQuery query) p.seen q.seen
        → IfOk r (IsAnswer l.base query q.seen)
        → IfOk r (λ a. IsPassStep modules k (record { command = n; step = step; asked = commands.Query m query; said = saids.Query a }) old new)
    query_step step query (Ok a) adds is =
        pass_step (record { command = n; step = step; asked = commands.Query m query; said = saids.Query a }) refl
        (step_asked l.base (by_of k n step) m query a p.seen q.seen (subst (λ j. AddsFills (by_of j n step) (IsForQuery query) p.seen q.seen) number adds) is)
    query_step step query (Err e) adds is = tt

    pub edit_step : (e : Edit) (r : Result Edited NoMemory) → AddsFills (by_of p.number n 0) (IsForEdit l.base e) p.seen (before_done q.seen r)
        → EndsWithDone (by_of p.number n 0) e q.seen r → IfOk r (IsEdited l.base e q.seen)
        → IfOk r (λ x. IsPassStep modules k (single_act n (commands.Edit m e) (saids.Edit x)) old new)
    edit_step e (Ok x) adds done is =
        pass_step (single_act n (commands.Edit m e) (saids.Edit x)) refl
        (step_edited l.base (by_of k n 0) m e p.seen q.seen x
        (subst (λ j. AddsFills (by_of j n 0) (IsForEdit l.base e) p.seen (before_done q.seen (Ok x))) number adds)
        (subst (λ j. EndsWithDone (by_of j n 0) e q.seen (Ok x)) number done) is)
    edit_step e (Err x) adds done is = tt
