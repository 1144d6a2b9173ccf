-- Acts more, in all modules.
use Rattle.std.proofs.Common.{◌≡◌, ◌≢◌, sym, ◌∙◌, ap, subst, ℕ, ◌+◌, ◌⊎◌, inl, inr, List, [], ◌∷◌, ◌++◌, Option, Some, length, slice_get, append-nil, append_assoc, arith}
use Rattle.std.proofs.lemmas.Option.{slice_get_within}
use Rattle.node_model.specs.declared.query.Query.{Query}
use Rattle.resolver.specs.Inquiry.{Inquiry}
use Rattle.cecil_top.specs.Acts.{Act, asked_act, asked_acts}
use Rattle.cecil_top.specs.Commands.{home_of}
use Rattle.cecil_top.specs.Explained.{ExplainsCaller}
use Rattle.cecil_top.specs.declared.said.Asked.{Asked}
use Rattle.cecil_top.specs.inner.Passes.{AddsActs, HasPasses, Held, IsPassStep, Shared, seen_by}
use Rattle.cecil_top.specs.inner.Questions.{IsAskedMore}
use Rattle.cecil_top.proofs.CallerLemmas.{explains_elsewhere, explains_step}
use Rattle.cecil_top.proofs.PlaceLemmas.{item_at, same_or_not}

module _ (modules : List Shared) (k : ℕ) where
  -- one act
  pub adds_act : (act : Act) (old new : List (Option Held)) → HasPasses modules k old → IsPassStep modules k act old new → AddsActs modules k (act ∷ []) old new
  adds_act act old new has done before far m l q at now = by_home (same_or_not m (home_of act.asked))
    where
      there : (p : Option Held) × (slice_get old m ≡ Some p)
      there = let many = has.as_many in let less = slice_get_within modules m l at in item_at old m (omega (arith, many, less))

      by_home : (m ≡ home_of act.asked) ⊎ (m ≢ home_of act.asked) → ExplainsCaller l.base k m (before ++ act ∷ []) (seen_by q)
      by_home (inl e) =
          explains_step l.base k m before (seen_by there.0) (far m l there.0 at there.1) act (seen_by q) (sym e)
          (done.own l there.0 q (ap (slice_get modules) (sym e) ∙ at) (ap (slice_get old) (sym e) ∙ there.1) (ap (slice_get new) (sym e) ∙ now))
      by_home (inr other) = explains_elsewhere l.base k m before (seen_by q) (far m l q at (sym (done.others m other) ∙ now)) act (λ e. other (sym e))

  -- no acts
  pub adds_none : (passes : List (Option Held)) → AddsActs modules k [] passes passes
  adds_none passes before far m l p at is = subst (λ acts. ExplainsCaller l.base k m acts (seen_by p)) (sym (append-nil before)) (far m l p at is)

  -- acts, and those behind them
  pub adds_more : (xs ys : List Act) (a b c : List (Option Held)) → AddsActs modules k xs a b → AddsActs modules k ys b c → AddsActs modules k (xs ++ ys) a c
  adds_more xs ys a b c first then before far m l p at is =
      subst (λ acts. ExplainsCaller l.base k m acts (seen_by p)) (append_assoc before xs ys) (then (before ++ xs) (first before far) m l p at is)

-- one question more
pub asked_more : (n step : ℕ) (asked : List Asked) (x : Asked) → asked_acts n step (asked ++ x ∷ []) ≡ asked_acts n step asked ++ asked_act n (step + length asked) x ∷ []
asked_more n step [] x = ap (λ s. asked_act n s x ∷ []) (omega arith)
asked_more n step (y ∷ asked) x =
    let next : step + 1 + length asked ≡ step + length (y ∷ asked) = omega arith in
    ap (λ l. asked_act n step y ∷ l) (asked_more n (step + 1) asked x ∙ ap (λ s. asked_acts n (step + 1) asked ++ asked_act n s x ∷ []) next)

-- one question more is an act more
pub adds_asked : (modules : List Shared) (k n m : ℕ) (q : Query) (ask ask_new : Inquiry) (asked more : List Asked) (first old new : List (Option Held))
    → HasPasses modules k old → AddsActs modules k (asked_acts n 0 asked) first old → IsAskedMore modules k n m q ask ask_new asked more old new
    → AddsActs modules k (asked_acts n 0 more) first new
adds_asked modules k n m q ask ask_new asked more first old new has adds is =
    let x : Asked = record { home = m; query = q; answer = is.answer } in
    let at : 0 + length asked ≡ length asked = omega arith in
    subst (λ acts. AddsActs modules k acts first new)
    (sym (ap (asked_acts n 0) is.more_is ∙ asked_more n 0 asked x ∙ ap (λ s. asked_acts n 0 asked ++ asked_act n s x ∷ []) at))
    (adds_more modules k (asked_acts n 0 asked) (asked_act n (length asked) x ∷ []) first old new adds
    (adds_act modules k (asked_act n (length asked) x) old new has is.step))
