-- The questions of a resolution, one after the other.
use Rattle.std.proofs.Common.{◌≡◌, sym, ◌∙◌, ap, subst, ℕ, suc, ◌<◌, List, [], ◌∷◌, ◌++◌, Option, length, map, take, arith}
use Rattle.std.proofs.Math.Seq.{take-append_seam}
use mathlib.Core.Logic.{dite}
use native.Mathlib.Decide.{dec_le}
use Rattle.std.proofs.lemmas.List.{map-append, take-append-le}
use Rattle.cil_base.specs.Token.{Token}
use Rattle.node_model.specs.declared.query.Query.{Query}
use Rattle.resolver.specs.Inquiry.{Inquiry, inquiry_answered, new_inquiry, next_of}
use Rattle.resolver.specs.declared.exchange.Exchange.{Exchange}
use Rattle.resolver.specs.declared.next.Next.TheVariants.{Question}
use Rattle.resolver.specs.declared.start.Sought.{Sought}
use Rattle.resolver.specs.declared.start.Start.{Start}
use Rattle.shared_module.proofs.PrefixLemmas.{one_behind}
use Rattle.cecil_top.specs.Acts.{asked_acts}
use Rattle.cecil_top.specs.Following.{AreAsked, exchange_of, inquiry_at}
use Rattle.cecil_top.specs.declared.said.Asked.{Asked}
use Rattle.cecil_top.specs.inner.Passes.{AddsActs, HasPasses, Held, Shared}
use Rattle.cecil_top.specs.inner.Questions.{IsAskedMore}
use Rattle.cecil_top.proofs.HomeLemmas.{question_home}
use Rattle.cecil_top.proofs.PlaceLemmas.{front_item}
use Rattle.cecil_top.proofs.SoFarLemmas.{adds_asked, adds_none}

-- what an inquiry that begins so has come to with these questions
pub record IsAskedTo (modules : List Shared) (k n : ℕ) (start : Start) (ask : Inquiry) (questions : List Asked) (first held : List (Option Held)) :
    Type 0 where
  pub passes : HasPasses modules k held
  pub start_is : ask.start ≡ start
  pub transcript_is : ask.transcript ≡ map exchange_of questions
  pub asked : AreAsked start questions
  pub acts : AddsActs modules k (asked_acts n 0 questions) first held

abbrev start_of : ℕ → Sought → Token → ℕ → Start
start_of m sought t modules = record { modules = modules; home = m; sought = sought; token = t }

-- where a new inquiry begins
pub begins_at : (n modules m : ℕ) (sought : Sought) (t : Token) (ask : Inquiry) → ask ≡ new_inquiry n m sought t → ask.start.modules ≡ modules
    → ask.start ≡ record { modules = modules; home = m; sought = sought; token = t }
begins_at n modules m sought t ask is same =
    ap (λ (a : Inquiry). a.start) is ∙ ap (start_of m sought t) (sym (ap (λ (a : Inquiry). a.start.modules) is) ∙ same)

abbrev inquiry_of : Start → List Exchange → Inquiry
inquiry_of start transcript = record { start = start; transcript = transcript }

-- an inquiry is told by its start and by its questions
inquiry_is : (start : Start) (ask : Inquiry) (asked : List Asked) → ask.start ≡ start → ask.transcript ≡ map exchange_of asked
    → ask ≡ inquiry_at start asked
inquiry_is start ask asked start_is transcript_is =
    ap (λ s. inquiry_of s ask.transcript) start_is ∙ ap (inquiry_of start) transcript_is

module _ (modules : List Shared) (k n : ℕ) (start : Start) where
  pub none_asked : (ask : Inquiry) (asked : List Asked) (passes : List (Option Held)) → HasPasses modules k passes → ask.start ≡ start
      → (ask.transcript ≡ []) × (asked ≡ []) → IsAskedTo modules k n start ask asked passes passes
  none_asked ask asked passes has start_is none = record {
    passes = has;
    start_is = start_is;
    transcript_is = none.0 ∙ ap (map exchange_of) (sym none.1);
    asked = subst (AreAsked start) (sym none.1) (λ i x at. absurd cc);
    acts = subst (λ l. AddsActs modules k (asked_acts n 0 l) passes passes) (sym none.1) (adds_none modules k passes);
  }

  -- the questions so far, and the next one
  are_asked : (asked : List Asked) (x : Asked) → AreAsked start asked
      → (next_of (inquiry_at start asked) ≡ Question x.home x.query) × (x.home < start.modules) → AreAsked start (asked ++ x ∷ [])
  are_asked asked x all next i y at =
      dite (dec_le (suc i) (length asked))
      (λ less.
      let before = all i y (sym (front_item asked (x ∷ []) i (omega arith)) ∙ at) in
      (ap (λ l. next_of (inquiry_at start l)) (take-append-le i asked (x ∷ []) (omega arith)) ∙ before.0, before.1))
      (λ past.
      let last = one_behind asked x y i (omega arith) at in
      let front : take i (asked ++ x ∷ []) ≡ asked =
      ap (λ j. take j (asked ++ x ∷ [])) last.1 ∙ take-append_seam asked (x ∷ []) in
      subst (λ z. (next_of (inquiry_at start (take i (asked ++ x ∷ []))) ≡ Question z.home z.query) × (z.home < start.modules)) (sym last.0)
      (ap (λ l. next_of (inquiry_at start l)) front ∙ next.0, next.1))

  pub one_asked : (ask ask_new : Inquiry) (asked more : List Asked) (first old new : List (Option Held)) (m : ℕ) (q : Query)
      → start.home < start.modules → next_of ask ≡ Question m q → IsAskedTo modules k n start ask asked first old → HasPasses modules k new
      → IsAskedMore modules k n m q ask ask_new asked more old new → IsAskedTo modules k n start ask_new more first new
  one_asked ask ask_new asked more first old new m q less next so has is = record {
    passes = has;
    start_is = ap (λ (a : Inquiry). a.start) answered ∙ so.start_is;
    transcript_is = ap (λ (a : Inquiry). a.transcript) answered ∙ ap (λ t. t ++ exchange_of x ∷ []) so.transcript_is
        ∙ sym (map-append exchange_of asked (x ∷ [])) ∙ ap (map exchange_of) (sym is.more_is);
    asked = subst (AreAsked start) (sym is.more_is) (are_asked asked x so.asked (here, within));
    acts = adds_asked modules k n m q ask ask_new asked more first old new so.passes so.acts is;
  }
    where
      x : Asked
      x = record { home = m; query = q; answer = is.answer }

      answered : ask_new ≡ inquiry_of ask.start (ask.transcript ++ exchange_of x ∷ [])
      answered = is.ask_is ∙ ap (λ next. inquiry_answered ask next is.answer.reply) next

      here : next_of (inquiry_at start asked) ≡ Question m q
      here = ap next_of (sym (inquiry_is start ask asked so.start_is so.transcript_is)) ∙ next

      within : m < start.modules
      within = question_home (inquiry_at start asked) less m q here
