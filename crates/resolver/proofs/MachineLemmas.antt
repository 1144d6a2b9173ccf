-- The machine's state after one exchange more, and what is kept with it.
use Rattle.std.proofs.Common.{◌≡◌, sym, ◌∙◌, ap, ℕ, List, [], ◌∷◌, ◌++◌, Result, Ok, Err, OnErr, OnOk}
use Rattle.std.proofs.lemmas.List.Sums.{fold-append}
use Rattle.node_model.specs.declared.query.Query.{Query}
use Rattle.node_model.specs.declared.reply.Reply.{Reply}
use Rattle.resolver.specs.Machine.{advanced, after_reply, start_state, state_after, state_by, state_with}
use Rattle.resolver.specs.Questions.{state_next}
use Rattle.resolver.specs.declared.exchange.Exchange.{Exchange}
use Rattle.resolver.specs.declared.next.Next.TheVariants.{Question}
use Rattle.resolver.specs.declared.start.Start.{Start}
use Rattle.resolver.specs.declared.state.State.{State}

pub next_state : (start : Start) (t : List Exchange) (s : State) (at : ℕ) (q : Query) (r : Reply)
    → s ≡ state_after start t → Question at q ≡ state_next s
    → advanced s (after_reply s q r) ≡ state_after start (t ++ record { at = at; query = q; reply = r } ∷ [])
unfolding state_after state_with
next_state start t s at q r is asked =
    ap (λ n. state_by s n r) asked ∙ ap (λ x. state_with x r) is
    ∙ sym (fold-append (λ (x : State) (exchange : Exchange). state_with x exchange.reply) (start_state start) t (record { at = at; query = q; reply = r } ∷ []))

-- what is kept together is changed together, or not at all
pub kept : {T S V E : Type 0} (f : T → S) (r : Result V E) (t u : T) (s z : S) (t_next : T) (s_next : S) → s ≡ f t → s_next ≡ f t_next
    → OnOk r (u ≡ t_next) → OnOk r (z ≡ s_next) → OnErr r (u ≡ t) → OnErr r (z ≡ s) → z ≡ f u
kept f (Ok v) t u s z t_next s_next before after u_is z_is _ _ = z_is ∙ after ∙ ap f (sym u_is)
kept f (Err e) t u s z t_next s_next before after _ _ u_is z_is = z_is ∙ before ∙ ap f (sym u_is)
