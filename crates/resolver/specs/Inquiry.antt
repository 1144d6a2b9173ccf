-- What is seen of an `Ask`: where it began, and what was asked and replied so far. What it asks next, or its end,
-- follows from these alone.
use Rattle.std.specs.Prelude.{ℕ, Bool, true, false, List, [], ◌∷◌, ◌++◌}
use Rattle.cil_base.specs.Token.{Token}
use Rattle.node_model.specs.declared.reply.Reply.{Reply}
use Rattle.resolver.specs.Machine.{state_after}
use Rattle.resolver.specs.Questions.{state_next}
use Rattle.resolver.specs.declared.exchange.Exchange.{Exchange}
use Rattle.resolver.specs.declared.next.Next.{Next}
use Rattle.resolver.specs.declared.next.Next.TheVariants.{Question}
use Rattle.resolver.specs.declared.start.Sought.{Sought}
use Rattle.resolver.specs.declared.start.Start.{Start}

pub record Inquiry : Type 0 where
  pub start : Start
  pub transcript : List Exchange

abbrev pub new_inquiry : ℕ → ℕ → Sought → Token → Inquiry
new_inquiry modules home sought t =
    record { start = record { modules = modules; home = home; sought = sought; token = t }; transcript = [] }

-- the next question, or the end
unfoldable pub next_of : Inquiry → Next
next_of a = state_next (state_after a.start a.transcript)

abbrev pub is_question : Next → Bool
is_question (Question at query) = true
is_question end = false

abbrev pub inquiry_answered : Inquiry → Next → Reply → Inquiry
inquiry_answered a (Question at query) r =
    record a { transcript = a.transcript ++ record { at = at; query = query; reply = r } ∷ [] }
inquiry_answered a end r = a

-- the next question with this reply at the end of the transcript
abbrev pub with_reply : Inquiry → Reply → Inquiry
with_reply a r = inquiry_answered a (next_of a) r
