-- A resolution: each question is the next one of the inquiry, by the questions and replies before it, and the end is what
-- follows from all of them. ECMA-335 II.22.
use Rattle.std.specs.Prelude.{◌≡◌, ℕ, ◌<◌, false, List, map, slice_get, take, Some}
use Rattle.cil_base.specs.Token.{Token}
use Rattle.job_text.specs.declared.command.Command.{Command}
use Rattle.job_text.specs.declared.command.Command.TheVariants as commands
use Rattle.resolver.specs.Inquiry.{Inquiry, is_question, next_of}
use Rattle.resolver.specs.declared.exchange.Exchange.{Exchange}
use Rattle.resolver.specs.declared.next.Next.TheVariants.{Question}
use Rattle.resolver.specs.declared.start.Sought.TheVariants as soughts
use Rattle.resolver.specs.declared.start.Start.{Start}
use Rattle.cecil_top.specs.declared.said.Asked.{Asked}
use Rattle.cecil_top.specs.declared.said.Resolution.{Resolution}
use Rattle.cecil_top.specs.declared.said.Said.{Said}
use Rattle.cecil_top.specs.declared.said.Said.TheVariants as saids

abbrev pub exchange_of : Asked → Exchange
exchange_of x = record { at = x.home; query = x.query; reply = x.answer.reply }

-- the inquiry after these questions and replies
abbrev pub inquiry_at : Start → List Asked → Inquiry
inquiry_at start asked = record { start = start; transcript = map exchange_of asked }

-- each question is the inquiry's next one, of a module that is there
abbrev pub AreAsked : Start → List Asked → Type 0
AreAsked start asked =
    (n : ℕ) (x : Asked) → slice_get asked n ≡ Some x
    → (next_of (inquiry_at start (take n asked)) ≡ Question x.home x.query) × (x.home < start.modules)

pub record IsFollowed (start : Start) (r : Resolution) : Type 0 where
  pub asked : AreAsked start r.asked
  pub end : next_of (inquiry_at start r.asked) ≡ r.end
  pub ended : is_question r.end ≡ false

abbrev pub IsResolution : Start → Said → Type 0
IsResolution start (saids.Query a) = ⊥
IsResolution start (saids.Edit x) = ⊥
IsResolution start (saids.Resolved r) = IsFollowed start r

-- what was said to a command that follows a reference or reads an attribute, over so many modules
abbrev pub IsFollowedBy : ℕ → Command → Said → Type 0
IsFollowedBy modules (commands.Query m q) a = Unit {0}
IsFollowedBy modules (commands.Edit m e) a = Unit {0}
IsFollowedBy modules (commands.Resolve m t) a =
    IsResolution (record { modules = modules; home = m; sought = soughts.Reference; token = t }) a
IsFollowedBy modules (commands.Attribute m t) a =
    IsResolution (record { modules = modules; home = m; sought = soughts.Attribute; token = t }) a
