-- The machine that asks: where it begins, what a reply leads to, and where it stands after replies.
use Rattle.std.specs.Prelude.{ℕ, ◌==◌, List, [], ◌∷◌, ◌++◌, drop, Some, None, if◌then◌else◌}
use Rattle.std.specs.List.{fold}
use Rattle.std.specs.Option.{option_map}
use Rattle.cil_base.specs.Token.{Token}
use Rattle.md_schema.specs.Tables.{custom_attribute}
use Rattle.node_model.specs.declared.query.Query.{Query}
use Rattle.node_model.specs.declared.reply.Reply.{Reply}
use Rattle.resolver.specs.Attributes.{after_attribute}
use Rattle.resolver.specs.EnumWidths.{after_enum}
use Rattle.resolver.specs.Fits.{is_missing, reply_fits}
use Rattle.resolver.specs.Found.{first_stage, found_stage, is_definition, stopped}
use Rattle.resolver.specs.Members.{after_member}
use Rattle.resolver.specs.NamedTypes.{after_named_type, next_assembly}
use Rattle.resolver.specs.Questions.{first_assembly, state_next}
use Rattle.resolver.specs.References.{after_reference}
use Rattle.resolver.specs.declared.attributes.AttributeStage.TheVariants.{Row}
use Rattle.resolver.specs.declared.exchange.Exchange.{Exchange}
use Rattle.resolver.specs.declared.named_types.TypeStage.{TypeStage}
use Rattle.resolver.specs.declared.named_types.TypeStage.TheVariants.{Assembly}
use Rattle.resolver.specs.declared.next.Next.{Next}
use Rattle.resolver.specs.declared.next.Next.TheVariants.{Question}
use Rattle.resolver.specs.declared.reading.Reading.{Reading}
use Rattle.resolver.specs.declared.start.Sought.{Sought}
use Rattle.resolver.specs.declared.start.Sought.TheVariants as soughts
use Rattle.resolver.specs.declared.start.Start.{Start}
use Rattle.resolver.specs.declared.state.Advance.{Advance}
use Rattle.resolver.specs.declared.state.Advance.TheVariants.{To, Over, Onward, Waits, Named, Reads}
use Rattle.resolver.specs.declared.state.End.TheVariants.{NoReference}
use Rattle.resolver.specs.declared.state.Stage.{Stage}
use Rattle.resolver.specs.declared.state.Stage.TheVariants as stages
use Rattle.resolver.specs.declared.state.State.{State}

-- a definition is found at once, and an attribute is a row of CustomAttribute
abbrev pub start_stage : Sought → ℕ → Token → Stage
start_stage soughts.Reference home t =
    if is_definition t.table then found_stage None home t else first_stage home t
start_stage soughts.Attribute home t =
    if t.table == custom_attribute then stages.Attribute (Row t) else stages.Ended (NoReference t)

abbrev pub start_state : Start → State
start_state start =
    record {
      modules = start.modules;
      home = start.home;
      reading = None;
      hops = 0;
      waiting = [];
      left = [];
      stage = start_stage start.sought start.home start.token;
    }

-- a reply that fits the question, by the stage
abbrev pub after_fitting : State → Stage → Reply → Advance
after_fitting s (stages.Reference stage) r = after_reference s stage r
after_fitting s (stages.NamedType stage) r = after_named_type s stage r
after_fitting s (stages.Member stage) r = after_member s stage r
after_fitting s (stages.Attribute stage) r = after_attribute s stage r
after_fitting s (stages.EnumType stage) r = after_enum s stage r
after_fitting s (stages.Ended end) r = stopped r

abbrev pub after_unfit_type : TypeStage → Reply → Advance
after_unfit_type (Assembly left name wanted forwards) r =
    if is_missing first_assembly r then To (next_assembly left name wanted forwards) else stopped r
after_unfit_type stage r = stopped r

-- any other reply stops, but a module without an assembly is passed over
abbrev pub after_unfit : Stage → Reply → Advance
after_unfit (stages.NamedType stage) r = after_unfit_type stage r
after_unfit stage r = stopped r

abbrev pub after_reply : State → Query → Reply → Advance
after_reply s query r = if reply_fits query r then after_fitting s s.stage r else after_unfit s.stage r

abbrev pub with_name : List ℕ → Reading → Reading
with_name name reading = record reading { names = reading.names ++ name ∷ [] }

-- the state after that; what is not told stays as it is
abbrev pub advanced : State → Advance → State
advanced s (To stage) = record s { stage = stage }
advanced s (Over tokens stage) = record s { left = tokens; stage = stage }
advanced s (Onward stage) = record s { left = drop 1 s.left; stage = stage }
advanced s (Waits hops waiting stage) = record s { hops = hops; waiting = waiting; stage = stage }
advanced s (Named name) = record s { reading = option_map (with_name name) s.reading }
advanced s (Reads reading waiting stage) =
    record s { reading = Some reading; hops = 0; waiting = waiting; stage = stage }

-- after the end there is no more to reply to
abbrev pub state_by : State → Next → Reply → State
state_by s (Question at query) r = advanced s (after_reply s query r)
state_by s end r = s

-- the state after a reply to its question
unfoldable pub state_with : State → Reply → State
state_with s r = state_by s (state_next s) r

-- the state after the questions and replies so far
unfoldable pub state_after : Start → List Exchange → State
state_after start transcript =
    fold (λ (s : State) (exchange : Exchange). state_with s exchange.reply) (start_state start) transcript
