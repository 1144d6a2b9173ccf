-- What a type that was found leads to, and what a token that is to be resolved leads to.
use Rattle.std.specs.Prelude.{ℕ, ◌+◌, ◌==◌, ◌||◌, Bool, nat_le, List, [], ◌∷◌, Option, Some, None, if◌then◌else◌}
use Rattle.cil_base.specs.Token.{Token}
use Rattle.md_schema.specs.Tables.{field, member_ref, method_def, method_spec, type_def, type_ref, type_spec}
use Rattle.sig_tree.specs.declared.tree.SigTree.{SigTree}
use Rattle.node_model.specs.declared.reply.Reply.{Reply}
use Rattle.node_model.specs.declared.reply.Reply.TheVariants as replies
use Rattle.node_model.specs.declared.value.RowValue.{RowValue}
use Rattle.resolver.specs.Questions.{unresolved_name}
use Rattle.resolver.specs.declared.enum_widths.EnumStage.TheVariants as enums
use Rattle.resolver.specs.declared.waiting.Waiting.{Waiting}
use Rattle.resolver.specs.declared.waiting.Waiting.TheVariants as waits
use Rattle.resolver.specs.declared.members.MemberStage.TheVariants as members
use Rattle.resolver.specs.declared.named_types.TypeStage.{TypeStage}
use Rattle.resolver.specs.declared.named_types.TypeStage.TheVariants as types
use Rattle.resolver.specs.declared.reading.Reading.{Reading}
use Rattle.resolver.specs.declared.references.ReferenceStage.TheVariants as references
use Rattle.resolver.specs.declared.state.Advance.{Advance}
use Rattle.resolver.specs.declared.state.Advance.TheVariants.{To, Waits}
use Rattle.resolver.specs.declared.state.End.{End}
use Rattle.resolver.specs.declared.state.End.TheVariants as ends
use Rattle.resolver.specs.declared.state.Stage.{Stage}
use Rattle.resolver.specs.declared.state.Stage.TheVariants as stages
use Rattle.resolver.specs.declared.state.State.{State}

abbrev pub ended : End → Advance
ended end = To (stages.Ended end)

abbrev pub stopped : Reply → Advance
stopped r = ended (ends.Stopped r)

abbrev pub unresolved : State → List ℕ → Advance
unresolved s name = ended (ends.Unresolved (unresolved_name s.reading name))

-- by the reply's own content; a reply of another form stops
abbrev pub on_row : Reply → (RowValue → Advance) → Advance
on_row (replies.Row row) follows = follows row
on_row r follows = stopped r

abbrev pub on_sig : Reply → (SigTree → Advance) → Advance
on_sig (replies.Sig t sig) follows = follows sig
on_sig r follows = stopped r

abbrev pub on_name : Reply → (List ℕ → Advance) → Advance
on_name (replies.Name t name) follows = follows name
on_name r follows = stopped r

abbrev pub on_tokens : Reply → (List Token → Advance) → Advance
on_tokens (replies.Tokens k tokens) follows = follows tokens
on_tokens r follows = stopped r

abbrev pub on_found : Reply → (Token → Advance) → Advance → Advance
on_found (replies.Found t) follows else_follows = follows t
on_found replies.NotFound follows else_follows = else_follows
on_found r follows else_follows = stopped r

-- what is found at once, and without a question
abbrev pub is_definition : ℕ → Bool
is_definition table = (table == type_def) || (table == field) || (table == method_def)

-- what is asked of a reference first
abbrev pub first_stage : ℕ → Token → Stage
first_stage at t =
    if t.table == type_ref then stages.Reference (references.TypeRef at t)
    else if t.table == type_spec then stages.Reference (references.TypeSpec at t)
    else if t.table == method_spec then stages.Reference (references.MethodSpec at t)
    else if t.table == member_ref then stages.Reference (references.MemberRef at t)
    else stages.Ended (ends.NoReference t)

-- what was found with nothing waiting for it is the end, or the enum whose width is needed
abbrev pub found_stage : Option Reading → ℕ → Token → Stage
found_stage None at t = stages.Ended (ends.Found at t)
found_stage (Some reading) at t = stages.EnumType (enums.Fields at t)

-- what waited for the type goes on with it
abbrev pub resumed_stage : Waiting → ℕ → Token → Stage
resumed_stage (waits.Nested name) at t = stages.NamedType (types.NestedTypes at t name)
resumed_stage (waits.Class place member name) at t = stages.Member (members.SigText place member name at t)
resumed_stage (waits.Base wanted) at t = stages.Member (members.ByName at t wanted)

abbrev pub found_with : Option Reading → ℕ → List Waiting → ℕ → Token → Advance
found_with reading hops [] at t = Waits hops [] (found_stage reading at t)
found_with reading hops (w ∷ ws) at t = Waits hops ws (resumed_stage w at t)

-- a token was found
abbrev pub found : State → ℕ → Token → Advance
found s at t = found_with s.reading s.hops s.waiting at t

-- a token is resolved
abbrev pub resolved_with : Option Reading → ℕ → List Waiting → ℕ → Token → Advance
resolved_with reading hops waiting at t =
    if is_definition t.table then found_with reading hops waiting at t else Waits hops waiting (first_stage at t)

-- a step is taken to what it leads to, but for the hundredth
abbrev pub unless_too_deep : State → Advance → Advance
unless_too_deep s leads_to = if nat_le 99 s.hops then ended ends.TooDeep else leads_to

-- a step to another token, with what waits then
abbrev pub hop : State → List Waiting → ℕ → Token → Advance
hop s waiting at t = unless_too_deep s (resolved_with s.reading (s.hops + 1) waiting at t)

-- a step to where the type that is looked for stands
abbrev pub hop_to : State → TypeStage → Advance
hop_to s stage = unless_too_deep s (Waits (s.hops + 1) s.waiting (stages.NamedType stage))
