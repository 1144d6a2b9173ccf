-- States of the resolver's machine that name modules that are there alone, and what they go on to.
use Rattle.std.proofs.Common.{◌≡◌, ℕ, ◌+◌, ◌<◌, Bool, true, false, List, [], ◌∷◌, Option, Some, None, ◌==◌, nat_le, if◌then◌else◌}
use Rattle.cil_base.specs.Token.{Token}
use Rattle.md_schema.specs.Tables.{member_ref, method_spec, type_ref, type_spec}
use Rattle.sig_tree.specs.declared.tree.SigTree.{SigTree}
use Rattle.node_model.specs.declared.reply.Reply.{Reply}
use Rattle.node_model.specs.declared.reply.Reply.TheVariants as replies
use Rattle.node_model.specs.declared.value.RowValue.{RowValue}
use Rattle.resolver.specs.EnumNames.{nested_waiting}
use Rattle.resolver.specs.Found.{first_stage, found, found_stage, found_with, hop, is_definition, on_found, on_name, on_row, on_sig, on_tokens, resolved_with, resumed_stage}
use Rattle.resolver.specs.Machine.{advanced}
use Rattle.resolver.specs.declared.enum_widths.EnumStage.{EnumStage}
use Rattle.resolver.specs.declared.enum_widths.EnumStage.TheVariants as enums
use Rattle.resolver.specs.declared.members.MemberStage.{MemberStage}
use Rattle.resolver.specs.declared.members.MemberStage.TheVariants as members
use Rattle.resolver.specs.declared.named_types.TypeStage.{TypeStage}
use Rattle.resolver.specs.declared.named_types.TypeStage.TheVariants as types
use Rattle.resolver.specs.declared.reading.Reading.{Reading}
use Rattle.resolver.specs.declared.references.ReferenceStage.{ReferenceStage}
use Rattle.resolver.specs.declared.references.ReferenceStage.TheVariants as references
use Rattle.resolver.specs.declared.state.Stage.{Stage}
use Rattle.resolver.specs.declared.state.Stage.TheVariants as stages
use Rattle.resolver.specs.declared.state.State.{State}
use Rattle.resolver.specs.declared.waiting.Waiting.{Waiting}
use Rattle.resolver.specs.declared.waiting.Waiting.TheVariants as waits

module _ (n : ℕ) where
  -- each module that is named is one of n
  abbrev pub ReferenceIn : ReferenceStage → Type 0
  ReferenceIn (references.TypeRef at t) = at < n
  ReferenceIn (references.TypeSpec at t) = at < n
  ReferenceIn (references.MethodSpec at t) = at < n
  ReferenceIn (references.MemberRef at t) = at < n

  abbrev pub TypeIn : TypeStage → Type 0
  TypeIn (types.AssemblyRef at t wanted) = at < n
  TypeIn (types.Assembly left name wanted forwards) = Unit {0}
  TypeIn (types.ByName at wanted forwards) = at < n
  TypeIn (types.ExportedTypes at wanted) = at < n
  TypeIn (types.ExportedType at wanted) = at < n
  TypeIn (types.NestedTypes at t name) = at < n
  TypeIn (types.NestedRow at name) = at < n
  TypeIn (types.NestedType at t name) = at < n

  abbrev pub MemberIn : MemberStage → Type 0
  MemberIn (members.SigText at member name found_at of) = (at < n) × (found_at < n)
  MemberIn (members.SigSort at member name text found_at of) = (at < n) × (found_at < n)
  MemberIn (members.ByName at of wanted) = at < n
  MemberIn (members.Base at of wanted) = at < n

  abbrev pub EnumIn : EnumStage → Type 0
  EnumIn (enums.Here wanted) = Unit {0}
  EnumIn (enums.Anywhere left wanted) = Unit {0}
  EnumIn (enums.Fields at of) = at < n
  EnumIn (enums.Field at) = at < n
  EnumIn (enums.FieldSig at) = at < n

  abbrev pub StageIn : Stage → Type 0
  StageIn (stages.Reference stage) = ReferenceIn stage
  StageIn (stages.NamedType stage) = TypeIn stage
  StageIn (stages.Member stage) = MemberIn stage
  StageIn (stages.Attribute stage) = Unit {0}
  StageIn (stages.EnumType stage) = EnumIn stage
  StageIn (stages.Ended end) = Unit {0}

  abbrev WaitsIn : Waiting → Type 0
  WaitsIn (waits.Nested name) = Unit {0}
  WaitsIn (waits.Class at member name) = at < n
  WaitsIn (waits.Base wanted) = Unit {0}

  abbrev pub AllIn : List Waiting → Type 0
  AllIn [] = Unit {0}
  AllIn (w ∷ ws) = WaitsIn w × AllIn ws

  pub record IsWithin (s : State) : Type 0 where
    pub modules : s.modules ≡ n
    pub home : s.home < n
    pub waiting : AllIn s.waiting
    pub stage : StageIn s.stage

  pub either_stage : (b : Bool) (x y : Stage) → StageIn x → StageIn y → StageIn (if b then x else y)
  either_stage true x y p q = p
  either_stage false x y p q = q

  pub first_in : (at : ℕ) (t : Token) → at < n → StageIn (first_stage at t)
  first_in at t less =
      either_stage (t.table == type_ref) _ _ less
      (either_stage (t.table == type_spec) _ _ less
      (either_stage (t.table == method_spec) _ _ less (either_stage (t.table == member_ref) _ _ less tt)))

  found_stage_in : (reading : Option Reading) (at : ℕ) (t : Token) → at < n → StageIn (found_stage reading at t)
  found_stage_in None at t less = tt
  found_stage_in (Some reading) at t less = less

  resumed_in : (w : Waiting) (at : ℕ) (t : Token) → WaitsIn w → at < n → StageIn (resumed_stage w at t)
  resumed_in (waits.Nested name) at t there less = less
  resumed_in (waits.Class place member name) at t there less = (there, less)
  resumed_in (waits.Base wanted) at t there less = less

  pub nested_in : (names : List (List ℕ)) → AllIn (nested_waiting names)
  nested_in [] = tt
  nested_in (name ∷ names) = (tt, nested_in names)

  module _ (s : State) (within : IsWithin s) where
    -- with another stage, other rows that are left, and others that wait
    pub waits_in : {reading : Option Reading} {hops : ℕ} {ws : List Waiting} {left : List Token} {stage : Stage} → AllIn ws → StageIn stage
        → IsWithin (record s { reading = reading; hops = hops; waiting = ws; left = left; stage = stage })
    waits_in all there = record { modules = within.modules; home = within.home; waiting = all; stage = there }

    pub goes_in : {left : List Token} {stage : Stage} → StageIn stage → IsWithin (record s { left = left; stage = stage })
    goes_in there = record { modules = within.modules; home = within.home; waiting = within.waiting; stage = there }

    pub either_in : (b : Bool) (x y : _) → IsWithin (advanced s x) → IsWithin (advanced s y) → IsWithin (advanced s (if b then x else y))
    either_in true x y p q = p
    either_in false x y p q = q

    -- by the form of the reply
    pub row_in : (r : Reply) (follows : RowValue → _) → ((row : RowValue) → IsWithin (advanced s (follows row))) → IsWithin (advanced s (on_row r follows))
    row_in (replies.Row row) follows each = each row
    row_in r follows each = goes_in tt

    pub sig_in : (r : Reply) (follows : SigTree → _) → ((sig : SigTree) → IsWithin (advanced s (follows sig))) → IsWithin (advanced s (on_sig r follows))
    sig_in (replies.Sig t sig) follows each = each sig
    sig_in r follows each = goes_in tt

    pub name_in : (r : Reply) (follows : List ℕ → _) → ((name : List ℕ) → IsWithin (advanced s (follows name))) → IsWithin (advanced s (on_name r follows))
    name_in (replies.Name t name) follows each = each name
    name_in r follows each = goes_in tt

    pub tokens_in : (r : Reply) (follows : List Token → _) → ((tokens : List Token) → IsWithin (advanced s (follows tokens))) → IsWithin (advanced s (on_tokens r follows))
    tokens_in (replies.Tokens k tokens) follows each = each tokens
    tokens_in r follows each = goes_in tt

    pub found_in : (r : Reply) (follows : Token → _) (other : _) → ((t : Token) → IsWithin (advanced s (follows t))) → IsWithin (advanced s other)
        → IsWithin (advanced s (on_found r follows other))
    found_in (replies.Found t) follows other each none = each t
    found_in replies.NotFound follows other each none = none
    found_in r follows other each none = goes_in tt

    -- what is found, and what is followed
    found_with_in : (reading : Option Reading) (hops : ℕ) (ws : List Waiting) (at : ℕ) (t : Token) → AllIn ws → at < n
        → IsWithin (advanced s (found_with reading hops ws at t))
    found_with_in reading hops [] at t all less = waits_in tt (found_stage_in reading at t less)
    found_with_in reading hops (w ∷ ws) at t all less = waits_in all.1 (resumed_in w at t all.0 less)

    resolved_in : (reading : Option Reading) (hops : ℕ) (ws : List Waiting) (at : ℕ) (t : Token) → AllIn ws → at < n
        → IsWithin (advanced s (resolved_with reading hops ws at t))
    resolved_in reading hops ws at t all less =
        either_in (is_definition t.table) _ _ (found_with_in reading hops ws at t all less) (waits_in all (first_in at t less))

    pub found_at_in : (at : ℕ) (t : Token) → at < n → IsWithin (advanced s (found s at t))
    found_at_in at t less = found_with_in s.reading s.hops s.waiting at t within.waiting less

    pub hop_in : (ws : List Waiting) (at : ℕ) (t : Token) → AllIn ws → at < n → IsWithin (advanced s (hop s ws at t))
    hop_in ws at t all less = either_in (nat_le 99 s.hops) _ _ (goes_in tt) (resolved_in s.reading (s.hops + 1) ws at t all less)
