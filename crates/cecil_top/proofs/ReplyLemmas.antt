-- A state that names modules that are there alone goes on to such a state with each reply.
use Rattle.std.proofs.Common.{◌≡◌, refl, sym, ◌∙◌, ap, ℕ, ◌-◌, ◌<◌, Bool, true, false, List, [], ◌∷◌, Option, Some, None, length, arith, codes, ◌==◌, nat_le, if◌then◌else◌}
use Rattle.std.proofs.lemmas.Bool.{eqb-false}
use Rattle.std.specs.List.{fold}
use Rattle.std.specs.Str.{bytes_eq}
use Rattle.cil_base.specs.Token.{Token}
use Rattle.attr_blob.specs.Decoded.{attr_at}
use Rattle.attr_blob.specs.declared.value.ArgType.{ArgType}
use Rattle.attr_blob.specs.declared.value.AttrRead.{AttrRead}
use Rattle.attr_blob.specs.declared.value.AttrRead.TheVariants.{Value, Unknown, Bad}
use Rattle.md_schema.specs.Tables.{assembly_ref, custom_attribute, method_def, module_, module_ref, type_ref}
use Rattle.sig_tree.specs.declared.tree.SigTree.{SigTree}
use Rattle.sig_tree.specs.declared.tree.SigTree.TheVariants.{Method}
use Rattle.node_model.specs.RowTexts.{token_named}
use Rattle.node_model.specs.declared.query.Query.{Query}
use Rattle.node_model.specs.declared.reply.Reply.{Reply}
use Rattle.node_model.specs.declared.value.RowValue.{RowValue}
use Rattle.resolver.specs.Attributes.{after_attribute, after_constructor, after_name, after_names, after_type_cell, looked_by, new_reading, read_as, read_on, typed_by, without_arguments}
use Rattle.resolver.specs.EnumNames.{search_stage}
use Rattle.resolver.specs.EnumWidths.{after_enum, after_width, is_static, with_width}
use Rattle.resolver.specs.Fits.{is_missing, reply_fits}
use Rattle.resolver.specs.Found.{is_definition}
use Rattle.resolver.specs.Inquiry.{is_question}
use Rattle.resolver.specs.Machine.{advanced, after_fitting, after_unfit, after_unfit_type, start_stage, start_state, state_after, state_by, state_with}
use Rattle.resolver.specs.Members.{after_extends, after_member, after_sort}
use Rattle.resolver.specs.NamedTypes.{after_forward, after_named_type, after_nested_row, is_row_of_type}
use Rattle.resolver.specs.Parameters.{types_of}
use Rattle.resolver.specs.Questions.{enum_question, first_assembly, of_module, stage_next, state_next, type_question}
use Rattle.resolver.specs.References.{after_class, after_reference, after_scope, after_spec, row_name}
use Rattle.resolver.specs.declared.attributes.AttributeStage.{AttributeStage}
use Rattle.resolver.specs.declared.attributes.AttributeStage.TheVariants as attributes
use Rattle.resolver.specs.declared.enum_widths.EnumStage.{EnumStage}
use Rattle.resolver.specs.declared.enum_widths.EnumStage.TheVariants as enums
use Rattle.resolver.specs.declared.exchange.Exchange.{Exchange}
use Rattle.resolver.specs.declared.members.MemberName.{MemberName}
use Rattle.resolver.specs.declared.members.MemberStage.{MemberStage}
use Rattle.resolver.specs.declared.members.MemberStage.TheVariants as members
use Rattle.resolver.specs.declared.named_types.TypeName.{TypeName}
use Rattle.resolver.specs.declared.named_types.TypeStage.{TypeStage}
use Rattle.resolver.specs.declared.named_types.TypeStage.TheVariants as types
use Rattle.resolver.specs.declared.next.Next.{Next}
use Rattle.resolver.specs.declared.next.Next.TheVariants as nexts
use Rattle.resolver.specs.declared.parameters.Parameter.{Parameter}
use Rattle.resolver.specs.declared.reading.Reading.{Reading}
use Rattle.resolver.specs.declared.references.ReferenceStage.{ReferenceStage}
use Rattle.resolver.specs.declared.references.ReferenceStage.TheVariants as references
use Rattle.resolver.specs.declared.start.Sought.{Sought}
use Rattle.resolver.specs.declared.start.Sought.TheVariants as soughts
use Rattle.resolver.specs.declared.start.Start.{Start}
use Rattle.resolver.specs.declared.state.Stage.{Stage}
use Rattle.resolver.specs.declared.state.Stage.TheVariants as stages
use Rattle.resolver.specs.declared.state.State.{State}
use Rattle.resolver.specs.declared.waiting.Waiting.TheVariants as waits
use Rattle.cecil_top.proofs.StageLemmas.{EnumIn, IsWithin, MemberIn, ReferenceIn, StageIn, TypeIn, either_in, either_stage, first_in, found_at_in, found_in, goes_in, hop_in, name_in, nested_in, row_in, sig_in, tokens_in, waits_in}

module _ (n : ℕ) where
  module _ (s : State) (within : IsWithin n s) where
    -- references
    scope_in : (at : ℕ) (row : RowValue) (t : Option Token) → at < n → IsWithin n (advanced s (after_scope s at row t))
    scope_in at row None less = goes_in n s within tt
    scope_in at row (Some scope) less =
        either_in n s within (scope.table == module_) _ _ (goes_in n s within less)
        (either_in n s within (scope.table == assembly_ref) _ _ (goes_in n s within less)
        (either_in n s within (scope.table == type_ref) _ _ (hop_in n s within (waits.Nested (row_name row) ∷ s.waiting) at scope (tt, within.waiting) less) (goes_in n s within tt)))

    spec_in : (at : ℕ) (t : Option Token) → at < n → IsWithin n (advanced s (after_spec s at t))
    spec_in at None less = goes_in n s within tt
    spec_in at (Some t) less = hop_in n s within s.waiting at t within.waiting less

    class_in : (at : ℕ) (member : Token) (name : List ℕ) (t : Option Token) → at < n → IsWithin n (advanced s (after_class s at member name t))
    class_in at member name None less = goes_in n s within tt
    class_in at member name (Some class) less =
        either_in n s within (class.table == method_def) _ _ (found_at_in n s within at class less)
        (either_in n s within (class.table == module_ref) _ _ (goes_in n s within tt) (hop_in n s within (waits.Class at member name ∷ s.waiting) at class (less, within.waiting) less))

    after_reference_in : (stage : ReferenceStage) (r : Reply) → ReferenceIn n stage → IsWithin n (advanced s (after_reference s stage r))
    after_reference_in (references.TypeRef at t) r less = row_in n s within r _ (λ row. scope_in at row (token_named (codes "ResolutionScope") row) less)
    after_reference_in (references.TypeSpec at t) r less = sig_in n s within r _ (λ sig. spec_in at _ less)
    after_reference_in (references.MethodSpec at t) r less = row_in n s within r _ (λ row. spec_in at _ less)
    after_reference_in (references.MemberRef at t) r less = row_in n s within r _ (λ row. class_in at t (row_name row) (token_named (codes "Class") row) less)

    -- types by their names
    forward_in : (at : ℕ) (wanted : TypeName) (t : Option Token) → at < n → IsWithin n (advanced s (after_forward s at wanted t))
    forward_in at wanted None less = goes_in n s within tt
    forward_in at wanted (Some t) less =
        either_in n s within (t.table == assembly_ref) _ _ (either_in n s within (nat_le 99 s.hops) _ _ (goes_in n s within tt) (waits_in n s within within.waiting less)) (goes_in n s within tt)

    nested_row_in : (at : ℕ) (name : List ℕ) (t : Option Token) → at < n → IsWithin n (advanced s (after_nested_row at name t))
    nested_row_in at name None less = goes_in n s within less
    nested_row_in at name (Some t) less = goes_in n s within less

    -- the first of the last so many modules, where it is asked
    pub left_in : (left m : ℕ) (q query : Query) (end : Next) → is_question end ≡ false → of_module s left query end ≡ nexts.Question m q → s.modules - left < n
    left_in left m q query end ended is = by_left (left == 0) refl is
      where
        by_left : (none : Bool) → (left == 0) ≡ none → (if none then end else nexts.Question (s.modules - left) query) ≡ nexts.Question m q → s.modules - left < n
        by_left true here so = absurd (let e : false ≡ true = sym ended ∙ ap is_question so in cc)
        by_left false here so =
            let some = eqb-false left 0 here in
            let all = within.modules in
            let home = within.home in
            omega (arith, some, all, home)

    after_type_in : (stage : TypeStage) (r : Reply) (m : ℕ) (q : Query) → TypeIn n stage → type_question s stage ≡ nexts.Question m q
        → IsWithin n (advanced s (after_named_type s stage r))
    after_type_in (types.AssemblyRef at t wanted) r m q less asked = row_in n s within r _ (λ row. goes_in n s within tt)
    after_type_in (types.Assembly left name wanted forwards) r m q there asked =
        row_in n s within r _ (λ row. either_in n s within (bytes_eq (row_name row) name) _ _ (goes_in n s within (left_in left m q _ _ refl asked)) (goes_in n s within tt))
    after_type_in (types.ByName at wanted forwards) r m q less asked =
        found_in n s within r _ _ (λ t. found_at_in n s within at t less) (either_in n s within forwards _ _ (goes_in n s within less) (goes_in n s within tt))
    after_type_in (types.ExportedTypes at wanted) r m q less asked = tokens_in n s within r _ (λ ts. goes_in n s within less)
    after_type_in (types.ExportedType at wanted) r m q less asked =
        row_in n s within r _ (λ row. either_in n s within (is_row_of_type wanted row) _ _ (forward_in at wanted (token_named (codes "Implementation") row) less) (goes_in n s within less))
    after_type_in (types.NestedTypes at t name) r m q less asked = tokens_in n s within r _ (λ ts. goes_in n s within less)
    after_type_in (types.NestedRow at name) r m q less asked = row_in n s within r _ (λ row. nested_row_in at name _ less)
    after_type_in (types.NestedType at t name) r m q less asked = row_in n s within r _ (λ row. either_in n s within (bytes_eq (row_name row) name) _ _ (found_at_in n s within at t less) (goes_in n s within less))

    -- members
    sort_in : (r : Reply) (name text : List ℕ) (at : ℕ) (of : Token) (table : Option ℕ) → at < n → IsWithin n (advanced s (after_sort r name text at of table))
    sort_in r name text at of None less = goes_in n s within tt
    sort_in r name text at of (Some table) less = goes_in n s within less

    extends_in : (at : ℕ) (wanted : MemberName) (t : Option Token) → at < n → IsWithin n (advanced s (after_extends s at wanted t))
    extends_in at wanted None less = goes_in n s within tt
    extends_in at wanted (Some t) less = hop_in n s within (waits.Base wanted ∷ s.waiting) at t (tt, within.waiting) less

    after_member_in : (stage : MemberStage) (r : Reply) → MemberIn n stage → IsWithin n (advanced s (after_member s stage r))
    after_member_in (members.SigText at member name found_at of) r there = name_in n s within r _ (λ text. goes_in n s within there)
    after_member_in (members.SigSort at member name text found_at of) r there = sig_in n s within r _ (λ sig. sort_in r name text found_at of _ there.1)
    after_member_in (members.ByName at of wanted) r less = found_in n s within r _ _ (λ t. found_at_in n s within at t less) (goes_in n s within less)
    after_member_in (members.Base at of wanted) r less = row_in n s within r _ (λ row. extends_in at wanted _ less)

    -- attributes
    looked_in : (reading : Reading) (t : Option Token) → IsWithin n (advanced s (looked_by s reading t))
    looked_in reading (Some t) = waits_in n s within tt (either_stage n (is_definition t.table) _ _ within.home (first_in n s.home t within.home))
    looked_in reading None = waits_in n s within (nested_in n _) (search_in _ _)
      where
        search_in : (wanted : TypeName) (name : Option (List ℕ)) → StageIn n (search_stage s wanted name)
        search_in wanted None = tt
        search_in wanted (Some name) = tt

    read_in : (reading : Reading) → IsWithin n (advanced s (read_on s reading))
    unfolding read_on
    read_in reading = by_read (attr_at reading.types reading.widths reading.blob)
      where
        by_read : (x : AttrRead) → IsWithin n (advanced s (read_as s reading x))
        by_read (Value value) = goes_in n s within tt
        by_read (Unknown name) = looked_in (record reading { wanted = name }) _
        by_read Bad = goes_in n s within tt

    typed_in : (reading : Reading) (known : Option (List ArgType)) → IsWithin n (advanced s (typed_by s reading known))
    typed_in reading None = goes_in n s within tt
    typed_in reading (Some known) = either_in n s within (length reading.blob == 0) _ _ (without_in reading.params) (read_in (record reading { types = known }))
      where
        without_in : (params : List Parameter) → IsWithin n (advanced s (without_arguments params))
        without_in [] = goes_in n s within tt
        without_in (p ∷ params) = goes_in n s within tt

    names_in : (reading : Reading) → IsWithin n (advanced s (after_names s reading))
    unfolding after_names
    names_in reading = typed_in reading (types_of reading.params reading.names)

    constructor_in : (blob : List ℕ) (sig : SigTree) → IsWithin n (advanced s (after_constructor s blob sig))
    constructor_in blob (Method m) =
        let reading = new_reading blob m.params in
        either_in n s within (length reading.asked == 0) _ _ (names_in reading) (waits_in n s within tt tt)
    constructor_in blob sig = goes_in n s within tt

    type_cell_in : (row : RowValue) (t : Option Token) → IsWithin n (advanced s (after_type_cell row t))
    type_cell_in row None = goes_in n s within tt
    type_cell_in row (Some t) = goes_in n s within tt

    after_name_in : (name : List ℕ) (reading : Option Reading) → IsWithin n (advanced s (after_name s name reading))
    after_name_in name None = goes_in n s within tt
    after_name_in name (Some reading) = either_in n s within (length reading.names == length reading.asked - 1) _ _ (names_in _) (waits_in n s within within.waiting within.stage)

    after_attribute_in : (stage : AttributeStage) (r : Reply) → IsWithin n (advanced s (after_attribute s stage r))
    after_attribute_in (attributes.Row t) r = row_in n s within r _ (λ row. type_cell_in row _)
    after_attribute_in (attributes.Constructor t blob) r = sig_in n s within r _ (constructor_in blob)
    after_attribute_in attributes.Parameter r = name_in n s within r _ (λ name. after_name_in name s.reading)

    -- enums
    width_in : (at : ℕ) (elem : Option ℕ) → at < n → IsWithin n (advanced s (after_width s at elem))
    width_in at None less = goes_in n s within less
    width_in at (Some elem) less = by_reading s.reading
      where
        by_reading : (reading : Option Reading) → IsWithin n (advanced s (with_width s elem reading))
        by_reading None = goes_in n s within tt
        by_reading (Some reading) = read_in _

    after_enum_in : (stage : EnumStage) (r : Reply) (m : ℕ) (q : Query) → EnumIn n stage → enum_question s stage ≡ nexts.Question m q
        → IsWithin n (advanced s (after_enum s stage r))
    after_enum_in (enums.Here wanted) r m q there asked = found_in n s within r _ _ (λ t. found_at_in n s within s.home t within.home) (goes_in n s within tt)
    after_enum_in (enums.Anywhere left wanted) r m q there asked =
        found_in n s within r _ _ (λ t. found_at_in n s within (s.modules - left) t (left_in left m q _ _ refl asked)) (goes_in n s within tt)
    after_enum_in (enums.Fields at of) r m q less asked = tokens_in n s within r _ (λ ts. goes_in n s within less)
    after_enum_in (enums.Field at) r m q less asked = row_in n s within r _ (λ row. either_in n s within (is_static row) _ _ (goes_in n s within less) (goes_in n s within less))
    after_enum_in (enums.FieldSig at) r m q less asked = sig_in n s within r _ (λ sig. width_in at _ less)

    -- any stage
    fitting_in : (stage : Stage) (r : Reply) (m : ℕ) (q : Query) → StageIn n stage → stage_next s stage ≡ nexts.Question m q
        → IsWithin n (advanced s (after_fitting s stage r))
    fitting_in (stages.Reference stage) r m q there asked = after_reference_in stage r there
    fitting_in (stages.NamedType stage) r m q there asked = after_type_in stage r m q there asked
    fitting_in (stages.Member stage) r m q there asked = after_member_in stage r there
    fitting_in (stages.Attribute stage) r m q there asked = after_attribute_in stage r
    fitting_in (stages.EnumType stage) r m q there asked = after_enum_in stage r m q there asked
    fitting_in (stages.Ended end) r m q there asked = goes_in n s within tt

    unfit_type_in : (stage : TypeStage) (r : Reply) → IsWithin n (advanced s (after_unfit_type stage r))
    unfit_type_in (types.Assembly left name wanted forwards) r = either_in n s within (is_missing first_assembly r) _ _ (goes_in n s within tt) (goes_in n s within tt)
    unfit_type_in stage r = goes_in n s within tt

    unfit_in : (stage : Stage) (r : Reply) → IsWithin n (advanced s (after_unfit stage r))
    unfit_in (stages.NamedType stage) r = unfit_type_in stage r
    unfit_in stage r = goes_in n s within tt

    by_next : (next : Next) (r : Reply) → stage_next s s.stage ≡ next → IsWithin n (state_by s next r)
    by_next (nexts.Question m q) r asked = either_in n s within (reply_fits q r) _ _ (fitting_in s.stage r m q within.stage asked) (unfit_in s.stage r)
    by_next next r asked = within

    with_in : (r : Reply) → IsWithin n (state_with s r)
    unfolding state_with state_next
    with_in r = by_next (state_next s) r refl

  all_in : (t : List Exchange) (s : State) → IsWithin n s → IsWithin n (fold (λ (x : State) (exchange : Exchange). state_with x exchange.reply) s t)
  all_in [] s within = within
  all_in (x ∷ t) s within = all_in t (state_with s x.reply) (with_in s within x.reply)

  start_in : (sought : Sought) (home : ℕ) (t : Token) → home < n → StageIn n (start_stage sought home t)
  start_in soughts.Reference home t less = either_stage n (is_definition t.table) _ _ tt (first_in n home t less)
  start_in soughts.Attribute home t less = either_stage n (t.table == custom_attribute) _ _ tt tt

pub state_in : (start : Start) (t : List Exchange) → start.home < start.modules → IsWithin start.modules (state_after start t)
unfolding state_after
state_in start t less =
    all_in start.modules t (start_state start)
    (record { modules = refl; home = less; waiting = tt; stage = start_in start.modules start.sought start.home start.token less })
