-- The names of rows, each by the keys that are looked at for it: of types, of assemblies, and of rows with a signature.
-- ECMA-335 II.22.2, II.22.5, II.22.32, II.22.37, II.22.38, II.23.2.
use Rattle.std.specs.Prelude.{ℕ, zero, suc, Bool, List, codes, find, Option, Some, None, ◌==◌, ◌||◌, ◌&&◌}
use Rattle.std.specs.Prelude.{if◌then◌else◌}
use Rattle.std.specs.List.{filter}
use Rattle.cil_base.specs.Token.{Token}
use Rattle.md_schema.specs.Tables.{assembly, assembly_ref, nested_class, type_def, type_ref, type_spec}
use Rattle.md_schema.specs.declared.link.Link.TheVariants.{NestedClass}
use Rattle.sig_tree.specs.Printed.{named_sig, own_text, tokens}
use Rattle.node_model.specs.KeyKinds.{has_sig}
use Rattle.node_model.specs.Nodes.{Nodes, is_live_row}
use Rattle.node_model.specs.RowTexts.{full_assembly_name, inner_type_name, own_type_name, token_named}
use Rattle.node_model.specs.Walk.{Walk, Asks, Gives, each_walk, then_walk}
use Rattle.node_model.specs.declared.key.Key.TheVariants.{Row, Sig, Linked}
use Rattle.node_model.specs.declared.value.RowValue.{RowValue}

-- a row of the table, which was not removed
abbrev pub is_member : Nodes → ℕ → Token → Bool
is_member n table t = is_live_row n t && (t.table == table)

-- the members of a list of such rows; those that were removed are passed over
abbrev pub live_members : Nodes → ℕ → List Token → List Token
live_members n table ts = filter (is_member n table) ts

-- the name of what is null, absent, removed, or too deep; no key is looked at for it
abbrev pub unknown_name : List ℕ
unknown_name = codes "?"

abbrev pub is_type_table : ℕ → Bool
is_type_table table = (table == type_def) || (table == type_ref)

-- the name of a type that a cell or a signature names
abbrev pub name_of_type : Nodes → (Token → Walk (List ℕ)) → Option Token → Walk (List ℕ)
name_of_type n inner None = Gives unknown_name
name_of_type n inner (Some t) = if is_live_row n t && is_type_table t.table then inner t else Gives unknown_name

-- a type within another, by the name of the other
abbrev pub within_walk : Token → List ℕ → Walk (List ℕ)
within_walk t outer = Asks (Row t) (λ row. Gives (inner_type_name outer row))

-- a type by its NestedClass row; where it has none it is in no other type
abbrev pub nested_walk : Nodes → (Token → Walk (List ℕ)) → Token → Option Token → Walk (List ℕ)
nested_walk n inner t None = Asks (Row t) (λ row. Gives (own_type_name row))
nested_walk n inner t (Some m) =
    Asks (Row m) (λ nesting.
    then_walk (name_of_type n inner (token_named (codes "EnclosingClass") nesting)) (within_walk t))

-- a type of this image: the first of its NestedClass rows says in which other type it is
abbrev pub type_def_walk : Nodes → (Token → Walk (List ℕ)) → Token → Walk (List ℕ)
type_def_walk n inner t = Asks (Linked t NestedClass) (λ ts. nested_walk n inner t (find (is_member n nested_class) ts))

-- a type of another image by its scope, which may be a type again
abbrev pub scoped_walk : Nodes → (Token → Walk (List ℕ)) → RowValue → Option Token → Walk (List ℕ)
scoped_walk n inner row None = Gives (own_type_name row)
scoped_walk n inner row (Some scope) =
    if scope.table == type_ref
    then then_walk (name_of_type n inner (Some scope)) (λ outer. Gives (inner_type_name outer row))
    else Gives (own_type_name row)

abbrev pub type_ref_walk : Nodes → (Token → Walk (List ℕ)) → Token → Walk (List ℕ)
type_ref_walk n inner t =
    Asks (Row t) (λ row. scoped_walk n inner row (token_named (codes "ResolutionScope") row))

-- a type, by the walk for the type that it is in
unfoldable pub type_name_level : Nodes → (Token → Walk (List ℕ)) → Token → Walk (List ℕ)
type_name_level n inner t = if t.table == type_def then type_def_walk n inner t else type_ref_walk n inner t

-- a type with at most so many names in one another; one that is deeper is unknown
abbrev pub type_name_walk : Nodes → ℕ → Token → Walk (List ℕ)
type_name_walk n zero t = Gives unknown_name
type_name_walk n (suc depth) t = type_name_level n (type_name_walk n depth) t

-- a type in a signature; a TypeSpec row goes by its token
abbrev pub named_in_sig : Nodes → (Token → Walk (List ℕ)) → Token → Walk (List ℕ)
named_in_sig n inner t =
    if is_member n type_spec t then Gives (own_text t) else name_of_type n inner (Some t)

-- a signature with the names of its types, in the order in which they are printed
unfoldable pub sig_walk : Nodes → (Token → Walk (List ℕ)) → Token → Walk (List ℕ)
sig_walk n inner t =
    Asks (Sig t) (λ sig. then_walk (each_walk (named_in_sig n inner) (tokens sig)) (λ names. Gives (named_sig sig names)))

abbrev pub is_assembly_table : ℕ → Bool
is_assembly_table table = (table == assembly) || (table == assembly_ref)

-- an assembly, or a reference to one
abbrev pub assembly_walk : Token → Walk (List ℕ)
assembly_walk t = Asks (Row t) (λ row. Gives (full_assembly_name row))

-- whether the rows of a table have names
unfoldable pub has_name : ℕ → Bool
has_name table = is_type_table table || (is_assembly_table table || has_sig table)

-- the name of a row of such a table. Names are 64 deep, the row's own included
unfoldable pub name_walk : Nodes → Token → Walk (List ℕ)
name_walk n t =
    if is_type_table t.table then type_name_walk n 64 t
    else (if is_assembly_table t.table then assembly_walk t else sig_walk n (type_name_walk n 63) t)
