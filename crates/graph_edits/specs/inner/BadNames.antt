-- The first of the tokens that an edit names which is a refusal. No public contract cites these words.
use Rattle.std.specs.Prelude.{Bool, List, [], ◌∷◌, map, Option, Some, None, not, ◌&&◌, if◌then◌else◌}
use Rattle.std.specs.List.{flat_map}
use Rattle.cil_base.specs.Token.{Token}
use Rattle.md_schema.specs.Reference.{may_name_of}
use Rattle.md_schema.specs.declared.coded_kind.CodedKind.TheVariants.{TypeDefOrRef}
use Rattle.md_schema.specs.declared.column.ColumnKind.TheVariants.{Coded}
use Rattle.sig_tree.specs.Printed.{piece_token, method_pieces, type_pieces}
use Rattle.sig_tree.specs.declared.tree.MethodSig.{MethodSig}
use Rattle.sig_tree.specs.declared.tree.TypeSig.{TypeSig}
use Rattle.node_model.specs.EditRefusals.{is_bad_name}
use Rattle.node_model.specs.NamedTokens.{NamedToken, name_in}
use Rattle.node_model.specs.Nodes.{Nodes, is_live_row}

-- a token, unless it is a row that is there, of a table that its place allows
abbrev pub bad_unless : Nodes → Bool → Token → Option Token
bad_unless n allowed t = if not (is_live_row n t && allowed) then Some t else None

abbrev pub first_bad : Nodes → List NamedToken → Option Token
first_bad n [] = None
first_bad n (x ∷ xs) = if is_bad_name n x then Some x.token else first_bad n xs

-- the first that is no type
unfoldable pub first_bad_type : Nodes → List Token → Option Token
first_bad_type n ts = first_bad n (map (name_in (may_name_of (Coded TypeDefOrRef))) ts)

-- the tokens of a type, of types and of a method
abbrev pub tokens_of_type : TypeSig → List Token
tokens_of_type t = flat_map piece_token (type_pieces t)

abbrev pub tokens_of_types : List TypeSig → List Token
tokens_of_types ts = flat_map (λ ps. flat_map piece_token ps) (map type_pieces ts)

abbrev pub tokens_of_method : MethodSig → List Token
tokens_of_method m = flat_map piece_token (method_pieces m)
