-- The token walk's own words: the type tokens of a part of a signature. No public contract cites them.
use Rattle.std.specs.Prelude.{List, map}
use Rattle.std.specs.List.{flat_map}
use Rattle.cil_base.specs.Token.{Token}
use Rattle.sig_tree.specs.Printed.{type_pieces, method_pieces, piece_token}
use Rattle.sig_tree.specs.declared.piece.Piece.{Piece}
use Rattle.sig_tree.specs.declared.tree.TypeSig.{TypeSig}
use Rattle.sig_tree.specs.declared.tree.MethodSig.{MethodSig}

-- the tokens of pieces
abbrev pub row : List Piece → List Token
row ps = flat_map piece_token ps

-- the tokens of rows of pieces
abbrev pub rows : List (List Piece) → List Token
rows parts = flat_map row parts

abbrev pub type_tokens : TypeSig → List Token
type_tokens t = row (type_pieces t)

abbrev pub types_tokens : List TypeSig → List Token
types_tokens ts = rows (map type_pieces ts)

abbrev pub method_tokens : MethodSig → List Token
method_tokens m = row (method_pieces m)
