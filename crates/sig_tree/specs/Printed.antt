-- The printed form of a signature, as characters and names of types, in order.
use Rattle.std.specs.Prelude.{ℕ, List, [], ◌∷◌, ◌++◌, Bool, true, false, codes, map, if◌then◌else◌}
use Rattle.std.specs.List.{flat_map}
use Rattle.std.specs.Fmt.{decimal, signed_decimal}
use Rattle.cil_base.specs.Token.{Token, token_text}
use Rattle.sig_tree.specs.Spelling.{with_sentinel}
use Rattle.sig_tree.specs.Names.{prim_name, kind_name}
use Rattle.sig_tree.specs.declared.piece.Piece.{Piece}
use Rattle.sig_tree.specs.declared.piece.Piece.TheVariants.{Char, Name}
use Rattle.sig_tree.specs.declared.tree.Arity.{Arity}
use Rattle.sig_tree.specs.declared.tree.Arity.TheVariants.{Plain as not_generic, Generic}
use Rattle.sig_tree.specs.declared.tree.TypeSig.{TypeSig}
use Rattle.sig_tree.specs.declared.tree.MethodSig.{MethodSig}
use Rattle.sig_tree.specs.declared.tree.SigTree.{SigTree}
use Rattle.sig_tree.specs.declared.tree.SigTree.TheVariants.{Method, Field, Locals, Property, Inst as MethodInst, Plain}
use Rattle.sig_tree.specs.declared.tree.TypeSig.TheOpen.{TypeSig-F, Prim, Ptr, ByRef, Value, Class, Var, MVar}
use Rattle.sig_tree.specs.declared.tree.TypeSig.TheOpen.{SzArray, Array, Inst, FnPtr, Mod, Pinned, MethodSig-F}
use Rattle.sig_tree.specs.declared.tree.TypeSig.TheFolds.{fold-TypeSig, fold-MethodSig}

-- the characters of a text
unfoldable pub chars : List ℕ → List Piece
chars text = map Char text

-- items with a comma before each but the first; `first` is true where none stands before them
abbrev pub commas : Bool → List (List Piece) → List Piece
commas first [] = []
commas first (x ∷ xs) = (if first then [] else chars (codes ",")) ++ x ++ commas false xs

abbrev pub arity_pieces : Arity → List Piece
arity_pieces not_generic = []
arity_pieces (Generic n) = chars (codes "generic ") ++ chars (decimal n) ++ chars (codes " ")

abbrev pub type_kind : Bool → List ℕ
type_kind value = if value then codes "valuetype " else codes "class "

abbrev pub method_pieces_level : MethodSig-F (List Piece) (List Piece) → List Piece
method_pieces_level m =
    chars (if m.this then codes "instance " else []) ++ chars (if m.explicit then codes "explicit " else [])
    ++ chars (kind_name m.kind) ++ arity_pieces m.arity ++ m.ret ++ chars (codes "(")
    ++ commas true (with_sentinel m.sentinel (chars (codes "...")) 0 m.params) ++ chars (codes ")")

abbrev pub type_pieces_level : TypeSig-F (List Piece) (List Piece) → List Piece
type_pieces_level (Prim code) = chars (prim_name code)
type_pieces_level (Ptr t) = t ++ chars (codes "*")
type_pieces_level (ByRef t) = t ++ chars (codes "&")
type_pieces_level (Value of) = chars (codes "valuetype ") ++ Name of ∷ []
type_pieces_level (Class of) = chars (codes "class ") ++ Name of ∷ []
type_pieces_level (Var n) = chars (codes "!") ++ chars (decimal n)
type_pieces_level (MVar n) = chars (codes "!!") ++ chars (decimal n)
type_pieces_level (SzArray t) = t ++ chars (codes "[]")
type_pieces_level (Array elem rank sizes lows) =
    elem ++ chars (codes "[") ++ chars (decimal rank)
    ++ chars (codes ";") ++ commas true (map (λ n. chars (decimal n)) sizes)
    ++ chars (codes ";") ++ commas true (map (λ z. chars (signed_decimal z)) lows) ++ chars (codes "]")
type_pieces_level (Inst value of args) =
    chars (type_kind value) ++ Name of ∷ chars (codes "<") ++ commas true args ++ chars (codes ">")
type_pieces_level (FnPtr m) = chars (codes "fnptr(") ++ m ++ chars (codes ")")
type_pieces_level (Mod required of t) =
    chars (if required then codes "modreq(" else codes "modopt(") ++ Name of ∷ chars (codes ") ") ++ t
type_pieces_level (Pinned t) = chars (codes "pinned ") ++ t

abbrev pub type_pieces : TypeSig → List Piece
type_pieces = fold-TypeSig (List Piece) (List Piece) type_pieces_level method_pieces_level

abbrev pub method_pieces : MethodSig → List Piece
method_pieces = fold-MethodSig (List Piece) (List Piece) type_pieces_level method_pieces_level

abbrev pub types_pieces : List TypeSig → List Piece
types_pieces ts = commas true (map type_pieces ts)

abbrev pub pieces : SigTree → List Piece
pieces (Method m) = method_pieces m
pieces (Field t) = chars (codes "field ") ++ type_pieces t
pieces (Locals ts) = chars (codes "locals(") ++ types_pieces ts ++ chars (codes ")")
pieces (Property this t params) =
    chars (codes "property ") ++ chars (if this then codes "instance " else []) ++ type_pieces t
    ++ chars (codes "(") ++ types_pieces params ++ chars (codes ")")
pieces (MethodInst args) = chars (codes "inst<") ++ types_pieces args ++ chars (codes ">")
pieces (Plain t) = type_pieces t

-- a token's own text, in the place of its type's name
abbrev pub own_text : Token → List ℕ
own_text t = token_text t.table t.rid

abbrev pub piece_text : Piece → List ℕ
piece_text (Char c) = c ∷ []
piece_text (Name t) = own_text t

-- the text, with each token in the place of its type's name
abbrev pub printed : SigTree → List ℕ
printed sig = flat_map piece_text (pieces sig)

abbrev pub piece_token : Piece → List Token
piece_token (Char c) = []
piece_token (Name t) = t ∷ []

-- the type tokens, in the order in which they are printed
abbrev pub tokens : SigTree → List Token
tokens sig = flat_map piece_token (pieces sig)

-- the text with the names in order in the places of the tokens
abbrev pub filled_pieces : List Piece → List (List ℕ) → List ℕ
filled_pieces [] names = []
filled_pieces (Char c ∷ rest) names = c ∷ filled_pieces rest names
filled_pieces (Name t ∷ rest) [] = []
filled_pieces (Name t ∷ rest) (name ∷ names) = name ++ filled_pieces rest names

abbrev pub named_sig : SigTree → List (List ℕ) → List ℕ
named_sig sig names = filled_pieces (pieces sig) names
