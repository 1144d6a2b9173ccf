-- The type tokens of a type, at one level of it.
use Rattle.std.proofs.Common.{◌≡◌, ℕ, ◌+◌, List, [], ◌∷◌, ◌++◌, Bool, true, false, cond, ℤ, map, codes, refl, sym, ap, ◌∙◌}
use Rattle.std.specs.Fmt.{decimal, signed_decimal}
use Rattle.std.proofs.lemmas.Grind.{flat_map-append}
use Rattle.std.proofs.lemmas.List.{append-nil}
use Rattle.cil_base.specs.Token.{Token}
use Rattle.sig_tree.specs.Spelling.{with_sentinel, sentinel_at, sentinel_stands}
use Rattle.sig_tree.specs.Names.{prim_name, kind_name}
use Rattle.sig_tree.specs.Printed.{chars, commas, arity_pieces, type_kind, type_pieces_level, method_pieces_level, type_pieces, method_pieces, types_pieces, tokens, piece_token}
use Rattle.sig_tree.specs.inner.OwnTokens.{row, rows, type_tokens, types_tokens, method_tokens}
use Rattle.sig_tree.specs.declared.piece.Piece.{Piece}
use Rattle.sig_tree.specs.declared.piece.Piece.TheVariants.{Name}
use Rattle.sig_tree.specs.declared.tree.Arity.{Arity}
use Rattle.sig_tree.specs.declared.tree.Arity.TheVariants.{Plain as not_generic, Generic}
use Rattle.sig_tree.specs.declared.tree.Sentinel.{Sentinel}
use Rattle.sig_tree.specs.declared.tree.TypeSig.{TypeSig}
use Rattle.sig_tree.specs.declared.tree.TypeSig.TheVariants.{Prim, Ptr, ByRef, Value, Class, Var, MVar, SzArray, Array, Inst, FnPtr, Mod, Pinned}
use Rattle.sig_tree.specs.declared.tree.TypeSig.TheOpen.{TypeSig-F}
use Rattle.sig_tree.specs.declared.tree.TypeSig.TheViews.{roll-TypeSig, rolls-Prim, rolls-Ptr, rolls-ByRef, rolls-Value, rolls-Class, rolls-Var, rolls-MVar, rolls-SzArray, rolls-Array, rolls-Inst, rolls-FnPtr, rolls-Mod, rolls-Pinned}
use Rattle.sig_tree.specs.declared.tree.TypeSig.TheFolds.{fold-roll-TypeSig, fold_out-MethodSig, map-TypeSig}
use Rattle.sig_tree.specs.declared.tree.MethodSig.{MethodSig}
use Rattle.sig_tree.specs.declared.tree.SigTree.TheVariants.{Property}

-- a text has no tokens
no_tokens : (text : List ℕ) → row (chars text) ≡ []
unfolding chars
no_tokens [] = refl
no_tokens (c ∷ text) = no_tokens text

joined : (ps qs : List Piece) → row (ps ++ qs) ≡ row ps ++ row qs
joined ps qs = flat_map-append piece_token ps qs

emptied : (ps qs : List Piece) → row qs ≡ [] → row (ps ++ qs) ≡ row ps
emptied ps qs h = joined ps qs ∙ ap (λ ts. row ps ++ ts) h ∙ append-nil (row ps)

followed : (ps : List Piece) (text : List ℕ) → row (ps ++ chars text) ≡ row ps
followed ps text = emptied ps (chars text) (no_tokens text)

pub behind : (text : List ℕ) (ps : List Piece) → row (chars text ++ ps) ≡ row ps
behind text ps = joined (chars text) ps ∙ ap (λ ts. ts ++ row ps) (no_tokens text)

-- nor have commas and a sentinel
comma : (first : Bool) (ps : List Piece) → row ((cond first [] (chars (codes ","))) ++ ps) ≡ row ps
comma true ps = refl
comma false ps = behind (codes ",") ps

pub commas_tokens : (first : Bool) (parts : List (List Piece)) → row (commas first parts) ≡ rows parts
commas_tokens first [] = refl
commas_tokens first (ps ∷ parts) =
    joined (cond first [] (chars (codes ",")) ++ ps) (commas false parts)
    ∙ ap (λ ts. ts ++ row (commas false parts)) (comma first ps)
    ∙ ap (λ ts. row ps ++ ts) (commas_tokens false parts)

marked : (b : Bool) (text : List ℕ) (parts : List (List Piece)) → rows (cond b (chars text ∷ []) [] ++ parts) ≡ rows parts
marked true text parts = ap (λ ts. ts ++ rows parts) (no_tokens text)
marked false text parts = refl

sentinel_tokens : (sentinel : Sentinel) (text : List ℕ) (at : ℕ) (parts : List (List Piece)) → rows (with_sentinel sentinel (chars text) at parts) ≡ rows parts
sentinel_tokens sentinel text at [] = ap rows (sym (append-nil (sentinel_at sentinel at (chars text)))) ∙ marked (sentinel_stands sentinel at) text []
sentinel_tokens sentinel text at (ps ∷ parts) =
    marked (sentinel_stands sentinel at) text (ps ∷ with_sentinel sentinel (chars text) (at + 1) parts)
    ∙ ap (λ ts. row ps ++ ts) (sentinel_tokens sentinel text (at + 1) parts)

-- a type by its level
of-level : (x : TypeSig-F TypeSig MethodSig) (t : TypeSig) → roll-TypeSig x ≡ t
    → type_tokens t ≡ row (type_pieces_level (map-TypeSig TypeSig MethodSig (List Piece) (List Piece) type_pieces method_pieces x))
of-level x t h = ap type_tokens (sym h) ∙ ap row (fold-roll-TypeSig (List Piece) (List Piece) type_pieces_level method_pieces_level x)

pub tokens-Prim : (code : ℕ) → type_tokens (Prim code) ≡ []
tokens-Prim code = of-level (TypeSig-F.Prim code) (Prim code) (rolls-Prim code) ∙ no_tokens (prim_name code)

pub tokens-Var : (n : ℕ) → type_tokens (Var n) ≡ []
tokens-Var n = of-level (TypeSig-F.Var n) (Var n) (rolls-Var n) ∙ behind (codes "!") (chars (decimal n)) ∙ no_tokens (decimal n)

pub tokens-MVar : (n : ℕ) → type_tokens (MVar n) ≡ []
tokens-MVar n = of-level (TypeSig-F.MVar n) (MVar n) (rolls-MVar n) ∙ behind (codes "!!") (chars (decimal n)) ∙ no_tokens (decimal n)

pub tokens-Value : (of : Token) → type_tokens (Value of) ≡ of ∷ []
tokens-Value of = of-level (TypeSig-F.Value of) (Value of) (rolls-Value of) ∙ behind (codes "valuetype ") (Name of ∷ [])

pub tokens-Class : (of : Token) → type_tokens (Class of) ≡ of ∷ []
tokens-Class of = of-level (TypeSig-F.Class of) (Class of) (rolls-Class of) ∙ behind (codes "class ") (Name of ∷ [])

pub tokens-Ptr : (t : TypeSig) → type_tokens (Ptr t) ≡ type_tokens t
tokens-Ptr t = of-level (TypeSig-F.Ptr t) (Ptr t) (rolls-Ptr t) ∙ followed (type_pieces t) (codes "*")

pub tokens-ByRef : (t : TypeSig) → type_tokens (ByRef t) ≡ type_tokens t
tokens-ByRef t = of-level (TypeSig-F.ByRef t) (ByRef t) (rolls-ByRef t) ∙ followed (type_pieces t) (codes "&")

pub tokens-SzArray : (t : TypeSig) → type_tokens (SzArray t) ≡ type_tokens t
tokens-SzArray t = of-level (TypeSig-F.SzArray t) (SzArray t) (rolls-SzArray t) ∙ followed (type_pieces t) (codes "[]")

pub tokens-Pinned : (t : TypeSig) → type_tokens (Pinned t) ≡ type_tokens t
tokens-Pinned t = of-level (TypeSig-F.Pinned t) (Pinned t) (rolls-Pinned t) ∙ behind (codes "pinned ") (type_pieces t)

pub tokens-Mod : (required : Bool) (of : Token) (t : TypeSig) → type_tokens (Mod required of t) ≡ of ∷ type_tokens t
tokens-Mod required of t =
    let name = codes ") " in
    let head = cond required (codes "modreq(") (codes "modopt(") in
    of-level (TypeSig-F.Mod required of t) (Mod required of t) (rolls-Mod required of t)
    ∙ joined (chars head ++ (Name of ∷ chars name)) (type_pieces t)
    ∙ ap (λ ts. ts ++ type_tokens t) (behind head (Name of ∷ chars name) ∙ ap (λ ts. of ∷ ts) (no_tokens name))

pub tokens-Inst : (value : Bool) (of : Token) (args : List TypeSig) → type_tokens (Inst value of args) ≡ of ∷ types_tokens args
tokens-Inst value of args =
    let named = Name of ∷ chars (codes "<") in
    of-level (TypeSig-F.Inst value of args) (Inst value of args) (rolls-Inst value of args)
    ∙ followed ((chars (type_kind value) ++ named) ++ types_pieces args) (codes ">")
    ∙ joined (chars (type_kind value) ++ named) (types_pieces args)
    ∙ ap (λ ts. ts ++ row (types_pieces args)) (behind (type_kind value) named ∙ ap (λ ts. of ∷ ts) (no_tokens (codes "<")))
    ∙ ap (λ ts. of ∷ ts) (commas_tokens true (map type_pieces args))

pub tokens-FnPtr : (m : MethodSig) → type_tokens (FnPtr m) ≡ method_tokens m
tokens-FnPtr m =
    of-level (TypeSig-F.FnPtr m) (FnPtr m) (rolls-FnPtr m)
    ∙ followed (chars (codes "fnptr(") ++ method_pieces m) (codes ")")
    ∙ behind (codes "fnptr(") (method_pieces m)

numbers : {A : Type 0} (text : A → List ℕ) (xs : List A) → rows (map (λ x. chars (text x)) xs) ≡ []
numbers text [] = refl
numbers text (x ∷ xs) = ap (λ ts. ts ++ rows (map (λ x. chars (text x)) xs)) (no_tokens (text x)) ∙ numbers text xs

listed : {A : Type 0} (text : A → List ℕ) (xs : List A) (ps : List Piece) → row (ps ++ commas true (map (λ x. chars (text x)) xs)) ≡ row ps
listed text xs ps = emptied ps (commas true (map (λ x. chars (text x)) xs)) (commas_tokens true (map (λ x. chars (text x)) xs) ∙ numbers text xs)

-- after an array's element type stand no tokens
pub tokens-Array : (elem : TypeSig) (rank : ℕ) (sizes : List ℕ) (lows : List ℤ) → type_tokens (Array elem rank sizes lows) ≡ type_tokens elem
tokens-Array elem rank sizes lows =
    let begun = type_pieces elem ++ chars (codes "[") in
    let ranked = begun ++ chars (decimal rank) in
    let sized = ranked ++ chars (codes ";") ++ commas true (map (λ (n : ℕ). chars (decimal n)) sizes) in
    let lowest = sized ++ chars (codes ";") ++ commas true (map (λ (z : ℤ). chars (signed_decimal z)) lows) in
    of-level (TypeSig-F.Array elem rank sizes lows) (Array elem rank sizes lows) (rolls-Array elem rank sizes lows)
    ∙ followed lowest (codes "]")
    ∙ listed signed_decimal lows (sized ++ chars (codes ";"))
    ∙ followed sized (codes ";")
    ∙ listed decimal sizes (ranked ++ chars (codes ";"))
    ∙ followed ranked (codes ";")
    ∙ followed begun (decimal rank)
    ∙ followed (type_pieces elem) (codes "[")

arity_tokens : (arity : Arity) → row (arity_pieces arity) ≡ []
arity_tokens not_generic = refl
arity_tokens (Generic n) = followed (chars (codes "generic ") ++ chars (decimal n)) (codes " ") ∙ followed (chars (codes "generic ")) (decimal n) ∙ no_tokens (codes "generic ")

-- a method's tokens are those of its return type and of its parameters
pub method_row : (m : MethodSig) → method_tokens m ≡ type_tokens m.ret ++ types_tokens m.params
method_row m =
    let params = commas true (with_sentinel m.sentinel (chars (codes "...")) 0 (map type_pieces m.params)) in
    let instance = chars (cond m.this (codes "instance ") []) in
    let explicit = instance ++ chars (cond m.explicit (codes "explicit ") []) in
    let kind = explicit ++ chars (kind_name m.kind) in
    let generic = kind ++ arity_pieces m.arity in
    let typed = generic ++ type_pieces m.ret in
    ap row (fold_out-MethodSig (List Piece) (List Piece) type_pieces_level method_pieces_level m)
    ∙ followed (typed ++ chars (codes "(") ++ params) (codes ")")
    ∙ joined (typed ++ chars (codes "(")) params
    ∙ ap (λ ts. ts ++ row params)
    (followed typed (codes "(")
    ∙ joined generic (type_pieces m.ret)
    ∙ ap (λ ts. ts ++ type_tokens m.ret)
    (emptied kind (arity_pieces m.arity) (arity_tokens m.arity)
    ∙ followed explicit (kind_name m.kind)
    ∙ followed instance (cond m.explicit (codes "explicit ") [])
    ∙ no_tokens (cond m.this (codes "instance ") [])))
    ∙ ap (λ ts. type_tokens m.ret ++ ts)
    (commas_tokens true (with_sentinel m.sentinel (chars (codes "...")) 0 (map type_pieces m.params))
    ∙ sentinel_tokens m.sentinel (codes "...") 0 (map type_pieces m.params))

-- types between two texts, and a property
pub bracketed : (left right : List ℕ) (types : List TypeSig) → row (chars left ++ types_pieces types ++ chars right) ≡ types_tokens types
bracketed left right types = followed (chars left ++ types_pieces types) right ∙ behind left (types_pieces types) ∙ commas_tokens true (map type_pieces types)

pub property_row : (this : Bool) (t : TypeSig) (params : List TypeSig) → tokens (Property this t params) ≡ type_tokens t ++ types_tokens params
property_row this t params =
    let head = chars (codes "property ") in
    let instance = head ++ chars (cond this (codes "instance ") []) in
    let typed = instance ++ type_pieces t in
    followed (typed ++ chars (codes "(") ++ types_pieces params) (codes ")")
    ∙ joined (typed ++ chars (codes "(")) (types_pieces params)
    ∙ ap (λ ts. ts ++ row (types_pieces params))
    (followed typed (codes "(")
    ∙ joined instance (type_pieces t)
    ∙ ap (λ ts. ts ++ type_tokens t) (followed head (cond this (codes "instance ") []) ∙ no_tokens (codes "property ")))
    ∙ ap (λ ts. type_tokens t ++ ts) (commas_tokens true (map type_pieces params))
