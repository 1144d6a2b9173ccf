-- The type tokens of a signature and of a type, by what it is.
use Rattle.std.proofs.Common.{◌≡◌, ℕ, List, [], ◌∷◌, ◌++◌, Bool, ℤ, codes, ap, ◌∙◌, append_assoc}
use Rattle.std.proofs.lemmas.List.{append-nil}
use Rattle.cil_base.specs.Token.{Token}
use Rattle.sig_tree.specs.Printed.{tokens, type_pieces}
use Rattle.sig_tree.specs.inner.OwnTokens.{type_tokens, types_tokens, method_tokens}
use Rattle.sig_tree.specs.declared.tree.TypeSig.{TypeSig}
use Rattle.sig_tree.specs.declared.tree.TypeSig.TheVariants.{Prim, Ptr, ByRef, Value, Class, Var, MVar, SzArray, Array, Inst, FnPtr, Mod, Pinned}
use Rattle.sig_tree.specs.declared.tree.MethodSig.{MethodSig}
use Rattle.sig_tree.specs.declared.tree.SigTree.{SigTree}
use Rattle.sig_tree.specs.declared.tree.SigTree.TheVariants.{Field, Locals, Property, Inst as MethodInst}
use Rattle.sig_tree.proofs.TokenRows as rows

pub prim : (t : TypeSig) (code : ℕ) → t ≡ Prim code → type_tokens t ≡ []
prim t code is = ap type_tokens is ∙ rows.tokens-Prim code

pub var : (t : TypeSig) (n : ℕ) → t ≡ Var n → type_tokens t ≡ []
var t n is = ap type_tokens is ∙ rows.tokens-Var n

pub mvar : (t : TypeSig) (n : ℕ) → t ≡ MVar n → type_tokens t ≡ []
mvar t n is = ap type_tokens is ∙ rows.tokens-MVar n

pub value : (t : TypeSig) (of : Token) → t ≡ Value of → type_tokens t ≡ of ∷ []
value t of is = ap type_tokens is ∙ rows.tokens-Value of

pub class : (t : TypeSig) (of : Token) → t ≡ Class of → type_tokens t ≡ of ∷ []
class t of is = ap type_tokens is ∙ rows.tokens-Class of

pub ptr : (t u : TypeSig) → t ≡ Ptr u → type_tokens t ≡ type_tokens u
ptr t u is = ap type_tokens is ∙ rows.tokens-Ptr u

pub by_ref : (t u : TypeSig) → t ≡ ByRef u → type_tokens t ≡ type_tokens u
by_ref t u is = ap type_tokens is ∙ rows.tokens-ByRef u

pub sz_array : (t u : TypeSig) → t ≡ SzArray u → type_tokens t ≡ type_tokens u
sz_array t u is = ap type_tokens is ∙ rows.tokens-SzArray u

pub pinned : (t u : TypeSig) → t ≡ Pinned u → type_tokens t ≡ type_tokens u
pinned t u is = ap type_tokens is ∙ rows.tokens-Pinned u

pub array : (t elem : TypeSig) (rank : ℕ) (sizes : List ℕ) (lows : List ℤ) → t ≡ Array elem rank sizes lows → type_tokens t ≡ type_tokens elem
array t elem rank sizes lows is = ap type_tokens is ∙ rows.tokens-Array elem rank sizes lows

pub inst : (t : TypeSig) (value : Bool) (of : Token) (args : List TypeSig) → t ≡ Inst value of args → type_tokens t ≡ of ∷ types_tokens args
inst t value of args is = ap type_tokens is ∙ rows.tokens-Inst value of args

pub fn_ptr : (t : TypeSig) (m : MethodSig) → t ≡ FnPtr m → type_tokens t ≡ method_tokens m
fn_ptr t m is = ap type_tokens is ∙ rows.tokens-FnPtr m

pub modified : (t : TypeSig) (required : Bool) (of : Token) (u : TypeSig) → t ≡ Mod required of u → type_tokens t ≡ of ∷ type_tokens u
modified t required of u is = ap type_tokens is ∙ rows.tokens-Mod required of u

-- the tokens of a type, by its variant, behind others
pub ruleset of_type = (append_assoc, append-nil, prim, var, mvar, value, class, ptr, by_ref, sz_array, pinned, array, inst, fn_ptr, modified)

pub field : (sig : SigTree) (t : TypeSig) → sig ≡ Field t → tokens sig ≡ type_tokens t
field sig t is = ap tokens is ∙ rows.behind (codes "field ") (type_pieces t)

pub locals : (sig : SigTree) (ts : List TypeSig) → sig ≡ Locals ts → tokens sig ≡ types_tokens ts
locals sig ts is = ap tokens is ∙ rows.bracketed (codes "locals(") (codes ")") ts

pub property : (sig : SigTree) (this : Bool) (t : TypeSig) (params : List TypeSig) → sig ≡ Property this t params → tokens sig ≡ type_tokens t ++ types_tokens params
property sig this t params is = ap tokens is ∙ rows.property_row this t params

pub method_inst : (sig : SigTree) (args : List TypeSig) → sig ≡ MethodInst args → tokens sig ≡ types_tokens args
method_inst sig args is = ap tokens is ∙ rows.bracketed (codes "inst<") (codes ">") args

-- the tokens of a signature, by its sort, behind others
pub ruleset of_sig = (append_assoc, field, locals, property, method_inst)

-- the tokens of a method, behind others
pub ruleset of_method = (append_assoc, rows.method_row)
