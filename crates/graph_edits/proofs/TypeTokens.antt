-- The first refused token of a type and of a signature, by what it is.
use Rattle.std.proofs.Common.{◌≡◌, ℕ, List, [], ◌∷◌, Bool, ℤ, None, codes, ap, ◌∙◌}
use Rattle.std.specs.Option.{option_or}
use Rattle.cil_base.specs.Token.{Token}
use Rattle.sig_tree.proofs.TokenRows as rows
use Rattle.sig_tree.specs.Printed.{tokens, type_pieces}
use Rattle.sig_tree.specs.declared.tree.MethodSig.{MethodSig}
use Rattle.sig_tree.specs.declared.tree.SigTree.{SigTree}
use Rattle.sig_tree.specs.declared.tree.SigTree.TheVariants.{Field, Locals, Property, Inst as MethodInst}
use Rattle.sig_tree.specs.declared.tree.TypeSig.{TypeSig}
use Rattle.sig_tree.specs.declared.tree.TypeSig.TheVariants.{Prim, Ptr, ByRef, Value, Class, Var, MVar, SzArray, Array, Inst, FnPtr, Mod, Pinned}
use Rattle.node_model.specs.Nodes.{Nodes}
use Rattle.graph_edits.specs.inner.BadNames.{first_bad_type, tokens_of_method, tokens_of_type, tokens_of_types}
use Rattle.graph_edits.proofs.NameLemmas.{first_bad_types, no_type}

pub prim : (n : Nodes) (t : TypeSig) (code : ℕ) → t ≡ Prim code → first_bad_type n (tokens_of_type t) ≡ None
prim n t code is = ap (first_bad_type n) (ap tokens_of_type is ∙ rows.tokens-Prim code) ∙ no_type n

pub var : (n : Nodes) (t : TypeSig) (k : ℕ) → t ≡ Var k → first_bad_type n (tokens_of_type t) ≡ None
var n t k is = ap (first_bad_type n) (ap tokens_of_type is ∙ rows.tokens-Var k) ∙ no_type n

pub mvar : (n : Nodes) (t : TypeSig) (k : ℕ) → t ≡ MVar k → first_bad_type n (tokens_of_type t) ≡ None
mvar n t k is = ap (first_bad_type n) (ap tokens_of_type is ∙ rows.tokens-MVar k) ∙ no_type n

pub value : (n : Nodes) (t : TypeSig) (of : Token) → t ≡ Value of → first_bad_type n (tokens_of_type t) ≡ first_bad_type n (of ∷ [])
value n t of is = ap (first_bad_type n) (ap tokens_of_type is ∙ rows.tokens-Value of)

pub class : (n : Nodes) (t : TypeSig) (of : Token) → t ≡ Class of → first_bad_type n (tokens_of_type t) ≡ first_bad_type n (of ∷ [])
class n t of is = ap (first_bad_type n) (ap tokens_of_type is ∙ rows.tokens-Class of)

pub ptr : (n : Nodes) (t u : TypeSig) → t ≡ Ptr u → first_bad_type n (tokens_of_type t) ≡ first_bad_type n (tokens_of_type u)
ptr n t u is = ap (first_bad_type n) (ap tokens_of_type is ∙ rows.tokens-Ptr u)

pub by_ref : (n : Nodes) (t u : TypeSig) → t ≡ ByRef u → first_bad_type n (tokens_of_type t) ≡ first_bad_type n (tokens_of_type u)
by_ref n t u is = ap (first_bad_type n) (ap tokens_of_type is ∙ rows.tokens-ByRef u)

pub sz_array : (n : Nodes) (t u : TypeSig) → t ≡ SzArray u → first_bad_type n (tokens_of_type t) ≡ first_bad_type n (tokens_of_type u)
sz_array n t u is = ap (first_bad_type n) (ap tokens_of_type is ∙ rows.tokens-SzArray u)

pub pinned : (n : Nodes) (t u : TypeSig) → t ≡ Pinned u → first_bad_type n (tokens_of_type t) ≡ first_bad_type n (tokens_of_type u)
pinned n t u is = ap (first_bad_type n) (ap tokens_of_type is ∙ rows.tokens-Pinned u)

pub array : (n : Nodes) (t elem : TypeSig) (rank : ℕ) (sizes : List ℕ) (lows : List ℤ) → t ≡ Array elem rank sizes lows
    → first_bad_type n (tokens_of_type t) ≡ first_bad_type n (tokens_of_type elem)
array n t elem rank sizes lows is = ap (first_bad_type n) (ap tokens_of_type is ∙ rows.tokens-Array elem rank sizes lows)

pub inst : (n : Nodes) (t : TypeSig) (value : Bool) (of : Token) (args : List TypeSig) → t ≡ Inst value of args
    → first_bad_type n (tokens_of_type t) ≡ option_or (first_bad_type n (of ∷ [])) (first_bad_type n (tokens_of_types args))
inst n t value of args is =
    ap (first_bad_type n) (ap tokens_of_type is ∙ rows.tokens-Inst value of args) ∙ first_bad_types n (of ∷ []) (tokens_of_types args)

pub fn_ptr : (n : Nodes) (t : TypeSig) (m : MethodSig) → t ≡ FnPtr m → first_bad_type n (tokens_of_type t) ≡ first_bad_type n (tokens_of_method m)
fn_ptr n t m is = ap (first_bad_type n) (ap tokens_of_type is ∙ rows.tokens-FnPtr m)

pub modified : (n : Nodes) (t : TypeSig) (required : Bool) (of : Token) (u : TypeSig) → t ≡ Mod required of u
    → first_bad_type n (tokens_of_type t) ≡ option_or (first_bad_type n (of ∷ [])) (first_bad_type n (tokens_of_type u))
modified n t required of u is =
    ap (first_bad_type n) (ap tokens_of_type is ∙ rows.tokens-Mod required of u) ∙ first_bad_types n (of ∷ []) (tokens_of_type u)

-- of a type of one part, by its variant
pub ruleset of_type = (prim, var, mvar, value, class, ptr, by_ref, sz_array, pinned, array, fn_ptr)

pub method : (n : Nodes) (m : MethodSig)
    → first_bad_type n (tokens_of_method m) ≡ option_or (first_bad_type n (tokens_of_type m.ret)) (first_bad_type n (tokens_of_types m.params))
method n m = ap (first_bad_type n) (rows.method_row m) ∙ first_bad_types n (tokens_of_type m.ret) (tokens_of_types m.params)

-- of a method
pub ruleset of_method = (method)

pub field : (n : Nodes) (sig : SigTree) (t : TypeSig) → sig ≡ Field t → first_bad_type n (tokens sig) ≡ first_bad_type n (tokens_of_type t)
field n sig t is = ap (first_bad_type n) (ap tokens is ∙ rows.behind (codes "field ") (type_pieces t))

pub locals : (n : Nodes) (sig : SigTree) (ts : List TypeSig) → sig ≡ Locals ts → first_bad_type n (tokens sig) ≡ first_bad_type n (tokens_of_types ts)
locals n sig ts is = ap (first_bad_type n) (ap tokens is ∙ rows.bracketed (codes "locals(") (codes ")") ts)

pub property : (n : Nodes) (sig : SigTree) (this : Bool) (t : TypeSig) (params : List TypeSig) → sig ≡ Property this t params
    → first_bad_type n (tokens sig) ≡ option_or (first_bad_type n (tokens_of_type t)) (first_bad_type n (tokens_of_types params))
property n sig this t params is =
    ap (first_bad_type n) (ap tokens is ∙ rows.property_row this t params) ∙ first_bad_types n (tokens_of_type t) (tokens_of_types params)

pub method_inst : (n : Nodes) (sig : SigTree) (args : List TypeSig) → sig ≡ MethodInst args → first_bad_type n (tokens sig) ≡ first_bad_type n (tokens_of_types args)
method_inst n sig args is = ap (first_bad_type n) (ap tokens is ∙ rows.bracketed (codes "inst<") (codes ">") args)

-- of a signature of one part, by its sort
pub ruleset of_sig = (field, locals, method_inst)
