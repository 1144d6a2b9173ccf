-- A signature with other type tokens in the places of its own, in the order in which they are printed.
use Rattle.std.specs.Prelude.{List, [], ◌∷◌, Bool, map, drop, is_some}
use Rattle.cil_base.specs.Token.{Token}
use Rattle.sig_tree.specs.Symbols.{coded_token}
use Rattle.sig_tree.specs.declared.tree.TypeSig.{TypeSig}
use Rattle.sig_tree.specs.declared.tree.TypeSig.TheVariants.{Prim, Ptr, ByRef, Value, Class, Var, MVar, SzArray}
use Rattle.sig_tree.specs.declared.tree.TypeSig.TheVariants.{Array, Inst, FnPtr, Mod, Pinned}
use Rattle.sig_tree.specs.declared.tree.MethodSig.{MethodSig}
use Rattle.sig_tree.specs.declared.tree.SigTree.{SigTree}
use Rattle.sig_tree.specs.declared.tree.SigTree.TheVariants.{Method, Field, Locals, Property, Inst as MethodInst, Plain}
use Rattle.sig_tree.specs.declared.tree.TypeSig.TheOpen.{TypeSig-F, MethodSig-F}
use Rattle.sig_tree.specs.declared.tree.TypeSig.TheFolds.{fold-TypeSig, fold-MethodSig}

-- the first of the tokens, or the old one where none is left
abbrev pub next : Token → List Token → Token
next old [] = old
next old (t ∷ ts) = t

-- each part takes its tokens, and leaves the others to those after it
abbrev pub in_turn : {A : Type 0} → List (List Token → A × List Token) → List Token → List A × List Token
in_turn [] ts = ([], ts)
in_turn (f ∷ fs) ts = ((f ts).0 ∷ (in_turn fs (f ts).1).0, (in_turn fs (f ts).1).1)

abbrev pub method_taking : MethodSig-F (List Token → TypeSig × List Token) (List Token → MethodSig × List Token)
    → List Token → MethodSig × List Token
method_taking m ts = (
  record {
    kind = m.kind;
    this = m.this;
    explicit = m.explicit;
    arity = m.arity;
    ret = (m.ret ts).0;
    params = (in_turn m.params (m.ret ts).1).0;
    sentinel = m.sentinel;
  },
  (in_turn m.params (m.ret ts).1).1,
)

abbrev pub type_taking : TypeSig-F (List Token → TypeSig × List Token) (List Token → MethodSig × List Token)
    → List Token → TypeSig × List Token
type_taking (TypeSig-F.Prim code) ts = (Prim code, ts)
type_taking (TypeSig-F.Ptr t) ts = (Ptr (t ts).0, (t ts).1)
type_taking (TypeSig-F.ByRef t) ts = (ByRef (t ts).0, (t ts).1)
type_taking (TypeSig-F.Value of) ts = (Value (next of ts), drop 1 ts)
type_taking (TypeSig-F.Class of) ts = (Class (next of ts), drop 1 ts)
type_taking (TypeSig-F.Var n) ts = (Var n, ts)
type_taking (TypeSig-F.MVar n) ts = (MVar n, ts)
type_taking (TypeSig-F.SzArray t) ts = (SzArray (t ts).0, (t ts).1)
type_taking (TypeSig-F.Array elem rank sizes lows) ts = (Array (elem ts).0 rank sizes lows, (elem ts).1)
type_taking (TypeSig-F.Inst value of args) ts =
    (Inst value (next of ts) (in_turn args (drop 1 ts)).0, (in_turn args (drop 1 ts)).1)
type_taking (TypeSig-F.FnPtr m) ts = (FnPtr (m ts).0, (m ts).1)
type_taking (TypeSig-F.Mod required of t) ts = (Mod required (next of ts) (t (drop 1 ts)).0, (t (drop 1 ts)).1)
type_taking (TypeSig-F.Pinned t) ts = (Pinned (t ts).0, (t ts).1)

-- a type with the first tokens in the places of its own, and the tokens that are left
abbrev pub type_with : TypeSig → List Token → TypeSig × List Token
type_with =
    fold-TypeSig (List Token → TypeSig × List Token) (List Token → MethodSig × List Token) type_taking method_taking

abbrev pub method_with : MethodSig → List Token → MethodSig × List Token
method_with =
    fold-MethodSig (List Token → TypeSig × List Token) (List Token → MethodSig × List Token) type_taking method_taking

abbrev pub types_with : List TypeSig → List Token → List TypeSig × List Token
types_with types ts = in_turn (map type_with types) ts

-- the same of a generic type, whose own token comes first
abbrev pub inst_with : Bool → Token → List TypeSig → List Token → TypeSig × List Token
inst_with value of args ts = (Inst value (next of ts) (types_with args (drop 1 ts)).0, (types_with args (drop 1 ts)).1)

-- the same of a modified type: the modifier's token comes first
abbrev pub mod_with : Bool → Token → TypeSig → List Token → TypeSig × List Token
mod_with required of t ts = (Mod required (next of ts) (type_with t (drop 1 ts)).0, (type_with t (drop 1 ts)).1)

-- the same of a function pointer
abbrev pub pointer_with : MethodSig → List Token → TypeSig × List Token
pointer_with m ts = (FnPtr (method_with m ts).0, (method_with m ts).1)

-- a signature with the tokens in the places of its own
abbrev pub replaced : SigTree → List Token → SigTree
replaced (Method m) ts = Method (method_with m ts).0
replaced (Field t) ts = Field (type_with t ts).0
replaced (Locals types) ts = Locals (types_with types ts).0
replaced (Property this t params) ts = Property this (type_with t ts).0 (types_with params (type_with t ts).1).0
replaced (MethodInst args) ts = MethodInst (types_with args ts).0
replaced (Plain t) ts = Plain (type_with t ts).0

-- a token that a signature can name: of TypeDef, TypeRef or TypeSpec, with a row below 2^24
abbrev pub names_type : Token → Bool
names_type t = is_some (coded_token t)
