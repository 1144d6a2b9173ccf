-- The bounds that a signature keeps: depth, codes, sentinels, and numbers that can be spelled.
use Rattle.std.specs.Prelude.{ℕ, ◌-◌, ◌==◌, List, Bool, true, false, ◌&&◌, ◌||◌, nat_lt, nat_le, length, map}
use Rattle.std.specs.Prelude.{IsTrue, if◌then◌else◌}
use Rattle.std.specs.List.{list_all}
use Rattle.sig_tree.specs.Symbols.{can_be_spelled}
use Rattle.sig_tree.specs.Spelling.{symbols}
use Rattle.sig_tree.specs.declared.tree.Sentinel.{Sentinel}
use Rattle.sig_tree.specs.declared.tree.Sentinel.TheVariants.{None as no_sentinel, Before}
use Rattle.sig_tree.specs.declared.tree.TypeSig.{TypeSig}
use Rattle.sig_tree.specs.declared.tree.MethodSig.{MethodSig}
use Rattle.sig_tree.specs.declared.tree.SigTree.{SigTree}
use Rattle.sig_tree.specs.declared.tree.SigTree.TheVariants.{Method, Field, Locals, Property, Inst as MethodInst, Plain}
use Rattle.sig_tree.specs.declared.tree.TypeSig.TheOpen.{TypeSig-F, Prim, Ptr, ByRef, Value, Class, Var, MVar}
use Rattle.sig_tree.specs.declared.tree.TypeSig.TheOpen.{SzArray, Array, Inst, FnPtr, Mod, Pinned, MethodSig-F}
use Rattle.sig_tree.specs.declared.tree.TypeSig.TheFolds.{fold-TypeSig, fold-MethodSig}

-- the element types of one byte: 01 to 0E, TYPEDBYREF 16, I 18, U 19 and OBJECT 1C (ECMA-335 II.23.1.16)
abbrev pub is_prim : ℕ → Bool
is_prim code =
    (nat_le 0x01 code && nat_le code 0x0e) || (code == 0x16) || (code == 0x18) || (code == 0x19) || (code == 0x1c)

-- the calling conventions 0 to 5 (ECMA-335 II.23.2.1 to II.23.2.3), and 9, which unmanaged code has beside them
abbrev pub is_kind : ℕ → Bool
is_kind kind = nat_le kind 5 || (kind == 9)

-- a sentinel's number is at most the number of parameters, and below it in a function pointer
abbrev pub has_place : Bool → ℕ → Sentinel → Bool
has_place pointer params no_sentinel = true
has_place pointer params (Before n) = if pointer then nat_lt n params else nat_le n params

-- a method has parts within the depth, a convention and a place for its sentinel; a function pointer's is the stricter
abbrev pub method_within : MethodSig-F (ℕ → Bool) (Bool → ℕ → Bool) → Bool → ℕ → Bool
method_within m pointer depth =
    is_kind m.kind && m.ret depth && list_all (λ t. t depth) m.params
    && has_place pointer (length m.params) m.sentinel

-- a type's parts stand within the depth
abbrev pub inside : TypeSig-F (ℕ → Bool) (Bool → ℕ → Bool) → ℕ → Bool
inside (Prim code) depth = is_prim code
inside (Ptr t) depth = t depth
inside (ByRef t) depth = t depth
inside (Value of) depth = true
inside (Class of) depth = true
inside (Var n) depth = true
inside (MVar n) depth = true
inside (SzArray t) depth = t depth
inside (Array elem rank sizes lows) depth = elem depth
inside (Inst value of args) depth = list_all (λ t. t depth) args
inside (FnPtr m) depth = m true depth
inside (Mod required of t) depth = t depth
inside (Pinned t) depth = t depth

-- each type takes one level, and its parts stand within the rest
abbrev pub within_level : TypeSig-F (ℕ → Bool) (Bool → ℕ → Bool) → ℕ → Bool
within_level t depth = nat_le 1 depth && inside t (depth - 1)

-- whether a type has at most that depth, and keeps the bounds on codes and sentinels
abbrev pub type_fits : TypeSig → ℕ → Bool
type_fits = fold-TypeSig (ℕ → Bool) (Bool → ℕ → Bool) within_level method_within

-- the same of a method's types; `pointer` is true in a function pointer
abbrev pub method_fits : MethodSig → Bool → ℕ → Bool
method_fits = fold-MethodSig (ℕ → Bool) (Bool → ℕ → Bool) within_level method_within

abbrev pub all_fit : List TypeSig → ℕ → Bool
all_fit ts depth = list_all (λ t. t depth) (map type_fits ts)

-- the greatest depth of a signature
abbrev pub depth_limit : ℕ
depth_limit = 64

-- the bounds on depth, codes and sentinels, for each sort
abbrev pub sig_fits : SigTree → Bool
sig_fits (Method m) = method_fits m false depth_limit
sig_fits (Field t) = type_fits t depth_limit
sig_fits (Locals ts) = all_fit ts depth_limit
sig_fits (Property this t params) = type_fits t depth_limit && all_fit params depth_limit
sig_fits (MethodInst args) = all_fit args depth_limit
sig_fits (Plain t) = type_fits t depth_limit

-- a signature that can be spelled: it fits, and each of its symbols has a spelling
pub record IsBoundedSig (sig : SigTree) : Type 0 where
  pub fitting : IsTrue (sig_fits sig)
  pub spellable : IsTrue (list_all can_be_spelled (symbols sig))
