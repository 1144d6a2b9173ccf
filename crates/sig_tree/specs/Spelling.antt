-- The symbols of a signature, sort by sort: ECMA-335 II.23.2.
use Rattle.std.specs.Prelude.{ℕ, ◌+◌, ◌%◌, ◌==◌, List, [], ◌∷◌, ◌++◌, Option, Bool, false, length, map, if◌then◌else◌}
use Rattle.std.specs.List.{flat_map}
use Rattle.sig_tree.specs.declared.symbol.Symbol.{Symbol}
use Rattle.sig_tree.specs.declared.symbol.Symbol.TheVariants.{Byte, Number, Signed, TypeToken}
use Rattle.sig_tree.specs.Symbols.{strip_symbols, spelled}
use Rattle.sig_tree.specs.declared.tree.Arity.{Arity}
use Rattle.sig_tree.specs.declared.tree.Arity.TheVariants.{Plain as not_generic, Generic}
use Rattle.sig_tree.specs.declared.tree.Sentinel.{Sentinel}
use Rattle.sig_tree.specs.declared.tree.Sentinel.TheVariants.{None as no_sentinel, Before}
use Rattle.sig_tree.specs.declared.tree.TypeSig.{TypeSig}
use Rattle.sig_tree.specs.declared.tree.MethodSig.{MethodSig}
use Rattle.sig_tree.specs.declared.tree.SigTree.{SigTree}
use Rattle.sig_tree.specs.declared.tree.SigTree.TheVariants.{Method, Field, Locals, Property, Inst as MethodInst, Plain}
use Rattle.sig_tree.specs.declared.tree.TypeSig.TheOpen.{TypeSig-F, Prim, Ptr, ByRef, Value, Class, Var, MVar}
use Rattle.sig_tree.specs.declared.tree.TypeSig.TheOpen.{SzArray, Array, Inst, FnPtr, Mod, Pinned, MethodSig-F}
use Rattle.sig_tree.specs.declared.tree.TypeSig.TheFolds.{fold-TypeSig, fold-MethodSig}

-- whether the sentinel stands before the item of that number
abbrev pub sentinel_stands : Sentinel → ℕ → Bool
sentinel_stands no_sentinel at = false
sentinel_stands (Before n) at = n == at

-- the sentinel, where it stands before the item of that number
abbrev pub sentinel_at : {A : Type 0} → Sentinel → ℕ → A → List A
sentinel_at sentinel at mark = if sentinel_stands sentinel at then mark ∷ [] else []

-- the items from that number on, with the sentinel before the item of its number, or after the last
abbrev pub with_sentinel : {A : Type 0} → Sentinel → A → ℕ → List A → List A
with_sentinel sentinel mark at [] = sentinel_at sentinel at mark
with_sentinel sentinel mark at (x ∷ xs) = sentinel_at sentinel at mark ++ x ∷ with_sentinel sentinel mark (at + 1) xs

-- symbols in a row
abbrev pub in_order : List (List Symbol) → List Symbol
in_order rows = flat_map (λ row. row) rows

-- a count, and as many symbols
abbrev pub counted : List Symbol → List Symbol
counted xs = Number (length xs) ∷ xs

abbrev pub arity_symbols : Arity → List Symbol
arity_symbols not_generic = []
arity_symbols (Generic n) = Number n ∷ []

-- GENERIC 10
abbrev pub generic_flag : Arity → ℕ
generic_flag not_generic = 0
generic_flag (Generic n) = 0x10

-- a flag's bit, or 0
abbrev pub flag : Bool → ℕ → ℕ
flag is bit = if is then bit else 0

-- the calling convention in the low four bits, with GENERIC 10, HASTHIS 20 and EXPLICITTHIS 40
abbrev pub convention_byte : ℕ → Arity → Bool → Bool → ℕ
convention_byte kind arity this explicit = kind % 0x10 + generic_flag arity + flag this 0x20 + flag explicit 0x40

-- the symbols of a method, of its parts' symbols: SENTINEL 41 is not counted as a parameter
abbrev pub method_level : MethodSig-F (List Symbol) (List Symbol) → List Symbol
method_level m =
    Byte (convention_byte m.kind m.arity m.this m.explicit)
    ∷ (arity_symbols m.arity ++ (Number (length m.params) ∷ (m.ret
    ++ in_order (with_sentinel m.sentinel (Byte 0x41 ∷ []) 0 m.params))))

-- the symbols of a type, of its parts' symbols
abbrev pub type_level : TypeSig-F (List Symbol) (List Symbol) → List Symbol
type_level (Prim code) = Byte code ∷ []
type_level (Ptr t) = Byte 0x0f ∷ t
type_level (ByRef t) = Byte 0x10 ∷ t
type_level (Value of) = Byte 0x11 ∷ TypeToken of ∷ []
type_level (Class of) = Byte 0x12 ∷ TypeToken of ∷ []
type_level (Var n) = Byte 0x13 ∷ Number n ∷ []
type_level (Array elem rank sizes lows) =
    Byte 0x14 ∷ (elem ++ (Number rank ∷ (counted (map Number sizes) ++ counted (map Signed lows))))
type_level (Inst value of args) =
    Byte 0x15 ∷ Byte (if value then 0x11 else 0x12) ∷ TypeToken of ∷ Number (length args) ∷ in_order args
type_level (FnPtr m) = Byte 0x1b ∷ m
type_level (SzArray t) = Byte 0x1d ∷ t
type_level (MVar n) = Byte 0x1e ∷ Number n ∷ []
type_level (Mod required of t) = Byte (if required then 0x1f else 0x20) ∷ TypeToken of ∷ t
type_level (Pinned t) = Byte 0x45 ∷ t

-- the symbols of a type, and of a method's signature
abbrev pub type_symbols : TypeSig → List Symbol
type_symbols = fold-TypeSig (List Symbol) (List Symbol) type_level method_level

abbrev pub method_symbols : MethodSig → List Symbol
method_symbols = fold-MethodSig (List Symbol) (List Symbol) type_level method_level

-- the symbols of types in order
abbrev pub all_symbols : List TypeSig → List Symbol
all_symbols ts = in_order (map type_symbols ts)

-- the symbols of a signature of any sort
abbrev pub symbols : SigTree → List Symbol
symbols (Method m) = method_symbols m
symbols (Field t) = Byte 0x06 ∷ type_symbols t
symbols (Locals ts) = Byte 0x07 ∷ Number (length ts) ∷ all_symbols ts
symbols (Property this t params) =
    Byte (0x08 + flag this 0x20) ∷ Number (length params) ∷ (type_symbols t ++ all_symbols params)
symbols (MethodInst args) = Byte 0x0a ∷ Number (length args) ∷ all_symbols args
symbols (Plain t) = type_symbols t

-- what stays of the bytes after a spelling of the signature at their front
abbrev pub strip : SigTree → List ℕ → Option (List ℕ)
strip sig s = strip_symbols (symbols sig) s

-- the signature with the shortest form of each number
abbrev pub spell : SigTree → List ℕ
spell sig = spelled (symbols sig)
