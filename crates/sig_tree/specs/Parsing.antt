-- The type, and the method's signature, that stands at the front of bytes (ECMA-335 II.23.2.1, II.23.2.12).
use Rattle.std.specs.Prelude.{ℕ, zero, suc, ◌+◌, ◌/◌, ◌%◌, ◌==◌, List, [], ◌∷◌, Option, Some, None, Bool}
use Rattle.std.specs.Prelude.{true, false, ◌&&◌, nat_lt, drop, option_map, if◌then◌else◌}
use Rattle.cil_base.specs.inner.Reading.{compressed_at, signed_at}
use Rattle.sig_tree.specs.Bounds.{is_prim, is_kind}
use Rattle.sig_tree.specs.Fronts.{after_value, wrap, many_at, counted_at, type_token_at}
use Rattle.sig_tree.specs.declared.tree.Arity.{Arity}
use Rattle.sig_tree.specs.declared.tree.Arity.TheVariants.{Plain as not_generic, Generic}
use Rattle.sig_tree.specs.declared.tree.Sentinel.{Sentinel}
use Rattle.sig_tree.specs.declared.tree.Sentinel.TheVariants.{None as no_sentinel, Before}
use Rattle.sig_tree.specs.declared.tree.TypeSig.{TypeSig}
use Rattle.sig_tree.specs.declared.tree.TypeSig.TheVariants.{Prim, Ptr, ByRef, Value, Class, Var, MVar, SzArray}
use Rattle.sig_tree.specs.declared.tree.TypeSig.TheVariants.{Array, Inst, FnPtr, Mod, Pinned}
use Rattle.sig_tree.specs.declared.tree.MethodSig.{MethodSig}

abbrev pub begins : ℕ → List ℕ → Bool
begins b [] = false
begins b (x ∷ s) = x == b

-- the parameters from that number on, and the number of the one that a sentinel stands before
abbrev pub params_at : (List ℕ → Option (TypeSig × List ℕ)) → ℕ → ℕ → List ℕ → Option (List TypeSig × Sentinel × List ℕ)
params_at ty at zero s = Some ([], no_sentinel, s)
params_at ty at (suc n) s =
    if begins 0x41 s then option_map (λ x. (x.0, Before at, x.1)) (many_at ty (suc n) (drop 1 s))
    else after_value (ty s) (λ t r. option_map (λ x. (t ∷ x.0, x.1, x.2)) (params_at ty (at + 1) n r))

abbrev pub arity_at : Bool → List ℕ → Option (Arity × List ℕ)
arity_at generic s = if generic then wrap Generic (compressed_at s) else Some (not_generic, s)

-- a bit of a convention
abbrev pub has_bit : ℕ → ℕ → Bool
has_bit bit b = b / bit % 2 == 1

abbrev pub is_convention : ℕ → Bool
is_convention b = nat_lt b 0x80 && is_kind (b % 0x10)

abbrev pub method_of : ℕ → Arity → TypeSig → List TypeSig × Sentinel × List ℕ → MethodSig
method_of b arity ret rest = record {
  kind = b % 0x10;
  this = has_bit 0x20 b;
  explicit = has_bit 0x40 b;
  arity = arity;
  ret = ret;
  params = rest.0;
  sentinel = rest.1;
}

-- a method's signature after its convention; a sentinel after the last parameter is not read here
abbrev pub convention_at : (List ℕ → Option (TypeSig × List ℕ)) → ℕ → List ℕ → Option (MethodSig × List ℕ)
convention_at ty b s =
    after_value (arity_at (has_bit 0x10 b) s) (λ arity r. after_value (compressed_at r) (λ n r.
    after_value (ty r) (λ ret r.
    option_map (λ x. (method_of b arity ret x, x.2)) (params_at ty 0 n r))))

abbrev pub method_at : (List ℕ → Option (TypeSig × List ℕ)) → List ℕ → Option (MethodSig × List ℕ)
method_at ty [] = None
method_at ty (b ∷ s) = if is_convention b then convention_at ty b s else None

abbrev pub array_at : (List ℕ → Option (TypeSig × List ℕ)) → List ℕ → Option (TypeSig × List ℕ)
array_at ty s =
    after_value (ty s) (λ elem r. after_value (compressed_at r) (λ rank r.
    after_value (counted_at compressed_at r) (λ sizes r.
    wrap (λ lows. Array elem rank sizes lows) (counted_at signed_at r))))

-- whether the byte is VALUETYPE, or CLASS
abbrev pub kind_at : List ℕ → Option (Bool × List ℕ)
kind_at [] = None
kind_at (b ∷ s) = if b == 0x11 then Some (true, s) else (if b == 0x12 then Some (false, s) else None)

abbrev pub inst_at : (List ℕ → Option (TypeSig × List ℕ)) → List ℕ → Option (TypeSig × List ℕ)
inst_at ty s =
    after_value (kind_at s) (λ value r. after_value (type_token_at r) (λ of r.
    wrap (λ args. Inst value of args) (counted_at ty r)))

abbrev pub mod_at : (List ℕ → Option (TypeSig × List ℕ)) → Bool → List ℕ → Option (TypeSig × List ℕ)
mod_at ty required s = after_value (type_token_at s) (λ of r. wrap (λ inner. Mod required of inner) (ty r))

-- a type after its first byte, where that is followed by one type alone
abbrev pub wrapped_at : (List ℕ → Option (TypeSig × List ℕ)) → ℕ → List ℕ → Option (TypeSig × List ℕ)
wrapped_at ty b s =
    if b == 0x0f then wrap Ptr (ty s) else (if b == 0x10 then wrap ByRef (ty s) else
    (if b == 0x1d then wrap SzArray (ty s) else (if b == 0x45 then wrap Pinned (ty s) else None)))

-- a type after its first byte, with its parts read by `ty`
unfoldable pub level_at : (List ℕ → Option (TypeSig × List ℕ)) → ℕ → List ℕ → Option (TypeSig × List ℕ)
level_at ty b s =
    if is_prim b then Some (Prim b, s) else (if b == 0x11 then wrap Value (type_token_at s) else
    (if b == 0x12 then wrap Class (type_token_at s) else (if b == 0x13 then wrap Var (compressed_at s) else
    (if b == 0x1e then wrap MVar (compressed_at s) else (if b == 0x14 then array_at ty s else
    (if b == 0x15 then inst_at ty s else (if b == 0x1b then wrap FnPtr (method_at ty s) else
    (if b == 0x1f then mod_at ty true s else (if b == 0x20 then mod_at ty false s else wrapped_at ty b s)))))))))

-- a type of at most that depth
unfoldable pub type_sig_at : ℕ → List ℕ → Option (TypeSig × List ℕ)
type_sig_at zero s = None
type_sig_at (suc depth) [] = None
type_sig_at (suc depth) (b ∷ s) = level_at (type_sig_at depth) b s
