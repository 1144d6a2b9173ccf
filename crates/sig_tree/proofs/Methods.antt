-- Method signatures: what is read is what is stripped.
use Rattle.std.proofs.Common.{◌≡◌, ℕ, ◌+◌, ◌*◌, ◌/◌, ◌%◌, ◌<◌, List, [], ◌∷◌, ◌++◌, Bool, true, false, cond, ◌&&◌, eqb, ltb, Option, Some, None, length, map, refl, sym, ap, subst, ◌∙◌, arith}
use Rattle.std.specs.Option.{option_map}
use Rattle.std.specs.List.{list_all}
use Rattle.std.proofs.lemmas.Bool.{eqb-true, eq-eqb}
use Rattle.std.proofs.lemmas.Bool.Decides.{nat_tests}
use Rattle.std.proofs.lemmas.List.Folds.{list_all-map}
use Rattle.cil_base.specs.inner.Reading.{compressed_at}
use Rattle.sig_tree.specs.declared.symbol.Symbol.TheVariants.{Byte, Number}
use Rattle.sig_tree.specs.Symbols.{strip_symbols}
use Rattle.sig_tree.specs.Spelling.{arity_symbols, generic_flag, flag, convention_byte, method_symbols, type_symbols}
use Rattle.sig_tree.specs.Bounds.{is_kind, has_place, type_fits, method_fits, method_within, within_level}
use Rattle.sig_tree.specs.Fronts.{after_value}
use Rattle.sig_tree.specs.Parsing.{has_bit, is_convention, arity_at, params_at, method_of, convention_at, method_at}
use Rattle.sig_tree.specs.declared.tree.Arity.{Arity}
use Rattle.sig_tree.specs.declared.tree.Arity.TheVariants.{Plain as not_generic, Generic}
use Rattle.sig_tree.specs.declared.tree.Sentinel.{Sentinel}
use Rattle.sig_tree.specs.declared.tree.Sentinel.TheVariants.{None as no_sentinel, Before}
use Rattle.sig_tree.specs.declared.tree.TypeSig.{TypeSig}
use Rattle.sig_tree.specs.declared.tree.MethodSig.{MethodSig}
use Rattle.sig_tree.specs.declared.tree.TypeSig.TheFolds.{fold_out-MethodSig}
use Rattle.sig_tree.proofs.Rows.{method_row, map_length}
use Rattle.sig_tree.proofs.Strips.{Exact, split, same_some, none_some, both, and, came, wrapped, goes, wraps, parts, follows, begin, begins_with}
use Rattle.sig_tree.proofs.Leaves.{mapped, number_exact}
use Rattle.sig_tree.proofs.Params.{Placed, rows, params_sound, params_full}

-- the row of a method, by its fields
pub row-is : (m : MethodSig) → method_symbols m ≡ Byte (convention_byte m.kind m.arity m.this m.explicit) ∷ (arity_symbols m.arity ++ (Number (length m.params) ∷ (type_symbols m.ret ++ rows m.sentinel 0 m.params)))
row-is m = method_row m

-- the bounds of a method, by its fields
pub fits-is : (m : MethodSig) (pointer : Bool) (d : ℕ) → method_fits m pointer d ≡ (is_kind m.kind && type_fits m.ret d && list_all (λ t. type_fits t d) m.params && has_place pointer (length m.params) m.sentinel)
fits-is m pointer d =
    ap (λ (f : Bool → ℕ → Bool). f pointer d) (fold_out-MethodSig (ℕ → Bool) (Bool → ℕ → Bool) within_level method_within m)
    ∙ ap (λ (b : Bool). is_kind m.kind && type_fits m.ret d && b && has_place pointer (length (map type_fits m.params)) m.sentinel) (list_all-map (λ (t : ℕ → Bool). t d) type_fits m.params)
    ∙ ap (λ (n : ℕ). is_kind m.kind && type_fits m.ret d && list_all (λ t. type_fits t d) m.params && has_place pointer n m.sentinel) (map_length type_fits m.params)

-- the four parts of a convention
record Bits (b kind g t e : ℕ) : Type 0 where
  low : b % 0x10 ≡ kind
  generic : b / 0x10 % 2 ≡ g
  this : b / 0x20 % 2 ≡ t
  explicit : b / 0x40 % 2 ≡ e
  small : b < 0x80

bits : (b kind g t e : ℕ) → kind < 0x10 → g < 2 → t < 2 → e < 2 → b ≡ kind + g * 0x10 + t * 0x20 + e * 0x40 → Bits b kind g t e
bits b kind g t e k h i j s = record { low = omega arith; generic = omega arith; this = omega arith; explicit = omega arith; small = omega arith }

abbrev bit_of : Bool → ℕ
bit_of is = cond is 1 0

abbrev is_generic : Arity → Bool
is_generic not_generic = false
is_generic (Generic n) = true

bit_small : (is : Bool) → bit_of is < 2
bit_small true = omega arith
bit_small false = omega arith

flag-is : (is : Bool) (bit : ℕ) → flag is bit ≡ bit_of is * bit
flag-is true bit = omega arith
flag-is false bit = omega arith

flag_generic : (arity : Arity) → generic_flag arity ≡ bit_of (is_generic arity) * 0x10
flag_generic not_generic = refl
flag_generic (Generic n) = refl

eqb_bit : (is : Bool) (n : ℕ) → n ≡ bit_of is → eqb n 1 ≡ is
eqb_bit true n h = eq-eqb n 1 h
eqb_bit false n h = ap (λ k. eqb k 1) h

bit_eqb : (n : ℕ) → n < 2 → n ≡ bit_of (eqb n 1)
bit_eqb n h =
    elim (eqb n 1) as (λ v. eqb n 1 ≡ v → n ≡ bit_of v) [
      | true ↦ λ e. eqb-true n 1 e
      | false ↦ λ e. grind (arith, nat_tests)
    ] refl

kind_small : (kind : ℕ) → is_kind kind ≡ true → kind < 0x10
kind_small kind h = grind (arith, nat_tests)

-- what the first byte of a method says
record Convention (b kind : ℕ) (arity : Arity) (this explicit : Bool) : Type 0 where
  low : b % 0x10 ≡ kind
  generic : has_bit 0x10 b ≡ is_generic arity
  this_bit : has_bit 0x20 b ≡ this
  explicit_bit : has_bit 0x40 b ≡ explicit
  small : b < 0x80

convention_read : (kind : ℕ) (arity : Arity) (this explicit : Bool) → is_kind kind ≡ true → Convention (convention_byte kind arity this explicit) kind arity this explicit
convention_read kind arity this explicit h =
    let b = convention_byte kind arity this explicit in
    let low = kind_small kind h in
    let generic = flag_generic arity in
    let second = flag-is this 0x20 in
    let third = flag-is explicit 0x40 in
    let sum : b ≡ kind + bit_of (is_generic arity) * 0x10 + bit_of this * 0x20 + bit_of explicit * 0x40 = omega arith in
    let p = bits b kind (bit_of (is_generic arity)) (bit_of this) (bit_of explicit) (kind_small kind h) (bit_small (is_generic arity)) (bit_small this) (bit_small explicit) sum in
    record {
      low = p.low;
      generic = eqb_bit (is_generic arity) (b / 0x10 % 2) p.generic;
      this_bit = eqb_bit this (b / 0x20 % 2) p.this;
      explicit_bit = eqb_bit explicit (b / 0x40 % 2) p.explicit;
      small = p.small;
    }

convention_again : (b : ℕ) (arity : Arity) → b < 0x80 → is_generic arity ≡ has_bit 0x10 b → convention_byte (b % 0x10) arity (has_bit 0x20 b) (has_bit 0x40 b) ≡ b
convention_again b arity h g =
    let first : b / 0x10 % 2 < 2 = omega arith in
    let second : b / 0x20 % 2 < 2 = omega arith in
    let third : b / 0x40 % 2 < 2 = omega arith in
    let generic : generic_flag arity ≡ b / 0x10 % 2 * 0x10 = flag_generic arity ∙ ap (λ v. bit_of v * 0x10) g ∙ ap (λ n. n * 0x10) (sym (bit_eqb (b / 0x10 % 2) first)) in
    let this : flag (has_bit 0x20 b) 0x20 ≡ b / 0x20 % 2 * 0x20 = flag-is (has_bit 0x20 b) 0x20 ∙ ap (λ n. n * 0x20) (sym (bit_eqb (b / 0x20 % 2) second)) in
    let explicit : flag (has_bit 0x40 b) 0x40 ≡ b / 0x40 % 2 * 0x40 = flag-is (has_bit 0x40 b) 0x40 ∙ ap (λ n. n * 0x40) (sym (bit_eqb (b / 0x40 % 2) third)) in
    omega arith

-- the arity that is read
record ArityFound (generic : Bool) (arity : Arity) (s r : List ℕ) : Type 0 where
  is : is_generic arity ≡ generic
  strips : strip_symbols (arity_symbols arity) s ≡ Some r

arity_sound : (generic : Bool) (arity : Arity) (s r : List ℕ) → arity_at generic s ≡ Some (arity, r) → ArityFound generic arity s r
arity_sound true arity s r h =
    let w = wrapped Generic (compressed_at s) arity r h in
    let p = number_exact.sound w.value s r w.first in
    subst (λ a. ArityFound true a s r) w.same (record { is = refl; strips = p.0 })
arity_sound false arity s r h =
    let e = same_some (not_generic, s) (arity, r) h in
    subst (λ (x : Arity × List ℕ). ArityFound false x.0 s x.1) e (record { is = refl; strips = refl })

arity_full : (arity : Arity) (s r : List ℕ) → strip_symbols (arity_symbols arity) s ≡ Some r → arity_at (is_generic arity) s ≡ Some (arity, r)
arity_full not_generic s r h = ap (λ s. Some (not_generic, s)) (same_some s r h)
arity_full (Generic n) s r h = wraps Generic (compressed_at s) n r (number_exact.full n s r h refl)

placed_fits : (n : ℕ) (sentinel : Sentinel) → Placed 0 n sentinel → has_place true n sentinel ≡ true
placed_fits n no_sentinel h = refl
placed_fits n (Before j) h = let high : j < 0 + n = h.1 in grind (arith, nat_tests)

fits_placed : (n : ℕ) (sentinel : Sentinel) → has_place true n sentinel ≡ true → Placed 0 n sentinel
fits_placed n no_sentinel h = tt
fits_placed n (Before j) h = (omega arith, grind (arith, nat_tests))

-- a method that was read
pub record MethodFound (d : ℕ) (m : MethodSig) (s r : List ℕ) : Type 0 where
  pub strips : strip_symbols (method_symbols m) s ≡ Some r
  pub fits : method_fits m true d ≡ true

abbrev Found : Type 0
Found = List TypeSig × Sentinel × List ℕ

abbrev ends : ℕ → Arity → TypeSig → Found → MethodSig × List ℕ
ends b arity ret x = (method_of b arity ret x, x.2)

convention_sound : (ty : List ℕ → Option (TypeSig × List ℕ)) (d : ℕ) → Exact TypeSig ty type_symbols (λ t. type_fits t d)
    → (b : ℕ) (m : MethodSig) (s r : List ℕ) → is_convention b ≡ true → convention_at ty b s ≡ Some (m, r) → MethodFound d m (b ∷ s) r
convention_sound ty d exact b m s r is h =
    let small = (both (ltb b 0x80) (is_kind (b % 0x10)) is).0 in
    let below : b < 0x80 = grind (arith, nat_tests) in
    let kind = (both (ltb b 0x80) (is_kind (b % 0x10)) is).1 in
    let a = came (arity_at (has_bit 0x10 b) s) (λ arity r. after_value (compressed_at r) (λ n r. after_value (ty r) (λ ret r. option_map (ends b arity ret) (params_at ty 0 n r)))) (m, r) h in
    let n = came (compressed_at a.rest) (λ n r. after_value (ty r) (λ ret r. option_map (ends b a.value ret) (params_at ty 0 n r))) (m, r) a.then in
    let t = came (ty n.rest) (λ ret r. option_map (ends b a.value ret) (params_at ty 0 n.value r)) (m, r) n.then in
    let x = mapped (ends b a.value t.value) (params_at ty 0 n.value t.rest) (m, r) t.then in
    let arity = arity_sound (has_bit 0x10 b) a.value s a.rest a.first in
    let count = number_exact.sound n.value a.rest n.rest n.first in
    let ret = exact.sound t.value n.rest t.rest t.first in
    let ps = params_sound ty (λ t. type_fits t d) exact n.value 0 x.value.0 x.value.1 t.rest x.value.2 x.first in
    let made = method_of b a.value t.value x.value in
    let last = follows (type_symbols t.value) (rows x.value.1 0 x.value.0) n.rest t.rest x.value.2 ret.0 ps.strips in
    let middle = follows (Number (length x.value.0) ∷ []) (type_symbols t.value ++ rows x.value.1 0 x.value.0) a.rest n.rest x.value.2
    (ap (λ k. strip_symbols (Number k ∷ []) a.rest) ps.count ∙ count.0) last in
    let all = follows (arity_symbols a.value) (Number (length x.value.0) ∷ (type_symbols t.value ++ rows x.value.1 0 x.value.0)) s a.rest x.value.2 arity.strips middle in
    let row = Number (length x.value.0) ∷ (type_symbols t.value ++ rows x.value.1 0 x.value.0) in
    subst (λ (y : MethodSig × List ℕ). MethodFound d y.0 (b ∷ s) y.1) x.same (record {
      strips = ap (λ ys. strip_symbols ys (b ∷ s)) (row-is made)
          ∙ ap (λ k. strip_symbols (Byte k ∷ (arity_symbols a.value ++ row)) (b ∷ s)) (convention_again b a.value below arity.is)
          ∙ begin b (arity_symbols a.value ++ row) s x.value.2 all;
      fits = fits-is made true d
          ∙ and (is_kind (b % 0x10) && type_fits t.value d && list_all (λ t. type_fits t d) x.value.0) (has_place true (length x.value.0) x.value.1)
          (and (is_kind (b % 0x10) && type_fits t.value d) (list_all (λ t. type_fits t d) x.value.0) (and (is_kind (b % 0x10)) (type_fits t.value d) kind ret.1) ps.pass)
          (placed_fits (length x.value.0) x.value.1 (subst (λ k. Placed 0 k x.value.1) (sym ps.count) ps.place));
    })

pub method_sound : (ty : List ℕ → Option (TypeSig × List ℕ)) (d : ℕ) → Exact TypeSig ty type_symbols (λ t. type_fits t d)
    → (m : MethodSig) (s r : List ℕ) → method_at ty s ≡ Some (m, r) → MethodFound d m s r
method_sound ty d exact m [] r h = none_some {A = MethodSig × List ℕ} {P = MethodFound d m [] r} (m, r) h
method_sound ty d exact m (b ∷ s) r h =
    split {P = MethodFound d m (b ∷ s) r} (is_convention b) (convention_at ty b s) None (Some (m, r)) h
    (λ e f. convention_sound ty d exact b m s r e f)
    (λ e f. none_some {A = MethodSig × List ℕ} {P = MethodFound d m (b ∷ s) r} (m, r) f)

-- the same, the other way
pub method_full : (ty : List ℕ → Option (TypeSig × List ℕ)) (d : ℕ) → Exact TypeSig ty type_symbols (λ t. type_fits t d) → ((s : List ℕ) → ty (0x41 ∷ s) ≡ None)
    → (m : MethodSig) (s r : List ℕ) → strip_symbols (method_symbols m) s ≡ Some r → method_fits m true d ≡ true → method_at ty s ≡ Some (m, r)
method_full ty d exact free m s r h k =
    let fit = sym (fits-is m true d) ∙ k in
    let f1 = both (is_kind m.kind && type_fits m.ret d && list_all (λ t. type_fits t d) m.params) (has_place true (length m.params) m.sentinel) fit in
    let f2 = both (is_kind m.kind && type_fits m.ret d) (list_all (λ t. type_fits t d) m.params) f1.0 in
    let f3 = both (is_kind m.kind) (type_fits m.ret d) f2.0 in
    let b = convention_byte m.kind m.arity m.this m.explicit in
    let row = Number (length m.params) ∷ (type_symbols m.ret ++ rows m.sentinel 0 m.params) in
    let p1 = begins_with b (arity_symbols m.arity ++ row) s r (sym (ap (λ ys. strip_symbols ys s) (row-is m)) ∙ h) in
    let p2 = parts (arity_symbols m.arity) row p1.rest r p1.then in
    let p3 = parts (Number (length m.params) ∷ []) (type_symbols m.ret ++ rows m.sentinel 0 m.params) p2.rest r p2.then in
    let p4 = parts (type_symbols m.ret) (rows m.sentinel 0 m.params) p3.rest r p3.then in
    let c = convention_read m.kind m.arity m.this m.explicit f3.0 in
    let low : b < 0x80 = c.small in
    let first = ap (λ (g : Bool). arity_at g p1.rest) c.generic ∙ arity_full m.arity p1.rest p2.rest p2.before in
    let count = number_exact.full (length m.params) p2.rest p3.rest p3.before refl in
    let ret = exact.full m.ret p3.rest p4.rest p4.before f3.1 in
    let ps = params_full ty (λ t. type_fits t d) exact free m.params 0 m.sentinel p4.rest r p4.then f2.1 (fits_placed (length m.params) m.sentinel f1.1) in
    let is : is_convention b ≡ true = and (ltb b 0x80) (is_kind (b % 0x10)) (grind (arith, nat_tests)) (ap is_kind c.low ∙ f3.0) in
    let made : method_of b m.arity m.ret (m.params, m.sentinel, r) ≡ m =
    ap (λ (kind : ℕ). let x : MethodSig = record { kind = kind; this = has_bit 0x20 b; explicit = has_bit 0x40 b; arity = m.arity; ret = m.ret; params = m.params; sentinel = m.sentinel } in x) c.low
    ∙ ap (λ (this : Bool). let x : MethodSig = record { kind = m.kind; this = this; explicit = has_bit 0x40 b; arity = m.arity; ret = m.ret; params = m.params; sentinel = m.sentinel } in x) c.this_bit
    ∙ ap (λ (explicit : Bool). let x : MethodSig = record { kind = m.kind; this = m.this; explicit = explicit; arity = m.arity; ret = m.ret; params = m.params; sentinel = m.sentinel } in x) c.explicit_bit in
    ap (method_at ty) p1.front
    ∙ ap (λ (v : Bool). cond {A = Option (MethodSig × List ℕ)} v (convention_at ty b p1.rest) None) is
    ∙ goes (arity_at (has_bit 0x10 b) p1.rest) (λ arity r. after_value (compressed_at r) (λ n r. after_value (ty r) (λ ret r. option_map (ends b arity ret) (params_at ty 0 n r)))) m.arity p2.rest first
    ∙ goes (compressed_at p2.rest) (λ n r. after_value (ty r) (λ ret r. option_map (ends b m.arity ret) (params_at ty 0 n r))) (length m.params) p3.rest count
    ∙ goes (ty p3.rest) (λ ret r. option_map (ends b m.arity ret) (params_at ty 0 (length m.params) r)) m.ret p4.rest ret
    ∙ ap (option_map (ends b m.arity m.ret)) ps
    ∙ ap (λ (x : MethodSig). Some (x, r)) made
