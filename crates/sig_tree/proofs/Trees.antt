-- Signatures of every sort: what is read is what is stripped, and nothing else.
use Rattle.std.proofs.Common.{◌≡◌, ℕ, suc, ◌+◌, ◌%◌, List, [], ◌∷◌, ◌++◌, Bool, true, false, cond, ◌&&◌, eqb, leb, ltb, Option, Some, None, length, map, refl, append_assoc, sym, ap, subst, ◌∙◌, arith}
use Rattle.std.specs.Option.{option_and_then}
use Rattle.std.specs.List.{list_all}
use Rattle.std.proofs.lemmas.Bool.{eqb-true, eq-eqb}
use Rattle.std.proofs.lemmas.Bool.Decides.{nat_tests}
use Rattle.std.proofs.lemmas.List.Folds.{list_all-map}
use Rattle.cil_base.specs.inner.Reading.{compressed_at}
use Rattle.sig_tree.specs.declared.symbol.Symbol.{Symbol}
use Rattle.sig_tree.specs.declared.symbol.Symbol.TheVariants.{Byte, Number}
use Rattle.sig_tree.specs.Symbols.{strip_symbols}
use Rattle.sig_tree.specs.Spelling.{arity_symbols, convention_byte, in_order, type_symbols, method_symbols, symbols, strip, with_sentinel, flag}
use Rattle.sig_tree.specs.Bounds.{is_kind, has_place, type_fits, method_fits, all_fit, sig_fits, IsBoundedSig, depth_limit}
use Rattle.sig_tree.specs.Reads.{is_plain, ReadsSig}
use Rattle.sig_tree.specs.Fronts.{after_value, wrap, many_at, counted_at}
use Rattle.sig_tree.specs.Parsing.{is_convention, method_at, convention_at, type_sig_at}
use Rattle.sig_tree.specs.TreeAt.{whole, last_sentinel, ends_method, property_at, sort_at, tree_at}
use Rattle.sig_tree.specs.declared.tree.Sentinel.{Sentinel}
use Rattle.sig_tree.specs.declared.tree.Sentinel.TheVariants.{None as no_sentinel, Before}
use Rattle.sig_tree.specs.declared.tree.TypeSig.{TypeSig}
use Rattle.sig_tree.specs.declared.tree.MethodSig.{MethodSig}
use Rattle.sig_tree.specs.declared.tree.SigTree.{SigTree}
use Rattle.sig_tree.specs.declared.tree.SigTree.TheVariants.{Method, Field, Locals, Property, Inst as MethodInst, Plain}
use Rattle.sig_tree.proofs.Strips.{split, same_some, none_some, both, and, came, wrapped, goes, wraps, parts, follows, begin, begins_with, many_sound, many_full}
use Rattle.sig_tree.proofs.Leaves.{number_exact}
use Rattle.sig_tree.proofs.Params.{rows, mark, not_at}
use Rattle.sig_tree.proofs.Methods.{row-is, fits-is, method_sound, method_full}
use Rattle.sig_tree.proofs.Levels.{type_exact, sentinel_none}
use Rattle.sig_tree.proofs.Counts.{types_exact}
use Rattle.sig_tree.proofs.Spellable.{strips_spellable}

-- the whole of the bytes
suc_not : (n : ℕ) → eqb (suc n) 0 ≡ false
suc_not n = grind (arith, nat_tests)

whole_pair : {A : Type 0} (x : A) (rest : List ℕ) (a : A) → cond {A = Option A} (eqb (length rest) 0) (Some x) None ≡ Some a → ◌≡◌ {A = Option (A × List ℕ)} (Some (x, rest)) (Some (a, []))
whole_pair x [] a h = ap (λ x. Some (x, [])) (same_some x a h)
whole_pair {A} x (b ∷ s) a h = none_some {A = A} {P = ◌≡◌ {A = Option (A × List ℕ)} (Some (x, b ∷ s)) (Some (a, []))} a (sym (ap (λ (v : Bool). cond {A = Option A} v (Some x) None) (suc_not (length s))) ∙ h)

whole_sound : {A : Type 0} (found : Option (A × List ℕ)) (a : A) → whole found ≡ Some a → found ≡ Some (a, [])
whole_sound {A} None a h = none_some {A = A} {P = ◌≡◌ {A = Option (A × List ℕ)} None (Some (a, []))} a h
whole_sound (Some x) a h = whole_pair x.0 x.1 a h

whole_full : {A : Type 0} (found : Option (A × List ℕ)) (a : A) → found ≡ Some (a, []) → whole found ≡ Some a
whole_full {A} found a h = ap (λ (o : Option (A × List ℕ)). whole {A = A} o) h

-- a signature that was read
record TreeFound (t : SigTree) (s : List ℕ) : Type 0 where
  strips : strip t s ≡ Some []
  fitting : sig_fits t ≡ true

abbrev limited : TypeSig → Bool
limited t = type_fits t depth_limit

all_fit-is : (ts : List TypeSig) → all_fit ts depth_limit ≡ list_all limited ts
all_fit-is ts = list_all-map (λ (t : ℕ → Bool). t depth_limit) type_fits ts

abbrev types_row : List TypeSig → List Symbol
types_row ts = Number (length ts) ∷ in_order (map type_symbols ts)

plain_sound : (s : List ℕ) (t : SigTree) → whole (wrap Plain (type_sig_at depth_limit s)) ≡ Some t → TreeFound t s × (is_plain t ≡ true)
plain_sound s t h =
    let w = wrapped Plain (type_sig_at depth_limit s) t [] (whole_sound (wrap Plain (type_sig_at depth_limit s)) t h) in
    let p = (type_exact depth_limit).sound w.value s [] w.first in
    subst (λ t. TreeFound t s × (is_plain t ≡ true)) w.same (record { strips = p.0; fitting = p.1 }, refl)

-- the sorts that are no type alone
abbrev OtherFound : SigTree → List ℕ → Type 0
OtherFound t s = TreeFound t s × (is_plain t ≡ false)

field_sound : (s : List ℕ) (t : SigTree) → whole (wrap Field (type_sig_at depth_limit s)) ≡ Some t → OtherFound t (0x06 ∷ s)
field_sound s t h =
    let w = wrapped Field (type_sig_at depth_limit s) t [] (whole_sound (wrap Field (type_sig_at depth_limit s)) t h) in
    let p = (type_exact depth_limit).sound w.value s [] w.first in
    subst (λ t. OtherFound t (0x06 ∷ s)) w.same (record { strips = begin 0x06 (type_symbols w.value) s [] p.0; fitting = p.1 }, refl)

list_sound : (b : ℕ) (f : List TypeSig → SigTree) → ((ts : List TypeSig) → symbols (f ts) ≡ Byte b ∷ types_row ts) → ((ts : List TypeSig) → sig_fits (f ts) ≡ all_fit ts depth_limit) → ((ts : List TypeSig) → is_plain (f ts) ≡ false)
    → (s : List ℕ) (t : SigTree) → whole (wrap f (counted_at (type_sig_at depth_limit) s)) ≡ Some t → OtherFound t (b ∷ s)
list_sound b f row fit sort s t h =
    let w = wrapped f (counted_at (type_sig_at depth_limit) s) t [] (whole_sound (wrap f (counted_at (type_sig_at depth_limit) s)) t h) in
    let p = (types_exact (type_sig_at depth_limit) limited (type_exact depth_limit)).sound w.value s [] w.first in
    subst (λ t. OtherFound t (b ∷ s)) w.same (
      record {
        strips = ap (λ ys. strip_symbols ys (b ∷ s)) (row w.value) ∙ begin b (types_row w.value) s [] p.0;
        fitting = fit w.value ∙ all_fit-is w.value ∙ p.1;
      },
      sort w.value,
    )

list_full : (b : ℕ) (f : List TypeSig → SigTree) → ((ts : List TypeSig) → symbols (f ts) ≡ Byte b ∷ types_row ts) → ((ts : List TypeSig) → sig_fits (f ts) ≡ all_fit ts depth_limit)
    → ((s : List ℕ) → tree_at false (b ∷ s) ≡ whole (wrap f (counted_at (type_sig_at depth_limit) s)))
    → (ts : List TypeSig) (s : List ℕ) → strip (f ts) s ≡ Some [] → sig_fits (f ts) ≡ true → tree_at false s ≡ Some (f ts)
list_full b f row fit step ts s h k =
    let p = begins_with b (types_row ts) s [] (sym (ap (λ ys. strip_symbols ys s) (row ts)) ∙ h) in
    ap (tree_at false) p.front ∙ step p.rest
    ∙ whole_full (wrap f (counted_at (type_sig_at depth_limit) p.rest)) (f ts)
    (wraps f (counted_at (type_sig_at depth_limit) p.rest) ts [] ((types_exact (type_sig_at depth_limit) limited (type_exact depth_limit)).full ts p.rest [] p.then (sym (fit ts ∙ all_fit-is ts) ∙ k)))

abbrev property_row : TypeSig → List TypeSig → List Symbol
property_row t params = type_symbols t ++ in_order (map type_symbols params)

property_sound : (this : Bool) (s : List ℕ) (t : SigTree) → whole (property_at this s) ≡ Some t → OtherFound t ((0x08 + flag this 0x20) ∷ s)
property_sound this s t h =
    let b = 0x08 + flag this 0x20 in
    let a = came (compressed_at s) (λ n r. after_value (type_sig_at depth_limit r) (λ t r. wrap (λ params. Property this t params) (many_at (type_sig_at depth_limit) n r))) (t, []) (whole_sound (property_at this s) t h) in
    let c = came (type_sig_at depth_limit a.rest) (λ t r. wrap (λ params. Property this t params) (many_at (type_sig_at depth_limit) a.value r)) (t, []) a.then in
    let w = wrapped (λ params. Property this c.value params) (many_at (type_sig_at depth_limit) a.value c.rest) t [] c.then in
    let n = number_exact.sound a.value s a.rest a.first in
    let ty = (type_exact depth_limit).sound c.value a.rest c.rest c.first in
    let ps = many_sound (type_sig_at depth_limit) type_symbols limited (type_exact depth_limit) a.value w.value c.rest [] w.first in
    subst (λ t. OtherFound t (b ∷ s)) w.same (
      record {
        strips = begin b (Number (length w.value) ∷ property_row c.value w.value) s []
            (ap (λ k. strip_symbols (Number k ∷ property_row c.value w.value) s) ps.count
            ∙ follows (Number a.value ∷ []) (property_row c.value w.value) s a.rest [] n.0 (follows (type_symbols c.value) (in_order (map type_symbols w.value)) a.rest c.rest [] ty.0 ps.strips));
        fitting = and (limited c.value) (all_fit w.value depth_limit) ty.1 (all_fit-is w.value ∙ ps.pass);
      },
      refl,
    )

property_full : (this : Bool) → ((s : List ℕ) → tree_at false ((0x08 + flag this 0x20) ∷ s) ≡ whole (property_at this s)) → (t : TypeSig) (params : List TypeSig) (s : List ℕ)
    → strip (Property this t params) s ≡ Some [] → sig_fits (Property this t params) ≡ true → tree_at false s ≡ Some (Property this t params)
property_full this step t params s h k =
    let b = begins_with (0x08 + flag this 0x20) (Number (length params) ∷ property_row t params) s [] h in
    let p = parts (Number (length params) ∷ []) (property_row t params) b.rest [] b.then in
    let q = parts (type_symbols t) (in_order (map type_symbols params)) p.rest [] p.then in
    let f = both (limited t) (all_fit params depth_limit) k in
    ap (tree_at false) b.front ∙ step b.rest
    ∙ whole_full (property_at this b.rest) (Property this t params)
    (goes (compressed_at b.rest) (λ n r. after_value (type_sig_at depth_limit r) (λ t r. wrap (λ params. Property this t params) (many_at (type_sig_at depth_limit) n r))) (length params) p.rest (number_exact.full (length params) b.rest p.rest p.before refl)
    ∙ goes (type_sig_at depth_limit p.rest) (λ t r. wrap (λ params. Property this t params) (many_at (type_sig_at depth_limit) (length params) r)) t q.rest ((type_exact depth_limit).full t p.rest q.rest q.before f.0)
    ∙ wraps (λ params. Property this t params) (many_at (type_sig_at depth_limit) (length params) q.rest) params [] (many_full (type_sig_at depth_limit) type_symbols limited (type_exact depth_limit) params q.rest [] q.then (sym (all_fit-is params) ∙ f.1)))

-- a method with a sentinel after its last parameter
abbrev ended : MethodSig → MethodSig
ended m = record { kind = m.kind; this = m.this; explicit = m.explicit; arity = m.arity; ret = m.ret; params = m.params; sentinel = Before (length m.params) }

abbrev bare : MethodSig → MethodSig
bare m = record { kind = m.kind; this = m.this; explicit = m.explicit; arity = m.arity; ret = m.ret; params = m.params; sentinel = no_sentinel }

rows_end : (at j : ℕ) (ts : List TypeSig) → j ≡ at + length ts → rows (Before j) at ts ≡ rows no_sentinel at ts ++ mark
rows_end at j [] h =
    let same : j ≡ at = omega (arith, h) in
    ap (λ (b : Bool). in_order (cond {A = List (List Symbol)} b (mark ∷ []) [])) (eq-eqb j at same)
rows_end at j (t ∷ ts) h =
    let next : j ≡ at + 1 + length ts = omega (arith, h) in
    ap (λ ys. in_order (ys ++ type_symbols t ∷ with_sentinel (Before j) mark (at + 1) (map type_symbols ts))) (not_at j at (λ e. absurd (omega (arith, e, next))))
    ∙ ap (λ ys. type_symbols t ++ ys) (rows_end (at + 1) j ts next)
    ∙ sym (append_assoc (type_symbols t) (rows no_sentinel (at + 1) ts) mark)

-- the same method, field by field, with another row of parameters
abbrev row_with : MethodSig → List Symbol → List Symbol
row_with m params = Byte (convention_byte m.kind m.arity m.this m.explicit) ∷ (arity_symbols m.arity ++ (Number (length m.params) ∷ (type_symbols m.ret ++ params)))

row_more : (m : MethodSig) (params more : List Symbol) → row_with m (params ++ more) ≡ row_with m params ++ more
row_more m params more =
    ap (λ ys. Byte (convention_byte m.kind m.arity m.this m.explicit) ∷ ys)
    (ap (λ ys. arity_symbols m.arity ++ (Number (length m.params) ∷ ys)) (sym (append_assoc (type_symbols m.ret) params more))
    ∙ sym (append_assoc (arity_symbols m.arity) (Number (length m.params) ∷ (type_symbols m.ret ++ params)) more))

ended_row : (m : MethodSig) → method_symbols (ended m) ≡ method_symbols (bare m) ++ mark
ended_row m =
    row-is (ended m)
    ∙ ap (row_with m) (rows_end 0 (length m.params) m.params (omega arith))
    ∙ row_more m (rows no_sentinel 0 m.params) mark
    ∙ ap (λ ys. ys ++ mark) (sym (row-is (bare m)))

-- the bounds of all but the sentinel
abbrev within : MethodSig → Bool
within m = is_kind m.kind && limited m.ret && list_all limited m.params

fits_with : (m : MethodSig) (pointer : Bool) → within m ≡ true → has_place pointer (length m.params) m.sentinel ≡ true → method_fits m pointer depth_limit ≡ true
fits_with m pointer h k = fits-is m pointer depth_limit ∙ and (within m) (has_place pointer (length m.params) m.sentinel) h k

fit_parts : (m : MethodSig) (pointer : Bool) → method_fits m pointer depth_limit ≡ true → (within m ≡ true) × (has_place pointer (length m.params) m.sentinel ≡ true)
fit_parts m pointer h = both (within m) (has_place pointer (length m.params) m.sentinel) (sym (fits-is m pointer depth_limit) ∙ h)

place_wider : (n : ℕ) (sentinel : Sentinel) → has_place true n sentinel ≡ true → has_place false n sentinel ≡ true
place_wider n no_sentinel h = refl
place_wider n (Before j) h = grind (arith, nat_tests)

place_end : (n : ℕ) → leb n n ≡ true
place_end n = grind (arith, nat_tests)

ended_found : (m : MethodSig) (s : List ℕ) → m.sentinel ≡ no_sentinel → method_at (type_sig_at depth_limit) s ≡ Some (m, 0x41 ∷ []) → OtherFound (Method (ended m)) s
ended_found m s e h =
    let p = method_sound (type_sig_at depth_limit) depth_limit (type_exact depth_limit) m s (0x41 ∷ []) h in
    let f = fit_parts m true p.fits in
    let same : method_symbols (bare m) ≡ method_symbols m =
    row-is (bare m) ∙ ap (λ (x : Sentinel). row_with m (rows x 0 m.params)) (sym e) ∙ sym (row-is m) in (
      record {
        strips = ap (λ ys. strip_symbols ys s) (ended_row m)
            ∙ follows (method_symbols (bare m)) mark s (0x41 ∷ []) [] (ap (λ ys. strip_symbols ys s) same ∙ p.strips) (begin 0x41 [] [] [] refl);
        fitting = fits_with (ended m) false f.0 (place_end (length m.params));
      },
      refl,
    )

last_found : (m : MethodSig) (sentinel : Sentinel) (s : List ℕ) (t : SigTree) → m.sentinel ≡ sentinel → method_at (type_sig_at depth_limit) s ≡ Some (m, 0x41 ∷ []) → last_sentinel m sentinel ≡ Some t → OtherFound t s
last_found m no_sentinel s t e found h = subst (λ t. OtherFound t s) (same_some (Method (ended m)) t h) (ended_found m s e found)
last_found m (Before n) s t e found h = none_some {A = SigTree} {P = OtherFound t s} t h

nothing : (s : List ℕ) → eqb (length s) 0 ≡ true → s ≡ []
nothing [] h = refl
nothing (x ∷ s) h = let no = suc_not (length s) in absurd cc

ends_found : (m : MethodSig) (r s : List ℕ) (t : SigTree) → method_at (type_sig_at depth_limit) s ≡ Some (m, r) → ends_method (m, r) ≡ Some t → OtherFound t s
ends_found m [] s t found h =
    let p = method_sound (type_sig_at depth_limit) depth_limit (type_exact depth_limit) m s [] found in
    let f = fit_parts m true p.fits in
    subst (λ t. OtherFound t s) (same_some (Method m) t h) (record { strips = p.strips; fitting = fits_with m false f.0 (place_wider (length m.params) m.sentinel f.1) }, refl)
ends_found m (b ∷ r) s t found h =
    split {P = OtherFound t s} (eqb b 0x41 && eqb (length r) 0) (last_sentinel m m.sentinel) None (Some t) h
    (λ e f.
    let q = both (eqb b 0x41) (eqb (length r) 0) e in
    let end : b ∷ r ≡ 0x41 ∷ [] = ap (λ k. k ∷ r) (eqb-true b 0x41 q.0) ∙ ap (λ s. 0x41 ∷ s) (nothing r q.1) in
    last_found m m.sentinel s t refl (found ∙ ap (λ r. Some (m, r)) end) f)
    (λ e f. none_some {A = SigTree} {P = OtherFound t s} t f)

method_found : (found : Option (MethodSig × List ℕ)) (s : List ℕ) (t : SigTree) → method_at (type_sig_at depth_limit) s ≡ found → option_and_then {T = MethodSig × List ℕ} {U = SigTree} ends_method found ≡ Some t → OtherFound t s
method_found None s t e h = none_some {A = SigTree} {P = OtherFound t s} t h
method_found (Some x) s t e h = ends_found x.0 x.1 s t e h

-- the other way
method_inner : (m : MethodSig) (s : List ℕ) → strip_symbols (method_symbols m) s ≡ Some [] → method_fits m true depth_limit ≡ true
    → option_and_then {T = MethodSig × List ℕ} {U = SigTree} ends_method (method_at (type_sig_at depth_limit) s) ≡ Some (Method m)
method_inner m s h k = ap (option_and_then {T = MethodSig × List ℕ} {U = SigTree} ends_method) (method_full (type_sig_at depth_limit) depth_limit (type_exact depth_limit) (sentinel_none depth_limit) m s [] h k)

method_end : (m : MethodSig) (s : List ℕ) → strip_symbols (method_symbols (ended m)) s ≡ Some [] → within m ≡ true
    → option_and_then {T = MethodSig × List ℕ} {U = SigTree} ends_method (method_at (type_sig_at depth_limit) s) ≡ Some (Method (ended m))
method_end m s h k =
    let p = parts (method_symbols (bare m)) mark s [] (sym (ap (λ ys. strip_symbols ys s) (ended_row m)) ∙ h) in
    let b = begins_with 0x41 [] p.rest [] p.then in
    let rest : p.rest ≡ 0x41 ∷ [] = b.front ∙ ap (λ s. 0x41 ∷ s) (same_some b.rest [] b.then) in
    let found = method_full (type_sig_at depth_limit) depth_limit (type_exact depth_limit) (sentinel_none depth_limit) (bare m) s p.rest p.before (fits_with (bare m) true k refl) in
    ap (option_and_then {T = MethodSig × List ℕ} {U = SigTree} ends_method) (found ∙ ap (λ r. Some (bare m, r)) rest)

method_choice : (m : MethodSig) (sentinel : Sentinel) (s : List ℕ) → m.sentinel ≡ sentinel → strip_symbols (method_symbols m) s ≡ Some [] → within m ≡ true → has_place false (length m.params) sentinel ≡ true
    → option_and_then {T = MethodSig × List ℕ} {U = SigTree} ends_method (method_at (type_sig_at depth_limit) s) ≡ Some (Method m)
method_choice m no_sentinel s e h k place = method_inner m s h (fits_with m true k (ap (has_place true (length m.params)) e))
method_choice m (Before n) s e h k place =
    elim (ltb n (length m.params)) as (λ v. ltb n (length m.params) ≡ v → option_and_then {T = MethodSig × List ℕ} {U = SigTree} ends_method (method_at (type_sig_at depth_limit) s) ≡ Some (Method m)) [
      | true ↦ λ low. method_inner m s h (fits_with m true k (ap (has_place true (length m.params)) e ∙ low))
      | false ↦ λ high.
          let end : n ≡ length m.params = grind (arith, nat_tests) in
          let same : ended m ≡ m = ap (λ (x : Sentinel). let y : MethodSig = record { kind = m.kind; this = m.this; explicit = m.explicit; arity = m.arity; ret = m.ret; params = m.params; sentinel = x } in y) (ap Before (sym end) ∙ sym e) in
          method_end m s (ap (λ (y : MethodSig). strip_symbols (method_symbols y) s) same ∙ h) k ∙ ap (λ (y : MethodSig). Some (Method y)) same
    ] refl

not_sort : (b n : ℕ) → is_kind (b % 0x10) ≡ true → is_kind (n % 0x10) ≡ false → eqb b n ≡ false
not_sort b n h k = elim (eqb b n) as (λ v. eqb b n ≡ v → v ≡ false) [ true ↦ λ e. let same = ap (λ x. is_kind (x % 0x10)) (eqb-true b n e) in absurd cc | false ↦ λ e. refl ] refl

kind_of : (b : ℕ) (s : List ℕ) (t : SigTree) → option_and_then {T = MethodSig × List ℕ} {U = SigTree} ends_method (method_at (type_sig_at depth_limit) (b ∷ s)) ≡ Some t → is_kind (b % 0x10) ≡ true
kind_of b s t h =
    elim (is_convention b) as (λ v. is_convention b ≡ v → is_kind (b % 0x10) ≡ true) [
      | true ↦ λ e. (both (ltb b 0x80) (is_kind (b % 0x10)) e).1
      | false ↦ λ e. none_some {A = SigTree} {P = is_kind (b % 0x10) ≡ true} t
          (sym (ap (λ (v : Bool). option_and_then {T = MethodSig × List ℕ} {U = SigTree} ends_method (cond {A = Option (MethodSig × List ℕ)} v (convention_at (type_sig_at depth_limit) b s) None)) e) ∙ h)
    ] refl

sort_step : (b : ℕ) (s : List ℕ) → is_kind (b % 0x10) ≡ true → tree_at false (b ∷ s) ≡ option_and_then {T = MethodSig × List ℕ} {U = SigTree} ends_method (method_at (type_sig_at depth_limit) (b ∷ s))
unfolding tree_at sort_at
sort_step b s h =
    let a = not_sort b 0x06 h refl in
    let c = not_sort b 0x07 h refl in
    let d = not_sort b 0x08 h refl in
    let e = not_sort b 0x28 h refl in
    let f = not_sort b 0x0a h refl in
    rw (a, c, d, e, f)

method_whole : (m : MethodSig) (s : List ℕ) → option_and_then {T = MethodSig × List ℕ} {U = SigTree} ends_method (method_at (type_sig_at depth_limit) s) ≡ Some (Method m) → tree_at false s ≡ Some (Method m)
method_whole m [] h = none_some {A = SigTree} {P = tree_at false [] ≡ Some (Method m)} (Method m) h
method_whole m (b ∷ s) h = sort_step b s (kind_of b s (Method m) h) ∙ h

other_byte : (b n : ℕ) (t : SigTree) (s : List ℕ) → eqb b n ≡ true → OtherFound t (n ∷ s) → OtherFound t (b ∷ s)
other_byte b n t s e h = subst (λ k. OtherFound t (k ∷ s)) (sym (eqb-true b n e)) h

sort_sound : (b : ℕ) (s : List ℕ) (t : SigTree) → sort_at b s ≡ Some t → OtherFound t (b ∷ s)
unfolding sort_at
sort_sound b s t h =
    let none : Option SigTree = option_and_then {T = MethodSig × List ℕ} {U = SigTree} ends_method (method_at (type_sig_at depth_limit) (b ∷ s)) in
    let s4 = cond (eqb b 0x0a) (whole (wrap MethodInst (counted_at (type_sig_at depth_limit) s))) none in
    let s3 = cond (eqb b 0x28) (whole (property_at true s)) s4 in
    let s2 = cond (eqb b 0x08) (whole (property_at false s)) s3 in
    let s1 = cond (eqb b 0x07) (whole (wrap Locals (counted_at (type_sig_at depth_limit) s))) s2 in
    split {P = OtherFound t (b ∷ s)} (eqb b 0x06) (whole (wrap Field (type_sig_at depth_limit s))) s1 (Some t) h (λ e f. other_byte b 0x06 t s e (field_sound s t f))
    (λ e f. split {P = OtherFound t (b ∷ s)} (eqb b 0x07) (whole (wrap Locals (counted_at (type_sig_at depth_limit) s))) s2 (Some t) f (λ e f. other_byte b 0x07 t s e (list_sound 0x07 Locals (λ ts. refl) (λ ts. refl) (λ ts. refl) s t f))
    (λ e f. split {P = OtherFound t (b ∷ s)} (eqb b 0x08) (whole (property_at false s)) s3 (Some t) f (λ e f. other_byte b 0x08 t s e (property_sound false s t f))
    (λ e f. split {P = OtherFound t (b ∷ s)} (eqb b 0x28) (whole (property_at true s)) s4 (Some t) f (λ e f. other_byte b 0x28 t s e (property_sound true s t f))
    (λ e f. split {P = OtherFound t (b ∷ s)} (eqb b 0x0a) (whole (wrap MethodInst (counted_at (type_sig_at depth_limit) s))) none (Some t) f (λ e f. other_byte b 0x0a t s e (list_sound 0x0a MethodInst (λ ts. refl) (λ ts. refl) (λ ts. refl) s t f))
    (λ e f. method_found (method_at (type_sig_at depth_limit) (b ∷ s)) (b ∷ s) t refl f)))))

tree_sound : (plain : Bool) (s : List ℕ) (t : SigTree) → tree_at plain s ≡ Some t → TreeFound t s × (is_plain t ≡ plain)
unfolding tree_at
tree_sound true s t h = plain_sound s t h
tree_sound false [] t h = none_some {A = SigTree} {P = TreeFound t [] × (is_plain t ≡ false)} t h
tree_sound false (b ∷ s) t h = sort_sound b s t h

step-list : (s : List ℕ) → (tree_at false (0x07 ∷ s) ≡ whole (wrap Locals (counted_at (type_sig_at depth_limit) s))) × (tree_at false (0x0a ∷ s) ≡ whole (wrap MethodInst (counted_at (type_sig_at depth_limit) s)))
unfolding tree_at sort_at
step-list s = (refl, refl)

step-property : (this : Bool) (s : List ℕ) → tree_at false ((0x08 + flag this 0x20) ∷ s) ≡ whole (property_at this s)
unfolding tree_at sort_at
step-property true s = refl
step-property false s = refl

field_full : (t : TypeSig) (s : List ℕ) → strip (Field t) s ≡ Some [] → sig_fits (Field t) ≡ true → tree_at false s ≡ Some (Field t)
unfolding tree_at sort_at
field_full t s h k =
    let b = begins_with 0x06 (type_symbols t) s [] h in
    ap (tree_at false) b.front
    ∙ whole_full (wrap Field (type_sig_at depth_limit b.rest)) (Field t) (wraps Field (type_sig_at depth_limit b.rest) t [] ((type_exact depth_limit).full t b.rest [] b.then k))

plain_full : (t : TypeSig) (s : List ℕ) → strip (Plain t) s ≡ Some [] → sig_fits (Plain t) ≡ true → tree_at true s ≡ Some (Plain t)
unfolding tree_at
plain_full t s h k = whole_full (wrap Plain (type_sig_at depth_limit s)) (Plain t) (wraps Plain (type_sig_at depth_limit s) t [] ((type_exact depth_limit).full t s [] h k))

other_full : (t : SigTree) (s : List ℕ) → strip t s ≡ Some [] → sig_fits t ≡ true → is_plain t ≡ false → tree_at false s ≡ Some t
other_full (Method m) s h k sort = let f = fit_parts m false k in method_whole m s (method_choice m m.sentinel s refl h f.0 f.1)
other_full (Field t) s h k sort = field_full t s h k
other_full (Locals ts) s h k sort = list_full 0x07 Locals (λ ts. refl) (λ ts. refl) (λ s. (step-list s).0) ts s h k
other_full (Property this t params) s h k sort = property_full this (step-property this) t params s h k
other_full (MethodInst args) s h k sort = list_full 0x0a MethodInst (λ ts. refl) (λ ts. refl) (λ s. (step-list s).1) args s h k
other_full (Plain t) s h k sort = absurd cc

alone_full : (t : SigTree) (s : List ℕ) → strip t s ≡ Some [] → sig_fits t ≡ true → is_plain t ≡ true → tree_at true s ≡ Some t
alone_full (Method m) s h k sort = absurd cc
alone_full (Field t) s h k sort = absurd cc
alone_full (Locals ts) s h k sort = absurd cc
alone_full (Property this t params) s h k sort = absurd cc
alone_full (MethodInst args) s h k sort = absurd cc
alone_full (Plain t) s h k sort = plain_full t s h k

pub tree_full : (plain : Bool) (s : List ℕ) (t : SigTree) → ReadsSig plain t s → tree_at plain s ≡ Some t
tree_full true s t h = alone_full t s h.whole h.bounded.fitting h.sort
tree_full false s t h = other_full t s h.whole h.bounded.fitting h.sort

pub tree_reads : (plain : Bool) (s : List ℕ) (t : SigTree) → tree_at plain s ≡ Some t → ReadsSig plain t s
tree_reads plain s t h =
    let p = tree_sound plain s t h in
    record { whole = p.0.strips; bounded = record { fitting = p.0.fitting; spellable = strips_spellable (symbols t) s [] p.0.strips }; sort = p.1 }

pub one_reading : (plain : Bool) (a b : SigTree) (s : List ℕ) → ReadsSig plain a s → ReadsSig plain b s → a ≡ b
one_reading plain a b s h k = same_some a b (sym (tree_full plain s a h) ∙ tree_full plain s b k)

pub tree_bounded : (plain : Bool) (s : List ℕ) (t : SigTree) → tree_at plain s ≡ Some t → IsBoundedSig t
tree_bounded plain s t h = (tree_reads plain s t h).bounded
