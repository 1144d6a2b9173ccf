-- Parameters with a sentinel before one of them: what is read is what is stripped.
use Rattle.std.proofs.Common.{◌≡◌, ◌≢◌, ℕ, suc, zero, ◌+◌, ◌<◌, ◌≤◌, List, [], ◌∷◌, ◌++◌, Bool, true, false, cond, eqb, Option, Some, None, length, map, drop, refl, sym, ap, subst, ◌∙◌, arith}
use Rattle.std.specs.Option.{option_map}
use Rattle.std.specs.List.{list_all}
use Rattle.std.proofs.lemmas.Bool.{eqb-true, eq-eqb}
use Rattle.sig_tree.specs.declared.symbol.Symbol.{Symbol}
use Rattle.sig_tree.specs.declared.symbol.Symbol.TheVariants.{Byte}
use Rattle.sig_tree.specs.Symbols.{strip_symbols}
use Rattle.sig_tree.specs.Spelling.{in_order, sentinel_at, with_sentinel, type_symbols}
use Rattle.sig_tree.specs.Fronts.{after_value, many_at}
use Rattle.sig_tree.specs.Parsing.{begins, params_at}
use Rattle.sig_tree.specs.declared.tree.Sentinel.{Sentinel}
use Rattle.sig_tree.specs.declared.tree.Sentinel.TheVariants.{None as no_sentinel, Before}
use Rattle.sig_tree.specs.declared.tree.TypeSig.{TypeSig}
use Rattle.sig_tree.proofs.Strips.{Exact, split, same_some, none_some, both, and, came, goes, parts, follows, begin, begins_with, many_sound, many_full}
use Rattle.sig_tree.proofs.Leaves.{mapped}

abbrev pub mark : List Symbol
mark = Byte 0x41 ∷ []

-- the sentinel stands before one of so many parameters from that number on, if at all
abbrev pub Placed : ℕ → ℕ → Sentinel → Type 0
Placed at n no_sentinel = Unit {0}
Placed at n (Before j) = (at ≤ j) × (j < at + n)

abbrev pub rows : Sentinel → ℕ → List TypeSig → List Symbol
rows sentinel at ts = in_order (with_sentinel sentinel mark at (map type_symbols ts))

pub eqb_not : (a b : ℕ) → a ≢ b → eqb a b ≡ false
eqb_not a b h = elim (eqb a b) as (λ v. eqb a b ≡ v → v ≡ false) [ true ↦ λ e. absurd (h (eqb-true a b e)) | false ↦ λ e. refl ] refl

pub not_at : (j at : ℕ) → j ≢ at → sentinel_at (Before j) at mark ≡ []
not_at j at h = ap (λ (b : Bool). cond {A = List (List Symbol)} b (mark ∷ []) []) (eqb_not j at h)

-- a sentinel whose number has passed stands nowhere
passed : (j at : ℕ) (xs : List (List Symbol)) → j < at → with_sentinel (Before j) mark at xs ≡ xs
passed j at [] h = not_at j at (λ e. absurd (omega (arith, e)))
passed j at (x ∷ xs) h =
    let later : j < at + 1 = omega arith in
    ap (λ ys. ys ++ x ∷ with_sentinel (Before j) mark (at + 1) xs) (not_at j at (λ e. absurd (omega (arith, e)))) ∙ ap (λ ys. x ∷ ys) (passed j (at + 1) xs later)

-- the sentinel that stands before the first
here : (at : ℕ) (t : TypeSig) (ts : List TypeSig) → rows (Before at) at (t ∷ ts) ≡ Byte 0x41 ∷ in_order (map type_symbols (t ∷ ts))
here at t ts =
    let later : at < at + 1 = omega arith in
    ap (λ (b : Bool). in_order (cond {A = List (List Symbol)} b (mark ∷ []) [] ++ type_symbols t ∷ with_sentinel (Before at) mark (at + 1) (map type_symbols ts))) (eq-eqb at at refl)
    ∙ ap (λ xs. Byte 0x41 ∷ in_order (type_symbols t ∷ xs)) (passed at (at + 1) (map type_symbols ts) later)

-- no sentinel stands before the first
later_rows : (sentinel : Sentinel) (at n : ℕ) (t : TypeSig) (ts : List TypeSig) → Placed (at + 1) n sentinel → rows sentinel at (t ∷ ts) ≡ type_symbols t ++ rows sentinel (at + 1) ts
later_rows no_sentinel at n t ts h = refl
later_rows (Before j) at n t ts h =
    let above : at + 1 ≤ j = h.0 in
    ap (λ ys. in_order (ys ++ type_symbols t ∷ with_sentinel (Before j) mark (at + 1) (map type_symbols ts))) (not_at j at (λ e. absurd (omega (arith, e))))

begins_front : (b : ℕ) (s : List ℕ) → begins b s ≡ true → s ≡ b ∷ drop 1 s
begins_front b [] h = absurd cc
begins_front b (x ∷ s) h = ap (λ v. v ∷ s) (eqb-true x b h)

pub record ParamsFound (test : TypeSig → Bool) (n at : ℕ) (ts : List TypeSig) (sentinel : Sentinel) (s r : List ℕ) : Type 0 where
  pub count : length ts ≡ n
  pub strips : strip_symbols (rows sentinel at ts) s ≡ Some r
  pub pass : list_all test ts ≡ true
  pub place : Placed at n sentinel

weaker : (at n : ℕ) (sentinel : Sentinel) → Placed (at + 1) n sentinel → Placed at (suc n) sentinel
weaker at n no_sentinel h = tt
weaker at n (Before j) h = let low : at + 1 ≤ j = h.0 in let high : j < at + 1 + n = h.1 in (omega arith, omega arith)

-- the last of the parts: a row whose sentinel comes first
first_found : (test : TypeSig → Bool) (n at : ℕ) (ts : List TypeSig) (s r : List ℕ) → length ts ≡ suc n → strip_symbols (in_order (map type_symbols ts)) (drop 1 s) ≡ Some r → list_all test ts ≡ true → begins 0x41 s ≡ true → ParamsFound test (suc n) at ts (Before at) s r
first_found test n at [] s r h k p b = absurd (omega (arith, h))
first_found test n at (t ∷ ts) s r h k p b = record {
  count = h;
  strips = ap (λ xs. strip_symbols xs s) (here at t ts)
      ∙ ap (strip_symbols (Byte 0x41 ∷ in_order (map type_symbols (t ∷ ts)))) (begins_front 0x41 s b)
      ∙ begin 0x41 (in_order (map type_symbols (t ∷ ts))) (drop 1 s) r k;
  pass = p;
  place = (omega arith, omega arith);
}

pub params_sound : (ty : List ℕ → Option (TypeSig × List ℕ)) (test : TypeSig → Bool) → Exact TypeSig ty type_symbols test
    → (n at : ℕ) (ts : List TypeSig) (sentinel : Sentinel) (s r : List ℕ) → params_at ty at n s ≡ Some (ts, sentinel, r) → ParamsFound test n at ts sentinel s r
params_sound ty test exact zero at ts sentinel s r h =
    let e = same_some ([], no_sentinel, s) (ts, sentinel, r) h in
    subst (λ (x : List TypeSig × Sentinel × List ℕ). ParamsFound test 0 at x.0 x.1 s x.2) e
    (record { count = refl; strips = refl; pass = refl; place = tt })
params_sound ty test exact (suc n) at ts sentinel s r h =
    split {P = ParamsFound test (suc n) at ts sentinel s r} (begins 0x41 s)
    (option_map (λ (x : List TypeSig × List ℕ). (x.0, Before at, x.1)) (many_at ty (suc n) (drop 1 s)))
    (after_value (ty s) (λ t r. option_map (λ (x : List TypeSig × Sentinel × List ℕ). (t ∷ x.0, x.1, x.2)) (params_at ty (at + 1) n r)))
    (Some (ts, sentinel, r)) h
    (λ b f.
    let m = mapped (λ (x : List TypeSig × List ℕ). (x.0, Before at, x.1)) (many_at ty (suc n) (drop 1 s)) (ts, sentinel, r) f in
    let found = many_sound ty type_symbols test exact (suc n) m.value.0 (drop 1 s) m.value.1 m.first in
    subst (λ (x : List TypeSig × Sentinel × List ℕ). ParamsFound test (suc n) at x.0 x.1 s x.2) m.same
    (first_found test n at m.value.0 s m.value.1 found.count found.strips found.pass b))
    (λ b f.
    let c = came (ty s) (λ t r. option_map (λ (x : List TypeSig × Sentinel × List ℕ). (t ∷ x.0, x.1, x.2)) (params_at ty (at + 1) n r)) (ts, sentinel, r) f in
    let m = mapped (λ (x : List TypeSig × Sentinel × List ℕ). (c.value ∷ x.0, x.1, x.2)) (params_at ty (at + 1) n c.rest) (ts, sentinel, r) c.then in
    let p = exact.sound c.value s c.rest c.first in
    let found = params_sound ty test exact n (at + 1) m.value.0 m.value.1 c.rest m.value.2 m.first in
    subst (λ (x : List TypeSig × Sentinel × List ℕ). ParamsFound test (suc n) at x.0 x.1 s x.2) m.same (record {
      count = ap suc found.count;
      strips = ap (λ xs. strip_symbols xs s) (later_rows m.value.1 at n c.value m.value.0 found.place)
          ∙ follows (type_symbols c.value) (rows m.value.1 (at + 1) m.value.0) s c.rest m.value.2 p.0 found.strips;
      pass = and (test c.value) (list_all test m.value.0) p.1 found.pass;
      place = weaker at n m.value.1 found.place;
    }))

-- a type does not begin with a sentinel
begins_none : (ty : List ℕ → Option (TypeSig × List ℕ)) → ((s : List ℕ) → ty (0x41 ∷ s) ≡ None) → (t : TypeSig) (s r : List ℕ) → ty s ≡ Some (t, r) → begins 0x41 s ≡ false
begins_none ty free t s r h =
    elim (begins 0x41 s) as (λ v. begins 0x41 s ≡ v → v ≡ false) [
      | true ↦ λ e. none_some {A = TypeSig × List ℕ} {P = true ≡ false} (t, r) (sym (free (drop 1 s)) ∙ ap ty (sym (begins_front 0x41 s e)) ∙ h)
      | false ↦ λ e. refl
    ] refl

abbrev Found : Type 0
Found = List TypeSig × Sentinel × List ℕ

abbrev in_front : TypeSig → Found → Found
in_front t x = (t ∷ x.0, x.1, x.2)

abbrev stood : ℕ → List TypeSig × List ℕ → Found
stood at x = (x.0, Before at, x.1)

-- no sentinel stands before the first
later_full : (ty : List ℕ → Option (TypeSig × List ℕ)) (test : TypeSig → Bool) → Exact TypeSig ty type_symbols test → ((s : List ℕ) → ty (0x41 ∷ s) ≡ None)
    → (t : TypeSig) (ts : List TypeSig) (at : ℕ) (sentinel : Sentinel) (s r : List ℕ) → strip_symbols (rows sentinel at (t ∷ ts)) s ≡ Some r → list_all test (t ∷ ts) ≡ true
    → Placed (at + 1) (length ts) sentinel
    → ((m : List ℕ) → strip_symbols (rows sentinel (at + 1) ts) m ≡ Some r → params_at ty (at + 1) (length ts) m ≡ Some (ts, sentinel, r))
    → params_at ty at (suc (length ts)) s ≡ Some (t ∷ ts, sentinel, r)
later_full ty test exact free t ts at sentinel s r h k place next =
    let p = parts (type_symbols t) (rows sentinel (at + 1) ts) s r (sym (ap (λ xs. strip_symbols xs s) (later_rows sentinel at (length ts) t ts place)) ∙ h) in
    let q = both (test t) (list_all test ts) k in
    let first = exact.full t s p.rest p.before q.0 in
    ap (λ (b : Bool). cond {A = Option Found} b (option_map (stood at) (many_at ty (suc (length ts)) (drop 1 s))) (after_value (ty s) (λ t r. option_map (in_front t) (params_at ty (at + 1) (length ts) r)))) (begins_none ty free t s p.rest first)
    ∙ goes (ty s) (λ t r. option_map (in_front t) (params_at ty (at + 1) (length ts) r)) t p.rest first
    ∙ ap (option_map (in_front t)) (next p.rest p.then)

first_full : (ty : List ℕ → Option (TypeSig × List ℕ)) (test : TypeSig → Bool) → Exact TypeSig ty type_symbols test
    → (t : TypeSig) (ts : List TypeSig) (at : ℕ) (s r : List ℕ) → strip_symbols (rows (Before at) at (t ∷ ts)) s ≡ Some r → list_all test (t ∷ ts) ≡ true
    → params_at ty at (suc (length ts)) s ≡ Some (t ∷ ts, Before at, r)
first_full ty test exact t ts at s r h k =
    let b = begins_with 0x41 (in_order (map type_symbols (t ∷ ts))) s r (sym (ap (λ xs. strip_symbols xs s) (here at t ts)) ∙ h) in
    ap (params_at ty at (suc (length ts))) b.front ∙ ap (option_map (stood at)) (many_full ty type_symbols test exact (t ∷ ts) b.rest r b.then k)

-- the sentinel stands before the first, or later
choose_full : (ty : List ℕ → Option (TypeSig × List ℕ)) (test : TypeSig → Bool) → Exact TypeSig ty type_symbols test → ((s : List ℕ) → ty (0x41 ∷ s) ≡ None)
    → (t : TypeSig) (ts : List TypeSig) (at j : ℕ) (s r : List ℕ) → strip_symbols (rows (Before j) at (t ∷ ts)) s ≡ Some r → list_all test (t ∷ ts) ≡ true
    → Placed at (suc (length ts)) (Before j)
    → (Placed (at + 1) (length ts) (Before j) → (m : List ℕ) → strip_symbols (rows (Before j) (at + 1) ts) m ≡ Some r → params_at ty (at + 1) (length ts) m ≡ Some (ts, Before j, r))
    → params_at ty at (suc (length ts)) s ≡ Some (t ∷ ts, Before j, r)
choose_full ty test exact free t ts at j s r h k place next =
    elim (eqb j at) as (λ v. eqb j at ≡ v → params_at ty at (suc (length ts)) s ≡ Some (t ∷ ts, Before j, r)) [
      | true ↦ λ e.
          let same = eqb-true j at e in
          subst (λ n. params_at ty at (suc (length ts)) s ≡ Some (t ∷ ts, Before n, r)) (sym same)
          (first_full ty test exact t ts at s r (subst (λ n. strip_symbols (rows (Before n) at (t ∷ ts)) s ≡ Some r) same h) k)
      | false ↦ λ e.
          let low : at ≤ j = place.0 in
          let high : j < at + suc (length ts) = place.1 in
          let other : j ≢ at = λ same. let v = eq-eqb j at same in absurd cc in
          let after_value : Placed (at + 1) (length ts) (Before j) = (omega arith, omega arith) in
          later_full ty test exact free t ts at (Before j) s r h k after_value (next after_value)
    ] refl

pub params_full : (ty : List ℕ → Option (TypeSig × List ℕ)) (test : TypeSig → Bool) → Exact TypeSig ty type_symbols test → ((s : List ℕ) → ty (0x41 ∷ s) ≡ None)
    → (ts : List TypeSig) (at : ℕ) (sentinel : Sentinel) (s r : List ℕ) → strip_symbols (rows sentinel at ts) s ≡ Some r → list_all test ts ≡ true → Placed at (length ts) sentinel
    → params_at ty at (length ts) s ≡ Some (ts, sentinel, r)
params_full ty test exact free [] at no_sentinel s r h k place = ap (λ s. Some ([], no_sentinel, s)) (same_some s r h)
params_full ty test exact free [] at (Before j) s r h k place = let low : at ≤ j = place.0 in let high : j < at + 0 = place.1 in absurd (omega arith)
params_full ty test exact free (t ∷ ts) at no_sentinel s r h k place =
    later_full ty test exact free t ts at no_sentinel s r h k tt
    (λ m g. params_full ty test exact free ts (at + 1) no_sentinel m r g (both (test t) (list_all test ts) k).1 tt)
params_full ty test exact free (t ∷ ts) at (Before j) s r h k place =
    choose_full ty test exact free t ts at j s r h k place
    (λ after_value m g. params_full ty test exact free ts (at + 1) (Before j) m r g (both (test t) (list_all test ts) k).1 after_value)
