-- One reading after another, taken apart; and so many items, where each is read exactly.
use Rattle.std.proofs.Common.{◌≡◌, ℕ, zero, suc, ◌⊎◌, inl, inr, List, [], ◌∷◌, Option, Some, None, Ok, Err, length, map, refl, ap, subst, ◌∙◌}
use Rattle.std.proofs.lemmas.Option.{same_Some}
use Rattle.cil_base.specs.Steps.{◌>>=◌}
use Rattle.cil_base.proofs.StepLemmas.{came}
use Rattle.attr_blob.specs.Fronts.{strip_row}
use Rattle.attr_blob.specs.Args.{EachItem}
use Rattle.attr_blob.specs.Needs.{LaterNeeds}
use Rattle.attr_blob.specs.inner.Steps.{Found, behind, onward}
use Rattle.attr_blob.specs.inner.Reading.{many_items_at}
use Rattle.attr_blob.specs.declared.stop.Stop.{Stop}
use Rattle.attr_blob.specs.declared.stop.Stop.TheVariants.{Lacks, Fails}

pub same_ok : {A : Type 0} (x y : A × List ℕ) → ◌≡◌ {A = Found A} (Ok x) (Ok y) → x ≡ y
same_ok x y h = cc

pub same_lack : {A : Type 0} (m n : List ℕ) → ◌≡◌ {A = Found A} (Err (Lacks m)) (Err (Lacks n)) → m ≡ n
same_lack m n h = cc

pub same_stop : {A : Type 0} (e f : Stop) → ◌≡◌ {A = Found A} (Err e) (Err f) → e ≡ f
same_stop e f h = cc

pub ok_lacks : {A P : Type 0} (x : A × List ℕ) (e : Stop) → ◌≡◌ {A = Found A} (Ok x) (Err e) → P
ok_lacks x e h = absurd cc

pub err_ok : {A P : Type 0} (x : A × List ℕ) (e : Stop) → ◌≡◌ {A = Found A} (Err e) (Ok x) → P
err_ok x e h = absurd cc

pub fails_lacks : {A P : Type 0} (n : List ℕ) → ◌≡◌ {A = Found A} (Err Fails) (Err (Lacks n)) → P
fails_lacks n h = absurd cc

-- a value with what stays, under other names
pub along_ok : {A : Type 0} (P : A → List ℕ → Type 0) (x a : A) (q r : List ℕ) → ◌≡◌ {A = Found A} (Ok (x, q)) (Ok (a, r)) → P x q → P a r
along_ok {A} P x a q r h p =
    let same = same_ok (x, q) (a, r) h in
    subst (λ (y : A × List ℕ). P y.0 y.1) same p

-- a value stood there, and what follows went on from it
pub record Behind (A B : Type 0) (o : Option (A × List ℕ)) (next : A → List ℕ → Found B) (z : Found B) : Type 0 where
  pub value : A
  pub rest : List ℕ
  pub first : o ≡ Some (value, rest)
  pub then : next value rest ≡ z

pub behind_ok : {A B : Type 0} (o : Option (A × List ℕ)) (next : A → List ℕ → Found B) (y : B × List ℕ) → behind o next ≡ Ok y → Behind A B o next (Ok y)
behind_ok {A} {B} None next y h = err_ok {A = B} {P = Behind A B None next (Ok y)} y Fails h
behind_ok (Some x) next y h = record { value = x.0; rest = x.1; first = refl; then = h }

pub behind_lacks : {A B : Type 0} (o : Option (A × List ℕ)) (next : A → List ℕ → Found B) (n : List ℕ) → behind o next ≡ Err (Lacks n) → Behind A B o next (Err (Lacks n))
behind_lacks {A} {B} None next n h = fails_lacks {A = B} {P = Behind A B None next (Err (Lacks n))} n h
behind_lacks (Some x) next n h = record { value = x.0; rest = x.1; first = refl; then = h }

pub record Onward (A B : Type 0) (m : Found A) (next : A → List ℕ → Found B) (z : Found B) : Type 0 where
  pub value : A
  pub rest : List ℕ
  pub first : m ≡ Ok (value, rest)
  pub then : next value rest ≡ z

pub onward_ok : {A B : Type 0} (m : Found A) (next : A → List ℕ → Found B) (y : B × List ℕ) → onward m next ≡ Ok y → Onward A B m next (Ok y)
onward_ok {A} {B} (Err e) next y h = err_ok {A = B} {P = Onward A B (Err e) next (Ok y)} y e h
onward_ok (Ok x) next y h = record { value = x.0; rest = x.1; first = refl; then = h }

pub onward_lacks : {A B : Type 0} (m : Found A) (next : A → List ℕ → Found B) (n : List ℕ) → onward m next ≡ Err (Lacks n) → (m ≡ Err (Lacks n)) ⊎ Onward A B m next (Err (Lacks n))
onward_lacks {A} {B} (Err e) next n h = inl (ap (λ (k : Stop). Err k) (same_stop {A = B} e (Lacks n) h))
onward_lacks (Ok x) next n h = inr (record { value = x.0; rest = x.1; first = refl; then = h })

pub goes_behind : {A B : Type 0} (o : Option (A × List ℕ)) (next : A → List ℕ → Found B) (a : A) (r : List ℕ) → o ≡ Some (a, r) → behind o next ≡ next a r
goes_behind {A} {B} o next a r h = ap (λ (o : Option (A × List ℕ)). behind {A = A} {B = B} o next) h

pub goes_onward : {A B : Type 0} (m : Found A) (next : A → List ℕ → Found B) (a : A) (r : List ℕ) → m ≡ Ok (a, r) → onward m next ≡ next a r
goes_onward {A} {B} m next a r h = ap (λ (m : Found A). onward {A = A} {B = B} m next) h

pub stops_onward : {A B : Type 0} (m : Found A) (next : A → List ℕ → Found B) (e : Stop) → m ≡ Err e → onward m next ≡ Err e
stops_onward {A} {B} m next e h = ap (λ (m : Found A). onward {A = A} {B = B} m next) h

-- an item is read exactly where it stands, and lacks a width exactly where it needs one
pub record ItemExact (A : Type 0) (item : List ℕ → Found A) (stands : A → List ℕ → List ℕ → Type 0) (strip : A → List ℕ → Option (List ℕ)) (typed : A → Type 0) (needs : List ℕ → List ℕ → Type 0) : Type 0 where
  pub sound : (a : A) (s r : List ℕ) → item s ≡ Ok (a, r) → stands a s r
  pub full : (a : A) (s r : List ℕ) → stands a s r → item s ≡ Ok (a, r)
  pub lacks : (n s : List ℕ) → item s ≡ Err (Lacks n) → needs n s
  pub needed : (n s : List ℕ) → needs n s → item s ≡ Err (Lacks n)
  pub parts : (a : A) (s r : List ℕ) → stands a s r → (strip a s ≡ Some r) × typed a
  pub whole : (a : A) (s r : List ℕ) → strip a s ≡ Some r → typed a → stands a s r

pub record ManyStand (A : Type 0) (strip : A → List ℕ → Option (List ℕ)) (typed : A → Type 0) (n : ℕ) (xs : List A) (s r : List ℕ) : Type 0 where
  pub count : length xs ≡ n
  pub strips : strip_row (map strip xs) s ≡ Some r
  pub each : EachItem typed xs

module _ {A : Type 0} (item : List ℕ → Found A) (stands : A → List ℕ → List ℕ → Type 0) (strip : A → List ℕ → Option (List ℕ)) (typed : A → Type 0) (needs : List ℕ → List ℕ → Type 0) (exact : ItemExact A item stands strip typed needs) where
  pub many_sound : (n : ℕ) (xs : List A) (s r : List ℕ) → many_items_at item n s ≡ Ok (xs, r) → ManyStand A strip typed n xs s r
  many_sound zero xs s r h = along_ok (λ (xs : List A) r. ManyStand A strip typed 0 xs s r) [] xs s r h (record { count = refl; strips = refl; each = tt })
  many_sound (suc n) xs s r h =
      let c = onward_ok (item s) (λ x rest. onward (many_items_at item n rest) (λ xs after. Ok (x ∷ xs, after))) (xs, r) h in
      let d = onward_ok (many_items_at item n c.rest) (λ xs after. Ok (c.value ∷ xs, after)) (xs, r) c.then in
      let p = exact.parts c.value s c.rest (exact.sound c.value s c.rest c.first) in
      let m = many_sound n d.value c.rest d.rest d.first in
      along_ok (λ (xs : List A) r. ManyStand A strip typed (suc n) xs s r) (c.value ∷ d.value) xs d.rest r d.then (record {
        count = ap suc m.count;
        strips = ap (λ (o : Option (List ℕ)). o >>= strip_row (map strip d.value)) p.0 ∙ m.strips;
        each = (p.1, m.each);
      })

  pub many_full : (xs : List A) (s r : List ℕ) → strip_row (map strip xs) s ≡ Some r → EachItem typed xs → many_items_at item (length xs) s ≡ Ok (xs, r)
  many_full [] s r h each = ap (λ r. Ok ([], r)) (same_Some s r h)
  many_full (x ∷ xs) s r h each =
      let c = came (strip x s) (strip_row (map strip xs)) r h in
      goes_onward (item s) (λ x rest. onward (many_items_at item (length xs) rest) (λ xs after. Ok (x ∷ xs, after))) x c.by (exact.full x s c.by (exact.whole x s c.by c.first each.0))
      ∙ goes_onward (many_items_at item (length xs) c.by) (λ xs after. Ok (x ∷ xs, after)) xs r (many_full xs c.by r c.after each.1)

  pub many_lacks : (n : ℕ) (name s : List ℕ) → many_items_at item n s ≡ Err (Lacks name) → LaterNeeds stands (needs name) n s
  many_lacks zero name s h = ok_lacks {A = List A} {P = ⊥} ([], s) (Lacks name) h
  many_lacks (suc n) name s h =
      elim (onward_lacks (item s) (λ x rest. onward (many_items_at item n rest) (λ xs after. Ok (x ∷ xs, after))) name h) [
        | inl first ↦ inl (exact.lacks name s first)
        | inr c ↦ elim (onward_lacks (many_items_at item n c.rest) (λ xs after. Ok (c.value ∷ xs, after)) name c.then) [
          | inl later ↦ inr (c.value, c.rest, exact.sound c.value s c.rest c.first, many_lacks n name c.rest later)
          | inr d ↦ ok_lacks {A = List A} {P = LaterNeeds stands (needs name) (suc n) s} (c.value ∷ d.value, d.rest) (Lacks name) d.then
        ]
      ]

  pub many_needs : (n : ℕ) (name s : List ℕ) → LaterNeeds stands (needs name) n s → many_items_at item n s ≡ Err (Lacks name)
  many_needs zero name s h = absurd h
  many_needs (suc n) name s (inl first) = stops_onward (item s) (λ x rest. onward (many_items_at item n rest) (λ xs after. Ok (x ∷ xs, after))) (Lacks name) (exact.needed name s first)
  many_needs (suc n) name s (inr later) =
      goes_onward (item s) (λ x rest. onward (many_items_at item n rest) (λ xs after. Ok (x ∷ xs, after))) later.0 later.1 (exact.full later.0 s later.1 later.2)
      ∙ stops_onward (many_items_at item n later.1) (λ xs after. Ok (later.0 ∷ xs, after)) (Lacks name) (many_needs n name later.1 later.3)
