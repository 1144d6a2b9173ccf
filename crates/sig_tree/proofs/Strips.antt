-- Stripping rows of symbols, and reading one value after another.
use Rattle.std.proofs.Common.{◌≡◌, ℕ, suc, zero, List, [], ◌∷◌, ◌++◌, Bool, true, false, cond, ◌&&◌, eqb, Option, Some, None, length, map, refl, sym, ap, subst, ◌∙◌}
use Rattle.std.specs.Option.{option_and_then}
use Rattle.std.specs.List.{list_all}
use Rattle.std.proofs.lemmas.Bool.{eqb-true, eq-eqb}
use Rattle.sig_tree.specs.declared.symbol.Symbol.{Symbol}
use Rattle.sig_tree.specs.declared.symbol.Symbol.TheVariants.{Byte}
use Rattle.sig_tree.specs.Symbols.{strip_symbol, strip_symbols}
use Rattle.sig_tree.specs.Spelling.{in_order}
use Rattle.sig_tree.specs.Fronts.{after_value, wrap, many_at}

pub same_some : {A : Type 0} (x y : A) → ◌≡◌ {A = Option A} (Some x) (Some y) → x ≡ y
same_some x y h = cc

pub none_some : {A P : Type 0} (y : A) → ◌≡◌ {A = Option A} None (Some y) → P
none_some y h = absurd cc

pub split : {A P : Type 0} (b : Bool) (x y z : A) → cond b x y ≡ z → (b ≡ true → x ≡ z → P) → (b ≡ false → y ≡ z → P) → P
split true x y z h f g = f refl h
split false x y z h f g = g refl h

pub both : (a b : Bool) → (a && b) ≡ true → (a ≡ true) × (b ≡ true)
both true b h = (refl, h)
both false b h = (h, absurd cc)

pub and : (a b : Bool) → a ≡ true → b ≡ true → (a && b) ≡ true
and a b h k = ap (λ v. v && b) h ∙ k

-- a first value was found, and what follows went on from there
pub record Came (A B : Type 0) (found : Option (A × List ℕ)) (next : A → List ℕ → Option B) (y : B) : Type 0 where
  pub value : A
  pub rest : List ℕ
  pub first : found ≡ Some (value, rest)
  pub then : next value rest ≡ Some y

pub came : {A B : Type 0} (found : Option (A × List ℕ)) (next : A → List ℕ → Option B) (y : B) → after_value found next ≡ Some y → Came A B found next y
came {A} {B} None next y h = none_some {A = B} {P = Came A B None next y} y h
came (Some x) next y h = record { value = x.0; rest = x.1; first = refl; then = h }

-- a value was found, and changed
pub record Wrapped (A B : Type 0) (f : A → B) (found : Option (A × List ℕ)) (b : B) (r : List ℕ) : Type 0 where
  pub value : A
  pub first : found ≡ Some (value, r)
  pub same : f value ≡ b

pub wrapped : {A B : Type 0} (f : A → B) (found : Option (A × List ℕ)) (b : B) (r : List ℕ) → wrap f found ≡ Some (b, r) → Wrapped A B f found b r
wrapped {A} {B} f None b r h = none_some {A = B × List ℕ} {P = Wrapped A B f None b r} (b, r) h
wrapped f (Some x) b r h =
    let e = same_some (f x.0, x.1) (b, r) h in
    record { value = x.0; first = ap (λ s. Some (x.0, s)) (ap (λ p. p.1) e); same = ap (λ p. p.0) e }

pub goes : {A B : Type 0} (found : Option (A × List ℕ)) (next : A → List ℕ → Option B) (a : A) (r : List ℕ) → found ≡ Some (a, r) → after_value found next ≡ next a r
goes {A} {B} found next a r h = ap (λ (o : Option (A × List ℕ)). after_value {A = A} {B = B} o next) h

pub wraps : {A B : Type 0} (f : A → B) (found : Option (A × List ℕ)) (a : A) (r : List ℕ) → found ≡ Some (a, r) → wrap f found ≡ Some (f a, r)
wraps {A} {B} f found a r h = ap (λ (o : Option (A × List ℕ)). wrap {A = A} {B = B} f o) h

-- a strip in two parts
pub record Halves (first : Option (List ℕ)) (next : List ℕ → Option (List ℕ)) (r : List ℕ) : Type 0 where
  pub rest : List ℕ
  pub before : first ≡ Some rest
  pub then : next rest ≡ Some r

pub halves : (first : Option (List ℕ)) (next : List ℕ → Option (List ℕ)) (r : List ℕ) → option_and_then {T = List ℕ} {U = List ℕ} next first ≡ Some r → Halves first next r
halves None next r h = none_some {A = List ℕ} {P = Halves None next r} r h
halves (Some m) next r h = record { rest = m; before = refl; then = h }

joined : (xs ys : List Symbol) (o : Option (List ℕ)) → ((s : List ℕ) → strip_symbols (xs ++ ys) s ≡ option_and_then {T = List ℕ} {U = List ℕ} (strip_symbols ys) (strip_symbols xs s))
    → option_and_then {T = List ℕ} {U = List ℕ} (strip_symbols (xs ++ ys)) o ≡ option_and_then {T = List ℕ} {U = List ℕ} (strip_symbols ys) (option_and_then {T = List ℕ} {U = List ℕ} (strip_symbols xs) o)
joined xs ys None h = refl
joined xs ys (Some s) h = h s

pub strips-append : (xs ys : List Symbol) (s : List ℕ) → strip_symbols (xs ++ ys) s ≡ option_and_then {T = List ℕ} {U = List ℕ} (strip_symbols ys) (strip_symbols xs s)
strips-append [] ys s = refl
strips-append (x ∷ xs) ys s = joined xs ys (strip_symbol x s) (strips-append xs ys)

-- one row after another
pub follows : (xs ys : List Symbol) (s m r : List ℕ) → strip_symbols xs s ≡ Some m → strip_symbols ys m ≡ Some r → strip_symbols (xs ++ ys) s ≡ Some r
follows xs ys s m r h k = strips-append xs ys s ∙ ap (option_and_then {T = List ℕ} {U = List ℕ} (strip_symbols ys)) h ∙ k

pub parts : (xs ys : List Symbol) (s r : List ℕ) → strip_symbols (xs ++ ys) s ≡ Some r → Halves (strip_symbols xs s) (strip_symbols ys) r
parts xs ys s r h = halves (strip_symbols xs s) (strip_symbols ys) r (sym (strips-append xs ys s) ∙ h)

-- one symbol, and then a row
pub one : (x : Symbol) (ys : List Symbol) (s m r : List ℕ) → strip_symbol x s ≡ Some m → strip_symbols ys m ≡ Some r → strip_symbols (x ∷ ys) s ≡ Some r
one x ys s m r h k = ap (option_and_then {T = List ℕ} {U = List ℕ} (strip_symbols ys)) h ∙ k

pub first_of_row : (x : Symbol) (ys : List Symbol) (s r : List ℕ) → strip_symbols (x ∷ ys) s ≡ Some r → Halves (strip_symbol x s) (strip_symbols ys) r
first_of_row x ys s r h = halves (strip_symbol x s) (strip_symbols ys) r h

-- a byte at the front
pub byte_strips : (b : ℕ) (s : List ℕ) → strip_symbol (Byte b) (b ∷ s) ≡ Some s
byte_strips b s = ap (λ (v : Bool). cond {A = Option (List ℕ)} v (Some s) None) (eq-eqb b b refl)

pub begin : (b : ℕ) (ys : List Symbol) (s r : List ℕ) → strip_symbols ys s ≡ Some r → strip_symbols (Byte b ∷ ys) (b ∷ s) ≡ Some r
begin b ys s r k = one (Byte b) ys (b ∷ s) s r (byte_strips b s) k

-- what begins with a byte
pub record Begins (b : ℕ) (ys : List Symbol) (s r : List ℕ) : Type 0 where
  pub rest : List ℕ
  pub front : s ≡ b ∷ rest
  pub then : strip_symbols ys rest ≡ Some r

byte_stood : (b : ℕ) (s m : List ℕ) → strip_symbol (Byte b) s ≡ Some m → s ≡ b ∷ m
byte_stood b [] m h = none_some {A = List ℕ} {P = [] ≡ b ∷ m} m h
byte_stood b (x ∷ s) m h =
    split {P = x ∷ s ≡ b ∷ m} (eqb x b) (Some s) None (Some m) h
    (λ e f. let x_is = eqb-true x b e in let rest = same_some s m f in cc)
    (λ e f. none_some {P = x ∷ s ≡ b ∷ m} m f)

pub begins_with : (b : ℕ) (ys : List Symbol) (s r : List ℕ) → strip_symbols (Byte b ∷ ys) s ≡ Some r → Begins b ys s r
begins_with b ys s r h =
    let p = first_of_row (Byte b) ys s r h in
    record { rest = p.rest; front = byte_stood b s p.rest p.before; then = p.then }

-- what a reader finds is what the row strips, for values that pass the test
pub record Exact (A : Type 0) (at : List ℕ → Option (A × List ℕ)) (row : A → List Symbol) (test : A → Bool) : Type 0 where
  pub sound : (a : A) (s r : List ℕ) → at s ≡ Some (a, r) → (strip_symbols (row a) s ≡ Some r) × (test a ≡ true)
  pub full : (a : A) (s r : List ℕ) → strip_symbols (row a) s ≡ Some r → test a ≡ true → at s ≡ Some (a, r)

-- so many values in a row
pub record ManyFound (A : Type 0) (row : A → List Symbol) (test : A → Bool) (n : ℕ) (xs : List A) (s r : List ℕ) : Type 0 where
  pub count : length xs ≡ n
  pub strips : strip_symbols (in_order (map row xs)) s ≡ Some r
  pub pass : list_all test xs ≡ true

pub many_sound : {A : Type 0} (at : List ℕ → Option (A × List ℕ)) (row : A → List Symbol) (test : A → Bool) → Exact A at row test
    → (n : ℕ) (xs : List A) (s r : List ℕ) → many_at at n s ≡ Some (xs, r) → ManyFound A row test n xs s r
many_sound at row test exact zero xs s r h =
    let e = same_some ([], s) (xs, r) h in
    subst (λ xs. ManyFound _ row test 0 xs s r) (ap (λ p. p.0) e) (record { count = refl; strips = ap (λ p. Some p.1) e; pass = refl })
many_sound {A} at row test exact (suc n) xs s r h =
    let c = came (at s) (λ x r. wrap (λ xs. x ∷ xs) (many_at at n r)) (xs, r) h in
    let w = wrapped (λ xs. c.value ∷ xs) (many_at at n c.rest) xs r c.then in
    let p = exact.sound c.value s c.rest c.first in
    let m = many_sound at row test exact n w.value c.rest r w.first in
    subst (λ xs. ManyFound A row test (suc n) xs s r) w.same (record {
      count = ap suc m.count;
      strips = follows (row c.value) (in_order (map row w.value)) s c.rest r p.0 m.strips;
      pass = and (test c.value) (list_all test w.value) p.1 m.pass;
    })

pub many_full : {A : Type 0} (at : List ℕ → Option (A × List ℕ)) (row : A → List Symbol) (test : A → Bool) → Exact A at row test
    → (xs : List A) (s r : List ℕ) → strip_symbols (in_order (map row xs)) s ≡ Some r → list_all test xs ≡ true → many_at at (length xs) s ≡ Some (xs, r)
many_full at row test exact [] s r h k = ap (λ s. Some ([], s)) (same_some s r h)
many_full {A} at row test exact (x ∷ xs) s r h k =
    let p = parts (row x) (in_order (map row xs)) s r h in
    let t = both (test x) (list_all test xs) k in
    let first = exact.full x s p.rest p.before t.0 in
    goes (at s) (λ x r. wrap (λ xs. x ∷ xs) (many_at at (length xs) r)) x p.rest first
    ∙ wraps (λ xs. x ∷ xs) (many_at at (length xs) p.rest) xs r (many_full at row test exact xs p.rest r p.then t.1)
