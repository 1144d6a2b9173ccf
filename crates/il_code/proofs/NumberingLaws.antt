-- Numbers in place of places and back.
use Rattle.std.proofs.Common.{◌≡◌, ◌==◌, ◌+◌, ◌<◌, ◌≤◌, ◌++◌, ℕ, suc, List, [], ◌∷◌, length, map, Bool, true, false, cond, Option, Some, None, refl, ap, ◌∙◌, subst, arith, nat_lt}
use Rattle.std.specs.Prelude.{option_map}
use Rattle.std.specs.List.{AllByRecursion}
use Rattle.std.proofs.lemmas.Bool.{lt-ltb, ltb-true}
use Rattle.std.proofs.lemmas.Bool.Decides.{nat_tests}
use Rattle.il_code.specs.declared.operand.Operand.{Operand}
use Rattle.il_code.specs.declared.operand.Operand.TheVariants as of
use Rattle.il_code.specs.declared.instr.Instr.{Instr}
use Rattle.il_code.specs.declared.handler.HandlerKind.{HandlerKind}
use Rattle.il_code.specs.declared.handler.HandlerKind.TheVariants.{Typed, Filter, Finally, Fault}
use Rattle.il_code.specs.declared.handler.Handler.{Handler}
use Rattle.il_code.specs.Code.{instr_of, placed, placed_operand, TargetsBelow}
use Rattle.cil_base.specs.Steps.{◌>>=◌}
use Rattle.il_code.specs.Spelling.{placed_kind, placed_handler, FilterBelow, BoundedHandler}
use Rattle.il_code.specs.Numbering.{number_in, target_in, each, numbered_operand, numbered_instr, numbered_kind, numbered_handler}
use Rattle.il_code.specs.CodePlaces.{Rising, instr_place}
use Rattle.il_code.proofs.CodeLemmas.{came, mapped, same_some}
use Rattle.il_code.proofs.NumberingLemmas.{number_in-is}

-- a number that was found is that of the place
pub number_in-at : (ps : List ℕ) (p i : ℕ) → number_in ps p ≡ Some i → (i < length ps) × (instr_place ps i ≡ p)
unfolding number_in
number_in-at [] p i h = absurd (nothing i h)
  where
    nothing : (i : ℕ) → None ≡ Some i → ⊥
    nothing i h = cc
number_in-at (q ∷ qs) p i h = split (λ m e. number_in-at qs p m e) (q == p) refl h
  where
    equal : (q p : ℕ) → (q == p) ≡ true → q ≡ p
    equal q p e = grind (arith, nat_tests)

    split : ((m : ℕ) → number_in qs p ≡ Some m → (m < length qs) × (instr_place qs m ≡ p)) → (t : Bool) → (q == p) ≡ t → cond t (Some 0) (option_map (λ i. i + 1) (number_in qs p)) ≡ Some i → (i < length (q ∷ qs)) × (instr_place (q ∷ qs) i ≡ p)
    split ih true e h =
        let z : 0 ≡ i = same_some 0 i h in
        subst (λ k. (k < length (q ∷ qs)) × (instr_place (q ∷ qs) k ≡ p)) z (omega arith, equal q p e)
    split ih false e h =
        let m = mapped (λ i. i + 1) (number_in qs p) i h in
        let found = ih m.by m.first in
        let s : suc m.by ≡ i = omega (arith, m.is) in
        subst (λ k. (k < length (q ∷ qs)) × (instr_place (q ∷ qs) k ≡ p)) s (omega (arith, found.0), found.1)

pub target-found : (ps : List ℕ) (n p t : ℕ) → target_in ps n p ≡ Some t → (t < n) × (instr_place ps t ≡ p)
unfolding target_in
target-found ps n p t h =
    let i = came (number_in ps p) (λ t. cond (nat_lt t n) (Some t) None) t h in
    below i.by (number_in-at ps p i.by i.first).1 (nat_lt i.by n) refl i.after
  where
    below : (i : ℕ) → instr_place ps i ≡ p → (b : Bool) → nat_lt i n ≡ b → cond b (Some i) None ≡ Some t → (t < n) × (instr_place ps t ≡ p)
    below i e true l h = let s : i ≡ t = same_some i t h in subst (λ k. (k < n) × (instr_place ps k ≡ p)) s (ltb-true i n l, e)
    below i e false l h = absurd (nothing h)
      where
        nothing : None ≡ Some t → ⊥
        nothing h = cc

pub target-only : (ps : List ℕ) (n t : ℕ) → Rising ps → n ≤ length ps → t < n → target_in ps n (instr_place ps t) ≡ Some t
unfolding target_in
target-only ps n t rising len h =
    let e = number_in-is ps (instr_place ps t) t rising (omega arith) refl in
    let l : nat_lt t n ≡ true = lt-ltb t n h in
    rw (e, l) refl

-- what is made of each item and back

pub each-found : {A : Type 0} (f : A → Option A) (g : A → A) (P : A → Type 0) → ((x y : A) → f x ≡ Some y → P y × (g y ≡ x)) → (xs ys : List A) → each f xs ≡ Some ys → AllByRecursion P ys × (map g ys ≡ xs)
unfolding each
each-found f g P one [] ys h = subst (λ z. AllByRecursion P z × (map g z ≡ [])) (same_some [] ys h) (tt, refl)
each-found f g P one (x ∷ xs) ys h =
    let y = came (f x) (λ y. option_map (λ ys. y ∷ ys) (each f xs)) ys h in
    let rest = mapped (λ ys. y.by ∷ ys) (each f xs) ys y.after in
    let here = one x y.by y.first in
    let there = each-found f g P one xs rest.by rest.first in
    subst (λ z. AllByRecursion P z × (map g z ≡ x ∷ xs)) rest.is ((here.0, there.0), ap (λ z. z ∷ map g rest.by) here.1 ∙ ap (λ z. x ∷ z) there.1)

pub each-only : {A : Type 0} (f : A → Option A) (g : A → A) (P : A → Type 0) → ((y : A) → P y → f (g y) ≡ Some y) → (ys : List A) → AllByRecursion P ys → each f (map g ys) ≡ Some ys
unfolding each
each-only f g P one [] all = refl
each-only f g P one (y ∷ ys) all = rw (one y all.0) (ap (option_map (λ z. y ∷ z)) (each-only f g P one ys all.1))

pub each-append : {A : Type 0} (f : A → Option A) (xs ys front back : List A) → each f xs ≡ Some front → each f ys ≡ Some back → each f (xs ++ ys) ≡ Some (front ++ back)
unfolding each
each-append f [] ys front back h k = k ∙ ap (λ z. Some (z ++ back)) (same_some [] front h)
each-append f (x ∷ xs) ys front back h k =
    let y = came (f x) (λ y. option_map (λ ys. y ∷ ys) (each f xs)) front h in
    let rest = mapped (λ ys. y.by ∷ ys) (each f xs) front y.after in
    rw y.first (ap (option_map (λ z. y.by ∷ z)) (each-append f xs ys rest.by back rest.first k) ∙ ap (λ z. Some (z ++ back)) rest.is)

pub record Split {A : Type 0} (f : A → Option A) (xs ys all : List A) : Type 0 where
  pub front : List A
  pub back : List A
  pub is : front ++ back ≡ all
  pub first : each f xs ≡ Some front
  pub rest : each f ys ≡ Some back

pub each-split : {A : Type 0} (f : A → Option A) (xs ys all : List A) → each f (xs ++ ys) ≡ Some all → Split f xs ys all
unfolding each
each-split f [] ys all h = record { front = []; back = all; is = refl; first = refl; rest = h }
each-split f (x ∷ xs) ys all h =
    let y = came (f x) (λ y. option_map (λ ys. y ∷ ys) (each f (xs ++ ys))) all h in
    let rest = mapped (λ ys. y.by ∷ ys) (each f (xs ++ ys)) all y.after in
    let cut = each-split f xs ys rest.by rest.first in
    record {
      front = y.by ∷ cut.front;
      back = cut.back;
      is = ap (λ z. y.by ∷ z) cut.is ∙ rest.is;
      first = ap (λ o. o >>= λ y. option_map (λ ys. y ∷ ys) (each f xs)) y.first ∙ ap (option_map (λ z. y.by ∷ z)) cut.first;
      rest = cut.rest;
    }

-- operands and instructions

targets-found : (ps : List ℕ) (n : ℕ) (xs ts : List ℕ) → each (target_in ps n) xs ≡ Some ts → AllByRecursion (λ t. t < n) ts × (map (instr_place ps) ts ≡ xs)
targets-found ps n xs ts h = each-found (target_in ps n) (instr_place ps) (λ t. t < n) (λ p t e. target-found ps n p t e) xs ts h

unchanged : (ps : List ℕ) (n : ℕ) (x o : Operand) → TargetsBelow n x × (placed_operand (instr_place ps) x ≡ x) → Some x ≡ Some o → TargetsBelow n o × (placed_operand (instr_place ps) o ≡ x)
unchanged ps n x o fact h = subst (λ z. TargetsBelow n z × (placed_operand (instr_place ps) z ≡ x)) (same_some x o h) fact

pub operand-found : (ps : List ℕ) (n : ℕ) (x o : Operand) → numbered_operand ps n x ≡ Some o → TargetsBelow n o × (placed_operand (instr_place ps) o ≡ x)
unfolding numbered_operand
operand-found ps n of.None o h = unchanged ps n of.None o (tt, refl) h
operand-found ps n (of.U8 v) o h = unchanged ps n (of.U8 v) o (tt, refl) h
operand-found ps n (of.U16 v) o h = unchanged ps n (of.U16 v) o (tt, refl) h
operand-found ps n (of.I8 v) o h = unchanged ps n (of.I8 v) o (tt, refl) h
operand-found ps n (of.I32 v) o h = unchanged ps n (of.I32 v) o (tt, refl) h
operand-found ps n (of.I64 v) o h = unchanged ps n (of.I64 v) o (tt, refl) h
operand-found ps n (of.R4 v) o h = unchanged ps n (of.R4 v) o (tt, refl) h
operand-found ps n (of.R8 v) o h = unchanged ps n (of.R8 v) o (tt, refl) h
operand-found ps n (of.Tok v) o h = unchanged ps n (of.Tok v) o (tt, refl) h
operand-found ps n (of.Text v) o h = unchanged ps n (of.Text v) o (tt, refl) h
operand-found ps n (of.Target p) o h =
    let t = mapped of.Target (target_in ps n p) o h in
    let is = target-found ps n p t.by t.first in
    subst (λ z. TargetsBelow n z × (placed_operand (instr_place ps) z ≡ of.Target p)) t.is (is.0, ap of.Target is.1)
operand-found ps n (of.Switch xs) o h =
    let t = mapped of.Switch (each (target_in ps n) xs) o h in
    let is = targets-found ps n xs t.by t.first in
    subst (λ z. TargetsBelow n z × (placed_operand (instr_place ps) z ≡ of.Switch xs)) t.is (is.0, ap of.Switch is.1)

pub operand-only : (ps : List ℕ) (n : ℕ) (o : Operand) → Rising ps → n ≤ length ps → TargetsBelow n o → numbered_operand ps n (placed_operand (instr_place ps) o) ≡ Some o
unfolding numbered_operand
operand-only ps n of.None r l b = refl
operand-only ps n (of.U8 v) r l b = refl
operand-only ps n (of.U16 v) r l b = refl
operand-only ps n (of.I8 v) r l b = refl
operand-only ps n (of.I32 v) r l b = refl
operand-only ps n (of.I64 v) r l b = refl
operand-only ps n (of.R4 v) r l b = refl
operand-only ps n (of.R8 v) r l b = refl
operand-only ps n (of.Tok v) r l b = refl
operand-only ps n (of.Text v) r l b = refl
operand-only ps n (of.Target t) r l b = ap (option_map of.Target) (target-only ps n t r l b)
operand-only ps n (of.Switch ts) r l b = ap (option_map of.Switch) (each-only (target_in ps n) (instr_place ps) (λ t. t < n) (λ t h. target-only ps n t r l h) ts b)

pub instr-found : (ps : List ℕ) (n : ℕ) (x y : Instr) → numbered_instr ps n x ≡ Some y → TargetsBelow n y.operand × (placed (instr_place ps) y ≡ x)
unfolding numbered_instr
instr-found ps n x y h =
    let o = mapped (instr_of x.op) (numbered_operand ps n x.operand) y h in
    let is = operand-found ps n x.operand o.by o.first in
    subst (λ (z : Instr). TargetsBelow n z.operand × (placed (instr_place ps) z ≡ x)) o.is (is.0, ap (instr_of x.op) is.1)

pub instr-only : (ps : List ℕ) (n : ℕ) (y : Instr) → Rising ps → n ≤ length ps → TargetsBelow n y.operand → numbered_instr ps n (placed (instr_place ps) y) ≡ Some y
unfolding numbered_instr
instr-only ps n y r l b = ap (option_map (instr_of y.op)) (operand-only ps n y.operand r l b)

-- handlers

kind-found : (ps : List ℕ) (n : ℕ) (x y : HandlerKind) → numbered_kind ps n x ≡ Some y → FilterBelow n y × (placed_kind (instr_place ps) y ≡ x)
unfolding numbered_kind
kind-found ps n (Typed v) y h = subst (λ z. FilterBelow n z × (placed_kind (instr_place ps) z ≡ Typed v)) (same_some (Typed v) y h) (tt, refl)
kind-found ps n Finally y h = subst (λ z. FilterBelow n z × (placed_kind (instr_place ps) z ≡ Finally)) (same_some Finally y h) (tt, refl)
kind-found ps n Fault y h = subst (λ z. FilterBelow n z × (placed_kind (instr_place ps) z ≡ Fault)) (same_some Fault y h) (tt, refl)
kind-found ps n (Filter p) y h =
    let t = mapped Filter (target_in ps n p) y h in
    let is = target-found ps n p t.by t.first in
    subst (λ z. FilterBelow n z × (placed_kind (instr_place ps) z ≡ Filter p)) t.is (is.0, ap Filter is.1)

kind-only : (ps : List ℕ) (n : ℕ) (y : HandlerKind) → Rising ps → n ≤ length ps → FilterBelow n y → numbered_kind ps n (placed_kind (instr_place ps) y) ≡ Some y
unfolding numbered_kind
kind-only ps n (Typed v) r l b = refl
kind-only ps n Finally r l b = refl
kind-only ps n Fault r l b = refl
kind-only ps n (Filter t) r l b = ap (option_map Filter) (target-only ps n t r l b)

abbrev handler_with : HandlerKind → ℕ → ℕ → ℕ → ℕ → Handler
handler_with kind a b c d = record { kind = kind; try_start = a; try_end = b; start = c; end = d }

pub handler-found : (ps : List ℕ) (n : ℕ) (x y : Handler) → length ps ≡ n + 1 → numbered_handler ps n x ≡ Some y → BoundedHandler n y × (placed_handler (instr_place ps) y ≡ x)
unfolding numbered_handler
handler-found ps n x y len h =
    let k = came (numbered_kind ps n x.kind) (λ kind. number_in ps x.try_start >>= λ a. number_in ps x.try_end >>= λ b. number_in ps x.start >>= λ c. number_in ps x.end >>= λ d. Some (handler_with kind a b c d)) y h in
    let a = came (number_in ps x.try_start) (λ a. number_in ps x.try_end >>= λ b. number_in ps x.start >>= λ c. number_in ps x.end >>= λ d. Some (handler_with k.by a b c d)) y k.after in
    let b = came (number_in ps x.try_end) (λ b. number_in ps x.start >>= λ c. number_in ps x.end >>= λ d. Some (handler_with k.by a.by b c d)) y a.after in
    let c = came (number_in ps x.start) (λ c. number_in ps x.end >>= λ d. Some (handler_with k.by a.by b.by c d)) y b.after in
    let d = came (number_in ps x.end) (λ d. Some (handler_with k.by a.by b.by c.by d)) y c.after in
    let kk = kind-found ps n x.kind k.by k.first in
    let aa = number_in-at ps x.try_start a.by a.first in
    let bb = number_in-at ps x.try_end b.by b.first in
    let cc' = number_in-at ps x.start c.by c.first in
    let dd = number_in-at ps x.end d.by d.first in
    subst (λ z. BoundedHandler n z × (placed_handler (instr_place ps) z ≡ x)) (same_some (handler_with k.by a.by b.by c.by d.by) y d.after) (
      record { kind = kk.0; try_start = omega (arith, aa.0); try_end = omega (arith, bb.0); start = omega (arith, cc'.0); end = omega (arith, dd.0) },
      alike _ _ _ _ _ x kk.1 aa.1 bb.1 cc'.1 dd.1,
    )
  where
    alike : (k : HandlerKind) (a b c d : ℕ) (x : Handler) → k ≡ x.kind → a ≡ x.try_start → b ≡ x.try_end → c ≡ x.start → d ≡ x.end → handler_with k a b c d ≡ x
    alike k a b c d x ek ea eb ec ed = ap (λ k. handler_with k a b c d) ek ∙ ap (λ a. handler_with x.kind a b c d) ea ∙ ap (λ b. handler_with x.kind x.try_start b c d) eb ∙ ap (λ c. handler_with x.kind x.try_start x.try_end c d) ec ∙ ap (λ d. handler_with x.kind x.try_start x.try_end x.start d) ed

pub handler-only : (ps : List ℕ) (n : ℕ) (y : Handler) → Rising ps → length ps ≡ n + 1 → BoundedHandler n y → numbered_handler ps n (placed_handler (instr_place ps) y) ≡ Some y
unfolding numbered_handler
handler-only ps n y r len b =
    let k = kind-only ps n y.kind r (omega arith) b.kind in
    let a = number_in-is ps (instr_place ps y.try_start) y.try_start r (omega (arith, b.try_start)) refl in
    let e = number_in-is ps (instr_place ps y.try_end) y.try_end r (omega (arith, b.try_end)) refl in
    let c = number_in-is ps (instr_place ps y.start) y.start r (omega (arith, b.start)) refl in
    let d = number_in-is ps (instr_place ps y.end) y.end r (omega (arith, b.end)) refl in
    rw (k, a, e, c, d) refl
