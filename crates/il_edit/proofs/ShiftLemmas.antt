-- Numbers that an edit changes.
use Rattle.std.proofs.Common.{◌≡◌, ◌&&◌, ℕ, List, [], ◌∷◌, map, Bool, Option, refl, ap, ◌∙◌, arith}
use Rattle.std.specs.List.{list_all}
use Rattle.std.proofs.lemmas.Bool.Decides.{nat_tests}
use Rattle.il_code.specs.declared.kind.OperandKind as k
use Rattle.il_code.specs.declared.operand.Operand.{Operand}
use Rattle.il_code.specs.declared.operand.Operand.TheVariants as of
use Rattle.il_code.specs.declared.instr.Instr.{Instr}
use Rattle.il_code.specs.declared.handler.HandlerKind.{HandlerKind}
use Rattle.il_code.specs.declared.handler.HandlerKind.TheVariants.{Typed, Filter, Finally, Fault}
use Rattle.il_code.specs.declared.handler.Handler.{Handler}
use Rattle.il_code.specs.Code.{instr_of, placed, placed_operand}
use Rattle.il_code.specs.Edited.{lowered, raised}
use Rattle.il_code.specs.Sound.{fits_kind}
use Rattle.il_code.specs.Spelling.{placed_handler, placed_kind}

pub all_map : {A B : Type 0} (p : B → Bool) (f : A → B) (xs : List A) → list_all p (map f xs) ≡ list_all (λ x. p (f x)) xs
all_map p f [] = refl
all_map p f (x ∷ xs) = ap (λ t. p (f x) && t) (all_map p f xs)

-- the kind of an operand does not depend on its targets
pub kind_placed : (found : Option k.OperandKind) (f : ℕ → ℕ) (o : Operand) → fits_kind found (placed_operand f o) ≡ fits_kind found o
kind_placed found f of.None = refl
kind_placed found f (of.U8 n) = refl
kind_placed found f (of.U16 n) = refl
kind_placed found f (of.I8 z) = refl
kind_placed found f (of.I32 z) = refl
kind_placed found f (of.I64 z) = refl
kind_placed found f (of.R4 n) = refl
kind_placed found f (of.R8 n) = refl
kind_placed found f (of.Tok t) = refl
kind_placed found f (of.Text units) = refl
kind_placed found f (of.Target t) = grind arith
kind_placed found f (of.Switch ts) = grind arith

-- numbers that go one way and back

map-back : (f g : ℕ → ℕ) → ((n : ℕ) → g (f n) ≡ n) → (ts : List ℕ) → map g (map f ts) ≡ ts
map-back f g back [] = refl
map-back f g back (t ∷ ts) = ap (λ z. z ∷ map g (map f ts)) (back t) ∙ ap (λ z. t ∷ z) (map-back f g back ts)

operand-back : (f g : ℕ → ℕ) → ((n : ℕ) → g (f n) ≡ n) → (o : Operand) → placed_operand g (placed_operand f o) ≡ o
operand-back f g back of.None = refl
operand-back f g back (of.U8 n) = refl
operand-back f g back (of.U16 n) = refl
operand-back f g back (of.I8 z) = refl
operand-back f g back (of.I32 z) = refl
operand-back f g back (of.I64 z) = refl
operand-back f g back (of.R4 n) = refl
operand-back f g back (of.R8 n) = refl
operand-back f g back (of.Tok t) = refl
operand-back f g back (of.Text units) = refl
operand-back f g back (of.Target t) = ap of.Target (back t)
operand-back f g back (of.Switch ts) = ap of.Switch (map-back f g back ts)

pub instr-back : (f g : ℕ → ℕ) → ((n : ℕ) → g (f n) ≡ n) → (x : Instr) → placed g (placed f x) ≡ x
instr-back f g back x = ap (instr_of x.op) (operand-back f g back x.operand)

kind-back : (f g : ℕ → ℕ) → ((n : ℕ) → g (f n) ≡ n) → (k : HandlerKind) → placed_kind g (placed_kind f k) ≡ k
kind-back f g back (Typed t) = refl
kind-back f g back (Filter start) = ap Filter (back start)
kind-back f g back Finally = refl
kind-back f g back Fault = refl

abbrev pub handler_with : HandlerKind → ℕ → ℕ → ℕ → ℕ → Handler
handler_with k a b c d = record { kind = k; try_start = a; try_end = b; start = c; end = d }

pub handler-alike : (k k' : HandlerKind) (a a' b b' c c' d d' : ℕ) → k ≡ k' → a ≡ a' → b ≡ b' → c ≡ c' → d ≡ d' → handler_with k a b c d ≡ handler_with k' a' b' c' d'
handler-alike k k' a a' b b' c c' d d' ek ea eb ec ed =
    ap (λ k. handler_with k a b c d) ek ∙ ap (λ a. handler_with k' a b c d) ea ∙ ap (λ b. handler_with k' a' b c d) eb
    ∙ ap (λ c. handler_with k' a' b' c d) ec ∙ ap (λ d. handler_with k' a' b' c' d) ed

pub handler-back : (f g : ℕ → ℕ) → ((n : ℕ) → g (f n) ≡ n) → (h : Handler) → placed_handler g (placed_handler f h) ≡ h
handler-back f g back h = handler-alike _ _ _ _ _ _ _ _ _ _ (kind-back f g back h.kind) (back h.try_start) (back h.try_end) (back h.start) (back h.end)

pub all-back : {A : Type 0} (f g : A → A) → ((x : A) → g (f x) ≡ x) → (xs : List A) → map g (map f xs) ≡ xs
all-back f g back [] = refl
all-back f g back (x ∷ xs) = ap (λ z. z ∷ map g (map f xs)) (back x) ∙ ap (λ z. x ∷ z) (all-back f g back xs)

-- what stays where it is

pub stay-instr : (x : Instr) → placed (λ n. n) x ≡ x
stay-instr x = ap (instr_of x.op) (operand-stays x.operand)
  where
    targets-stay : (ts : List ℕ) → map (λ n. n) ts ≡ ts
    targets-stay [] = refl
    targets-stay (t ∷ ts) = ap (λ z. t ∷ z) (targets-stay ts)

    operand-stays : (o : Operand) → placed_operand (λ n. n) o ≡ o
    operand-stays of.None = refl
    operand-stays (of.U8 n) = refl
    operand-stays (of.U16 n) = refl
    operand-stays (of.I8 z) = refl
    operand-stays (of.I32 z) = refl
    operand-stays (of.I64 z) = refl
    operand-stays (of.R4 n) = refl
    operand-stays (of.R8 n) = refl
    operand-stays (of.Tok t) = refl
    operand-stays (of.Text units) = refl
    operand-stays (of.Target t) = refl
    operand-stays (of.Switch ts) = ap of.Switch (targets-stay ts)

pub stay-handler : (h : Handler) → placed_handler (λ n. n) h ≡ h
stay-handler h = handler-alike _ _ _ _ _ _ _ _ _ _ (kind-stays h.kind) refl refl refl refl
  where
    kind-stays : (k : HandlerKind) → placed_kind (λ n. n) k ≡ k
    kind-stays (Typed t) = refl
    kind-stays (Filter start) = refl
    kind-stays Finally = refl
    kind-stays Fault = refl

pub all-stay : {A : Type 0} (f : A → A) → ((x : A) → f x ≡ x) → (xs : List A) → map f xs ≡ xs
all-stay f stays [] = refl
all-stay f stays (x ∷ xs) = ap (λ z. z ∷ map f xs) (stays x) ∙ ap (λ z. x ∷ z) (all-stay f stays xs)

-- a number that rose falls back
pub lowered-raised : (at n : ℕ) → lowered at (raised at n) ≡ n
lowered-raised at n = grind (arith, nat_tests)
