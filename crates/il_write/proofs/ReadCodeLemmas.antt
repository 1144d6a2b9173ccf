-- Instructions that are written are read back.
use Rattle.std.proofs.Common.{◌≡◌, ◌==◌, ◌&&◌, ◌⊎◌, ◌+◌, ◌-◌, ◌*◌, ◌/◌, ◌%◌, ◌<◌, ◌≤◌, ◌^◌, ◌++◌, ℕ, List, [], ◌∷◌, length, map, true, false, cond, Some, None, refl, sym, ap, ◌∙◌, subst, arith, length-append, nat_lt, inl, inr}
use Rattle.std.specs.Prelude.{option_map, flat_map}
use Rattle.std.specs.Int.{cast_signed, cast_unsigned, w8, w32, w64}
use Rattle.std.specs.List.{AllByRecursion}
use Rattle.std.proofs.lemmas.Int.{to_z-of_z, ints}
use Rattle.std.proofs.lemmas.Bool.{cases_lt, lt-ltb, le-ltb, cases_Bool}
use Rattle.std.proofs.lemmas.Bool.Decides.{nat_tests}
use Rattle.byteorder.specs.Endian.{little_bytes}
use Rattle.byteorder.specs.Numbers.{length-bytes_low_first}
use Rattle.il_code.specs.declared.kind.OperandKind as k
use Rattle.il_code.specs.declared.kind.OperandKind.TheVariants as kind
use Rattle.il_code.specs.declared.operand.Operand.{Operand}
use Rattle.il_code.specs.declared.operand.Operand.TheVariants as of
use Rattle.il_code.specs.Instructions.{kind_of}
use Rattle.cil_base.specs.Place.{number_within}
use Rattle.cil_base.specs.Steps.{◌>>=◌}
use Rattle.cil_base.specs.Token.{token_from}
use Rattle.il_code.specs.Items.{items_at}
use Rattle.il_code.specs.Targets.{within, target_at}
use Rattle.il_code.specs.Code.{operand_width, code_size, user_text, switch_target_at, operand_at, code_at, placed_operand, TargetsBelow}
use Rattle.il_code.specs.CodeBytes.{distance, target_bytes, operand_bytes, op_bytes, is_short}
use Rattle.cil_base.specs.Token.{token_number}
use Rattle.il_code.specs.Refusal.{is_past, target_is_far}
use Rattle.il_write.specs.inner.Ranges.{OperandFits}
use Rattle.il_code.specs.Writable.{IsOfKind}
use Rattle.cil_base.proofs.TokenLemmas.{token-back, token-small}
use Rattle.il_code.proofs.TableFacts.{kind-has_place}
use Rattle.il_write.proofs.ReadBackLemmas.{Lies, lies-left, lies-right, lies-number, lies-byte}

-- codes

none_is : {A : Type 0} (x : A) → None ≡ Some x → ⊥
none_is x h = cc

prefix-is_no_code : kind_of 0xFE ≡ None
unfolding kind_of
prefix-is_no_code = refl

not_prefix : (op : ℕ) (found : k.OperandKind) → kind_of op ≡ Some found → (op == 0xFE) ≡ false
not_prefix op found h = elim (cases_eq' op) [ inl e ↦ absurd (none_is found (sym prefix-is_no_code ∙ ap kind_of (sym e) ∙ h)) | inr other ↦ other ]
  where
    cases_eq' : (op : ℕ) → (op ≡ 0xFE) ⊎ ((op == 0xFE) ≡ false)
    cases_eq' op = elim (cases_Bool (op == 0xFE)) [ inl t ↦ inl (grind (arith, nat_tests)) | inr f ↦ inr f ]

two_bytes : (op : ℕ) (found : k.OperandKind) → 0x100 ≤ op → kind_of op ≡ Some found → (0xFE00 ≤ op) × (op < 0xFE00 + 31)
two_bytes op found h e = let place = kind-has_place op found e in (grind (arith, nat_tests), grind (arith, nat_tests))

-- a code is read
pub read-op : (b : List ℕ) (p op : ℕ) (found : k.OperandKind) → Lies b p (op_bytes op) → kind_of op ≡ Some found → (code_at b p ≡ Some op) × (length (op_bytes op) ≡ code_size op)
unfolding op_bytes code_at code_size
read-op b p op found l e = elim (cases_lt op 0x100) [ inl low ↦ one low | inr high ↦ two high ]
  where
    one : op < 0x100 → (code_at b p ≡ Some op) × (length (op_bytes op) ≡ code_size op)
    one low =
        let t : nat_lt op 0x100 ≡ true = lt-ltb op 0x100 low in
        let bytes : op_bytes op ≡ op ∷ [] = ap (λ t. cond t (op ∷ []) (op / 2 ^ 8 ∷ op % 2 ^ 8 ∷ [])) t in
        let first = lies-byte b p op (subst (Lies b p) bytes l) in (
          ap (λ o. o >>= λ first. cond (first == 0xFE) (option_map (λ second. 0xFE00 + second) (number_within b (p + 1) 1)) (Some first)) first
              ∙ ap (λ t. cond t (option_map (λ second. 0xFE00 + second) (number_within b (p + 1) 1)) (Some op)) (not_prefix op found e),
          ap length bytes ∙ sym (ap (λ t. cond t 1 2) t),
        )

    two : 0x100 ≤ op → (code_at b p ≡ Some op) × (length (op_bytes op) ≡ code_size op)
    two high =
        let t : nat_lt op 0x100 ≡ false = le-ltb op 0x100 high in
        let known = two_bytes op found high e in
        let bytes : op_bytes op ≡ (op / 2 ^ 8 ∷ []) ++ (op % 2 ^ 8 ∷ []) = ap (λ t. cond t (op ∷ []) (op / 2 ^ 8 ∷ op % 2 ^ 8 ∷ [])) t in
        let both = subst (Lies b p) bytes l in
        let top : op / 2 ^ 8 ≡ 0xFE = omega (arith, known.0, known.1) in
        let first = lies-byte b p (op / 2 ^ 8) (lies-left b p (op / 2 ^ 8 ∷ []) (op % 2 ^ 8 ∷ []) both) in
        let second = lies-byte b (p + 1) (op % 2 ^ 8) (lies-right b p (p + 1) (op / 2 ^ 8 ∷ []) (op % 2 ^ 8 ∷ []) both refl) in
        let whole : 0xFE00 + op % 2 ^ 8 ≡ op = omega (arith, known.0, known.1) in (
          ap (λ o. o >>= λ first. cond (first == 0xFE) (option_map (λ second. 0xFE00 + second) (number_within b (p + 1) 1)) (Some first)) (first ∙ ap Some top)
              ∙ ap (option_map (λ second. 0xFE00 + second)) second ∙ ap Some whole,
          ap length bytes ∙ sym (ap (λ t. cond t 1 2) t),
        )

-- targets

pub length-little : (w n : ℕ) → length (little_bytes w n) ≡ w
length-little w n = length-bytes_low_first 0 w n

within-is : (b : List ℕ) (p q : ℕ) → q ≡ p → p < length b → within b q ≡ Some p
unfolding within
within-is b p q e h = ap (λ z. cond (nat_lt z (length b)) (Some z) None) e ∙ ap (λ t. cond t (Some p) None) (lt-ltb p (length b) h)

target-up : (b : List ℕ) (half after place n : ℕ) → place < length b → n < half → after + n ≡ place → target_at b half after n ≡ Some place
unfolding target_at
target-up b half after place n inside h e =
    ap (λ t. cond t (within b (after + n)) (cond (nat_lt (after + n) (2 * half)) None (within b (after + n - 2 * half)))) (lt-ltb n half h)
    ∙ within-is b place (after + n) e inside

target-down : (b : List ℕ) (half after place n : ℕ) → place < length b → half ≤ n → after + n ≡ place + 2 * half → target_at b half after n ≡ Some place
unfolding target_at
target-down b half after place n inside h e =
    let up : 2 * half ≤ after + n = omega arith in
    let down : after + n - 2 * half ≡ place = omega arith in
    ap (λ t. cond t (within b (after + n)) (cond (nat_lt (after + n) (2 * half)) None (within b (after + n - 2 * half)))) (le-ltb n half h)
    ∙ ap (λ t. cond t None (within b (after + n - 2 * half))) (le-ltb (after + n) (2 * half) up)
    ∙ within-is b place (after + n - 2 * half) down inside

-- a target at a distance that fits is found

not_past : (after place : ℕ) → is_past after place ≡ false → (after ≤ place + 128) × (place ≤ after + 127)
not_past after place h = (grind (arith, nat_tests), grind (arith, nat_tests))

near_place : (b : List ℕ) (after place : ℕ) → place < length b → is_past after place ≡ false → target_at b (2 ^ 7) after (distance (2 ^ 8) after place) ≡ Some place
near_place b after place h past =
    let fits = not_past after place past in
    elim (cases_lt place after) [
      | inl back ↦ target-down b (2 ^ 7) after place (distance (2 ^ 8) after place) h (omega (arith, fits.0, fits.1)) (omega (arith, fits.0, fits.1))
      | inr on ↦ target-up b (2 ^ 7) after place (distance (2 ^ 8) after place) h (omega (arith, fits.0, fits.1)) (omega (arith, fits.0, fits.1))
    ]

long : (b : List ℕ) (after place : ℕ) → place < length b → after ≤ 2 ^ 24 → place ≤ 2 ^ 24 → target_at b (2 ^ 31) after (distance (2 ^ 32) after place) ≡ Some place
long b after place h la lp =
    elim (cases_lt place after) [
      | inl back ↦ target-down b (2 ^ 31) after place (distance (2 ^ 32) after place) h (omega arith) (omega arith)
      | inr on ↦ target-up b (2 ^ 31) after place (distance (2 ^ 32) after place) h (omega arith) (omega arith)
    ]

-- what is known of the places of targets: they stand within the code, which is small
pub record Near (b : List ℕ) (place : ℕ → ℕ) (n after : ℕ) : Type 0 where
  pub inside : (t : ℕ) → t < n → place t < length b
  pub small : length b ≤ 2 ^ 24
  pub end : after ≤ length b

read-targets : (b : List ℕ) (place : ℕ → ℕ) (n after p : ℕ) (ts : List ℕ) → Near b place n after → AllByRecursion (λ t. t < n) ts → Lies b p (flat_map (λ t. target_bytes false after (place t)) ts) → items_at (switch_target_at b after) 4 p (length ts) ≡ Some (map place ts)
unfolding items_at switch_target_at
read-targets b place n after p [] near all l = refl
read-targets b place n after p (t ∷ ts) near all l =
    let rest : List ℕ = flat_map (λ t. target_bytes false after (place t)) ts in
    let inside = near.inside t all.0 in
    let first : number_within b p 4 ≡ Some (distance (2 ^ 32) after (place t)) = lies-number b p 4 (distance (2 ^ 32) after (place t)) (lies-left b p (target_bytes false after (place t)) rest l) (omega arith) in
    let found : target_at b (2 ^ 31) after (distance (2 ^ 32) after (place t)) ≡ Some (place t) = long b after (place t) inside (omega (arith, near.end, near.small)) (omega (arith, inside, near.small)) in
    let others = read-targets b place n after (p + 4) ts near all.1 (lies-right b p (p + 4) (target_bytes false after (place t)) rest l (ap (λ w. p + w) (sym (length-little 4 (distance (2 ^ 32) after (place t)))))) in
    ap (λ o. (o >>= λ n. target_at b (2 ^ 31) after n) >>= λ x. option_map (λ xs. x ∷ xs) (items_at (switch_target_at b after) 4 (p + 4) (length ts))) first
    ∙ ap (λ o. o >>= λ x. option_map (λ xs. x ∷ xs) (items_at (switch_target_at b after) 4 (p + 4) (length ts))) found
    ∙ ap (option_map (λ xs. place t ∷ xs)) others

length-targets : (place : ℕ → ℕ) (after : ℕ) (ts : List ℕ) → length (flat_map (λ t. target_bytes false after (place t)) ts) ≡ 4 * length ts
length-targets place after [] = refl
length-targets place after (t ∷ ts) =
    let len = length-append (target_bytes false after (place t)) (flat_map (λ t. target_bytes false after (place t)) ts) in
    let four = length-little 4 (distance (2 ^ 32) after (place t)) in
    let ih = length-targets place after ts in
    omega (arith, len, four, ih)

-- operands

-- the token of a text names it
abbrev pub TextNamed : List ℕ → ℕ → Operand → Type 0
TextNamed users token (of.Text units) = (user_text users token ≡ Some units) × (token < 2 ^ 32)
TextNamed users token operand = Unit {0}

as_kind : (users b : List ℕ) (p : ℕ) (found kd : k.OperandKind) (o : Operand) → Some found ≡ Some kd → operand_at users b p kd ≡ Some o → operand_at users b p found ≡ Some o
as_kind users b p found kd o e h =
    let same : found ≡ kd = cc in
    subst (λ z. operand_at users b p z ≡ Some o) (sym same) h

-- an operand is read, with the places of its targets
pub read-operand : (users b : List ℕ) (place : ℕ → ℕ) (n p after token : ℕ) (found : k.OperandKind) (o : Operand) → Near b place n after → IsOfKind (Some found) o → Lies b p (operand_bytes place after token (is_short (Some found)) o) → after ≡ p + operand_width found o → TargetsBelow n o → OperandFits o → TextNamed users token o → (is_short (Some found) && target_is_far place after o) ≡ false → operand_at users b p found ≡ Some (placed_operand place o)
unfolding operand_bytes operand_at
read-operand users b place n p after token found of.None near is l e below fits named far = as_kind users b p found kind.NoOperand of.None is refl
read-operand users b place n p after token found (of.U8 v) near is l e below fits named far = as_kind users b p found kind.U8 (of.U8 v) is (ap (option_map of.U8) (lies-number b p 1 v l (omega (arith, fits))))
read-operand users b place n p after token found (of.U16 v) near is l e below fits named far = as_kind users b p found kind.U16 (of.U16 v) is (ap (option_map of.U16) (lies-number b p 2 v l (omega (arith, fits))))
read-operand users b place n p after token found (of.I8 v) near is l e below fits named far = as_kind users b p found kind.I8 (of.I8 v) is (ap (option_map (λ n. of.I8 (cast_signed w8 n))) (lies-number b p 1 (cast_unsigned w8 v) l (omega (arith, ints))) ∙ ap (λ z. Some (of.I8 z)) (to_z-of_z w8 v fits))
read-operand users b place n p after token found (of.I32 v) near is l e below fits named far = as_kind users b p found kind.I32 (of.I32 v) is (ap (option_map (λ n. of.I32 (cast_signed w32 n))) (lies-number b p 4 (cast_unsigned w32 v) l (omega (arith, ints))) ∙ ap (λ z. Some (of.I32 z)) (to_z-of_z w32 v fits))
read-operand users b place n p after token found (of.I64 v) near is l e below fits named far = as_kind users b p found kind.I64 (of.I64 v) is (ap (option_map (λ n. of.I64 (cast_signed w64 n))) (lies-number b p 8 (cast_unsigned w64 v) l (omega (arith, ints))) ∙ ap (λ z. Some (of.I64 z)) (to_z-of_z w64 v fits))
read-operand users b place n p after token found (of.R4 v) near is l e below fits named far = as_kind users b p found kind.R4 (of.R4 v) is (ap (option_map of.R4) (lies-number b p 4 v l (omega (arith, fits))))
read-operand users b place n p after token found (of.R8 v) near is l e below fits named far = as_kind users b p found kind.R8 (of.R8 v) is (ap (option_map of.R8) (lies-number b p 8 v l (omega (arith, fits))))
read-operand users b place n p after token found (of.Tok v) near is l e below fits named far = as_kind users b p found kind.Token (of.Tok v) is (ap (option_map (λ n. of.Tok (token_from n))) (lies-number b p 4 (token_number v) l (token-small v fits.table fits.rid)) ∙ ap (λ t. Some (of.Tok t)) (token-back v fits.rid))
read-operand users b place n p after token found (of.Text units) near is l e below fits named far =
    as_kind users b p found kind.Text (of.Text units) is
    (ap (λ o. o >>= λ n. option_map of.Text (user_text users n)) (lies-number b p 4 token l (omega (arith, named.1))) ∙ ap (option_map of.Text) named.0)
read-operand users b place n p after token found (of.Target t) near is l e below fits named far = elim is [ inl short ↦ in_one short | inr four ↦ in_four four ]
  where
    in_one : Some found ≡ Some kind.ShortBranch → operand_at users b p found ≡ Some (of.Target (place t))
    in_one s =
        let same : found ≡ kind.ShortBranch = cc in
        let past : is_past after (place t) ≡ false = subst (λ z. (is_short (Some z) && target_is_far place after (of.Target t)) ≡ false) same far in
        let one : Lies b p (target_bytes true after (place t)) = subst (λ z. Lies b p (target_bytes (is_short (Some z)) after (place t))) same l in
        let ends : after ≡ p + 1 = subst (λ z. after ≡ p + operand_width z (of.Target t)) same e in
        as_kind users b p found kind.ShortBranch (of.Target (place t)) s
        (ap (λ o. o >>= λ n. option_map of.Target (target_at b (2 ^ 7) (p + 1) n)) (lies-number b p 1 (distance (2 ^ 8) after (place t)) one (omega arith))
        ∙ ap (λ a. option_map of.Target (target_at b (2 ^ 7) a (distance (2 ^ 8) after (place t)))) (sym ends)
        ∙ ap (option_map of.Target) (near_place b after (place t) (near.inside t below) past))

    in_four : Some found ≡ Some kind.Branch → operand_at users b p found ≡ Some (of.Target (place t))
    in_four s =
        let same : found ≡ kind.Branch = cc in
        let four : Lies b p (target_bytes false after (place t)) = subst (λ z. Lies b p (target_bytes (is_short (Some z)) after (place t))) same l in
        let ends : after ≡ p + 4 = subst (λ z. after ≡ p + operand_width z (of.Target t)) same e in
        let inside = near.inside t below in
        as_kind users b p found kind.Branch (of.Target (place t)) s
        (ap (λ o. o >>= λ n. option_map of.Target (target_at b (2 ^ 31) (p + 4) n)) (lies-number b p 4 (distance (2 ^ 32) after (place t)) four (omega arith))
        ∙ ap (λ a. option_map of.Target (target_at b (2 ^ 31) a (distance (2 ^ 32) after (place t)))) (sym ends)
        ∙ ap (option_map of.Target) (long b after (place t) inside (omega (arith, near.end, near.small)) (omega (arith, inside, near.small))))
read-operand users b place n p after token found (of.Switch ts) near is l e below fits named far =
    let same : found ≡ kind.Switch = cc in
    let ends : after ≡ p + (4 + 4 * length ts) = subst (λ z. after ≡ p + operand_width z (of.Switch ts)) same e in
    let next : after ≡ p + 4 + 4 * length ts = omega (arith, ends) in
    let rest : List ℕ = flat_map (λ t. target_bytes false after (place t)) ts in
    let count = lies-number b p 4 (length ts) (lies-left b p (little_bytes 4 (length ts)) rest l) (omega (arith, near.end, near.small, next)) in
    let targets = read-targets b place n after (p + 4) ts near below (lies-right b p (p + 4) (little_bytes 4 (length ts)) rest l (ap (λ w. p + w) (sym (length-little 4 (length ts))))) in
    as_kind users b p found kind.Switch (of.Switch (map place ts)) is
    (ap (λ o. o >>= λ count. option_map of.Switch (items_at (switch_target_at b (p + 4 + 4 * count)) 4 (p + 4) count)) count
    ∙ ap (λ a. option_map of.Switch (items_at (switch_target_at b a) 4 (p + 4) (length ts))) (sym next)
    ∙ ap (option_map of.Switch) targets)

pub length-operand : (place : ℕ → ℕ) (after token : ℕ) (found : k.OperandKind) (o : Operand) → IsOfKind (Some found) o → length (operand_bytes place after token (is_short (Some found)) o) ≡ operand_width found o
unfolding operand_bytes
length-operand place after token found of.None is = let same : found ≡ kind.NoOperand = cc in subst (λ z. 0 ≡ operand_width z of.None) (sym same) refl
length-operand place after token found (of.U8 v) is = let same : found ≡ kind.U8 = cc in subst (λ z. 1 ≡ operand_width z (of.U8 v)) (sym same) refl
length-operand place after token found (of.U16 v) is = let same : found ≡ kind.U16 = cc in subst (λ z. 2 ≡ operand_width z (of.U16 v)) (sym same) refl
length-operand place after token found (of.I8 v) is = let same : found ≡ kind.I8 = cc in subst (λ z. 1 ≡ operand_width z (of.I8 v)) (sym same) refl
length-operand place after token found (of.I32 v) is = let same : found ≡ kind.I32 = cc in subst (λ z. 4 ≡ operand_width z (of.I32 v)) (sym same) refl
length-operand place after token found (of.I64 v) is = let same : found ≡ kind.I64 = cc in subst (λ z. 8 ≡ operand_width z (of.I64 v)) (sym same) refl
length-operand place after token found (of.R4 v) is = let same : found ≡ kind.R4 = cc in subst (λ z. 4 ≡ operand_width z (of.R4 v)) (sym same) refl
length-operand place after token found (of.R8 v) is = let same : found ≡ kind.R8 = cc in subst (λ z. 8 ≡ operand_width z (of.R8 v)) (sym same) refl
length-operand place after token found (of.Tok v) is = let same : found ≡ kind.Token = cc in subst (λ z. 4 ≡ operand_width z (of.Tok v)) (sym same) refl
length-operand place after token found (of.Text v) is = let same : found ≡ kind.Text = cc in subst (λ z. 4 ≡ operand_width z (of.Text v)) (sym same) refl
length-operand place after token found (of.Target t) is = elim is [
  | inl short ↦ let same : found ≡ kind.ShortBranch = cc in subst (λ z. length (target_bytes (is_short (Some z)) after (place t)) ≡ operand_width z (of.Target t)) (sym same) refl
  | inr four ↦ let same : found ≡ kind.Branch = cc in subst (λ z. length (target_bytes (is_short (Some z)) after (place t)) ≡ operand_width z (of.Target t)) (sym same) refl
]
length-operand place after token found (of.Switch ts) is =
    let same : found ≡ kind.Switch = cc in
    let len = length-append (little_bytes 4 (length ts)) (flat_map (λ t. target_bytes false after (place t)) ts) in
    let rest = length-targets place after ts in
    subst (λ z. length (little_bytes 4 (length ts) ++ flat_map (λ t. target_bytes false after (place t)) ts) ≡ operand_width z (of.Switch ts)) (sym same) (omega (arith, len, rest))
