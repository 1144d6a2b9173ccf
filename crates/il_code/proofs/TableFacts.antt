-- The table of instructions says what the standard says.
use Rattle.std.proofs.Common.{◌≡◌, ◌==◌, ◌+◌, ◌<◌, ◌≤◌, ◌-◌, ◌&&◌, ◌||◌, ℕ, zero, suc, List, [], ◌∷◌, Option, Some, None, Bool, true, false, refl, sym, ap, ◌∙◌, arith, map, get_or, nat_lt, nat_le, inl, inr}
use Rattle.std.specs.Prelude.{option_map}
use Rattle.std.specs.List.{find, list_all}
use Rattle.std.proofs.lemmas.List.{get_or_past}
use Rattle.std.proofs.lemmas.List.FromFn.{get_or-map-range_with_len}
use Rattle.std.proofs.lemmas.Bool.{cases_Bool, cases_lt}
use Rattle.std.proofs.lemmas.Bool.Decides.{nat_tests}
use Rattle.il_code.specs.declared.kind.OperandKind.{OperandKind}
use Rattle.il_code.specs.declared.table.InstrRow.{InstrRow}
use Rattle.il_code.specs.Instructions.{Instruction, instruction, instructions, kind_of}
use Rattle.il_code.specs.inner.Table.{code_of, row_seen, table_rows}

-- the row at a place
abbrev pub row_in : List (Option InstrRow) → ℕ → Option Instruction
row_in rows place = option_map row_seen (get_or rows place None)

-- the rows are those of the standard
abbrev pub AreRows : List (Option InstrRow) → Type 0
AreRows rows = map (option_map row_seen) rows ≡ table_rows

row_in-map : (rows : List (Option InstrRow)) (place : ℕ) → row_in rows place ≡ get_or (map (option_map row_seen) rows) place None
row_in-map [] place = refl
row_in-map (r ∷ rows) zero = refl
row_in-map (r ∷ rows) (suc place) = row_in-map rows place

row-is : (rows : List (Option InstrRow)) (place : ℕ) → AreRows rows → place < 287 → row_in rows place ≡ instruction (code_of place)
row-is rows place are h =
    row_in-map rows place ∙ ap (λ all. get_or all place None) are
    ∙ get_or-map-range_with_len (λ place. instruction (code_of place)) 0 287 place place None h (omega arith)

row-past : (rows : List (Option InstrRow)) (place : ℕ) → AreRows rows → 287 ≤ place → row_in rows place ≡ None
row-past rows place are h = row_in-map rows place ∙ ap (λ all. get_or all place None) are ∙ get_or_past table_rows place None h

-- a code of one byte, or of FE and a second below 1F
abbrev pub has_place : ℕ → Bool
has_place code = nat_lt code 0x100 || (nat_le 0xFE00 code && nat_lt code 0xFE1F)

missed : (rows : List Instruction) (code : ℕ) → has_place code ≡ false → list_all (λ (r : Instruction). has_place r.0) rows ≡ true → find (λ (r : Instruction). r.0 == code) rows ≡ None
missed [] code h all = refl
missed (r ∷ rows) code h all = passed r rows code h all (missed rows code h)
  where
    apart : (a code : ℕ) → has_place code ≡ false → has_place a ≡ true → (a == code) ≡ false
    apart a code h k = grind (arith, nat_tests)

    parts : (a b : Bool) → (a && b) ≡ true → (a ≡ true) × (b ≡ true)
    parts true true h = (refl, refl)
    parts true false h = cc
    parts false b h = cc

    passed : (r : Instruction) (rows : List Instruction) (code : ℕ) → has_place code ≡ false → (has_place r.0 && list_all (λ (r : Instruction). has_place r.0) rows) ≡ true → (list_all (λ (r : Instruction). has_place r.0) rows ≡ true → find (λ (r : Instruction). r.0 == code) rows ≡ None) → find (λ (r : Instruction). r.0 == code) (r ∷ rows) ≡ None
    passed r rows code h all rest =
        let both = parts (has_place r.0) (list_all (λ (r : Instruction). has_place r.0) rows) all in
        rw (apart r.0 code h both.0) (rest both.1)

no_instruction : (code : ℕ) → has_place code ≡ false → instruction code ≡ None
no_instruction code h = missed instructions code h refl

pub one_byte_row : (rows : List (Option InstrRow)) (code : ℕ) → AreRows rows → code < 0x100 → row_in rows code ≡ instruction code
one_byte_row rows code are h = row-is rows code are (omega (arith, h)) ∙ ap instruction (same code h)
  where
    same : (code : ℕ) → code < 0x100 → code_of code ≡ code
    same code h = grind (arith, nat_tests)

pub kind-has_place : (code : ℕ) (kind : OperandKind) → kind_of code ≡ Some kind → has_place code ≡ true
unfolding kind_of
kind-has_place code kind h = elim (cases_Bool (has_place code)) [
  | inl t ↦ t
  | inr f ↦ absurd (none_is (sym (ap (option_map (λ (r : Instruction). r.2)) (no_instruction code f)) ∙ h))
]
  where
    none_is : None ≡ Some kind → ⊥
    none_is e = cc

pub no_row : (code : ℕ) → 0x100 ≤ code → code < 0xFE00 → instruction code ≡ None
no_row code h k = no_instruction code (other code h k)
  where
    other : (code : ℕ) → 0x100 ≤ code → code < 0xFE00 → has_place code ≡ false
    other code h k = grind (arith, nat_tests)

pub two_byte_row : (rows : List (Option InstrRow)) (code : ℕ) → AreRows rows → 0xFE00 ≤ code → row_in rows (0x100 + (code - 0xFE00)) ≡ instruction code
two_byte_row rows code are h = elim (cases_lt (0x100 + (code - 0xFE00)) 287) [
  | inl inside ↦ row-is rows (0x100 + (code - 0xFE00)) are inside ∙ ap instruction (same code h)
  | inr past ↦ row-past rows (0x100 + (code - 0xFE00)) are past ∙ sym (no_instruction code (other code past))
]
  where
    same : (code : ℕ) → 0xFE00 ≤ code → code_of (0x100 + (code - 0xFE00)) ≡ code
    same code h = grind (arith, nat_tests)

    other : (code : ℕ) → 287 ≤ 0x100 + (code - 0xFE00) → has_place code ≡ false
    other code h = grind (arith, nat_tests)
