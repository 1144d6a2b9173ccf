-- The numbers of rows of an image, as an array.
use Rattle.std.proofs.Common.{◌≡◌, refl, sym, ◌∙◌, subst, ℕ, ◌+◌, ◌<◌, ◌≤◌, Bool, true, false, List, length, map, get_or, set, arith, tests}
use Rattle.std.specs.Prelude.{nat_lt, slice_index}
use Rattle.std.specs.List.{range_with_len}
use Rattle.std.proofs.Math.ListN.{get_or-eq_default}
use Rattle.std.proofs.lemmas.List.FromFn.{length-map-range_with_len}
use Rattle.std.proofs.lemmas.List.Edits.{fill_by_more}
use Rattle.md_schema.specs.Header.{count_of}
use Rattle.md_schema.specs.Layout.{head_of}
use Rattle.node_model.specs.Keys.{image_rows}
use Rattle.pe_image.specs.Streams.{stream}
use Rattle.pe_image.specs.declared.stream.StreamName.TheVariants.{Tables}

-- a number past the last table has no rows
past_the_last : (b : List ℕ) (table : ℕ) → 64 ≤ table → image_rows b table ≡ 0
unfolding image_rows head_of
past_the_last b table past =
    get_or-eq_default (map (count_of (stream b Tables)) (range_with_len 0 64)) 0 {n = table}
    (omega (arith, past, length-map-range_with_len (count_of (stream b Tables)) 0 64))

pub count_more : (f : ℕ → ℕ) (xs : List ℕ) (i v : ℕ) → v ≡ f i → i < length xs → ((k : ℕ) → k < i → get_or xs k 0 ≡ f k)
    → (k : ℕ) → k < i + 1 → get_or (set xs i v) k 0 ≡ f k
count_more f xs i v e within below =
    subst (λ w. (k : ℕ) → k < i + 1 → get_or (set xs i w) k 0 ≡ f k) (sym e) (fill_by_more f xs i 0 within below)

pub counted : (b : List ℕ) (rows : List ℕ) → length rows ≡ 64 → ((table : ℕ) → table < 64 → get_or rows table 0 ≡ image_rows b table)
    → (table : ℕ) → slice_index rows table ≡ image_rows b table
counted b rows long same table = by_table (nat_lt table 64) refl
  where
    by_table : (x : Bool) → nat_lt table 64 ≡ x → slice_index rows table ≡ image_rows b table
    by_table true e = same table (grind (arith, tests))
    by_table false e =
        let past : 64 ≤ table = grind (arith, tests) in
        get_or-eq_default rows 0 (omega (arith, past, long)) ∙ sym (past_the_last b table past)
