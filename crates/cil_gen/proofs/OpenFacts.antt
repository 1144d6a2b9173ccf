-- The small image is an image: none of the refusals of its headers and streams comes, and its tables are whole.
use Rattle.std.proofs.Common.{◌≡◌, refl, sym, subst, ℕ, zero, suc, ◌+◌, ◌<◌, ◌≤◌, ◌^◌, Bool, true, false, not, arith}
use Rattle.std.specs.List.{list_all, range_with_len}
use Rattle.std.specs.Prelude.{IsOk, ◌==◌, ◌||◌, is_some, nat_lt}
use Rattle.std.proofs.lemmas.Bool.{and_parts}
use Rattle.std.proofs.lemmas.Bool.Decides.{nat_tests}
use Rattle.cil_base.specs.Place.{number_at}
use Rattle.md_schema.specs.Entry.{columns_of}
use Rattle.md_schema.specs.Header.{IsSupported, count_of, is_present, sum_below}
use Rattle.md_schema.specs.Layout.{IsWhole, columns_width, first_place, head_of, table_row_width}
use Rattle.md_schema.specs.Schema.{tables}
use Rattle.pe_image.specs.CliHeader.{cli_header}
use Rattle.pe_image.specs.Headers.{header_conditions, is_plus, magic, magic_conditions, pe_signature, room_conditions, signature_conditions}
use Rattle.pe_image.specs.Layout.{pe_conditions, pe_layout}
use Rattle.pe_image.specs.Metadata.{metadata, root_conditions}
use Rattle.pe_image.specs.Places.{u16_at, u32_at}
use Rattle.pe_image.specs.Sections.{bytes_from, section_header_at, section_headers_at}
use Rattle.pe_image.specs.Streams.{all_headers, bad_header, header_places, header_width, name_length, stream, stream_at, stream_conditions, stream_list}
use Rattle.pe_image.specs.declared.stream.StreamName.TheVariants.{Tables}
use Rattle.cil_gen.specs.SmallImage.{small_image}
use Rattle.cil_gen.proofs.ImageFacts.{table_bytes, tables_stream}

pub laid : IsOk (pe_layout small_image)
unfolding small_image pe_layout pe_conditions header_conditions signature_conditions magic_conditions room_conditions root_conditions stream_conditions bad_header metadata bytes_from cli_header magic is_plus section_headers_at section_header_at pe_signature u16_at u32_at stream_list stream_at all_headers header_places header_width name_length
laid = refl

-- a test that all numbers of a range pass
passes : (test : ℕ → Bool) (a len n : ℕ) → list_all test (range_with_len a len) ≡ true → a ≤ n → n < a + len → test n ≡ true
passes test a zero n all low high = absurd (omega arith)
passes test a (suc len) n all low high = by_first (n == a) refl (λ after. passes test (a + 1) len n parts.1 after (omega arith))
  where
    parts : (test a ≡ true) × (list_all test (range_with_len (a + 1) len) ≡ true)
    parts = and_parts (test a) (list_all test (range_with_len (a + 1) len)) all

    same : (n == a) ≡ true → a ≡ n
    same is = grind (arith, nat_tests)

    later : (n == a) ≡ false → a + 1 ≤ n
    later is = grind (arith, nat_tests)

    by_first : (x : Bool) → (n == a) ≡ x → (a + 1 ≤ n → test n ≡ true) → test n ≡ true
    by_first true is rest = subst (λ m. test m ≡ true) (same is) parts.0
    by_first false is rest = rest (later is)

so : (x y : Bool) → (not x || y) ≡ true → x ≡ true → y ≡ true
so true y either is = either
so false y either is = absurd cc

supported : (table : ℕ) → table < 64 → IsSupported table_bytes table
unfolding number_at tables
supported table few = so (is_present table_bytes table) (is_some (columns_of table))
    (passes (λ t. not (is_present table_bytes t) || is_some (columns_of t)) 0 64 table refl (omega arith) (omega arith))

counted : (table : ℕ) → table < 64 → count_of table_bytes table < 2 ^ 24
unfolding number_at sum_below
counted table few =
    let test = passes (λ t. nat_lt (count_of table_bytes t) (2 ^ 24)) 0 64 table refl (omega arith) (omega arith) in
    grind (arith, nat_tests)

whole_bytes : IsWhole table_bytes
unfolding number_at sum_below head_of first_place table_row_width columns_width tables
whole_bytes = record {
  header = omega arith;
  supported = supported;
  heaps = omega arith;
  counted = omega arith;
  few = counted;
  stands = omega arith;
}

pub whole : IsWhole (stream small_image Tables)
whole = subst IsWhole (sym tables_stream) whole_bytes
