-- Numbers in bytes are below the powers of 256, in a file and in its parts.
use Rattle.std.proofs.Common.{◌≡◌, ◌∙◌, refl, sym, ap, ℕ, zero, suc, ◌+◌, ◌*◌, ◌-◌, ◌/◌, ◌%◌, ◌^◌, ◌<◌, Bool, true, false, cond, List, [], ◌∷◌, Option, Some, None, take, drop, length, arith}
use Rattle.std.specs.Prelude.{slice_index, slice_range, ◌==◌, min, not}
use Rattle.std.specs.List.{AllByRecursion, before_first, list_any, position_or_len}
use Rattle.std.proofs.Math.Nat.{pow-succ'}
use Rattle.byteorder.specs.Endian.{little_from}
use Rattle.cil_base.specs.Place.{number_at}
use Rattle.cil_base.specs.Token.{Token, token_from}
use Rattle.md_heaps.specs.LaidHeaps.{IsText}
use Rattle.pe_image.specs.CliHeader.{cli_header, metadata_rva, metadata_size}
use Rattle.pe_image.specs.Facts.{image_base, image_facts}
use Rattle.pe_image.specs.Headers.{is_plus, optional_header}
use Rattle.pe_image.specs.Metadata.{metadata, version_length}
use Rattle.pe_image.specs.Places.{u16_at, u32_at, u64_at}
use Rattle.pe_image.specs.Sections.{bytes_from, bytes_in, raw_end, raw_place_of, section_list, section_of}
use Rattle.pe_image.specs.Streams.{stream, stream_in, stream_list, stream_named}
use Rattle.pe_image.specs.declared.section.Section.{Section}
use Rattle.pe_image.specs.declared.stream.Stream.{Stream}
use Rattle.pe_image.specs.declared.stream.StreamName.{StreamName}
use Rattle.graph_facts.specs.HoldsValue.{HoldsFacts}
use Rattle.graph_facts.specs.OfTypes.{AreBytes}
use Rattle.graph_facts.proofs.ItemLemmas.{all_drop, all_take}

byte_below : (bytes : List ℕ) (i : ℕ) → AreBytes bytes → slice_index bytes i < 2 ^ 8
byte_below [] i all = omega arith
byte_below (x ∷ bytes) zero all = all.0
byte_below (x ∷ bytes) (suc i) all = byte_below bytes i all.1

little_below : (n i : ℕ) (bytes : List ℕ) → AreBytes bytes → little_from i n bytes < 256 ^ n
little_below zero i bytes all = omega arith
little_below (suc n) i bytes all =
    let byte = byte_below bytes i all in
    let rest = little_below n (suc i) bytes all in
    let more = pow-succ' 256 n in
    omega (arith, byte, rest, more)

pub number_below : (bytes : List ℕ) (place width : ℕ) → AreBytes bytes → number_at bytes place width < 256 ^ width
unfolding number_at
number_below bytes place width all = little_below width place bytes all

u16_below : (bytes : List ℕ) (place : ℕ) → AreBytes bytes → u16_at bytes place < 2 ^ 16
unfolding u16_at
u16_below bytes place all = little_below 2 place bytes all

u32_below : (bytes : List ℕ) (place : ℕ) → AreBytes bytes → u32_at bytes place < 2 ^ 32
unfolding u32_at
u32_below bytes place all = little_below 4 place bytes all

u64_below : (bytes : List ℕ) (place : ℕ) → AreBytes bytes → u64_at bytes place < 2 ^ 64
unfolding u64_at
u64_below bytes place all = little_below 8 place bytes all

-- parts of bytes are bytes
range_bytes : (bytes : List ℕ) (i j : ℕ) → AreBytes bytes → AreBytes (slice_range bytes i j)
range_bytes bytes i j all = all_take (λ byte. byte < 2 ^ 8) (j - i) (drop i bytes) (all_drop (λ byte. byte < 2 ^ 8) i bytes all)

pub from_bytes : (b : List ℕ) (rva : ℕ) → AreBytes b → AreBytes (bytes_from b rva)
unfolding bytes_from
from_bytes b rva all = by (section_of (section_list b) rva)
  where
    by : (o : Option Section) → AreBytes (bytes_in b rva o)
    by None = tt
    by (Some s) = range_bytes b (raw_place_of rva s) (min (raw_end s) (length b)) all

cli_bytes : (b : List ℕ) → AreBytes b → AreBytes (cli_header b)
unfolding cli_header
cli_bytes b all = from_bytes b _ all

metadata_bytes : (b : List ℕ) → AreBytes b → AreBytes (metadata b)
unfolding metadata
metadata_bytes b all = all_take (λ byte. byte < 2 ^ 8) (metadata_size b) (bytes_from b (metadata_rva b)) (from_bytes b (metadata_rva b) all)

pub stream_bytes : (b : List ℕ) (name : StreamName) → AreBytes b → AreBytes (stream b name)
unfolding stream
stream_bytes b name all = by (stream_named (stream_list (metadata b)) name)
  where
    by : (o : Option Stream) → AreBytes (stream_in (metadata b) o)
    by None = tt
    by (Some s) = range_bytes (metadata b) s.offset (s.offset + s.size) (metadata_bytes b all)

-- the version text ends before its first zero byte
no_zero : (bytes : List ℕ) → IsText (before_first (λ c. c == 0) bytes)
no_zero [] = refl
no_zero (x ∷ bytes) = by (x == 0) refl (no_zero bytes)
  where
    one : (n : ℕ) → 1 + n ≡ suc n
    one n = omega arith

    by : (t : Bool) → (x == 0) ≡ t → IsText (before_first (λ c. c == 0) bytes) → list_any (λ byte. byte == 0) (take (cond (not t) (1 + position_or_len (λ c. c == 0) bytes) 0) (x ∷ bytes)) ≡ false
    by true is more = refl
    by false is more =
        ap (λ n. list_any (λ byte. byte == 0) (take n (x ∷ bytes))) (one (position_or_len (λ c. c == 0) bytes))
        ∙ rw is more

base_below : (b : List ℕ) (place : ℕ) (plus : Bool) → AreBytes b → image_base plus b place < cond plus (2 ^ 64) (2 ^ 32)
base_below b place true all = u64_below b (place + 24) all
base_below b place false all = u32_below b (place + 28) all

table_below : (number : ℕ) → number < 2 ^ 32 → (token_from number).table < 2 ^ 8
unfolding token_from
table_below number h = omega (arith, h)

rid_below : (number : ℕ) → (token_from number).rid < 2 ^ 24
unfolding token_from
rid_below number = omega arith

-- the facts of a file
pub facts_hold : (b : List ℕ) → AreBytes b → HoldsFacts (image_facts b)
unfolding image_facts
facts_hold b all =
    let cli = cli_bytes b all in
    record {
      machine = u16_below b _ all;
      time = u32_below b _ all;
      characteristics = u16_below b _ all;
      base = base_below b (optional_header b) (is_plus b) all;
      subsystem = u16_below b _ all;
      dll = u16_below b _ all;
      runtime_major = u16_below (cli_header b) 4 cli;
      runtime_minor = u16_below (cli_header b) 6 cli;
      flags = u32_below (cli_header b) 16 cli;
      entry_table = table_below (u32_at (cli_header b) 20) (u32_below (cli_header b) 20 cli);
      entry_rid = rid_below (u32_at (cli_header b) 20);
      version = no_zero (slice_range (metadata b) 16 (16 + version_length (metadata b)));
    }
