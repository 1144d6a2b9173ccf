-- The facts of an image that was written, as they are read.
use Rattle.std.proofs.Common.{◌≡◌, ℕ, suc, ◌+◌, ◌<◌, ◌≤◌, ◌^◌, List, [], ◌∷◌, ◌++◌, Bool, true, false, cond, not, length, take, replicate, refl, sym, ap, ◌∙◌, arith, eqb}
use Rattle.std.specs.Prelude.{◌&&◌, ◌||◌, if◌then◌else◌}
use Rattle.std.specs.List.{before_first, list_any, position_or_len, slice_range}
use Rattle.std.proofs.Math.Seq.{take-append_seam}
use Rattle.std.proofs.lemmas.Nat.{and_le_l}
use Rattle.byteorder.specs.Endian.{little_bytes, little_from}
use Rattle.cil_base.specs.Token.{token_from, token_number}
use Rattle.cil_base.proofs.TokenLemmas.{token-back, token-small}
use Rattle.pe_image.specs.Places.{u16_at, u32_at, u64_at}
use Rattle.pe_image.specs.Headers.{coff_header, is_plus, optional_header}
use Rattle.pe_image.specs.CliHeader.{cli_header, has_native}
use Rattle.pe_image.specs.Metadata.{metadata, version_text}
use Rattle.pe_image.specs.Facts.{image_base, image_facts}
use Rattle.pe_image.specs.declared.facts.Facts.{Facts}
use Rattle.laid_parts.specs.LaidParts.{padding}
use Rattle.laid_parts.proofs.HasPart.{HasPart, has-at, has-slice, has-within}
use Rattle.laid_parts.proofs.PartNumbers.{number-in, number-there}
use Rattle.pe_write.specs.Headers.{address, unsigned}
use Rattle.pe_write.specs.Image.{cli_numbers, image_bytes, image_size, raw_size}
use Rattle.pe_write.specs.Metadata.{zero_ended, metadata_bytes}
use Rattle.pe_write.specs.Reread.{AreWritable, FactsAreReread, written_facts}
use Rattle.pe_write.specs.declared.contents.Contents.{Contents}
use Rattle.pe_write.specs.declared.metadata.StreamBytes.{StreamBytes}
use Rattle.pe_write.proofs.HeaderNumbers as numbers
use Rattle.pe_write.proofs.ImagePlaces as at
use Rattle.pe_write.proofs.MetadataLemmas as meta
use Rattle.pe_write.proofs.OpenLemmas as open-image

two : {whole header : List ℕ} {base i : ℕ} (n : ℕ) → HasPart whole base header → HasPart header i (little_bytes 2 n) → n < 2 ^ 16 → u16_at whole (base + i) ≡ n
unfolding u16_at
two n h k fits = number-there 2 n (has-within h k) fits

four : {whole header : List ℕ} {base i : ℕ} (n : ℕ) → HasPart whole base header → HasPart header i (little_bytes 4 n) → n < 2 ^ 32 → u32_at whole (base + i) ≡ n
unfolding u32_at
four n h k fits = number-there 4 n (has-within h k) fits

-- the image base by the kind of image
base-by : (plus : Bool) (whole header : List ℕ) (n : ℕ) → HasPart whole 88 header → HasPart header (if plus then 24 else 28) (address plus n) → n < 2 ^ (if plus then 64 else 32) → image_base plus whole 88 ≡ n
unfolding u32_at u64_at
base-by true whole header n h k fits = number-there 8 n (has-within h k) fits
base-by false whole header n h k fits = number-there 4 n (has-within h k) fits

-- a text before its zeros
stops : (text zeros : List ℕ) → list_any (λ c. eqb c 0) text ≡ false → position_or_len (λ c. eqb c 0) (text ++ 0 ∷ zeros) ≡ length text
stops [] zeros h = refl
stops (c ∷ text) zeros h =
    elim (eqb c 0) as (λ t. t || list_any (λ c. eqb c 0) text ≡ false → cond (not t) (1 + position_or_len (λ c. eqb c 0) (text ++ 0 ∷ zeros)) 0 ≡ suc (length text)) [
      | true ↦ λ k. absurd (cc)
      | false ↦ λ k. let more = stops text zeros k in omega (arith, more)
    ] h

text-before : (text : List ℕ) → list_any (λ c. eqb c 0) text ≡ false → before_first (λ c. eqb c 0) (zero_ended text) ≡ text
text-before text h =
    let zeros = padding 4 (length text + 1) in
    let one : 1 + zeros ≡ suc zeros = omega arith in
    ap (λ (n : ℕ). before_first (λ c. eqb c 0) (text ++ replicate n 0)) one
    ∙ ap (λ (n : ℕ). take n (text ++ 0 ∷ replicate zeros 0)) (stops text (replicate zeros 0) h)
    ∙ take-append_seam text (0 ∷ replicate zeros 0)

module _ (f : Facts) (c : Contents) (s : StreamBytes) (is : c.metadata ≡ metadata_bytes f.version s) (small : length (image_bytes f c) ≤ 2 ^ 26) (ok : AreWritable f) where
  abbrev b : List ℕ
  b = image_bytes f c

  header-numbers : numbers.CliHeaderNumbers (cli_numbers f c) (at.cli f c)
  header-numbers = numbers.cli-numbers (cli_numbers f c)

  cli-two : (i n : ℕ) → HasPart (at.cli f c) i (little_bytes 2 n) → n < 2 ^ 16 → u16_at (cli_header b) i ≡ n
  unfolding u16_at
  cli-two i n h fits = number-there 2 n (has-at (let z : 0 + i ≡ i = omega arith in z) (has-within (open-image.cli-has f c small) h)) fits

  cli-zero : (i : ℕ) → i + 4 ≤ 72 → little_from i 4 (at.cli f c) ≡ 0 → u32_at (cli_header b) i ≡ 0
  unfolding u32_at
  cli-zero i room zero =
      let size = header-numbers.size in
      let z : i ≡ 0 + i = omega arith in
      ap (λ (n : ℕ). little_from n 4 (cli_header b)) z ∙ number-in (open-image.cli-has f c small) i 4 (omega (arith, size)) ∙ zero

  native-read : has_native (cli_header b) ≡ false
  unfolding has_native
  native-read =
      let h = cli_header b in
      ap (λ (n : ℕ). not ((eqb n 0) && (eqb (u32_at h 48) 0) && (eqb (u32_at h 56) 0) && (eqb (u32_at h 64) 0))) (cli-zero 40 (omega arith) header-numbers.code_manager)
      ∙ ap (λ (n : ℕ). not ((eqb n 0) && (eqb (u32_at h 56) 0) && (eqb (u32_at h 64) 0))) (cli-zero 48 (omega arith) header-numbers.vtable_fixups)
      ∙ ap (λ (n : ℕ). not ((eqb n 0) && (eqb (u32_at h 64) 0))) (cli-zero 56 (omega arith) header-numbers.export_jumps)
      ∙ ap (λ (n : ℕ). not (eqb n 0)) (cli-zero 64 (omega arith) header-numbers.native_header)

  version-read : version_text (metadata b) ≡ f.version
  version-read =
      let long = meta.length-zero_ended f.version in
      ap version_text (open-image.metadata-is f c s is small)
      ∙ ap (λ (n : ℕ). before_first (λ c. eqb c 0) (slice_range (metadata_bytes f.version s) 16 (16 + n))) (meta.length-read f.version s (open-image.metadata-small f c s is small) ∙ sym long)
      ∙ ap (before_first (λ c. eqb c 0)) (has-slice (meta.text f.version s))
      ∙ text-before f.version ok.version

  entry-read : token_from (u32_at (cli_header b) 20) ≡ f.entry
  entry-read =
      ap token_from (open-image.cli-four f c small 20 (token_number f.entry) header-numbers.entry (token-small f.entry ok.table ok.rid))
      ∙ token-back f.entry ok.rid

  pub facts-read : image_facts b ≡ written_facts f
  unfolding image_facts
  facts-read =
      let signature = open-image.signature f c small in
      let header = open-image.header f c small in
      let file = numbers.file-facts f.plus f in
      let optional = numbers.optional-facts f.plus f (raw_size c) (image_size c) in
      let has-file = at.has-file f c in
      let has-optional = at.has-optional f c in
      let plus = open-image.is-plus f c small in
      let machine : u16_at b (coff_header b) ≡ f.machine = ap (λ (n : ℕ). u16_at b (n + 4)) signature ∙ two f.machine has-file file.machine ok.machine in
      let time : u32_at b (coff_header b + 4) ≡ f.time = ap (λ (n : ℕ). u32_at b (n + 4 + 4)) signature ∙ four f.time has-file file.time ok.time in
      let characteristics : u16_at b (coff_header b + 18) ≡ f.characteristics = ap (λ (n : ℕ). u16_at b (n + 4 + 18)) signature ∙ two f.characteristics has-file file.characteristics ok.characteristics in
      let base : image_base (is_plus b) b (optional_header b) ≡ f.base = ap (λ p. image_base p b (optional_header b)) plus ∙ ap (image_base f.plus b) header ∙ base-by f.plus b (at.optional f c) f.base has-optional optional.base ok.base in
      let subsystem : u16_at b (optional_header b + 68) ≡ f.subsystem = ap (λ (n : ℕ). u16_at b (n + 68)) header ∙ two f.subsystem has-optional optional.subsystem ok.subsystem in
      let dll : u16_at b (optional_header b + 70) ≡ f.dll = ap (λ (n : ℕ). u16_at b (n + 70)) header ∙ two f.dll has-optional optional.dll ok.dll in
      let major : u16_at (cli_header b) 4 ≡ f.runtime_major = cli-two 4 f.runtime_major header-numbers.runtime_major ok.runtime_major in
      let minor : u16_at (cli_header b) 6 ≡ f.runtime_minor = cli-two 6 f.runtime_minor header-numbers.runtime_minor ok.runtime_minor in
      let low = and_le_l f.flags 0xfffffff7 in
      let below = ok.flags in
      let flags : u32_at (cli_header b) 16 ≡ unsigned f.flags = open-image.cli-four f c small 16 (unsigned f.flags) header-numbers.flags (omega (arith, low, below)) in
      let native = native-read in
      let entry = entry-read in
      let version = version-read in
      cc

pub facts_are_reread : FactsAreReread
facts_are_reread f c s is small ok = facts-read f c s is small ok
