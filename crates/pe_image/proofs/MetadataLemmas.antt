-- Where the bytes of the metadata lie in the file.
use Rattle.std.proofs.Common.{◌≡◌, ◌+◌, ◌<◌, ◌≤◌, ℕ, min, false, List, [], ◌∷◌, length, take, arith, length-take}
use Rattle.std.specs.Prelude.{Option, Some, None, Ok, unwrap_or, option_map, slice_range, nat_lt, ◌&&◌, not}
use Rattle.std.proofs.lemmas.Grind.{common_steps}
use Rattle.std.proofs.lemmas.Bool.Decides.{nat_tests}
use Rattle.pe_image.specs.Places.{first_refusal}
use Rattle.pe_image.specs.Sections.{place, raw_place_of, raw_end, bytes_in, bytes_from, section_of, section_list}
use Rattle.pe_image.specs.CliHeader.{cli_header, metadata_rva, metadata_size}
use Rattle.pe_image.specs.Metadata.{metadata, metadata_extent, has_root, version_length, root_conditions}
use Rattle.pe_image.specs.declared.section.Section.{Section}
use Rattle.pe_image.specs.declared.refusal.PeRefusal.TheVariants.{BadCli, BadRoot}
use Rattle.pe_image.proofs.Firsts.{first-head}

front_of : (b : List ℕ) (p e n : ℕ) → 0 < n → n ≤ length (slice_range b p e) → (p + n ≤ length b) × (slice_range b p (p + n) ≡ take n (slice_range b p e))
front_of b p e n h k = (grind (arith, common_steps), grind (arith, common_steps))

extent_in : (b : List ℕ) (rva n : ℕ) (s : Option Section) → 0 < n → n ≤ length (bytes_in b rva s) → (unwrap_or (option_map (raw_place_of rva) s) 0 + n ≤ length b) × (slice_range b (unwrap_or (option_map (raw_place_of rva) s) 0) (unwrap_or (option_map (raw_place_of rva) s) 0 + n) ≡ take n (bytes_in b rva s))
extent_in b rva n None h k = absurd (omega arith)
extent_in b rva n (Some s) h k = front_of b (raw_place_of rva s) (min (raw_end s) (length b)) n h k

-- what the conditions of the root bar
pub record Whole (b : List ℕ) : Type 0 where
  pub cli : 72 ≤ length (cli_header b)
  pub there : metadata_size b ≤ length (bytes_from b (metadata_rva b))
  pub rooted : 20 + version_length (metadata b) ≤ length (metadata b)

root_there : (n size : ℕ) (m : List ℕ) → not (not (nat_lt n size) && has_root m) ≡ false → (size ≤ n) × (20 + version_length m ≤ length m)
root_there n size m h = (grind (arith, nat_tests), grind (arith, nat_tests))

pub root-whole : {A : Type 0} (b : List ℕ) (a x : A) → first_refusal (root_conditions b) a ≡ Ok x → Whole b
unfolding root_conditions
root-whole b a x h =
    let cli = first-head (nat_lt (length (cli_header b)) 72, BadCli) ((not (not (nat_lt (length (bytes_from b (metadata_rva b))) (metadata_size b)) && has_root (metadata b)), BadRoot) ∷ []) a x h in
    let root = first-head (not (not (nat_lt (length (bytes_from b (metadata_rva b))) (metadata_size b)) && has_root (metadata b)), BadRoot) [] a x cli.1 in
    let parts = root_there (length (bytes_from b (metadata_rva b))) (metadata_size b) (metadata b) root.0 in
    let short : nat_lt (length (cli_header b)) 72 ≡ false = cli.0 in
    record { cli = grind (arith, nat_tests); there = parts.0; rooted = parts.1 }

sized : (n : ℕ) (s : List ℕ) (v : ℕ) → 20 + v ≤ length (take n s) → 0 < n
sized n s v h = omega (arith, length-take n s)

pub extent-bytes : (b : List ℕ) → Whole b → ((metadata_extent b).start + (metadata_extent b).len ≤ length b) × (slice_range b (metadata_extent b).start ((metadata_extent b).start + (metadata_extent b).len) ≡ metadata b)
unfolding metadata metadata_extent bytes_from place
extent-bytes b w =
    extent_in b (metadata_rva b) (metadata_size b) (section_of (section_list b) (metadata_rva b)) (sized (metadata_size b) (bytes_from b (metadata_rva b)) (version_length (metadata b)) w.rooted) w.there
