use Rattle.std.proofs.Common.{◌≡◌, ◌+◌, ◌≤◌, ℕ, List, length, sym, subst, rules}
use Rattle.std.specs.Prelude.{Ok, slice_range}
use Rattle.pe_image.specs.Places.{first_refusal}
use Rattle.pe_image.specs.Metadata.{metadata, metadata_extent, version_length, root_conditions}
use Rattle.pe_image.specs.declared.metadata.Extent.{Extent}
use Rattle.pe_image.proofs.Firsts.{first-ok}
use Rattle.pe_image.proofs.MetadataLemmas.{Whole, root-whole, extent-bytes}
use Rattle.pe_image.proofs.metadata.metadata_bytes.Goals as goal

pub record Lies (b : List ℕ) (root : Extent) : Type 0 where
  pub within : root.start + root.len ≤ length b
  pub bytes : slice_range b root.start (root.start + root.len) ≡ metadata b

lies_there : (b : List ℕ) (root : Extent) → root ≡ metadata_extent b → Whole b → Lies b root
lies_there b root e w =
    let at = extent-bytes b w in
    subst (Lies b) (sym e) (record { within = at.0; bytes = at.1 })

lies : (b : List ℕ) (root : Extent) → first_refusal (root_conditions b) (metadata_extent b) ≡ Ok root → Lies b root
lies b root h = lies_there b root (first-ok (root_conditions b) (metadata_extent b) root h) (root-whole b (metadata_extent b) root h)

pub overflow_add-result : goal.overflow_add-result
overflow_add-result c =
    let within = (lies c.args.file.now c.args.extent c.requires).within in
    search rules

pub slice_bounds-result-end : goal.slice_bounds-result-end
slice_bounds-result-end c =
    let within = (lies c.args.file.now c.args.extent c.requires).within in
    search rules

pub returns-clause-bytes : goal.returns-clause-bytes
returns-clause-bytes c = (lies c.args.file.now c.args.extent c.requires).bytes

pub returns-clause-whole : goal.returns-clause-whole
returns-clause-whole c =
    let P : List ℕ → Type 0 = λ m. 20 + version_length m ≤ length m in
    let b = c.args.file.now in
    subst P (sym (lies b c.args.extent c.requires).bytes) (root-whole b (metadata_extent b) c.args.extent c.requires).rooted
