-- The layout of an image: what its headers lay out, or the first refusal whose condition holds of the file. ECMA-335 II.24.2, II.25.
use Rattle.std.specs.Prelude.{◌≡◌, ℕ, Bool, List, ◌++◌, Result, Ok, Err}
use Rattle.pe_image.specs.Places.{first_refusal}
use Rattle.pe_image.specs.Headers.{header_conditions}
use Rattle.pe_image.specs.Sections.{section_list}
use Rattle.pe_image.specs.CliHeader.{resources_rva}
use Rattle.pe_image.specs.Metadata.{metadata, metadata_extent, root_conditions}
use Rattle.pe_image.specs.Streams.{stream_list, stream_conditions}
use Rattle.pe_image.specs.Facts.{image_facts}
use Rattle.pe_image.specs.declared.image.Pe.{Pe}
use Rattle.pe_image.specs.declared.refusal.PeRefusal.{PeRefusal}
use Rattle.pe_image.specs.declared.refusal.PeFail.{PeFail}
use Rattle.pe_image.specs.declared.refusal.PeFail.TheVariants as fails

-- the ten conditions, in the order in which they are tried
unfoldable pub pe_conditions : List ℕ → List (Bool × PeRefusal)
pe_conditions b = header_conditions b ++ (root_conditions b ++ stream_conditions (metadata b))

unfoldable pub laid_pe : List ℕ → Pe
laid_pe b = record {
  sections = section_list b;
  root = metadata_extent b;
  streams = stream_list (metadata b);
  facts = image_facts b;
  resources = resources_rva b;
}

unfoldable pub pe_layout : List ℕ → Result Pe PeRefusal
pe_layout b = first_refusal (pe_conditions b) (laid_pe b)

-- what opening answers, but for want of memory: the layout, or the refusal
abbrev pub OpensPe : Result Pe PeFail → List ℕ → Type 0
OpensPe (Ok pe) b = pe_layout b ≡ Ok pe
OpensPe (Err (fails.Refused refusal)) b = pe_layout b ≡ Err refusal
OpensPe (Err fails.NoMemory) b = Unit {0}
