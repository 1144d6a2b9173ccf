-- What a section that was found says of the RVA.
use Rattle.std.proofs.Common.{◌≡◌, ◌≤◌, ℕ, List, true, arith}
use Rattle.std.specs.Prelude.{Some}
use Rattle.std.proofs.lemmas.Bool.Decides.{nat_tests}
use Rattle.pe_image.specs.Sections.{section_of, has_rva}
use Rattle.pe_image.specs.declared.section.Section.{Section}
use Rattle.pe_image.proofs.Finding.{find-passes}

pub found-below : (sections : List Section) (rva : ℕ) (s : Section) → section_of sections rva ≡ Some s → s.virtual_address ≤ rva
found-below sections rva s h = let passes : has_rva rva s ≡ true = find-passes (has_rva rva) sections s h in grind (arith, nat_tests)
