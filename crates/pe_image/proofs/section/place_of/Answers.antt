use Rattle.std.proofs.Common.{sym}
use Rattle.pe_image.proofs.SectionLemmas.{found-below}
use Rattle.pe_image.proofs.section.place_of.Goals as goal

pub place-requires : goal.place-requires
place-requires c = found-below c.args.sections.now c.args.rva c.in_ok-section.section (sym c.in_ok-section.ensures)
