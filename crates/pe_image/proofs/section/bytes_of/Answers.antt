use Rattle.std.proofs.Common.{sym}
use Rattle.pe_image.proofs.SectionLemmas.{found-below}
use Rattle.pe_image.proofs.section.bytes_of.Goals as goal

pub place-place-requires : goal.place-place-requires
place-place-requires c = found-below c.args.sections.now c.args.rva c.in-Some.section (sym c.in-Some.ensures)
