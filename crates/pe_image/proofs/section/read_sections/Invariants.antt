use Rattle.std.proofs.Common.{◌≡◌, ◌+◌, ◌*◌, map}
use Rattle.std.specs.List.{range_with_len}
use Rattle.pe_image.specs.Sections.{section_header_at}
use Rattle.pe_image.proofs.section.read_sections.Given as goal

abbrev pub invariant-loop-number : goal.invariant-loop-number
invariant-loop-number l =
    l.sections ≡ map (λ n. section_header_at l.file (l.place + 40 * n)) (range_with_len 0 l.number)
