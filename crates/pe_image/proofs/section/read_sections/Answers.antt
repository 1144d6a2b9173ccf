use Rattle.std.proofs.Common.{◌+◌, ◌*◌, ◌∙◌, sym, ap, map, ℕ, [], ◌∷◌, ◌++◌, arith}
use Rattle.std.specs.List.{range_with_len}
use Rattle.std.proofs.lemmas.List.FromFn.{map-range_with_len_more}
use Rattle.pe_image.specs.Sections.{section_header_at}
use Rattle.pe_image.specs.declared.section.Section.{Section}
use Rattle.pe_image.proofs.section.read_sections.Goals as goal

pub loop-number-preserved : goal.loop-number-preserved
loop-number-preserved c =
    let f : ℕ → Section = λ n. section_header_at c.args.file.now (c.args.place + 40 * n) in
    let more = map-range_with_len_more f 0 c.loop-number.number c.loop-number.number (omega arith) in
    c.in_ok-push.ensures.ok
    ∙ ap (λ xs. xs ++ c.read_section.result ∷ []) c.loop-number.invariant
    ∙ ap (λ s. map f (range_with_len 0 c.loop-number.number) ++ s ∷ []) c.read_section.ensures
    ∙ sym more
