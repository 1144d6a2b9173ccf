use Rattle.std.proofs.Common.{◌≡◌, [], ap, ◌∙◌}
use Rattle.laid_parts.specs.LaidParts.{laid_part, with_part}
use Rattle.pe_write.specs.Headers.{cli_header_bytes}
use Rattle.pe_write.proofs.WriteLemmas.{four-more}
use Rattle.pe_write.proofs.image.push_section.Goals as goal

pub returns : goal.returns
returns c = λ headers start.
    let section = c.args.contents.now in
    let cli : c.as_slice.result.now ≡ cli_header_bytes c.args.numbers.now = c.as_slice.ensures ∙ c.in_ok-header.ensures in
    four-more c.args.parts.now c.push.new.self c.push-2.new.self c.push-3.new.self c.fill.new.self headers
    (laid_part 0x200 (cli_header_bytes c.args.numbers.now)) (laid_part 1 section.body) (laid_part 4 section.metadata) (laid_part 0x200 [])
    start
    (c.in_ok-push.ensures.ok ∙ ap (λ s. with_part c.args.parts.now (laid_part 0x200 s)) cli)
    (c.in_ok-push-2.ensures.ok ∙ ap (λ s. with_part c.push.new.self (laid_part 1 s)) c.as_slice-2.ensures)
    (c.in_ok-push-3.ensures.ok ∙ ap (λ s. with_part c.push-2.new.self (laid_part 4 s)) c.as_slice-3.ensures)
    c.in_ok-fill.ensures.ok
