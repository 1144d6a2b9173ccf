use Rattle.std.proofs.Common.{◌++◌, [], ◌∷◌, ap, ◌∙◌}
use Rattle.byteorder.specs.Endian.{little_bytes}
use Rattle.md_write.specs.TablesStream.{tables_header}
use Rattle.md_write.proofs.WriteLemmas.{three_parts}
use Rattle.md_write.proofs.header.push_header.Goals as goal

pub returns : goal.returns
unfolding tables_header
returns c =
    let first = 0 ∷ 0 ∷ 0 ∷ 0 ∷ 2 ∷ 0 ∷ c.args.heap_sizes ∷ 1 ∷ [] in
    let valid = little_bytes 8 c.args.valid in
    let sorted = little_bytes 8 0x16003301FA00 in
    c.in_ok-extend-3.ensures.ok ∙ ap (λ s. c.extend-2.new.self ++ s) c.to_le_bytes-2.ensures
    ∙ ap (λ s. s ++ sorted) (c.in_ok-extend-2.ensures.ok ∙ ap (λ s. c.extend.new.self ++ s) c.to_le_bytes.ensures ∙ ap (λ s. s ++ valid) c.in_ok-extend.ensures.ok)
    ∙ three_parts c.args.out.now first valid sorted
