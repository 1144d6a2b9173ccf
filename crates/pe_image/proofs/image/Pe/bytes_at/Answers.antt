use Rattle.std.proofs.Common.{◌∙◌, ap}
use Rattle.pe_image.specs.Sections.{bytes_from, bytes_in, section_of}
use Rattle.pe_image.proofs.LayoutLemmas.{opened}
use Rattle.pe_image.proofs.image.Pe.bytes_at.Goals as goal

pub returns : goal.returns
unfolding bytes_from
returns c =
    let b = c.args.file.now in
    let rva = c.args.rva in
    c.bytes_of.ensures
    ∙ ap (λ s. bytes_in b rva (section_of s rva)) (c.as_slice.ensures ∙ (opened b c.args.self.now c.requires).sections)
