use Rattle.std.proofs.Common.{◌∙◌, ap}
use Rattle.std.specs.Prelude.{option_map}
use Rattle.pe_image.specs.Sections.{place, raw_place_of, section_of}
use Rattle.pe_image.proofs.LayoutLemmas.{opened}
use Rattle.pe_image.proofs.image.Pe.place.Goals as goal

pub returns : goal.returns
unfolding place
returns c = λ b h.
    let rva = c.args.rva in
    c.place_of.ensures
    ∙ ap (λ s. option_map (raw_place_of rva) (section_of s rva)) (c.as_slice.ensures ∙ (opened b c.args.self.now h).sections)
