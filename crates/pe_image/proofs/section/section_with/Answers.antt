use Rattle.std.proofs.Common.{◌∙◌, rules, tests}
use Rattle.std.proofs.lemmas.Iterator.{YieldsList-from_slice}
use Rattle.std.proofs.lemmas.Iterator.Search.{find_from_yields_List}
use Rattle.pe_image.specs.Sections.{has_rva}
use Rattle.pe_image.proofs.section.section_with.Goals as goal

pub returns : goal.returns
returns c =
    let xs = c.args.sections.now in
    c.copied.ensures ∙ find_from_yields_List (has_rva c.args.rva) _ _ c.find.result c.find.ensures.ran (YieldsList-from_slice xs cc) (λ x b q k. search (rules, tests))
