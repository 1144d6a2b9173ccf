use Rattle.std.proofs.Common.{rules, ◌≡◌, ◌∙◌, ap, arith}
use Rattle.std.proofs.lemmas.Grind.{common_steps}
use Rattle.attr_blob.specs.Decoded.{attr_at}
use Rattle.attr_blob.specs.Spelled.{spelled_attr}
use Rattle.attr_blob.proofs.SpellLemmas.{spelled_read}
use Rattle.attr_blob.proofs.spell.encode_attr.Goals as goal

pub returns-clause-read_back : goal.returns-clause-read_back
returns-clause-read_back c = λ params widths typed.
    let spelled : c.add_all_named.new.out ≡ spelled_attr c.args.value.now = first_of (search rules, grind (arith, common_steps)) in
    ap (attr_at params widths) spelled ∙ spelled_read params widths c.args.value.now typed
