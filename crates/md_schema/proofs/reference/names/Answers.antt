use Rattle.std.proofs.Common.{◌∙◌, sym}
use Rattle.md_schema.proofs.ReferenceLemmas.{is_same-named, none-named, reference-refers}
use Rattle.md_schema.proofs.reference.names.Goals as goal

pub returns-in-Some : goal.returns-in-Some
returns-in-Some c = c.is_token.ensures ∙ is_same-named c.args.kind c.args.value c.args.token c.in-Some.coded ((reference-refers c.args.kind c.args.value c.in-Some.coded).0 (sym c.in-Some.ensures))

pub returns-in-None : goal.returns-in-None
returns-in-None c = none-named c.args.kind c.args.value c.args.token (sym c.in-None.ensures)
