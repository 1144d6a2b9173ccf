use Rattle.std.proofs.Common.{◌∙◌}
use Rattle.node_model.proofs.KindLemmas.{number_of_kind}
use Rattle.node_model.proofs.place.number_among.Goals as goal

pub returns-in_err-place : goal.returns-in_err-place
returns-in_err-place c =
    c.from_residual.ensures ∙ c.in_err-place.ensures.place ∙ number_of_kind c.args.key.now c.args.token c.args.kinds.now

pub returns : goal.returns
returns c = c.in_ok-place.ensures.place ∙ number_of_kind c.args.key.now c.args.token c.args.kinds.now
