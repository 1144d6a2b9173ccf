use Rattle.std.proofs.Common.{◌∙◌, Bool, ap}
use Rattle.std.specs.Map.{lookup}
use Rattle.node_model.specs.declared.key.Key.{Key}
use Rattle.write_plan.specs.Planned.{Planned, kept_value}
use Rattle.write_plan.proofs.KeptLemmas.{key_test}
use Rattle.write_plan.proofs.plan.Plan.value.Goals as goal

pub returns : goal.returns
returns c =
    c.get.ensures.value ∙ ap (λ (test : Key → Bool). lookup test c.self.inside.values.entries) (key_test c.args.key.now)
    ∙ ap (λ (p : Planned). kept_value p.entries c.args.key.now) c.self.view_is
