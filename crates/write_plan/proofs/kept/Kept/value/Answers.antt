use Rattle.std.proofs.Common.{◌∙◌, ap, Bool}
use Rattle.std.specs.Map.{lookup}
use Rattle.node_model.specs.declared.key.Key.{Key}
use Rattle.write_plan.proofs.KeptLemmas.{key_test}
use Rattle.write_plan.proofs.kept.Kept.value.Goals as goal

pub returns : goal.returns
returns c =
    c.get.ensures.value ∙ ap (λ (test : Key → Bool). lookup test c.args.self.now.values.entries) (key_test c.args.key.now)
