use Rattle.std.proofs.lemmas.Result.{on_ok_weaker}
use Rattle.write_plan.proofs.KeptLemmas.{kept_put}
use Rattle.write_plan.proofs.kept.Kept.keep_value.Goals as goal

pub returns : goal.returns
returns c =
    on_ok_weaker c.push.result
    (λ pushed. (pushed, kept_put c.args.self.now.values.entries c.put.new.values.entries c.args.key.now c.args.value c.in_ok-put.ensures.0))
    c.push.ensures.ok
