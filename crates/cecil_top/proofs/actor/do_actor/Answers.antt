use Rattle.std.proofs.Common.{◌∙◌, sym, refl, subst, List, length}
use Rattle.job_text.specs.declared.command.Command.{Command}
use Rattle.cecil_top.specs.Acts.{acts_of}
use Rattle.cecil_top.specs.Explains.{AreDone}
use Rattle.cecil_top.specs.inner.Passes.{ExplainsSoFar}
use Rattle.cecil_top.proofs.ActorLemmas.{when_ok}
use Rattle.cecil_top.proofs.actor.do_actor.Goals as goal

pub returns : goal.returns
returns g c =
    let a = c.args.actor.now in
    let d = c.do_commands-done in
    record {
      number = refl;
      passes = d.ensures.passes;
      done = λ long. subst (λ (given : List Command). AreDone (length c.args.modules.now) given d.new.commands d.new.said) c.as_slice.ensures
          (when_ok (AreDone (length c.args.modules.now) c.as_slice.result.now d.new.commands d.new.said) d.result (sym c.is_err-actor.ensures.value ∙ long) d.ensures.done);
      explained = λ long. when_ok (ExplainsSoFar c.args.modules.now a.number (acts_of d.new.commands d.new.said) d.new.passes) d.result
          (sym c.is_err-actor.ensures.value ∙ long) d.ensures.explained;
    }
