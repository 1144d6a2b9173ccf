use Rattle.shared_module.specs.inner.Turns.{IsFillOf}
use Rattle.shared_module.proofs.AddsLemmas.{adds_same}
use Rattle.shared_module.proofs.shared.SharedModule.fill.Goals as goal

pub returns-in-Err-clause-adds : goal.returns-in-Err-clause-adds
returns-in-Err-clause-adds g c = adds_same c.args.pass.number (IsFillOf c.args.wanted c.args.pass.seen) c.args.pass.seen
