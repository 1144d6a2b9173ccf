use Rattle.std.proofs.Common.{Option, refl, sym, rules}
use Rattle.node_model.specs.EditRefusals.{first_made}
use Rattle.node_model.specs.declared.key.Key.{Key}
use Rattle.write_plan.specs.Refusals.{dangling_at}
use Rattle.write_plan.specs.declared.refusal.WriteRefusal.{WriteRefusal}
use Rattle.write_plan.specs.inner.Taken.{value_kept}
use Rattle.write_plan.proofs.KeptLemmas.{refused_to}
use Rattle.write_plan.proofs.ScanLemmas.{scan_here, scan_next}
use Rattle.write_plan.proofs.dangling.refuse_dangling_among.Goals as goal

pub returns-in-Err : goal.returns-in-Err
returns-in-Err c =
    let at : Key → Option WriteRefusal = λ k. dangling_at c.args.met.now.all k (value_kept c.args.kept.now k) in
    let e = c.in-Err.refusal in
    refused_to (at c.key-item.result) (first_made at c.args.keys.now) e
    (λ h. sym (scan_here (first_made at) at (λ x xs. refl) c.args.keys.now c.loop-key.key-index c.key-item.result e (search rules) c.key-item.is c.loop-key.invariant h))
    c.in-Err.ensures

pub loop-key-preserved : goal.loop-key-preserved
loop-key-preserved c =
    let at : Key → Option WriteRefusal = λ k. dangling_at c.args.met.now.all k (value_kept c.args.kept.now k) in
    scan_next (first_made at) at (λ x xs. refl) c.args.keys.now c.loop-key.key-index c.key-item.result (search rules) c.key-item.is c.loop-key.invariant
    c.in_default.ensures
