use Rattle.std.proofs.Common.{◌∙◌, sym, rules}
use Rattle.std.specs.List.{find}
use Rattle.write_plan.specs.Named.{is_dangling}
use Rattle.write_plan.proofs.ScanLemmas.{find_step, is_not_passed, is_passed, passed, scan_here, scan_next}
use Rattle.write_plan.proofs.named.dangling_among.Goals as goal

pub returns-then-is_dangling : goal.returns-then-is_dangling
returns-then-is_dangling c =
    scan_here (find (is_dangling c.args.met.now.all)) (passed (is_dangling c.args.met.now.all)) (find_step (is_dangling c.args.met.now.all)) c.args.tokens.now c.loop-token.token-index c.token-item.result c.token-item.result (search rules) c.token-item.is c.loop-token.invariant
    (is_passed (is_dangling c.args.met.now.all) c.token-item.result (sym c.is_dangling.ensures ∙ c.if-is_dangling.true))

pub loop-token-preserved : goal.loop-token-preserved
loop-token-preserved c =
    scan_next (find (is_dangling c.args.met.now.all)) (passed (is_dangling c.args.met.now.all)) (find_step (is_dangling c.args.met.now.all)) c.args.tokens.now c.loop-token.token-index c.token-item.result (search rules) c.token-item.is c.loop-token.invariant
    (is_not_passed (is_dangling c.args.met.now.all) c.token-item.result (sym c.is_dangling.ensures ∙ c.if-is_dangling.false))
