use Rattle.std.proofs.Common.{sym, rules}
use Rattle.std.specs.List.{find, flat_map}
use Rattle.il_code.specs.declared.handler.Handler.{Handler}
use Rattle.write_plan.specs.Named.{handler_tokens}
use Rattle.write_plan.specs.Named.{is_dangling}
use Rattle.write_plan.proofs.ScanLemmas.{flat_step, scan_here, scan_next}
use Rattle.write_plan.proofs.named.dangling_in_handlers.Goals as goal

pub returns-in-Some : goal.returns-in-Some
returns-in-Some c =
    scan_here (λ xs. find (is_dangling c.args.met.now.all) (flat_map (λ (h : Handler). handler_tokens h.kind) xs)) (λ x. find (is_dangling c.args.met.now.all) ((λ (h : Handler). handler_tokens h.kind) x)) (flat_step (is_dangling c.args.met.now.all) (λ (h : Handler). handler_tokens h.kind)) c.args.handlers.now c.loop-handler.handler-index c.handler-item.result c.in-Some.token (search rules) c.handler-item.is c.loop-handler.invariant (sym c.in-Some.ensures)

pub loop-handler-preserved : goal.loop-handler-preserved
loop-handler-preserved c =
    scan_next (λ xs. find (is_dangling c.args.met.now.all) (flat_map (λ (h : Handler). handler_tokens h.kind) xs)) (λ x. find (is_dangling c.args.met.now.all) ((λ (h : Handler). handler_tokens h.kind) x)) (flat_step (is_dangling c.args.met.now.all) (λ (h : Handler). handler_tokens h.kind)) c.args.handlers.now c.loop-handler.handler-index c.handler-item.result (search rules) c.handler-item.is c.loop-handler.invariant (sym c.in_default.ensures)
