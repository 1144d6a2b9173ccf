use Rattle.std.proofs.Common.{◌≡◌, drop}
use Rattle.std.specs.List.{find, flat_map}
use Rattle.il_code.specs.declared.handler.Handler.{Handler}
use Rattle.write_plan.specs.Named.{handler_tokens}
use Rattle.write_plan.specs.Named.{is_dangling}
use Rattle.write_plan.proofs.named.dangling_in_handlers.Given as goal

abbrev pub invariant-loop-handler : goal.invariant-loop-handler
invariant-loop-handler l =
    find (is_dangling l.met.all) (flat_map (λ (h : Handler). handler_tokens h.kind) (drop l.handler-index l.handlers)) ≡ find (is_dangling l.met.all) (flat_map (λ (h : Handler). handler_tokens h.kind) l.handlers)
