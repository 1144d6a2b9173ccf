use Rattle.std.proofs.Common.{◌≡◌, map, take}
use Rattle.write_plan.specs.Renamed.{handler_renamed}
use Rattle.write_plan.specs.Written.{new_token}
use Rattle.write_plan.proofs.plan.Plan.renamed_handlers.Given as goal

abbrev pub invariant-loop-handler : goal.invariant-loop-handler
invariant-loop-handler l = l.new ≡ map (handler_renamed (new_token l.self.lists)) (take l.handler-index l.handlers)
