use Rattle.std.proofs.Common.{◌≡◌, ◌++◌, take}
use Rattle.std.specs.List.{flat_map}
use Rattle.dump_text.specs.Bodies.{handler_text}
use Rattle.dump_text.proofs.body.add_handlers.Given as goal

abbrev pub invariant-loop-handler : goal.invariant-loop-handler
invariant-loop-handler l = l.text ≡ l.initial.text ++ flat_map handler_text (take l.handler-index l.handlers)
