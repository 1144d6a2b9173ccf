use Rattle.std.proofs.Common.{take}
use Rattle.il_code.specs.Writable.{IsSoundHandler}
use Rattle.std.specs.List.{AllByRecursion}
use Rattle.il_write.proofs.writable.all_sound_handlers.Given as goal

abbrev pub invariant-loop-handler : goal.invariant-loop-handler
invariant-loop-handler l = AllByRecursion (IsSoundHandler l.count) (take l.handler-index l.handlers)
