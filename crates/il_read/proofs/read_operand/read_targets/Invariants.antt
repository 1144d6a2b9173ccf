use Rattle.std.proofs.Common.{◌≡◌, ◌+◌, ◌-◌, ◌*◌}
use Rattle.il_code.specs.Code.{switch_target_at}
use Rattle.il_code.specs.Items.{items_at}
use Rattle.il_read.proofs.ItemLemmas.{with_front}
use Rattle.il_read.proofs.read_operand.read_targets.Given as goal

abbrev pub invariant-loop-i : goal.invariant-loop-i
invariant-loop-i l = with_front l.targets (items_at (switch_target_at l.code l.after) 4 (l.place + 4 * l.i) (l.count - l.i)) ≡ items_at (switch_target_at l.code l.after) 4 l.place l.count
