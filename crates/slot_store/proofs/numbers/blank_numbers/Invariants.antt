use Rattle.std.proofs.Common.{◌≡◌}
use Rattle.slot_store.specs.inner.Numbers.{blank_numbers}
use Rattle.slot_store.proofs.numbers.blank_numbers.Given as goal

abbrev pub invariant-loop-table : goal.invariant-loop-table
invariant-loop-table l = l.numbers.items ≡ blank_numbers l.shape l.table
