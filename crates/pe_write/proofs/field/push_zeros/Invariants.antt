use Rattle.std.proofs.Common.{◌≡◌, ◌++◌, replicate}
use Rattle.pe_write.proofs.field.push_zeros.Given as goal

abbrev pub invariant-loop-number : goal.invariant-loop-number
invariant-loop-number l = l.out ≡ l.initial.out ++ replicate l._number 0
