use Rattle.std.proofs.Common.{◌≡◌, drop}
use Rattle.sig_tree.proofs.same.same_lows.Given as goal

abbrev pub invariant-loop-low : goal.invariant-loop-low
invariant-loop-low l = record {
  equal : drop l.low-index l.low-items ≡ l.others → l.low-items ≡ l.initial.others;
  still : l.low-items ≡ l.initial.others → drop l.low-index l.low-items ≡ l.others;
}
