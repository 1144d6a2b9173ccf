use Rattle.std.proofs.Common.{◌≡◌, ◌++◌, map, drop, true}
use Rattle.std.specs.Fmt.{signed_decimal}
use Rattle.sig_tree.specs.Printed.{chars, commas}
use Rattle.sig_text.proofs.pieces.add_lows.Given as goal

abbrev pub invariant-loop-low : goal.invariant-loop-low
invariant-loop-low l =
    l.initial.out ++ commas true (map (λ z. chars (signed_decimal z)) l.lows)
    ≡ l.out ++ commas l.first (map (λ z. chars (signed_decimal z)) (drop l.low-index l.lows))
