use Rattle.std.proofs.Common.{◌≡◌, map, drop}
use Rattle.std.specs.List.{list_all}
use Rattle.sig_tree.specs.declared.symbol.Symbol.TheVariants.{Signed}
use Rattle.sig_tree.specs.Symbols.{can_be_spelled}
use Rattle.sig_tree.proofs.bounds.are_lows.Given as goal

abbrev pub invariant-loop-low : goal.invariant-loop-low
invariant-loop-low l = list_all can_be_spelled (map Signed l.lows) ≡ list_all can_be_spelled (map Signed (drop l.low-index l.lows))
