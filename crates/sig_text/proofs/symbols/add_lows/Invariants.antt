use Rattle.std.proofs.Common.{◌≡◌, ◌++◌, map, drop}
use Rattle.sig_tree.specs.declared.symbol.Symbol.TheVariants.{Signed}
use Rattle.sig_text.proofs.symbols.add_lows.Given as goal

abbrev pub invariant-loop-low : goal.invariant-loop-low
invariant-loop-low l = l.initial.out ++ map Signed l.lows ≡ l.out ++ map Signed (drop l.low-index l.lows)
