use Rattle.std.proofs.Common.{◌≡◌, ◌++◌, map, drop}
use Rattle.sig_tree.specs.declared.symbol.Symbol.TheVariants.{Number}
use Rattle.sig_text.proofs.symbols.add_sizes.Given as goal

abbrev pub invariant-loop-size : goal.invariant-loop-size
invariant-loop-size l = l.initial.out ++ map Number l.sizes ≡ l.out ++ map Number (drop l.size-index l.sizes)
