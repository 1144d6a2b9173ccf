use Rattle.std.proofs.Common.{◌≡◌, map, drop}
use Rattle.std.specs.List.{list_all}
use Rattle.sig_tree.specs.declared.symbol.Symbol.TheVariants.{Number}
use Rattle.sig_tree.specs.Symbols.{can_be_spelled}
use Rattle.sig_tree.proofs.bounds.are_sizes.Given as goal

abbrev pub invariant-loop-size : goal.invariant-loop-size
invariant-loop-size l = list_all can_be_spelled (map Number l.sizes) ≡ list_all can_be_spelled (map Number (drop l.size-index l.sizes))
