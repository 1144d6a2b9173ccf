use Rattle.std.proofs.Common.{◌≡◌, ◌++◌, drop, true}
use Rattle.std.specs.List.{list_all}
use Rattle.sig_tree.specs.Symbols.{can_be_spelled, spelled}
use Rattle.sig_text.proofs.spell.spell_symbols.Given as goal

abbrev pub invariant-loop-symbol : goal.invariant-loop-symbol
invariant-loop-symbol l = record {
  can : list_all can_be_spelled (drop l.symbol-index l.symbols) ≡ true;
  bytes : spelled l.symbols ≡ l.out ++ spelled (drop l.symbol-index l.symbols);
}
