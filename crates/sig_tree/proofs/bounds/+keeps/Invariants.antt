use Rattle.std.proofs.Common.{◌≡◌, ◌&&◌, drop}
use Rattle.std.specs.List.{list_all}
use Rattle.sig_tree.specs.Symbols.{can_be_spelled}
use Rattle.sig_tree.specs.Spelling.{all_symbols}
use Rattle.sig_tree.specs.Bounds.{all_fit}
use Rattle.sig_tree.proofs.bounds.+keeps.Given as goal

abbrev pub invariant-list_keeps-loop-ty : goal.invariant-list_keeps-loop-ty
invariant-list_keeps-loop-ty l =
    (all_fit l.types l.depth && list_all can_be_spelled (all_symbols l.types))
    ≡ (all_fit (drop l.ty-index l.types) l.depth && list_all can_be_spelled (all_symbols (drop l.ty-index l.types)))
