use Rattle.std.proofs.Common.{◌≡◌, take}
use Rattle.std.specs.List.{flat_map}
use Rattle.sig_tree.specs.Printed.{piece_text}
use Rattle.sig_text.proofs.print.print_sig.Given as goal

abbrev pub invariant-loop-piece : goal.invariant-loop-piece
invariant-loop-piece l = l.out ≡ flat_map piece_text (take l.piece-index l.piece-items)
