use Rattle.std.proofs.Common.{◌≡◌, ◌++◌, drop}
use Rattle.sig_tree.specs.Printed.{filled_pieces}
use Rattle.sig_text.proofs.print.fill.Given as goal

abbrev pub invariant-loop-piece : goal.invariant-loop-piece
invariant-loop-piece l = filled_pieces l.pieces l.names ≡ l.out ++ filled_pieces (drop l.piece-index l.pieces) l.left
