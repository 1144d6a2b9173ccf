use Rattle.std.proofs.Common.{◌≡◌, ◌++◌, map, drop, true, codes}
use Rattle.sig_tree.specs.Spelling.{with_sentinel}
use Rattle.sig_tree.specs.Printed.{chars, commas, type_pieces, types_pieces}
use Rattle.sig_text.proofs.pieces.+pieces.Given as goal

abbrev pub invariant-add_types-loop-ty : goal.invariant-add_types-loop-ty
invariant-add_types-loop-ty l = l.initial.out ++ types_pieces l.types ≡ l.out ++ commas l.first (map type_pieces (drop l.ty-index l.types))

abbrev pub invariant-add_params-loop-number : goal.invariant-add_params-loop-number
invariant-add_params-loop-number l =
    l.initial.out ++ commas true (with_sentinel l.sentinel (chars (codes "...")) 0 (map type_pieces l.params))
    ≡ l.out ++ commas l.first (with_sentinel l.sentinel (chars (codes "...")) l.number (map type_pieces (drop l.number l.params)))
