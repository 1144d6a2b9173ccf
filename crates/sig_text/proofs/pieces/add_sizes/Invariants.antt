use Rattle.std.proofs.Common.{◌≡◌, ◌++◌, map, drop, true}
use Rattle.std.specs.Fmt.{decimal}
use Rattle.sig_tree.specs.Printed.{chars, commas}
use Rattle.sig_text.proofs.pieces.add_sizes.Given as goal

abbrev pub invariant-loop-size : goal.invariant-loop-size
invariant-loop-size l =
    l.initial.out ++ commas true (map (λ n. chars (decimal n)) l.sizes)
    ≡ l.out ++ commas l.first (map (λ n. chars (decimal n)) (drop l.size-index l.sizes))
