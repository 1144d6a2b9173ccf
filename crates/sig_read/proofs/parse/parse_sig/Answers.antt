use Rattle.std.proofs.Common.{◌≡◌, Some, rules}
use Rattle.sig_tree.specs.TreeAt.{tree_at}
use Rattle.sig_tree.proofs.Trees.{tree_bounded}
use Rattle.sig_read.proofs.parse.parse_sig.Goals as goal

pub of_bounded-requires : goal.of_bounded-requires
of_bounded-requires c =
    let read : tree_at c.args.plain c.args.blob.now ≡ Some c.in-Some.tree = search rules in
    tree_bounded c.args.plain c.args.blob.now c.in-Some.tree read
