use Rattle.std.proofs.Common.{◌≡◌, true, sym, subst, rules}
use Rattle.std.specs.List.{list_all}
use Rattle.sig_tree.specs.Bounds.{IsBoundedSig}
use Rattle.sig_tree.specs.Replaced.{replaced, names_type}
use Rattle.sig_tree.proofs.Kept.{tree_kept, known_tokens}
use Rattle.sig_tree.proofs.replace.with_tokens.Goals as goal

pub of_bounded-requires : goal.of_bounded-requires
of_bounded-requires c =
    let placed : c.in_ok-tree.tree ≡ replaced c.tree.result.now c.args.tokens.now = search rules in
    let named : list_all names_type c.args.tokens.now ≡ true = search rules in
    subst IsBoundedSig (sym placed) (tree_kept c.tree.result.now c.args.tokens.now (known_tokens c.args.tokens.now named) c.tree.ensures.bounded)
