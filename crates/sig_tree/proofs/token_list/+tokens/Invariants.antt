use Rattle.std.proofs.Common.{◌≡◌, ◌++◌, drop}
use Rattle.sig_tree.specs.inner.OwnTokens.{types_tokens}
use Rattle.sig_tree.proofs.token_list.+tokens.Given as goal

abbrev pub invariant-add_types-loop-ty : goal.invariant-add_types-loop-ty
invariant-add_types-loop-ty l = l.initial.out ++ types_tokens l.types ≡ l.out ++ types_tokens (drop l.ty-index l.types)
