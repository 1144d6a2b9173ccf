use Rattle.std.proofs.Common.{◌≡◌, map, take, true}
use Rattle.std.specs.List.{list_all}
use Rattle.sig_tree.specs.Replaced.{names_type}
use Rattle.write_plan.specs.Written.{new_token}
use Rattle.write_plan.proofs.plan.Plan.renamed_tokens.Given as goal

abbrev pub invariant-loop-token : goal.invariant-loop-token
invariant-loop-token l =
    (l.new ≡ map (new_token l.self.lists) (take l.token-index l.tokens))
    × (list_all names_type (take l.token-index l.tokens) ≡ true → list_all names_type l.new ≡ true)
