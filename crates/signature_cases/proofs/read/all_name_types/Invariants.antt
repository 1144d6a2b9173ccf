use Rattle.std.proofs.Common.{◌≡◌, drop}
use Rattle.std.specs.List.{list_all}
use Rattle.sig_tree.specs.Replaced.{names_type}
use Rattle.signature_cases.proofs.read.all_name_types.Given as goal

abbrev pub invariant-loop-token : goal.invariant-loop-token
invariant-loop-token l = list_all names_type l.tokens ≡ list_all names_type (drop l.token-index l.tokens)
