use Rattle.std.proofs.Common.{◌≡◌, ◌++◌, take}
use Rattle.std.specs.List.{flat_map}
use Rattle.dump_text.specs.ViewTexts.{listed_token}
use Rattle.dump_text.proofs.view.add_listed.Given as goal

abbrev pub invariant-loop-token : goal.invariant-loop-token
invariant-loop-token l = l.text ≡ l.initial.text ++ flat_map listed_token (take l.token-index l.tokens)
