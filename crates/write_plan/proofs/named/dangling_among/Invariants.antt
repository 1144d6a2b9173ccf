use Rattle.std.proofs.Common.{◌≡◌, drop}
use Rattle.std.specs.List.{find}
use Rattle.write_plan.specs.Named.{is_dangling}
use Rattle.write_plan.proofs.named.dangling_among.Given as goal

abbrev pub invariant-loop-token : goal.invariant-loop-token
invariant-loop-token l = find (is_dangling l.met.all) (drop l.token-index l.tokens) ≡ find (is_dangling l.met.all) l.tokens
