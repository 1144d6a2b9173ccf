use Rattle.std.proofs.Common.{◌≡◌, [], drop, map, length}
use Rattle.serde_json.specs.View.{view}
use Rattle.job_text.specs.Commands.{commands_from}
use Rattle.job_text.proofs.commands.commands_in.Given as goal

-- the commands to come go on from those before
abbrev pub invariant-loop-value : goal.invariant-loop-value
invariant-loop-value l = record {
  count : length l.commands ≡ l.value-index;
  same : commands_from l.modules l.commands (map view (drop l.value-index l.values)) ≡ commands_from l.modules [] (map view l.values);
}
