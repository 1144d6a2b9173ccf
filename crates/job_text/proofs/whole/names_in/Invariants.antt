use Rattle.std.proofs.Common.{◌≡◌, take, map}
use Rattle.std.specs.List.{All}
use Rattle.std.specs.Prelude.{IsUtf8}
use Rattle.serde_json.specs.View.{view}
use Rattle.job_text.specs.Shape.{given_name}
use Rattle.job_text.proofs.whole.names_in.Given as goal

-- the names so far
abbrev pub invariant-loop-value : goal.invariant-loop-value
invariant-loop-value l = record {
  same : l.names ≡ map given_name (map view (take l.value-index l.values));
  texts : All IsUtf8 l.names;
}
