use Rattle.md_schema.proofs.RunLemmas as lemmas
use Rattle.md_schema.proofs.laws.run_of_runs.Goals as goal

pub returns : goal.returns
returns c = lemmas.run_of-runs
