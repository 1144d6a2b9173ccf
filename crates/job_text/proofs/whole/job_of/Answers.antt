use Rattle.serde_json.specs.View.{view}
use Rattle.job_text.proofs.JobRunLemmas.{answered_runnable}
use Rattle.job_text.proofs.whole.job_of.Goals as goal

-- the value denotes the job that is answered
pub returns-in-Ok-clause-runnable : goal.returns-in-Ok-clause-runnable
returns-in-Ok-clause-runnable c = answered_runnable (view c.in-Ok.value) c.given_job.result c.given_job.ensures
