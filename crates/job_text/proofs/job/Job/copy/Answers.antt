use Rattle.job_text.proofs.job.Job.copy.Goals as goal

-- the names are those of the job
pub invariant_of-result : goal.invariant_of-result
invariant_of-result c = rw c.in_ok-modules.ensures c.self.invariant
