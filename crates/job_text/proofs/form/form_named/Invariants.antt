use Rattle.job_text.proofs.FormLemmas.{Ahead}
use Rattle.job_text.proofs.form.form_named.Given as goal

-- the forms to come have the first of that name
abbrev pub invariant-loop-form : goal.invariant-loop-form
invariant-loop-form l = Ahead l.form-items l.form-index l.name
