use Rattle.std.proofs.Common.{◌≡◌, ◌∙◌, ap, subst, rules}
use Rattle.job_text.specs.Parts.{Job}
use Rattle.cecil_top.specs.inner.ToolSteps.{EndsImages}
use Rattle.cecil_top.proofs.FileLemmas.{images_end_run, job_ends_run, rose_before}
use Rattle.cecil_top.proofs.ToolLemmas.{opened_runs, text_is_of_run}
use Rattle.cecil_top.proofs.program.make_text.Goals as goal

pub returns-in_err-job-clause-status : goal.returns-in_err-job-clause-status
returns-in_err-job-clause-status g c =
    let ends =
    job_ends_run (g.F.Folder.files c.args.folder.now) c.args.name.now c.in_err-job.field-0.0
    c.in_err-job.ensures.status in
    search rules

pub returns-in_err-cores-clause-status : goal.returns-in_err-cores-clause-status
returns-in_err-cores-clause-status g c =
    let job = c.in_ok-job.job in
    let status = c.in_err-cores.field-0.0 in
    let names : c.as_slice.result.now ≡ job.modules = c.as_slice.ensures ∙ ap (λ (j : Job). j.modules) c.job.view_is in
    let ends =
    images_end_run (g.F.Folder.files c.args.folder.now) c.args.name.now job status c.in_ok-job.ensures.job
    (subst (λ f. EndsImages f job.modules status) c.in_ok-job.ensures.files
    (subst (λ ns. EndsImages (g.F.Folder.files c.read_job.new.folder) ns status) names c.in_err-cores.ensures.status)) in
    search rules

pub text_of_run-requires-clause-runnable : goal.text_of_run-requires-clause-runnable
text_of_run-requires-clause-runnable g c κs within =
    opened_runs (g.F.Folder.files c.read_job.new.folder) c.in_ok-job.job c.as_slice.result.now c.in_ok-cores.cores
    c.job.inside.actors (c.as_slice.ensures ∙ ap (λ (j : Job). j.modules) c.job.view_is)
    (ap (λ (j : Job). j.actors) c.job.view_is) c.in_ok-cores.ensures.images c.in_ok-job.ensures.runnable

pub returns-in-Ok-clause-text : goal.returns-in-Ok-clause-text
returns-in-Ok-clause-text g c =
    text_is_of_run (g.F.Folder.files c.args.folder.now) (g.F.Folder.files c.read_job.new.folder) c.args.name.now
    c.in_ok-job.job c.as_slice.result.now c.in_ok-cores.cores c.job.inside.actors c.in-Ok.text
    (c.as_slice.ensures ∙ ap (λ (j : Job). j.modules) c.job.view_is) (ap (λ (j : Job). j.actors) c.job.view_is)
    c.in_ok-job.ensures.files c.in_ok-job.ensures.job c.in_ok-cores.ensures.images c.in-Ok.ensures

pub returns-in_err-cores-clause-read : goal.returns-in_err-cores-clause-read
returns-in_err-cores-clause-read g c = λ is.
    rose_before (g.F.Folder.faults c.args.folder.now) (g.F.Folder.faults c.read_job.new.folder)
    (g.F.Folder.faults c.open_images.new.folder) c.in_ok-job.ensures.later
    (c.in_err-cores.ensures.read (search (rules, is)))
