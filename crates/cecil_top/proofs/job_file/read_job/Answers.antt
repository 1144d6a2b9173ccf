use Rattle.std.proofs.Common.{rules}
use Rattle.cecil_top.proofs.FileLemmas.{file_ends_job}
use Rattle.cecil_top.proofs.job_file.read_job.Goals as goal

pub returns-in_err-text-clause-status : goal.returns-in_err-text-clause-status
returns-in_err-text-clause-status g c =
    let ends =
    file_ends_job (g.F.Folder.files c.args.folder.now) c.args.name.now c.in_err-text.field-0.0
    c.in_err-text.ensures.status in
    search rules
