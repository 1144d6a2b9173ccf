use Rattle.cecil_top.proofs.FileLemmas.{found_content}
use Rattle.cecil_top.proofs.job_file.read_file.Goals as goal

pub returns-in-Ok-Found-clause-bytes : goal.returns-in-Ok-Found-clause-bytes
returns-in-Ok-Found-clause-bytes g c = record {
  content = found_content (g.F.Folder.files c.args.folder.now) c.args.name.now c.args.max c.in-Ok-Found.bytes
      (rw c.in-Ok-Found.field-0-is at c.in-Ok-Found.ensures.content);
  short = rw c.in-Ok-Found.field-0-is at c.in-Ok-Found.ensures.within;
}
