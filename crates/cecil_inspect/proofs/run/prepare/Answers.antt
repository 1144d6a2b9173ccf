use Rattle.cecil_inspect.proofs.InspectLemmas.{refused_ends}
use Rattle.cecil_inspect.proofs.run.prepare.Goals as goal

pub returns-in-Err-file_lines-clause-status : goal.returns-in-Err-file_lines-clause-status
returns-in-Err-file_lines-clause-status g c =
    refused_ends (g.F.Folder.files c.args.folder.now) c.args.name.now c.in-Ok-Found.bytes c.into_vec.result.items
    c.in-Err-file_lines.cause c.refused_status.result (rw c.in-Ok-Found.field-0-is at c.in-Ok-Found.ensures.content)
    (rw c.in-Ok-Found.field-0-is at c.in-Ok-Found.ensures.within)
    c.into_vec.ensures c.in-Err-file_lines.ensures c.refused_status.ensures
