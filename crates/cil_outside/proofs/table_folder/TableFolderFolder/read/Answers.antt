use Rattle.std.proofs.Common.{rules, ◌≡◌, false}
use Rattle.cil_outside.specs.declared.table_folder.TableFolder.{TableFolder}
use Rattle.cil_outside.specs.TableFolder.{folder_fails, folder_called}
use Rattle.cil_outside.proofs.Counting.{counts_sound}
use Rattle.cil_outside.proofs.table_folder.TableFolderFolder.read.Goals as goal

pub returns-clause-exact : goal.returns-clause-exact
returns-clause-exact c =
    let old : TableFolder = c.args.self.now in
    let new : TableFolder = record old { calls = c.saturating_add-self.result } in
    let passes : folder_fails old ≡ false = search rules in
    let is : new ≡ folder_called old old.faults = search rules in
    counts_sound old new c.look_up.result c.look_up.ensures.sound passes is
