-- What a call that does not fail says of a folder's counts.
use Rattle.std.proofs.Common.{◌≡◌, ◌≢◌, refl, false, Result, Ok, Err, IfOk}
use Rattle.cil_base.specs.declared.no_memory.NoMemory.{NoMemory}
use Rattle.cil_outside.specs.declared.folder.Got.{Got}
use Rattle.cil_outside.specs.declared.folder.Got.TheVariants.{Found, Missing, TooLong, Failed}
use Rattle.cil_outside.specs.declared.table_folder.TableFolder.{TableFolder}
use Rattle.cil_outside.specs.TableFolder.{FolderCounts, folder_called, folder_fails}

pub counts_sound : (old new : TableFolder) (r : Result Got NoMemory) → IfOk r (λ got. got ≢ Failed)
    → folder_fails old ≡ false → new ≡ folder_called old old.faults → FolderCounts old new r
counts_sound old new (Ok (Found bytes)) sound fails is = (fails, is)
counts_sound old new (Ok Missing) sound fails is = (fails, is)
counts_sound old new (Ok TooLong) sound fails is = (fails, is)
counts_sound old new (Ok Failed) sound fails is = absurd (sound refl)
counts_sound old new (Err e) sound fails is = (fails, is)
