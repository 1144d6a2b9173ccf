-- The state of a folder in memory that never fails.
use Rattle.std.specs.Prelude.{List}
use Rattle.cil_outside.specs.declared.files.NamedFile.{NamedFile}
use Rattle.cil_outside.specs.declared.sound_folder.SoundFolder.{SoundFolder}

abbrev pub held_files : SoundFolder → List NamedFile
held_files folder = folder.files
