-- The state of an outlet in memory that never fails.
use Rattle.std.specs.Prelude.{List, ℕ}
use Rattle.cil_outside.specs.declared.puts.PutFile.{PutFile}
use Rattle.cil_outside.specs.declared.sound_outlet.SoundOutlet.{SoundOutlet}

abbrev pub held_text : SoundOutlet → List ℕ
held_text outlet = outlet.text

abbrev pub held_puts : SoundOutlet → List PutFile
held_puts outlet = outlet.puts
