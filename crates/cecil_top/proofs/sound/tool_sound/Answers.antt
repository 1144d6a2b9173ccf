use Rattle.std.proofs.Common.{Some, map}
use Rattle.std.specs.Prelude.{string_bytes}
use Rattle.cecil_inspect.specs.Inspect.{Completes, Writes}
use Rattle.cecil_inspect.specs.Words.{asked}
use Rattle.cil_outside.specs.SoundFolder.{held_files}
use Rattle.cil_outside.specs.SoundOutlet.{held_text}
use Rattle.cecil_top.specs.Tool.{RunCompletes, RunWrites}
use Rattle.cecil_top.specs.ToolWords.{job_asked}
use Rattle.cecil_top.proofs.SoundLemmas.{adds_nothing, said_of_some, sound_ends, stays}
use Rattle.cecil_top.proofs.sound.tool_sound.Goals as goal

pub returns-clause-done : goal.returns-clause-done
returns-clause-done g c = λ name is whole.
    let words = map string_bytes c.args.words.now in
    let files = held_files c.args.folder.now in
    let old = held_text c.args.out.now in
    let new = held_text c.tool.new.out in
    let status = c.tool.result in
    sound_ends files name old new status
    (said_of_some (job_asked words) name (Writes (Some files) (asked words) (Some old) (Some new) status)
    (λ n. RunWrites (Some files) n (Some old) (Some new) status) is c.tool.ensures.text)
    (said_of_some (job_asked words) name (Completes (Some files) (asked words) status)
    (λ n. RunCompletes (Some files) n status) is (c.tool.ensures.complete stays stays) whole)

pub returns-clause-quiet : goal.returns-clause-quiet
returns-clause-quiet g c = λ other.
    let words = map string_bytes c.args.words.now in
    adds_nothing (held_files c.args.folder.now) words (job_asked words) (held_text c.args.out.now)
    (held_text c.tool.new.out) c.tool.result c.tool.ensures.text other (λ is. stays (c.tool.ensures.faults.writes is))
