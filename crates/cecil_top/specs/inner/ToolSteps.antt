-- The steps of a run: its files are read, its actors run, and its text is written. No public contract cites these words.
use Rattle.std.specs.Prelude.{◌≡◌, ℕ, ◌^◌, List, [], Option, Result, Ok, Err, map, take}
use Rattle.cecil_inspect.specs.declared.status.Status.{Status}
use Rattle.cecil_inspect.specs.declared.status.Status.TheVariants as ends
use Rattle.cil_outside.specs.declared.files.NamedFile.{NamedFile}
use Rattle.job_text.specs.declared.command.Command.{Command}
use Rattle.lazy_core.specs.Slots.{CoreState}
use Rattle.node_read.specs.Image.{IsImageFile, RefusesImage}
use Rattle.node_read.specs.declared.image.OpenRefusal.{OpenRefusal}
use Rattle.cecil_top.specs.Explains.{Explains}
use Rattle.cecil_top.specs.RunText.{run_text}
use Rattle.cecil_top.specs.Untouched.{AreUntouched}
use Rattle.cecil_top.specs.Tool.{RunAnswers}
use Rattle.cecil_top.specs.ToolFiles.{AreImages, IsFirstUntaken, IsRefusedJob, IsUnread, IsUntaken}
use Rattle.cecil_top.specs.declared.record.RunRecord.{RunRecord}

-- a status with which reading a file within so many bytes may end
abbrev pub EndsFile : Option (List NamedFile) → List ℕ → ℕ → Status → Type 0
EndsFile files name max (ends.File other cause) = (other ≡ name) × IsUnread files name max cause
EndsFile files name max ends.ReadFault = Unit {0}
EndsFile files name max ends.NoMemory = Unit {0}
EndsFile files name max _ = ⊥

-- the same of a job file
abbrev pub EndsJob : Option (List NamedFile) → List ℕ → Status → Type 0
EndsJob files name (ends.Job refusal) = IsRefusedJob files name refusal
EndsJob files name status = EndsFile files name (2 ^ 24) status

-- what opening the core of a file answers: one to which nothing was done, or the refusal of the file
abbrev pub OpensCore : List ℕ → Result CoreState OpenRefusal → Type 0
OpensCore b (Ok core) = (core.bytes ≡ b) × (core.history ≡ []) × IsImageFile b
OpensCore b (Err refusal) = RefusesImage b refusal

-- and of an image,
abbrev pub EndsImage : Option (List NamedFile) → List ℕ → Status → Type 0
EndsImage files name (ends.File other cause) = (other ≡ name) × IsUntaken files name cause
EndsImage files name ends.ReadFault = Unit {0}
EndsImage files name ends.NoMemory = Unit {0}
EndsImage files name _ = ⊥

-- of images in order,
abbrev pub EndsImages : Option (List NamedFile) → List (List ℕ) → Status → Type 0
EndsImages files names (ends.File other cause) = IsFirstUntaken files names other cause
EndsImages files names ends.ReadFault = Unit {0}
EndsImages files names ends.NoMemory = Unit {0}
EndsImages files names _ = ⊥

-- and of all before the text is written
abbrev pub EndsRun : Option (List NamedFile) → List ℕ → Status → Type 0
EndsRun files name ends.Ok = ⊥
EndsRun files name ends.WriteFault = ⊥
EndsRun files name status = RunAnswers files name status

-- the first n of these images are taken, and nothing was done to their cores
pub record AreTakenTo (files : Option (List NamedFile)) (names : List (List ℕ)) (cores : List CoreState) (n : ℕ) :
    Type 0 where
  pub images : AreImages files (take n names) (map (λ (core : CoreState). core.bytes) cores)
  pub untouched : AreUntouched cores

-- the text of a record that explains the run of these commands over these images
pub record IsTextOf (images : List (List ℕ)) (given : List (List Command)) (text : List ℕ) : Type 0 where
  pub r : RunRecord
  pub explains : Explains images given r
  pub prints : text ≡ run_text r
