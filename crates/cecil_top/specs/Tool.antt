-- What a run of the program comes to, and why, by what the folder and the outlet tell.
use Rattle.std.specs.Prelude.{◌≡◌, ◌⊎◌, ℕ, ◌^◌, ◌++◌, List, All, MatchOption, IfSome, take, Option, Some, None}
use Rattle.cecil_inspect.specs.Inspect.{Answers, Completes, Writes}
use Rattle.cecil_inspect.specs.Words.{asked}
use Rattle.cecil_inspect.specs.declared.status.Status.{Status}
use Rattle.cecil_inspect.specs.declared.status.Status.TheVariants as ends
use Rattle.cecil_inspect.specs.declared.status.FileCause.{FileCause}
use Rattle.cil_outside.specs.declared.files.NamedFile.{NamedFile}
use Rattle.job_text.specs.Parts.{Job}
use Rattle.cecil_top.specs.Explains.{Explains}
use Rattle.cecil_top.specs.RunText.{run_text}
use Rattle.cecil_top.specs.ToolFiles.{AreImages, IsFirstUntaken, IsReadJob, IsRefusedJob, IsNamedImage, IsUnread}
use Rattle.cecil_top.specs.ToolWords.{job_asked}
use Rattle.cecil_top.specs.declared.record.RunRecord.{RunRecord}

-- What came of the job of a file: whatever the schedule was, there is one record that explains every answer to every
-- actor by the histories of the modules, over the bytes of the images that were read. The text is the text of that
-- record, and nothing else.
pub record IsRunOf (files : Option (List NamedFile)) (name text : List ℕ) : Type 0 where
  pub job : Job
  pub images : List (List ℕ)
  pub r : RunRecord
  -- the job is that of the job file, and the images are those that it names,
  pub read : IsReadJob files name job
  pub opened : AreImages files job.modules images
  -- the record explains the run of its commands,
  pub explains : Explains images job.actors r
  -- and is what the text says
  pub prints : text ≡ run_text r

-- the job file denotes a job, of which each module is an image within the limit
abbrev pub IsWholeJob : Option (List NamedFile) → List ℕ → Type 0
IsWholeJob files name = (job : Job) × IsReadJob files name job × All (IsNamedImage files) job.modules

-- this is the first file, in the order of reading, that is not taken: the job file, or an image of its job
abbrev pub IsFirstMissed : Option (List NamedFile) → List ℕ → List ℕ → FileCause → Type 0
IsFirstMissed files name other cause =
    ((other ≡ name) × IsUnread files name (2 ^ 24) cause)
    ⊎ ((job : Job) × IsReadJob files name job × IsFirstUntaken files job.modules other cause)

-- The status of a run of the job of a name, with its cause. For a folder that tells its files only one of these holds,
-- but for faults and want of memory.
abbrev pub RunAnswers : Option (List NamedFile) → List ℕ → Status → Type 0
RunAnswers files name ends.Ok = IsWholeJob files name
RunAnswers files name ends.Usage = ⊥
RunAnswers files name (ends.Job refusal) = IsRefusedJob files name refusal
RunAnswers files name (ends.File other cause) = IsFirstMissed files name other cause
RunAnswers files name ends.ReadFault = Unit {0}
RunAnswers files name ends.WriteFault = IsWholeJob files name
RunAnswers files name ends.NoMemory = Unit {0}

-- The outlet's text after a run, where it is told: Ok adds the text of a run, a failed write a part of one, from its
-- front, and any other status nothing.
abbrev pub RunWrites : Option (List NamedFile) → List ℕ → Option (List ℕ) → Option (List ℕ) → Status → Type 0
RunWrites files name None new status = Unit {0}
RunWrites files name (Some old) new ends.Ok = (text : List ℕ) × IsRunOf files name text × (new ≡ Some (old ++ text))
RunWrites files name (Some old) new ends.WriteFault =
    (text : List ℕ) × (n : ℕ) × IsRunOf files name text × (new ≡ Some (old ++ take n text))
RunWrites files name (Some old) new status = new ≡ Some old

-- a run of a told job that is whole ends with Ok, or wants memory
abbrev pub RunCompletes : Option (List NamedFile) → List ℕ → Status → Type 0
RunCompletes None name status = Unit {0}
RunCompletes (Some files) name status = IsWholeJob (Some files) name → (status ≡ ends.Ok) ⊎ (status ≡ ends.NoMemory)

-- of `run JOB` what a run answers, and of other words what `inspect` does
abbrev pub ToolAnswers : Option (List NamedFile) → List (List ℕ) → Status → Type 0
ToolAnswers files words status =
    MatchOption (job_asked words)
    (IfSome (asked words) (λ a. Answers files a.0 status))
    (λ name. RunAnswers files name status)

abbrev pub ToolWrites : Option (List NamedFile) → List (List ℕ) → Option (List ℕ) → Option (List ℕ) → Status → Type 0
ToolWrites files words old new status =
    MatchOption (job_asked words)
    (Writes files (asked words) old new status)
    (λ name. RunWrites files name old new status)

abbrev pub ToolCompletes : Option (List NamedFile) → List (List ℕ) → Status → Type 0
ToolCompletes files words status =
    MatchOption (job_asked words) (Completes files (asked words) status) (λ name. RunCompletes files name status)
