-- The answers of a run and their causes, by what the folder and the outlet tell.
use Rattle.std.specs.Prelude.{◌≡◌, ◌≤◌, ◌⊎◌, ℕ, ◌^◌, ◌++◌, Bool, true, false, List, length, nat_lt, take}
use Rattle.std.specs.Prelude.{Option, Some, None}
use Rattle.cil_outside.specs.Causes.{Rose}
use Rattle.cil_outside.specs.Folder.{content_of}
use Rattle.cil_outside.specs.declared.files.NamedFile.{NamedFile}
use Rattle.pe_image.specs.declared.refusal.PeRefusal.TheVariants.{TooLarge}
use Rattle.node_read.specs.Image.{IsImageFile, RefusesImage}
use Rattle.node_read.specs.declared.image.OpenRefusal.{OpenRefusal}
use Rattle.node_read.specs.declared.image.OpenRefusal.TheVariants as opens
use Rattle.cecil_inspect.specs.Lines.{lines_of}
use Rattle.cecil_inspect.specs.declared.status.Status.{Status}
use Rattle.cecil_inspect.specs.declared.status.Status.TheVariants as ends
use Rattle.cecil_inspect.specs.declared.status.FileCause.TheVariants.{Missing, TooLong, Refused}
use Rattle.cecil_inspect.specs.declared.words.Request.{Request}

-- the refusals that a run tells: the read is limited first, and want of memory is a status of its own
abbrev pub IsToldRefusal : OpenRefusal → Type 0
IsToldRefusal opens.NoMemory = ⊥
IsToldRefusal (opens.Pe TooLarge) = ⊥
IsToldRefusal _ = Unit {0}

-- the status that bytes within the limit call for: Ok where they are an image, else their refusal
abbrev pub BytesCallFor : List ℕ → List ℕ → Status → Type 0
BytesCallFor b name ends.Ok = IsImageFile b
BytesCallFor b name (ends.File other (Refused refusal)) =
    (other ≡ name) × IsToldRefusal refusal × RefusesImage b refusal
BytesCallFor b name _ = ⊥

abbrev pub LengthCallsFor : Bool → List ℕ → List ℕ → Status → Type 0
LengthCallsFor true b name status = status ≡ ends.File name TooLong
LengthCallsFor false b name status = BytesCallFor b name status

-- the status that a file calls for where nothing fails: it is missing, it passes 2^26 bytes, or what its bytes call for
abbrev pub CallsFor : Option (List ℕ) → List ℕ → Status → Type 0
CallsFor None name status = status ≡ ends.File name Missing
CallsFor (Some b) name status = LengthCallsFor (nat_lt (2 ^ 26) (length b)) b name status

-- the status of a run over the file of a name is the one that the file calls for, but for faults and want of memory;
-- where the folder does not tell its files, a status that names a file names this one, and none speaks of a job
abbrev pub Answers : Option (List NamedFile) → List ℕ → Status → Type 0
Answers (Some files) name ends.ReadFault = Unit {0}
Answers (Some files) name ends.NoMemory = Unit {0}
Answers (Some files) name ends.WriteFault = CallsFor (content_of files name) name ends.Ok
Answers (Some files) name status = CallsFor (content_of files name) name status
Answers None name (ends.Job refusal) = ⊥
Answers None name (ends.File other (Refused refusal)) = (other ≡ name) × IsToldRefusal refusal
Answers None name (ends.File other _) = other ≡ name
Answers None name _ = Unit {0}

-- these are the bytes of the file of a name, as far as the folder tells its files
abbrev pub IsContent : Option (List NamedFile) → List ℕ → List ℕ → Type 0
IsContent None name b = Unit {0}
IsContent (Some files) name b = content_of files name ≡ Some b

-- they are an image within the limit
pub record IsReadImage (files : Option (List NamedFile)) (name b : List ℕ) : Type 0 where
  pub content : IsContent files name b
  pub short : nat_lt (2 ^ 26) (length b) ≡ false
  pub image : IsImageFile b

-- The outlet's text after a run, where it is told: Ok adds the lines of the image that was read, a failed write a part
-- of them, from their front, and any other status nothing.
abbrev pub Writes :
    Option (List NamedFile) → Option (List ℕ × Request) → Option (List ℕ) → Option (List ℕ) → Status → Type 0
Writes files a None new status = Unit {0}
Writes files None (Some old) new status = new ≡ Some old
Writes files (Some a) (Some old) new ends.Ok =
    (b : List ℕ) × IsReadImage files a.0 b × (new ≡ Some (old ++ lines_of b a.1))
Writes files (Some a) (Some old) new ends.WriteFault =
    (b : List ℕ) × (n : ℕ) × IsReadImage files a.0 b × (new ≡ Some (old ++ take n (lines_of b a.1)))
Writes files (Some a) (Some old) new status = new ≡ Some old

-- a fault is answered only where its count of faults rose in this run, and no count falls
pub record TellsFaults (read read_now write write_now : ℕ) (status : Status) : Type 0 where
  pub reads : status ≡ ends.ReadFault → Rose read read_now
  pub writes : status ≡ ends.WriteFault → Rose write write_now
  pub reads_stay : read ≤ read_now
  pub writes_stay : write ≤ write_now

-- a run over a told file that calls for Ok, where no count of faults rose, ends so or wants memory
abbrev pub Completes : Option (List NamedFile) → Option (List ℕ × Request) → Status → Type 0
Completes (Some files) (Some a) status =
    CallsFor (content_of files a.0) a.0 ends.Ok → (status ≡ ends.Ok) ⊎ (status ≡ ends.NoMemory)
Completes _ _ status = Unit {0}
