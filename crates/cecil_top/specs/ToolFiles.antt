-- The files of a run, in the order in which they are read: the job file, and then the images that it names. All is said
-- by what the folder tells of its files; a folder that tells nothing may hold anything.
use Rattle.std.specs.Prelude.{◌≡◌, ◌≤◌, ℕ, ◌^◌, List, [], ◌∷◌, All, Ok, Err, Option, Some, slice_get, take, length}
use Rattle.cecil_inspect.specs.Inspect.{IsContent, IsReadImage, IsToldRefusal}
use Rattle.cecil_inspect.specs.declared.status.FileCause.{FileCause}
use Rattle.cecil_inspect.specs.declared.status.FileCause.TheVariants.{Missing, TooLong, Refused}
use Rattle.cil_outside.specs.Folder.{FolderReads}
use Rattle.cil_outside.specs.declared.files.NamedFile.{NamedFile}
use Rattle.cil_outside.specs.declared.folder.Got.TheVariants as got
use Rattle.job_text.specs.Answers.{IsJobOf}
use Rattle.job_text.specs.Parts.{Job}
use Rattle.job_text.specs.declared.job.JobFail.TheVariants as fails
use Rattle.job_text.specs.declared.job.JobRefusal.{JobRefusal}
use Rattle.node_read.specs.Image.{RefusesImage}
use Rattle.node_read.specs.declared.image.OpenRefusal.{OpenRefusal}

-- these are the bytes of the file of a name, and they are no more than so many
pub record IsReadFile (files : Option (List NamedFile)) (name : List ℕ) (max : ℕ) (b : List ℕ) : Type 0 where
  pub content : IsContent files name b
  pub short : length b ≤ max

-- why there are no such bytes: there is no file of the name, or it has more
abbrev pub IsUnread : Option (List NamedFile) → List ℕ → ℕ → FileCause → Type 0
IsUnread files name max Missing = FolderReads files name max got.Missing
IsUnread files name max TooLong = FolderReads files name max got.TooLong
IsUnread files name max (Refused refusal) = ⊥

-- the text of the job file denotes this job
pub record IsReadJob (files : Option (List NamedFile)) (name : List ℕ) (job : Job) : Type 0 where
  pub text : List ℕ
  pub read : IsReadFile files name (2 ^ 24) text
  pub denotes : IsJobOf text (Ok job)

-- or it denotes none, for this reason
pub record IsRefusedJob (files : Option (List NamedFile)) (name : List ℕ) (refusal : JobRefusal) : Type 0 where
  pub text : List ℕ
  pub read : IsReadFile files name (2 ^ 24) text
  pub refused : IsJobOf text (Err (fails.Refused refusal))

-- the file of a name is an image within the limit
abbrev pub IsNamedImage : Option (List NamedFile) → List ℕ → Type 0
IsNamedImage files name = (b : List ℕ) × IsReadImage files name b

-- or it is none, and this is its refusal
pub record IsRefusedImage (files : Option (List NamedFile)) (name : List ℕ) (refusal : OpenRefusal) : Type 0 where
  pub b : List ℕ
  pub read : IsReadFile files name (2 ^ 26) b
  pub told : IsToldRefusal refusal
  pub refused : RefusesImage b refusal

-- why the file of a name is no image within the limit
abbrev pub IsUntaken : Option (List NamedFile) → List ℕ → FileCause → Type 0
IsUntaken files name Missing = IsUnread files name (2 ^ 26) Missing
IsUntaken files name TooLong = IsUnread files name (2 ^ 26) TooLong
IsUntaken files name (Refused refusal) = IsRefusedImage files name refusal

-- of the files of these names this is the first that is no image, for this cause
pub record IsFirstUntaken (files : Option (List NamedFile)) (names : List (List ℕ)) (name : List ℕ) (cause : FileCause) :
    Type 0 where
  pub place : ℕ
  pub named : slice_get names place ≡ Some name
  pub before : All (IsNamedImage files) (take place names)
  pub untaken : IsUntaken files name cause

-- the files of these names are images, with these bytes
abbrev pub AreImages : Option (List NamedFile) → List (List ℕ) → List (List ℕ) → Type 0
AreImages files [] [] = Unit {0}
AreImages files [] (b ∷ bs) = ⊥
AreImages files (name ∷ names) [] = ⊥
AreImages files (name ∷ names) (b ∷ bs) = IsReadImage files name b × AreImages files names bs
