-- The two halves of a run: making the lines of a file, and writing them.
use Rattle.std.specs.Prelude.{◌≡◌, ◌≢◌, ◌⊎◌, ℕ, ◌++◌, List, Option, Some, None, Result, Ok, Err, take}
use Rattle.cil_outside.specs.declared.files.NamedFile.{NamedFile}
use Rattle.node_read.specs.Image.{IsImageFile, RefusesImage}
use Rattle.node_read.specs.declared.image.OpenRefusal.{OpenRefusal}
use Rattle.node_read.specs.declared.image.OpenRefusal.TheVariants as opens
use Rattle.cecil_inspect.specs.Inspect.{Answers, IsReadImage}
use Rattle.cecil_inspect.specs.Lines.{lines_of}
use Rattle.cecil_inspect.specs.declared.status.Status.{Status}
use Rattle.cecil_inspect.specs.declared.status.Status.TheVariants as ends
use Rattle.cecil_inspect.specs.declared.status.FileCause.TheVariants.{Refused}
use Rattle.cecil_inspect.specs.declared.words.Request.{Request}

-- what making the lines of a file answers: its text, or its refusal, but for want of memory
abbrev pub Makes : Result (List ℕ) OpenRefusal → List ℕ → Request → Type 0
Makes (Ok text) b request = IsImageFile b × (text ≡ lines_of b request)
Makes (Err refusal) b request = RefusesImage b refusal

-- the text is the lines of the image that was read
abbrev pub IsLines : Option (List NamedFile) → List ℕ → Request → List ℕ → Type 0
IsLines files name request text = (b : List ℕ) × IsReadImage files name b × (text ≡ lines_of b request)

-- the status of a file that is not opened: its refusal, or want of memory
abbrev pub IsRefused : OpenRefusal → List ℕ → Status → Type 0
IsRefused refusal name status =
    ((refusal ≢ opens.NoMemory) × (status ≡ ends.File name (Refused refusal))) ⊎ (status ≡ ends.NoMemory)

-- a status with which reading may end
abbrev pub Ends : Option (List NamedFile) → List ℕ → Status → Type 0
Ends files name ends.Ok = ⊥
Ends files name ends.Usage = ⊥
Ends files name ends.WriteFault = ⊥
Ends files name status = Answers files name status

-- a status with which writing may end, with the outlet's text before and after
abbrev pub Sends : Option (List ℕ) → Option (List ℕ) → List ℕ → Status → Type 0
Sends None new text ends.Ok = Unit {0}
Sends None new text ends.WriteFault = Unit {0}
Sends None new text ends.NoMemory = Unit {0}
Sends (Some old) new text ends.Ok = new ≡ Some (old ++ text)
Sends (Some old) new text ends.WriteFault = (n : ℕ) × (new ≡ Some (old ++ take n text))
Sends (Some old) new text ends.NoMemory = new ≡ Some old
Sends _ new text _ = ⊥
