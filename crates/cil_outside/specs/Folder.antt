-- What a folder answers, by the files that it holds.
use Rattle.std.specs.Prelude.{◌≡◌, ℕ, ◌<◌, ◌≤◌, List, Option, Some, None, length, nat_eq}
use Rattle.std.specs.List.{find}
use Rattle.std.specs.Option.{option_map}
use Rattle.std.specs.Cmp.Lexicographic.{pointwise}
use Rattle.cil_outside.specs.declared.files.NamedFile.{NamedFile}
use Rattle.cil_outside.specs.declared.folder.Got.{Got}
use Rattle.cil_outside.specs.declared.folder.Got.TheVariants.{Found, Missing, TooLong, Failed}

-- the bytes of the first file of a name, or none
abbrev pub content_of : List NamedFile → List ℕ → Option (List ℕ)
content_of files name = option_map (λ file. file.bytes) (find (λ file. pointwise nat_eq file.name name) files)

-- the answer is right for a name and a limit, where the folder tells its files
abbrev pub FolderReads : Option (List NamedFile) → List ℕ → ℕ → Got → Type 0
FolderReads None _ _ _ = Unit {0}
FolderReads (Some files) name _ (Found bytes) = content_of files name ≡ Some bytes
FolderReads (Some files) name _ Missing = content_of files name ≡ None
FolderReads (Some files) name max TooLong = (bytes : List ℕ) × (content_of files name ≡ Some bytes) × (max < length bytes)
FolderReads (Some _) _ _ Failed = Unit {0}

-- what was found is within the limit, told or not
abbrev pub IsWithin : ℕ → Got → Type 0
IsWithin max (Found bytes) = length bytes ≤ max
IsWithin _ _ = Unit {0}
