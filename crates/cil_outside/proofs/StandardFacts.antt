-- Answers that would be wrong, worked by hand, so that a definition which let them through does not check.
use Rattle.std.proofs.Common.{◌≡◌, refl, ap, arith, rules, [], ◌∷◌, Some, None, Ok, Err}
use Rattle.std.specs.Prelude.{ℕ, List, Option, unwrap_or}
use Rattle.cil_outside.specs.declared.files.NamedFile.{NamedFile}
use Rattle.cil_outside.specs.declared.folder.Got.TheVariants.{Found, Missing, TooLong}
use Rattle.cil_outside.specs.Causes.{Rose}
use Rattle.cil_outside.specs.Folder.{FolderReads, IsWithin}
use Rattle.cil_outside.specs.Outlet.{OutletPuts, OutletSends, put_content, put_of, untold}
use Rattle.cil_outside.specs.declared.outlet.Sent.TheVariants as sends
use Rattle.cil_outside.specs.declared.puts.PutFile.{PutFile}

-- a folder of one file of three bytes
abbrev pub one_file : List NamedFile
one_file = record { name = 97 ∷ []; bytes = 1 ∷ 2 ∷ 3 ∷ [] } ∷ []

pub same_count-not_rose : Rose 3 3 → ⊥
same_count-not_rose h = omega arith

pub file_there-not_missing : FolderReads (Some one_file) (97 ∷ []) 9 Missing → ⊥
file_there-not_missing h = cc

pub no_file-not_found : FolderReads (Some one_file) (98 ∷ []) 9 (Found (1 ∷ [])) → ⊥
no_file-not_found h = cc

pub short_file-not_too_long : FolderReads (Some one_file) (97 ∷ []) 3 TooLong → ⊥
short_file-not_too_long h = search rules

pub long_file-not_within : IsWithin 2 (Found (1 ∷ 2 ∷ 3 ∷ [])) → ⊥
long_file-not_within h = omega arith

pub refused_memory-adds_nothing : OutletSends (Some (1 ∷ [])) (Some (1 ∷ 2 ∷ [])) (2 ∷ []) (Err (record {})) → ⊥
refused_memory-adds_nothing h = cc

-- a file of one name is put twice, and one of another name fails
abbrev pub three_puts : List PutFile
three_puts = put_of (97 ∷ []) (1 ∷ []) ∷ put_of (97 ∷ []) (2 ∷ []) ∷ untold (put_of (98 ∷ []) (3 ∷ [])) ∷ []

pub last_put-counts : put_content three_puts (97 ∷ []) ≡ Some (2 ∷ [])
last_put-counts = refl

pub failed_put-no_content : put_content three_puts (98 ∷ []) ≡ None
failed_put-no_content = refl

pub failed_put-not_told : OutletPuts (Some []) (Some (put_of (97 ∷ []) (1 ∷ []) ∷ [])) (put_of (97 ∷ []) (1 ∷ [])) (Ok sends.Failed) → ⊥
failed_put-not_told h =
    let told : Option (List ℕ) = Some (1 ∷ []) in
    let content : told ≡ None = ap (λ (puts : Option (List PutFile)). put_content (unwrap_or puts []) (97 ∷ [])) h in
    cc
