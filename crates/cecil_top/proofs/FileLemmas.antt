-- The files of a run as they are read, one after the other.
use Rattle.std.proofs.Common.{◌≡◌, refl, sym, ◌∙◌, ap, subst, inl, inr, ℕ, suc, ◌+◌, ◌<◌, ◌≤◌, ◌^◌, List, [], ◌∷◌, ◌++◌, arith, get_or, length, map, slice_get, take}
use Rattle.std.proofs.Common.{All, Option, Some, None}
use Rattle.std.proofs.lemmas.List.{map-append, take_all, take_more}
use Rattle.std.proofs.lemmas.List.Elements.{All-append, All-cons, All-nil}
use Rattle.cecil_inspect.proofs.InspectLemmas.{not_longer}
use Rattle.cecil_inspect.proofs.LimitLemmas.{told}
use Rattle.cecil_inspect.specs.Inspect.{IsContent, IsReadImage}
use Rattle.cecil_inspect.specs.Steps.{IsRefused}
use Rattle.cecil_inspect.specs.declared.status.FileCause.{FileCause}
use Rattle.cecil_inspect.specs.declared.status.FileCause.TheVariants.{Missing, TooLong, Refused}
use Rattle.cecil_inspect.specs.declared.status.Status.{Status}
use Rattle.cecil_inspect.specs.declared.status.Status.TheVariants as ends
use Rattle.cil_outside.specs.Causes.{Rose}
use Rattle.cil_outside.specs.Folder.{FolderReads}
use Rattle.cil_outside.specs.declared.files.NamedFile.{NamedFile}
use Rattle.cil_outside.specs.declared.folder.Got.TheVariants as got
use Rattle.job_text.specs.Parts.{Job}
use Rattle.lazy_core.specs.Slots.{CoreState}
use Rattle.node_read.specs.Image.{IsImageFile, RefusesImage}
use Rattle.node_read.specs.declared.image.OpenRefusal.{OpenRefusal}
use Rattle.cecil_top.specs.Untouched.{AreUntouched}
use Rattle.cecil_top.specs.ToolFiles.{AreImages, IsFirstUntaken, IsReadFile, IsReadJob, IsRefusedImage, IsNamedImage, IsUnread, IsUntaken}
use Rattle.cecil_top.specs.inner.ToolSteps.{AreTakenTo, EndsFile, EndsImage, EndsImages, EndsJob, EndsRun}

-- what a folder found is the content of the file
pub found_content : (files : Option (List NamedFile)) (name : List ℕ) (max : ℕ) (b : List ℕ)
    → FolderReads files name max (got.Found b) → IsContent files name b
found_content None name max b is = tt
found_content (Some files) name max b is = is

-- a job file that is not read ends the reading of a job,
pub file_ends_job : (files : Option (List NamedFile)) (name : List ℕ) (status : Status)
    → EndsFile files name (2 ^ 24) status → EndsJob files name status
file_ends_job files name ends.Ok is = absurd is
file_ends_job files name ends.Usage is = absurd is
file_ends_job files name (ends.Job refusal) is = absurd is
file_ends_job files name (ends.File other cause) is = is
file_ends_job files name ends.ReadFault is = tt
file_ends_job files name ends.WriteFault is = absurd is
file_ends_job files name ends.NoMemory is = tt

-- and an image that is not read that of an image
unread_untaken : (files : Option (List NamedFile)) (name : List ℕ) (cause : FileCause)
    → IsUnread files name (2 ^ 26) cause → IsUntaken files name cause
unread_untaken files name Missing is = is
unread_untaken files name TooLong is = is
unread_untaken files name (Refused refusal) is = absurd is

pub file_ends_image : (files : Option (List NamedFile)) (name : List ℕ) (status : Status)
    → EndsFile files name (2 ^ 26) status → EndsImage files name status
file_ends_image files name ends.Ok is = absurd is
file_ends_image files name ends.Usage is = absurd is
file_ends_image files name (ends.Job refusal) is = absurd is
file_ends_image files name (ends.File other cause) is = (is.0, unread_untaken files name cause is.1)
file_ends_image files name ends.ReadFault is = tt
file_ends_image files name ends.WriteFault is = absurd is
file_ends_image files name ends.NoMemory is = tt

-- so does a file that is read and refused
pub refused_ends_image : (files : Option (List NamedFile)) (name b : List ℕ) (r : OpenRefusal) (status : Status)
    → IsReadFile files name (2 ^ 26) b → RefusesImage b r → IsRefused r name status → EndsImage files name status
refused_ends_image files name b r status read refuses (inl refused) =
    let image : IsRefusedImage files name r = record {
      b = b;
      read = read;
      told = told b r (not_longer (length b) read.short) refused.0 refuses;
      refused = refuses;
    } in
    subst (λ s. EndsImage files name s) (sym refused.1) (refl, image)
refused_ends_image files name b r status read refuses (inr wants) =
    subst (λ s. EndsImage files name s) (sym wants) tt

pub read_image : (files : Option (List NamedFile)) (name b : List ℕ) → IsReadFile files name (2 ^ 26) b → IsImageFile b
    → IsReadImage files name b
read_image files name b read image =
    record { content = read.content; short = not_longer (length b) read.short; image = image }

-- images in order, and one more
pub images_more : (files : Option (List NamedFile)) (names bs : List (List ℕ)) (name b : List ℕ)
    → AreImages files names bs → IsReadImage files name b → AreImages files (names ++ name ∷ []) (bs ++ b ∷ [])
images_more files [] [] name b are is = (is, tt)
images_more files [] (x ∷ bs) name b are is = absurd are
images_more files (n ∷ names) [] name b are is = absurd are
images_more files (n ∷ names) (x ∷ bs) name b are is = (are.0, images_more files names bs name b are.1 is)

-- each of them is taken
pub images_taken : (files : Option (List NamedFile)) (names bs : List (List ℕ)) → AreImages files names bs
    → All (IsNamedImage files) names
images_taken files [] [] are = All-nil (IsNamedImage files)
images_taken files [] (b ∷ bs) are = absurd are
images_taken files (n ∷ names) [] are = absurd are
images_taken files (n ∷ names) (b ∷ bs) are =
    All-cons (IsNamedImage files) n names (b, are.0) (images_taken files names bs are.1)

-- one for each name
pub as_many_images : (files : Option (List NamedFile)) (names bs : List (List ℕ)) → AreImages files names bs
    → length bs ≡ length names
as_many_images files [] [] are = refl
as_many_images files [] (b ∷ bs) are = absurd are
as_many_images files (n ∷ names) [] are = absurd are
as_many_images files (n ∷ names) (b ∷ bs) are = ap suc (as_many_images files names bs are.1)

-- the first that is not ends the reading of all
pub first_ends_images : (files : Option (List NamedFile)) (names bs : List (List ℕ)) (i : ℕ) (name : List ℕ)
    (status : Status) → slice_get names i ≡ Some name → AreImages files (take i names) bs
    → EndsImage files name status → EndsImages files names status
first_ends_images files names bs i name ends.Ok at are is = absurd is
first_ends_images files names bs i name ends.Usage at are is = absurd is
first_ends_images files names bs i name (ends.Job refusal) at are is = absurd is
first_ends_images files names bs i name (ends.File other cause) at are is =
    let first : IsFirstUntaken files names other cause = record {
      place = i;
      named = subst (λ n. slice_get names i ≡ Some n) (sym is.0) at;
      before = images_taken files (take i names) bs are;
      untaken = subst (λ n. IsUntaken files n cause) (sym is.0) is.1;
    } in
    first
first_ends_images files names bs i name ends.ReadFault at are is = tt
first_ends_images files names bs i name ends.WriteFault at are is = absurd is
first_ends_images files names bs i name ends.NoMemory at are is = tt

-- a run ends where reading its job does, or that of its images
pub job_ends_run : (files : Option (List NamedFile)) (name : List ℕ) (status : Status)
    → EndsJob files name status → EndsRun files name status
job_ends_run files name ends.Ok is = absurd is
job_ends_run files name ends.Usage is = absurd is
job_ends_run files name (ends.Job refusal) is = is
job_ends_run files name (ends.File other cause) is = inl is
job_ends_run files name ends.ReadFault is = tt
job_ends_run files name ends.WriteFault is = absurd is
job_ends_run files name ends.NoMemory is = tt

pub images_end_run : (files : Option (List NamedFile)) (name : List ℕ) (job : Job) (status : Status)
    → IsReadJob files name job → EndsImages files job.modules status → EndsRun files name status
images_end_run files name job ends.Ok read is = absurd is
images_end_run files name job ends.Usage read is = absurd is
images_end_run files name job (ends.Job refusal) read is = absurd is
images_end_run files name job (ends.File other cause) read is = inr (job, read, is)
images_end_run files name job ends.ReadFault read is = tt
images_end_run files name job ends.WriteFault read is = absurd is
images_end_run files name job ends.NoMemory read is = tt

-- one image more is taken
taken_front : (names : List (List ℕ)) (i : ℕ) (name : List ℕ) → i < length names → name ≡ get_or names i name
    → take (i + 1) names ≡ take i names ++ name ∷ []
taken_front names i name within is =
    take_more names i name within ∙ ap (λ n. take i names ++ n ∷ []) (sym is)

pub taken_more : (files now : Option (List NamedFile)) (names : List (List ℕ)) (i : ℕ) (name : List ℕ)
    (cores more : List CoreState) (core : CoreState) → i < length names → name ≡ get_or names i name → now ≡ files
    → AreTakenTo files names cores i → IsReadImage now name core.bytes → core.history ≡ []
    → more ≡ cores ++ core ∷ [] → AreTakenTo files names more (i + 1)
taken_more files now names i name cores more core within same tells taken image untouched added =
    let here : IsReadImage files name core.bytes = subst (λ f. IsReadImage f name core.bytes) tells image in
    let bytes : map (λ (core : CoreState). core.bytes) more
    ≡ map (λ (core : CoreState). core.bytes) cores ++ core.bytes ∷ [] =
    ap (map (λ (core : CoreState). core.bytes)) added
    ∙ map-append (λ (core : CoreState). core.bytes) cores (core ∷ []) in
    let both : AreImages files (take i names ++ name ∷ []) (map (λ (core : CoreState). core.bytes) cores ++ core.bytes ∷ []) =
    images_more files (take i names) (map (λ (core : CoreState). core.bytes) cores) name core.bytes taken.images here in
    let quiet : AreUntouched (cores ++ core ∷ []) =
    All-append (λ (c : CoreState). c.history ≡ []) cores (core ∷ []) taken.untouched
    (All-cons (λ (c : CoreState). c.history ≡ []) core [] untouched (All-nil (λ (c : CoreState). c.history ≡ []))) in
    record {
      images = subst (λ bs. AreImages files (take (i + 1) names) bs) (sym bytes)
          (subst (λ ns. AreImages files ns (map (λ (core : CoreState). core.bytes) cores ++ core.bytes ∷ []))
          (sym (taken_front names i name within same)) both);
      untouched = subst AreUntouched (sym added) quiet;
    }

-- all of them are taken
pub taken_all : (files : Option (List NamedFile)) (names : List (List ℕ)) (cores : List CoreState) (n : ℕ)
    → length names ≤ n → AreTakenTo files names cores n
    → AreImages files names (map (λ (core : CoreState). core.bytes) cores)
taken_all files names cores n past taken =
    subst (λ ns. AreImages files ns (map (λ (core : CoreState). core.bytes) cores)) (take_all n names past) taken.images

-- a count that rose above a later one rose above an earlier one
pub rose_before : (first later now : ℕ) → first ≤ later → Rose later now → Rose first now
rose_before first later now less rose = omega (arith, less, rose)
