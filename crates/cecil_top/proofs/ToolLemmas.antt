-- How a run ends, and that a whole job is run.
use Rattle.std.proofs.Common.{◌≡◌, ◌≢◌, refl, sym, ◌∙◌, ap, subst, inl, inr, ◌⊎◌, ℕ, ◌<◌, ◌^◌, List, All, Option, Some, None, false, arith, length, map, nat_lt}
use Rattle.std.proofs.lemmas.Bool.Decides.{nat_tests}
use Rattle.std.proofs.lemmas.List.{length-map}
use Rattle.std.specs.Prelude.{MatchOption, Result, Ok, Err}
use Rattle.cecil_inspect.specs.Inspect.{IsToldRefusal, TellsFaults}
use Rattle.cecil_inspect.specs.Steps.{Sends}
use Rattle.cecil_inspect.specs.declared.status.FileCause.{FileCause}
use Rattle.cecil_inspect.specs.declared.status.FileCause.TheVariants.{Missing, TooLong, Refused}
use Rattle.cecil_inspect.specs.declared.status.Status.{Status}
use Rattle.cecil_inspect.specs.declared.status.Status.TheVariants as ends
use Rattle.cil_outside.specs.Causes.{Rose}
use Rattle.cil_outside.specs.Folder.{content_of}
use Rattle.cil_outside.specs.declared.files.NamedFile.{NamedFile}
use Rattle.job_text.specs.Answers.{IsJobOf}
use Rattle.job_text.specs.Parts.{Job}
use Rattle.job_text.specs.Runnable.{AreRunnable}
use Rattle.job_text.specs.declared.command.Command.{Command}
use Rattle.job_text.specs.declared.job.JobFail.TheVariants as fails
use Rattle.job_text.specs.declared.job.JobRefusal.{JobRefusal}
use Rattle.lazy_core.specs.Slots.{CoreState}
use Rattle.node_read.specs.Image.{ImageIsNotRefused, RefusesImage}
use Rattle.node_read.specs.declared.image.OpenRefusal.{OpenRefusal}
use Rattle.node_read.specs.declared.image.OpenRefusal.TheVariants as opens
use Rattle.cecil_top.specs.Explains.{Explains}
use Rattle.cecil_top.specs.Tool.{IsFirstMissed, IsRunOf, IsWholeJob, RunAnswers, RunCompletes, RunWrites}
use Rattle.cecil_top.specs.ToolFiles.{AreImages, IsFirstUntaken, IsReadFile, IsReadJob, IsRefusedJob, IsNamedImage, IsUnread, IsUntaken}
use Rattle.cecil_top.specs.inner.ToolSteps.{EndsRun, IsTextOf}
use Rattle.cecil_top.proofs.FileLemmas.{as_many_images, images_taken}
use Rattle.cecil_top.proofs.PlaceLemmas.{all_at}

-- a job can be run whose images are opened,
pub opened_runs : (files : Option (List NamedFile)) (job : Job) (names : List (List ℕ)) (cores : List CoreState)
    (actors : List (List Command)) → names ≡ job.modules → actors ≡ job.actors
    → AreImages files names (map (λ (core : CoreState). core.bytes) cores) → AreRunnable (length job.modules) job.actors
    → AreRunnable (length cores) actors
opened_runs files job names cores actors named given images runnable =
    let many : length cores ≡ length job.modules =
    sym (length-map cores (λ (core : CoreState). core.bytes))
    ∙ as_many_images files names (map (λ (core : CoreState). core.bytes) cores) images ∙ ap length named in
    subst (λ cs. AreRunnable (length cores) cs) (sym given) (subst (λ n. AreRunnable n job.actors) (sym many) runnable)

-- and the text of its run is what comes of its file
pub text_is_of_run : (files now : Option (List NamedFile)) (name : List ℕ) (job : Job) (names : List (List ℕ))
    (cores : List CoreState) (actors : List (List Command)) (text : List ℕ) → names ≡ job.modules → actors ≡ job.actors
    → now ≡ files → IsReadJob files name job → AreImages now names (map (λ (core : CoreState). core.bytes) cores)
    → IsTextOf (map (λ (core : CoreState). core.bytes) cores) actors text → IsRunOf files name text
text_is_of_run files now name job names cores actors text named given tells read images told = record {
  job = job;
  images = map (λ (core : CoreState). core.bytes) cores;
  r = told.r;
  read = read;
  opened = subst (λ f. AreImages f job.modules (map (λ (core : CoreState). core.bytes) cores)) tells
      (subst (λ ns. AreImages now ns (map (λ (core : CoreState). core.bytes) cores)) named images);
  explains = subst (λ cs. Explains (map (λ (core : CoreState). core.bytes) cores) cs told.r) given told.explains;
  prints = told.prints;
}

run_whole : (files : Option (List NamedFile)) (name text : List ℕ) → IsRunOf files name text → IsWholeJob files name
run_whole files name text run = (run.job, run.read, images_taken files run.job.modules run.images run.opened)

-- how a run ends whose text was written, or not
pub sent_answers : (files : Option (List NamedFile)) (name text : List ℕ) (old new : Option (List ℕ)) (status : Status)
    → IsRunOf files name text → Sends old new text status → RunAnswers files name status
sent_answers files name text old new ends.Ok run is = run_whole files name text run
sent_answers files name text None new ends.Usage run is = absurd is
sent_answers files name text (Some old) new ends.Usage run is = absurd is
sent_answers files name text None new (ends.Job refusal) run is = absurd is
sent_answers files name text (Some old) new (ends.Job refusal) run is = absurd is
sent_answers files name text None new (ends.File other cause) run is = absurd is
sent_answers files name text (Some old) new (ends.File other cause) run is = absurd is
sent_answers files name text old new ends.ReadFault run is = tt
sent_answers files name text old new ends.WriteFault run is = run_whole files name text run
sent_answers files name text old new ends.NoMemory run is = tt

pub sent_writes : (files : Option (List NamedFile)) (name text : List ℕ) (old new : Option (List ℕ)) (status : Status)
    → IsRunOf files name text → Sends old new text status → RunWrites files name old new status
sent_writes files name text None new status run is = tt
sent_writes files name text (Some old) new ends.Ok run is = (text, run, is)
sent_writes files name text (Some old) new ends.Usage run is = absurd is
sent_writes files name text (Some old) new (ends.Job refusal) run is = absurd is
sent_writes files name text (Some old) new (ends.File other cause) run is = absurd is
sent_writes files name text (Some old) new ends.ReadFault run is = absurd is
sent_writes files name text (Some old) new ends.WriteFault run is = (text, is.0, run, is.1)
sent_writes files name text (Some old) new ends.NoMemory run is = is

-- how a run ends before
pub ended_answers : (files : Option (List NamedFile)) (name : List ℕ) (status : Status) → EndsRun files name status
    → RunAnswers files name status
ended_answers files name ends.Ok is = absurd is
ended_answers files name ends.Usage is = is
ended_answers files name (ends.Job refusal) is = is
ended_answers files name (ends.File other cause) is = is
ended_answers files name ends.ReadFault is = tt
ended_answers files name ends.WriteFault is = absurd is
ended_answers files name ends.NoMemory is = tt

pub ended_writes : (files : Option (List NamedFile)) (name : List ℕ) (old : Option (List ℕ)) (status : Status)
    → EndsRun files name status → RunWrites files name old old status
ended_writes files name None status is = tt
ended_writes files name (Some old) ends.Ok is = absurd is
ended_writes files name (Some old) ends.Usage is = refl
ended_writes files name (Some old) (ends.Job refusal) is = refl
ended_writes files name (Some old) (ends.File other cause) is = refl
ended_writes files name (Some old) ends.ReadFault is = refl
ended_writes files name (Some old) ends.WriteFault is = absurd is
ended_writes files name (Some old) ends.NoMemory is = refl

-- a told file has one content
one_content : (files : List NamedFile) (name b c : List ℕ) → content_of files name ≡ Some b
    → content_of files name ≡ Some c → b ≡ c
one_content files name b c is so = let both : Some b ≡ Some c = sym is ∙ so in cc

is_there : (files : List NamedFile) (name b : List ℕ) → content_of files name ≡ Some b → content_of files name ≢ None
is_there files name b is none = let both : Some b ≡ None = sym is ∙ none in absurd cc

-- a text that denotes a job is not refused, and denotes no other
one_job : (job other : Job) (r : Result Job JobRefusal) → r ≡ Ok job → r ≡ Ok other → job ≡ other
one_job job other r is so = cc

no_refusal : (job : Job) (refusal : JobRefusal) (r : Result Job JobRefusal) → r ≡ Ok job → r ≡ Err refusal → ⊥
no_refusal job refusal r is bad = cc

not_refused : (text : List ℕ) (job : Job) (refusal : JobRefusal) → IsJobOf text (Ok job)
    → IsJobOf text (Err (fails.Refused refusal)) → ⊥
not_refused text job refusal is bad =
    is.not_json (λ d json. no_refusal job refusal _ (is.json d json) (bad.json d json))

no_other : (text : List ℕ) (job other : Job) → IsJobOf text (Ok job) → IsJobOf text (Ok other) → (job ≢ other → ⊥)
no_other text job other is so differ =
    is.not_json (λ d json. differ (one_job job other _ (is.json d json) (so.json d json)))

-- so a told job that is read is not refused
read_unrefused : (files : List NamedFile) (name : List ℕ) (job : Job) (refusal : JobRefusal)
    → IsReadJob (Some files) name job → IsRefusedJob (Some files) name refusal → ⊥
read_unrefused files name job refusal is bad =
    let same : is.text ≡ bad.text = one_content files name is.text bad.text is.read.content bad.read.content in
    not_refused bad.text job refusal (subst (λ t. IsJobOf t (Ok job)) same is.denotes) bad.refused

-- and a told file that is read is there and short enough
read_there : (files : List NamedFile) (name : List ℕ) (max : ℕ) (b : List ℕ) (cause : FileCause)
    → IsReadFile (Some files) name max b → IsUnread (Some files) name max cause → ⊥
read_there files name max b Missing is bad = is_there files name b is.content bad
read_there files name max b TooLong is bad =
    let same : bad.0 ≡ b = one_content files name bad.0 b bad.1 is.content in
    let long : max < length b = subst (λ t. max < length t) same bad.2 in
    omega (arith, long, is.short)
read_there files name max b (Refused refusal) is bad = bad

told_some : (r : OpenRefusal) → IsToldRefusal r → r ≢ opens.NoMemory
told_some r is same = subst (λ x. IsToldRefusal x) same is

not_both : (n : ℕ) → nat_lt (2 ^ 26) n ≡ false → 2 ^ 26 < n → ⊥
not_both n short long = grind (arith, nat_tests)

-- a told image is not refused
taken_untaken : ImageIsNotRefused → (files : List NamedFile) (name : List ℕ) (cause : FileCause)
    → IsNamedImage (Some files) name → IsUntaken (Some files) name cause → ⊥
taken_untaken law files name Missing is bad = is_there files name is.0 is.1.content bad
taken_untaken law files name TooLong is bad =
    let same : bad.0 ≡ is.0 = one_content files name bad.0 is.0 bad.1 is.1.content in
    not_both (length is.0) is.1.short (subst (λ t. 2 ^ 26 < length t) same bad.2)
taken_untaken law files name (Refused refusal) is bad =
    let same : bad.b ≡ is.0 = one_content files name bad.b is.0 bad.read.content is.1.content in
    let some : refusal ≢ opens.NoMemory = told_some refusal bad.told in
    (law is.0 refusal refusal some some (subst (λ b. RefusesImage b refusal) same bad.refused)).0 is.1.image

-- none of the files of a whole job is missed
none_untaken : ImageIsNotRefused → (files : List NamedFile) (names : List (List ℕ)) (other : List ℕ) (cause : FileCause)
    → All (IsNamedImage (Some files)) names → IsFirstUntaken (Some files) names other cause → ⊥
none_untaken law files names other cause all first =
    taken_untaken law files other cause (all_at (IsNamedImage (Some files)) names all first.place other first.named)
    first.untaken

none_missed : ImageIsNotRefused → (files : List NamedFile) (name other : List ℕ) (cause : FileCause)
    → IsWholeJob (Some files) name → IsFirstMissed (Some files) name other cause → ⊥
none_missed law files name other cause whole (inl missed) =
    read_there files name (2 ^ 24) whole.1.text cause whole.1.read missed.1
none_missed law files name other cause whole (inr missed) =
    let read : IsReadJob (Some files) name whole.0 = whole.1 in
    let again : IsReadJob (Some files) name missed.0 = missed.1 in
    let same : read.text ≡ again.text = one_content files name read.text again.text read.read.content again.read.content in
    no_other again.text whole.0 missed.0 (subst (λ t. IsJobOf t (Ok whole.0)) same read.denotes) again.denotes
    (λ is. none_untaken law files missed.0.modules other cause
    (subst (λ job. All (IsNamedImage (Some files)) job.modules) is whole.2) missed.2)

-- a run of a whole job ends with Ok or wants memory, where no count of faults rose
completes_told : ImageIsNotRefused → (files : List NamedFile) (name : List ℕ) (read read_now write write_now : ℕ)
    (status : Status) → RunAnswers (Some files) name status → TellsFaults read read_now write write_now status
    → (Rose read read_now → ⊥) → (Rose write write_now → ⊥) → IsWholeJob (Some files) name
    → (status ≡ ends.Ok) ⊎ (status ≡ ends.NoMemory)
completes_told law files name r s w x ends.Ok answers faults reads writes whole = inl refl
completes_told law files name r s w x ends.Usage answers faults reads writes whole = absurd answers
completes_told law files name r s w x (ends.Job refusal) answers faults reads writes whole =
    absurd (read_unrefused files name whole.0 refusal whole.1 answers)
completes_told law files name r s w x (ends.File other cause) answers faults reads writes whole =
    absurd (none_missed law files name other cause whole answers)
completes_told law files name r s w x ends.ReadFault answers faults reads writes whole =
    absurd (reads (faults.reads refl))
completes_told law files name r s w x ends.WriteFault answers faults reads writes whole =
    absurd (writes (faults.writes refl))
completes_told law files name r s w x ends.NoMemory answers faults reads writes whole = inr refl

pub completes : ImageIsNotRefused → (files : Option (List NamedFile)) (name : List ℕ) (read read_now write write_now : ℕ)
    (status : Status) → RunAnswers files name status → TellsFaults read read_now write write_now status
    → (Rose read read_now → ⊥) → (Rose write write_now → ⊥) → RunCompletes files name status
completes law None name r s w x status answers faults reads writes = tt
completes law (Some files) name r s w x status answers faults reads writes =
    completes_told law files name r s w x status answers faults reads writes

-- and it never ends with Usage
pub never_usage : (files : Option (List NamedFile)) (name : List ℕ) (status : Status) → RunAnswers files name status
    → status ≢ ends.Usage
never_usage files name status is same = subst (λ s. RunAnswers files name s) same is

-- of `run JOB` it is said what a run does, and of other words what `inspect` does
pub when_some : {A : Type 0} (o : Option A) (a : A) (N : Type 0) (S : A → Type 0) → o ≡ Some a → S a
    → MatchOption o N S
when_some o a N S is holds = subst (λ x. MatchOption x N S) (sym is) holds

pub when_none : {A : Type 0} (o : Option A) (N : Type 0) (S : A → Type 0) → o ≡ None → N → MatchOption o N S
when_none o N S is holds = subst (λ x. MatchOption x N S) (sym is) holds
