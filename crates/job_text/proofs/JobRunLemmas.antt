-- The commands of a job's actors can be run, and are within the limits.
use Rattle.std.proofs.Common.{◌≡◌, ◌∙◌, ℕ, ◌+◌, ◌≤◌, List, [], ◌∷◌, ◌++◌, length, map, cond, Option, Some, None, refl, sym, ap, subst, arith}
use Rattle.std.proofs.lemmas.Bool.Decides.{nat_tests}
use Rattle.std.proofs.lemmas.List.{length-map}
use Rattle.std.proofs.lemmas.List.Elements.{All-nil, All-push, All-weaker}
use Rattle.std.specs.List.{All}
use Rattle.std.specs.Prelude.{Ok, Err, IfOk, Result, codes, nat_lt}
use Rattle.cil_base.proofs.StepLemmas.{split}
use Rattle.serde_json.specs.Data.{Data}
use Rattle.job_text.proofs.CommandLemmas.{one_more}
use Rattle.job_text.proofs.JobLemmas.{few_commands, later_short, one_actor_more}
use Rattle.job_text.proofs.CommandRunLemmas.{command_runs}
use Rattle.job_text.specs.Answers.{AnswersJob}
use Rattle.job_text.specs.Commands.{after_command, commands_from, given_command}
use Rattle.job_text.specs.Job.{actors_from, after_actor, given_job, given_write, job_of_parts, with_actors, within_limits}
use Rattle.job_text.specs.Limits.{long_actor, over_limit}
use Rattle.job_text.specs.Parts.{Job}
use Rattle.job_text.specs.Runnable.{AreRunnable, CanRun}
use Rattle.job_text.specs.Shape.{given_name, is_job, items}
use Rattle.job_text.specs.Values.{member}
use Rattle.job_text.specs.declared.command.Command.{Command}
use Rattle.job_text.specs.declared.job.JobFail.{JobFail}
use Rattle.job_text.specs.declared.job.JobFail.TheVariants as fails
use Rattle.job_text.specs.declared.job.JobRefusal.TheVariants as refusals

-- so many commands, each of which can be run
record Runs (n count : ℕ) (cs : List Command) : Type 0 where
  many : length cs ≡ count
  each : All (CanRun n) cs

commands_step : (n : ℕ) (before : List Command) (d : Data) (ds : List Data) (o : Option Command) (cs : List Command) → given_command n before d ≡ o → after_command before (λ more. commands_from n more ds) o ≡ Ok cs → ((c : Command) → CanRun n c → commands_from n (before ++ c ∷ []) ds ≡ Ok cs → Runs n (length before + 1 + length ds) cs) → Runs n (length before + 1 + length ds) cs
commands_step n before d ds None cs o e go = absurd (cc)
commands_step n before d ds (Some c) cs o e go = go c (command_runs n before d c o) e

commands_run : (n : ℕ) (before : List Command) (ds : List Data) (cs : List Command) → All (CanRun n) before → commands_from n before ds ≡ Ok cs → Runs n (length before + length ds) cs
unfolding commands_from
commands_run n before [] cs h e =
    let same : before ≡ cs = cc in
    record { many = ap length (sym same) ∙ (omega arith); each = subst (All (CanRun n)) same h }
commands_run n before (d ∷ ds) cs h e =
    let r = commands_step n before d ds (given_command n before d) cs refl e (λ c k f.
    let r = commands_run n (before ++ c ∷ []) ds cs (All-push (CanRun n) before c h k) f in
    let m = r.many in
    let one = one_more before c in
    record { many = omega (arith, m, one); each = r.each }) in
    let m = r.many in
    record { many = omega (arith, m); each = r.each }

-- an actor's commands, as a run wants them
abbrev Fine : ℕ → List Command → Type 0
Fine n cs = (length cs ≤ 4096) × All (CanRun n) cs

-- so many actors with such commands
record Act (n count : ℕ) (all : List (List Command)) : Type 0 where
  many : length all ≡ count
  each : All (Fine n) all

actors_step : (n : ℕ) (before : List (List Command)) (d : Data) (ds : List Data) (r : Result (List Command) ℕ) (all : List (List Command)) → commands_from n [] (items d) ≡ r → after_actor before (λ more. actors_from n more ds) r ≡ Ok all → length (items d) ≤ 4096 → ((cs : List Command) → Fine n cs → actors_from n (before ++ cs ∷ []) ds ≡ Ok all → Act n (length before + 1 + length ds) all) → Act n (length before + 1 + length ds) all
actors_step n before d ds (Err c) all r e few go = absurd (cc)
actors_step n before d ds (Ok cs) all r e few go =
    let made = commands_run n [] (items d) cs (All-nil (CanRun n)) r in
    let m = made.many in
    go cs (omega (arith, m), made.each) e

actors_run : (n : ℕ) (before : List (List Command)) (ds : List Data) (all : List (List Command)) → All (Fine n) before → long_actor ds ≡ None → actors_from n before ds ≡ Ok all → Act n (length before + length ds) all
unfolding actors_from long_actor
actors_run n before [] all h few e =
    let same : before ≡ all = cc in
    record { many = ap length (sym same) ∙ (omega arith); each = subst (All (Fine n)) same h }
actors_run n before (d ∷ ds) all h few e =
    let a = actors_step n before d ds (commands_from n [] (items d)) all refl e (few_commands (length (items d)) (long_actor ds) few) (λ cs k f.
    let a = actors_run n (before ++ cs ∷ []) ds all (All-push (Fine n) before cs h k) (later_short (length (items d)) (long_actor ds) few) f in
    let m = a.many in
    let one = one_actor_more before cs in
    record { many = omega (arith, m, one); each = a.each }) in
    let m = a.many in
    record { many = omega (arith, m); each = a.each }

limits : (m a w : ℕ) (o : Option ℕ) → cond (nat_lt 16 m) (Some m) (cond (nat_lt 64 a) (Some a) (cond (nat_lt 16 w) (Some w) o)) ≡ None → (m ≤ 16) × ((a ≤ 64) × (o ≡ None))
limits m a w o e = (grind (arith, nat_tests), (grind (arith, nat_tests), grind (arith, nat_tests)))

actors_fine : (modules actors writes : List Data) (r : Result (List (List Command)) (ℕ × ℕ)) (job : Job) → over_limit (length modules) actors (length writes) ≡ None → actors_from (length modules) [] actors ≡ r → with_actors modules writes r ≡ Ok job → AreRunnable (length job.modules) job.actors
unfolding over_limit
actors_fine modules actors writes (Err place) job o r e = absurd (cc)
actors_fine modules actors writes (Ok all) job o r e =
    let w = limits (length modules) (length actors) (length writes) (long_actor actors) o in
    let few = w.1.0 in
    let act = actors_run (length modules) [] actors all (All-nil (Fine (length modules))) w.1.1 r in
    let m = act.many in
    let fine : AreRunnable (length modules) all = record {
      modules_few = w.0;
      actors_few = omega (arith, m, few);
      commands_few = All-weaker (Fine (length modules)) (λ (cs : List Command). length cs ≤ 4096) (λ cs h. h.0) all act.each;
      each = All-weaker (Fine (length modules)) (All (CanRun (length modules))) (λ cs h. h.1) all act.each;
    } in
    let is : record { modules = map given_name modules; actors = all; writes = map (given_write (length modules)) writes } ≡ job = cc in
    subst (λ (j : Job). AreRunnable (length j.modules) j.actors) is (subst (λ n. AreRunnable n all) (sym (length-map modules given_name)) fine)

parts_run : (modules actors writes : List Data) (o : Option ℕ) (job : Job) → over_limit (length modules) actors (length writes) ≡ o → within_limits modules actors writes o ≡ Ok job → AreRunnable (length job.modules) job.actors
parts_run modules actors writes (Some n) job o e = absurd (cc)
parts_run modules actors writes None job o e =
    actors_fine modules actors writes (actors_from (length modules) [] actors) job o refl e

-- a job that a value denotes can be run
pub denoted_runnable : (d : Data) (job : Job) → given_job d ≡ Ok job → AreRunnable (length job.modules) job.actors
unfolding given_job job_of_parts
denoted_runnable d job e =
    let modules = items (member (codes "modules") d) in
    let actors = items (member (codes "actors") d) in
    let writes = items (member (codes "write") d) in
    split (is_job d) (job_of_parts modules actors writes) (Err refusals.Shape) (Ok job) e
    (λ t h. parts_run modules actors writes (over_limit (length modules) actors (length writes)) job refl h)
    (λ t h. absurd (cc))

-- and so can the job that is answered
pub answered_runnable : (d : Data) (r : Result Job JobFail) → AnswersJob r (given_job d) → IfOk r (λ job. AreRunnable (length job.modules) job.actors)
answered_runnable d (Ok job) h = denoted_runnable d job h
answered_runnable d (Err (fails.Refused refusal)) h = tt
answered_runnable d (Err fails.NoMemory) h = tt
