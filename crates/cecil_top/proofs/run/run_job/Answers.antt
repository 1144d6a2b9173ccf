use Rattle.std.proofs.Common.{◌≡◌, ◌∙◌, sym, ap, subst, rules, length, map, List, []}
use Rattle.std.proofs.lemmas.List.{take_at}
use Rattle.job_text.specs.declared.command.Command.{Command}
use Rattle.cecil_top.specs.Explains.{Explains}
use Rattle.job_text.specs.Runnable.{AreRunnable}
use Rattle.cecil_top.specs.declared.actor.Actor.{Actor}
use Rattle.cecil_top.specs.declared.record.ActorRecord.{ActorRecord}
use Rattle.cecil_top.specs.inner.Ends.{record_of}
use Rattle.cecil_top.specs.inner.Opens.{AllAreNew}
use Rattle.cecil_top.proofs.OpenLemmas.{given_is}
use Rattle.cecil_top.proofs.RunLemmas.{bytes_of}
use Rattle.cecil_top.proofs.run.run_job.Goals as goal

abbrev given_of : List Actor → List (List Command)
given_of actors = map (λ (a : Actor). a.given) actors

pub run_over-requires-clause-runnable : goal.run_over-requires-clause-runnable
run_over-requires-clause-runnable g c κs within =
    let made : List Actor = c.in_ok-new_actors.field-0 in
    let is : c.as_mut_slice.result.now ≡ made = c.as_mut_slice.ensures.value ∙ c.into_vec-actors.ensures in
    subst (AreRunnable (length c.args.cores)) (sym (ap given_of is ∙ given_is [] c.args.given made c.in_ok-new_actors.ensures)) c.requires.runnable

pub run_over-requires-clause-new : goal.run_over-requires-clause-new
run_over-requires-clause-new g c κs within =
    let made : List Actor = c.in_ok-new_actors.field-0 in
    let new = c.in_ok-new_actors.ensures in
    let is : c.as_mut_slice.result.now ≡ made = c.as_mut_slice.ensures.value ∙ c.into_vec-actors.ensures in
    subst (λ (x : List Actor). AllAreNew [] (given_of x) x (length x)) (sym is)
    (subst (λ cs. AllAreNew [] cs made (length made)) (sym (given_is [] c.args.given made new)) (subst (AllAreNew [] c.args.given made) (sym new.as_many) new))

pub returns : goal.returns
returns g c =
    let made : List Actor = c.in_ok-new_actors.field-0 in
    let is : c.as_mut_slice.result.now ≡ made = c.as_mut_slice.ensures.value ∙ c.into_vec-actors.ensures in
    let long : length c.run_over.new.actors ≡ c.into_vec-actors.result.len = search rules in
    let kept : c.from_vec.result ≡ c.run_over.new.actors = c.from_vec.ensures ∙ take_at c.run_over.new.actors _ c.into_vec-actors.result.len long in
    let ends = c.in_ok-cores.cores in
    let bytes = bytes_of c.args.cores in
    subst (λ (rs : List ActorRecord). Explains bytes c.args.given (record { cores = ends; actors = rs })) (sym (c.in_ok-actors.ensures ∙ ap (map record_of) kept))
    (subst (λ cs. Explains bytes cs (record { cores = ends; actors = map record_of c.run_over.new.actors })) (ap given_of is ∙ given_is [] c.args.given made c.in_ok-new_actors.ensures) c.in_ok-cores.ensures)
