-- From the beginning of a run to its end.
use Rattle.std.proofs.Common.{◌≡◌, refl, sym, ◌∙◌, ap, subst, ℕ, ◌<◌, ◌≤◌, List, [], Some, Result, Ok, Err, IfOk, OnOk, false, length, map, slice_get, arith, All}
use Rattle.std.proofs.lemmas.List.{length-map}
use Rattle.std.proofs.lemmas.Option.{slice_get_within}
use Rattle.cil_base.specs.declared.no_memory.NoMemory.{NoMemory}
use Rattle.job_text.specs.declared.command.Command.{Command}
use Rattle.lazy_core.specs.History.{entry_caller}
use Rattle.lazy_core.specs.Legal.{Legal}
use Rattle.lazy_core.specs.Slots.{CoreState}
use Rattle.cecil_top.specs.Acts.{acts_of}
use Rattle.cecil_top.specs.Explained.{ExplainsCaller}
use Rattle.cecil_top.specs.Explains.{AreDone, Explains}
use Rattle.job_text.specs.Runnable.{AreRunnable, CanRun}
use Rattle.cecil_top.specs.declared.actor.Actor.{Actor}
use Rattle.cecil_top.specs.declared.record.ActorRecord.{ActorRecord}
use Rattle.cecil_top.specs.inner.Actors.{AllHaveRun, FitModules, IsReady}
use Rattle.cecil_top.specs.inner.Ends.{AllAreClosed, AllAreSameFrom, AllCanClose, IsClosed, record_of}
use Rattle.cecil_top.specs.inner.Opens.{AllAreNew, AreOpened, IsNew}
use Rattle.cecil_top.specs.inner.Passes.{ExplainsSoFar, HasPasses, IsPassFor, Shared, seen_by}
use Rattle.cecil_top.proofs.CallerLemmas.{explains_none}
use Rattle.cecil_top.proofs.PassLemmas.{pass_there}
use Rattle.cecil_top.proofs.PlaceLemmas.{all_at, at_all, item_at, item_mapped, same_items}

-- the bytes of the images of cores
abbrev pub bytes_of : List CoreState → List (List ℕ)
bytes_of cores = map (λ (core : CoreState). core.bytes) cores

module _ (cores : List CoreState) (given : List (List Command)) (runnable : AreRunnable (length cores) given)
    (n : ℕ) (count : length given ≡ n) (modules : List Shared) (a1 : List Actor) (opened : AreOpened cores n modules (length cores))
    (new : AllAreNew modules given a1 n) where
  new_at : (i : ℕ) (a : Actor) → slice_get a1 i ≡ Some a → (cs : List Command) × (slice_get given i ≡ Some cs) × IsNew modules i cs a
  new_at i a is =
      let many = new.as_many in
      let within = slice_get_within a1 i a is in
      let cs = item_at given i (omega (arith, many, count, within)) in
      (cs.0, cs.1, new.each i cs.0 a cs.1 is)

  is_ready : (i : ℕ) (a : Actor) → slice_get a1 i ≡ Some a → IsReady modules a
  is_ready i a is =
      let made = new_at i a is in
      let many = opened.as_many in
      let few = runnable.modules_few in
      record {
        passes = record {
          as_many = made.2.passes.as_many;
          each = λ m l p at there. subst (IsPassFor l a.number) (sym (made.2.passes.each m l p at there)) ((refl, refl), sym made.2.number);
        };
        fit = subst (FitModules modules) (sym made.2.given) (
          omega (arith, many, few),
          all_at (λ (cs : List Command). length cs ≤ 4096) given runnable.commands_few i made.0 made.1,
          subst (λ k. All (CanRun k) made.0) (sym many) (all_at (All (CanRun (length cores))) given runnable.each i made.0 made.1),
        );
        none_done = made.2.none_done;
        none_said = made.2.none_said;
        so_far = λ m l p at there.
            subst (λ q. ExplainsCaller l.base a.number m [] (seen_by q)) (sym (made.2.passes.each m l p at there)) (explains_none l.base a.number m);
      }

  pub all_ready : All (IsReady modules) a1
  all_ready = at_all (IsReady modules) a1 is_ready

  module _ (a2 : List Actor) (ran : AllHaveRun modules a1 a2) (none_short : All (λ (a : Actor). a.short ≡ false) a2) where
    -- an actor that has done all
    record IsThrough (i : ℕ) (a : Actor) : Type 0 where
      pub passes : HasPasses modules i a.passes
      pub done : (cs : List Command) → slice_get given i ≡ Some cs → AreDone (length modules) cs a.commands a.said
      pub explained : ExplainsSoFar modules i (acts_of a.commands a.said) a.passes

    through : (i : ℕ) (a : Actor) → slice_get a2 i ≡ Some a → IsThrough i a
    through i a is =
        let many = ran.as_many in
        let within = slice_get_within a2 i a is in
        let x = item_at a1 i (omega (arith, many, within)) in
        let r = ran.each i x.0 a x.1 is in
        let made = new_at i x.0 x.1 in
        let number : a.number ≡ i = r.number ∙ made.2.number in
        let long = all_at (λ (y : Actor). y.short ≡ false) a2 none_short i a is in
        record {
          passes = subst (λ k. HasPasses modules k a.passes) number r.passes;
          done = λ cs at. subst (λ y. AreDone (length modules) y a.commands a.said) ((new.each i cs x.0 at x.1).given) (r.done long);
          explained = subst (λ k. ExplainsSoFar modules k (acts_of a.commands a.said) a.passes) number (r.explained long);
        }

    pub all_can_close : AllCanClose modules a2
    all_can_close m l at = record {
      callers =
          (let within = slice_get_within modules m l at in
          let many = opened.as_many in
          let core = item_at cores m (omega (arith, many, within)) in
          (opened.each m core.0 l core.1 at).1 ∙ sym new.as_many ∙ sym ran.as_many);
      there = λ i a is. pass_there modules i a.passes (through i a is).passes m (slice_get_within modules m l at);
      passes = λ i a p is there. (through i a is).passes.each m l p at there;
      explained = λ i a p is there. (through i a is).explained m l p at there;
    }

    module _ (a3 : List Actor) (ends : List CoreState) (closed : AllAreClosed modules a2 ends (length modules)) (same : AllAreSameFrom (length modules) a2 a3) where
      -- the module of a core
      closed_at : (m : ℕ) (core : CoreState) → slice_get ends m ≡ Some core → (l : Shared) × (slice_get modules m ≡ Some l) × IsClosed l m a2 core
      closed_at m core is =
          let many = closed.as_many in
          let within = slice_get_within ends m core is in
          let l = item_at modules m (omega (arith, many, within)) in
          (l.0, l.1, closed.each m l.0 core l.1 is)

      -- the actor of a record
      kept_of : (i : ℕ) (r : ActorRecord) → slice_get (map record_of a3) i ≡ Some r → (a : Actor) × (slice_get a2 i ≡ Some a) × (record_of a ≡ r)
      kept_of i r is =
          let z = item_mapped record_of a3 i r is in
          let many = same.as_many in
          let within = slice_get_within a3 i z.0 z.1 in
          let a = item_at a2 i (omega (arith, many, within)) in
          let s = same.each i a.0 z.0 a.1 z.1 in
          let kept : record_of a.0 ≡ record_of z.0 =
          ap (λ cs. record_of (record a.0 { commands = cs })) (sym s.commands) ∙ ap (λ y. record_of (record z.0 { said = y })) (sym s.said) in
          (a.0, a.1, kept ∙ z.2)

      bytes_same : bytes_of ends ≡ bytes_of cores
      bytes_same = same_items (bytes_of ends) (bytes_of cores)
          (length-map ends (λ (core : CoreState). core.bytes) ∙ closed.as_many ∙ opened.as_many ∙ sym (length-map cores (λ (core : CoreState). core.bytes)))
          (λ m x y is at.
          let end = item_mapped (λ (core : CoreState). core.bytes) ends m x is in
          let first = item_mapped (λ (core : CoreState). core.bytes) cores m y at in
          let c = closed_at m end.0 end.1 in
          sym end.2 ∙ c.2.bytes ∙ (opened.each m first.0 c.0 first.1 c.1).0 ∙ first.2)

      actors_many : length a2 ≡ length given
      actors_many = ran.as_many ∙ new.as_many ∙ sym count

      modules_many : length modules ≡ length (bytes_of cores)
      modules_many = opened.as_many ∙ sym (length-map cores (λ (core : CoreState). core.bytes))

      pub run_explains : Explains (bytes_of cores) given (record { cores = ends; actors = map record_of a3 })
      run_explains = record {
        bytes = bytes_same;
        actors = length-map a3 record_of ∙ same.as_many ∙ actors_many;
        legal = at_all (λ (core : CoreState). Legal core.bytes core.history) ends (λ m core is. (closed_at m core is).2.legal);
        callers = at_all (λ (core : CoreState). All (λ e. entry_caller e < length given) core.history) ends
            (λ m core is. subst (λ n. All (λ e. entry_caller e < n) core.history) actors_many (closed_at m core is).2.callers);
        done = λ i cs r at is.
            let a = kept_of i r is in
            subst (λ (y : ActorRecord). AreDone (length (bytes_of cores)) cs y.commands y.said) a.2
            (subst (λ n. AreDone n cs a.0.commands a.0.said) modules_many ((through i a.0 a.1).done cs at));
        explained = λ m i core r at is.
            let a = kept_of i r is in
            subst (λ (y : ActorRecord). ExplainsCaller core.bytes i m (acts_of y.commands y.said) core.history) a.2 ((closed_at m core at).2.explained i a.0 a.1);
      }

    -- what closing comes to
    pub run_ends : (a3 : List Actor) (r : Result (List CoreState) NoMemory) → IfOk r (λ ends. AllAreClosed modules a2 ends (length modules))
        → OnOk r (AllAreSameFrom (length modules) a2 a3) → IfOk r (λ ends. Explains (bytes_of cores) given (record { cores = ends; actors = map record_of a3 }))
    run_ends a3 (Ok ends) closed same = run_explains a3 ends closed same
    run_ends a3 (Err e) closed same = tt
