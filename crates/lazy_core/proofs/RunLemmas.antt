-- What was wanted may be published from then on, whatever steps follow; and the steps go on by one.
use Rattle.std.proofs.Common.{◌≡◌, refl, sym, ◌∙◌, subst, ℕ, zero, suc, ◌+◌, Bool, true, false, List, [], ◌∷◌, ◌++◌, length, take, get_or, Option, Some, None, option_map, ◌<◌, arith, if◌then◌else◌}
use Rattle.std.specs.List.{fold, list_any}
use Rattle.std.proofs.lemmas.List.{length-append, take-append-le}
use Rattle.std.proofs.lemmas.List.Sums.{fold_more}
use Rattle.node_model.specs.Keys.{same_key}
use Rattle.node_model.specs.declared.edit.Edit.{Edit}
use Rattle.node_model.specs.declared.entry.By.{By}
use Rattle.node_model.specs.declared.entry.Entry.{Entry}
use Rattle.node_model.specs.declared.entry.Entry.TheVariants as entries
use Rattle.node_model.specs.declared.entry.Entry.TheVariants.{Fill}
use Rattle.node_model.specs.declared.entry.Why.{Why}
use Rattle.node_model.specs.declared.key.Key.{Key}
use Rattle.node_model.specs.declared.query.Query.{Query}
use Rattle.lazy_core.specs.History.{filled, graph_after}
use Rattle.lazy_core.specs.Legal.{WasWanted, reach_why}
use Rattle.lazy_core.specs.Run.{Course, after, answered, history_then, publish_history, run, start, want_for, want_of, want_of_try, want_then, wanted_by}
use Rattle.lazy_core.specs.Steps.{history_after, history_tried, last_key, peeked, tried}
use Rattle.lazy_core.specs.Wants.{AllMayPublish, MayPublish}
use Rattle.lazy_core.specs.declared.step.Step.{Step}
use Rattle.lazy_core.specs.declared.step.Step.TheVariants as steps
use Rattle.lazy_core.specs.declared.step.StepAnswer.{StepAnswer}
use Rattle.graph_query.specs.declared.answering.Peek as peeks
use Rattle.graph_query.specs.declared.answering.Peek.TheVariants.{Ready, Need}
use Rattle.lazy_core.specs.declared.wanted.Tried.{Tried}
use Rattle.lazy_core.specs.declared.wanted.Tried.TheVariants as tries
use Rattle.lazy_core.specs.declared.wanted.Wanted.{Wanted}
use Rattle.lazy_core.proofs.TryWantLemmas.{try_needed}
use Rattle.lazy_core.proofs.WantedLemmas.{needed}

-- after further entries
was_more : (b : List ℕ) (h g : List Entry) (p : ℕ) (why : Why) (k : Key) → WasWanted b h p why k → WasWanted b (h ++ g) p why k
was_more b h g p why k was =
    let front : take p (h ++ g) ≡ take p h = take-append-le p h g was.early in
    record {
      early = omega (arith, was.early, length-append h g);
      known = was.known;
      reached = subst (λ t. list_any (same_key k) (reach_why (graph_after b t) why) ≡ true) (sym front) was.reached;
      unfilled = subst (λ t. filled b t k ≡ false) (sym front) was.unfilled;
    }

all_more : (b : List ℕ) (h g : List Entry) (ws : List (Option Wanted)) → AllMayPublish b h ws → AllMayPublish b (h ++ g) ws
all_more b h g [] all = tt
all_more b h g (None ∷ ws) all = (tt, all_more b h g ws all.1)
all_more b h g (Some w ∷ ws) all = (was_more b h g w.point w.why w.key all.0, all_more b h g ws all.1)

-- after a publish
all_after : (b : List ℕ) (h : List Entry) (w : Wanted) (ws : List (Option Wanted)) → AllMayPublish b h ws → AllMayPublish b (history_after b h w) ws
all_after b h w ws all = by_cases (filled b h w.key)
  where
    by_cases : (x : Bool) → AllMayPublish b (if x then h else h ++ Fill w.by w.point w.why w.key ∷ []) ws
    by_cases true = all
    by_cases false = all_more b h (Fill w.by w.point w.why w.key ∷ []) ws all

all_published : (b : List ℕ) (h : List Entry) (o : Option Wanted) (ws : List (Option Wanted)) → AllMayPublish b h ws → AllMayPublish b (publish_history b h o) ws
all_published b h None ws all = all
all_published b h (Some w) ws all = all_after b h w ws all

all_push : (b : List ℕ) (h : List Entry) (ws : List (Option Wanted)) (o : Option Wanted) → AllMayPublish b h ws → MayPublish b h o → AllMayPublish b h (ws ++ o ∷ [])
all_push b h [] o all may = (may, tt)
all_push b h (w ∷ ws) o all may = (all.0, all_push b h ws o all.1 may)

-- one of them
pub may_publish : (b : List ℕ) (h : List Entry) (ws : List (Option Wanted)) (n : ℕ) → AllMayPublish b h ws → MayPublish b h (wanted_by ws n)
may_publish b h [] n all = tt
may_publish b h (w ∷ ws) zero all = all.0
may_publish b h (w ∷ ws) (suc n) all = may_publish b h ws n all.1

-- what a query leaves wanted
want_may : (b : List ℕ) (h : List Entry) (by : By) (q : Query) → MayPublish b h (want_of by q h (peeked b h q))
want_may b h by q = by_peek (peeked b h q) refl
  where
    by_peek : (p : peeks.Peek) → peeked b h q ≡ p → MayPublish b h (want_of by q h p)
    by_peek (Ready reply) e = tt
    by_peek (Need k) e = needed b h q k e

-- after an edit, and what it leaves wanted
all_tried : (b : List ℕ) (h : List Entry) (by : By) (e : Edit) (t : Tried) (ws : List (Option Wanted)) → AllMayPublish b h ws → AllMayPublish b (history_tried by e h t) ws
all_tried b h by e (tries.Done made) ws all = all_more b h (entries.Edit by (e ∷ []) ∷ []) ws all
all_tried b h by e (tries.Refused r) ws all = all
all_tried b h by e (tries.Need ks) ws all = all

try_may : (b : List ℕ) (h : List Entry) (by : By) (e : Edit) → MayPublish b (history_tried by e h (tried b h e)) (want_of_try by h (tried b h e))
try_may b h by e = by_answer (tried b h e) refl
  where
    by_last : (ks : List Key) → tried b h e ≡ tries.Need ks → (o : Option Key) → last_key ks ≡ o
        → MayPublish b h (option_map (want_for by h ks) o)
    by_last ks is None last = tt
    by_last ks is (Some k) last = try_needed b h e ks k is last

    by_answer : (t : Tried) → tried b h e ≡ t → MayPublish b (history_tried by e h t) (want_of_try by h t)
    by_answer (tries.Done made) is = tt
    by_answer (tries.Refused r) is = tt
    by_answer (tries.Need ks) is = by_last ks is (last_key ks) refl

pub all_step : (b : List ℕ) (c : Course) (x : Step) → AllMayPublish b c.history c.wants → AllMayPublish b (after b c x).history (after b c x).wants
unfolding after
all_step b c (steps.Peek by q) all = all_push b c.history c.wants (want_of by q c.history (peeked b c.history q)) all (want_may b c.history by q)
all_step b c (steps.TryEdit by e) all =
    all_push b (history_tried by e c.history (tried b c.history e)) c.wants (want_of_try by c.history (tried b c.history e))
    (all_tried b c.history by e (tried b c.history e) c.wants all) (try_may b c.history by e)
all_step b c (steps.Publish of) all =
    all_push b (publish_history b c.history (wanted_by c.wants of)) c.wants None
    (all_published b c.history (wanted_by c.wants of) c.wants all) tt

all_steps : (b : List ℕ) (c : Course) (xs : List Step) → AllMayPublish b c.history c.wants
    → AllMayPublish b (fold (after b) c xs).history (fold (after b) c xs).wants
all_steps b c [] all = all
all_steps b c (x ∷ xs) all = all_steps b (after b c x) xs (all_step b c x all)

-- after any steps
pub all_run : (b : List ℕ) (h : List Entry) (xs : List Step) → AllMayPublish b (run b h xs).history (run b h xs).wants
all_run b h xs = all_steps b (start h) xs tt

-- the same, where the parts are kept apart
pub all_so_far : (b : List ℕ) (h : List Entry) (xs : List Step) (a : List ℕ) (g : List Entry) (ws : List (Option Wanted))
    → a ≡ b → g ≡ (run b h xs).history → ws ≡ (run b h xs).wants → AllMayPublish a g ws
all_so_far b h xs a g ws bytes history wants = rw (bytes, history, wants) (all_run b h xs)

-- one step more, where the parts are kept apart
pub step_more : (b : List ℕ) (h : List Entry) (xs : List Step) (n : ℕ) (x : Step) (a : List ℕ) (g : List Entry) (ts : List StepAnswer) (ws us : List (Option Wanted))
    → n < length xs → x ≡ get_or xs n x
    → a ≡ b → g ≡ (run b h (take n xs)).history → ts ≡ (run b h (take n xs)).answers → ws ≡ (run b h (take n xs)).wants → us ≡ ws
    → (history_then a g us x ≡ (run b h (take (n + 1) xs)).history)
    × (ts ++ answered a g us x ∷ [] ≡ (run b h (take (n + 1) xs)).answers)
    × (ws ++ want_then a g x ∷ [] ≡ (run b h (take (n + 1) xs)).wants)
unfolding after
step_more b h xs n x a g ts ws us lt is bytes history answers wants same =
    let more : run b h (take (n + 1) xs) ≡ after b (run b h (take n xs)) (get_or xs n x) = fold_more (after b) (start h) xs n x lt in
    rw (more, ← is, same, bytes, history, answers, wants) (refl, refl, refl)

-- each step is answered
answers_more : (b : List ℕ) (c : Course) (xs : List Step) → length (fold (after b) c xs).answers ≡ length c.answers + length xs
unfolding after
answers_more b c [] = omega arith
answers_more b c (x ∷ xs) = answers_more b (after b c x) xs ∙ omega (arith, one_more)
  where
    one_more : length (after b c x).answers ≡ length c.answers + 1
    one_more = simp length-append

pub as_many : (b : List ℕ) (h : List Entry) (xs : List Step) → length (run b h xs).answers ≡ length xs
as_many b h xs = answers_more b (start h) xs ∙ omega arith
