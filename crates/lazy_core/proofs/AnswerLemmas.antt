-- Which answer stands where.
use Rattle.std.proofs.Common.{◌≡◌, refl, sym, ◌∙◌, ap, ap₂, subst, ℕ, zero, suc, Bool, true, false, List, [], ◌∷◌, ◌++◌, length, take, drop, map, Option, Some, None, is_some, option_map, slice_get, ◌<◌, ◌↔◌, append_assoc, append-nil, arith}
use Rattle.std.specs.List.{fold}
use Rattle.std.proofs.lemmas.List.{length-take-le, map-append, take-append-drop}
use Rattle.std.proofs.lemmas.List.Sums.{fold-append}
use Rattle.std.proofs.lemmas.Option.{slice_get_within}
use Rattle.node_model.specs.declared.edit.Edit.{Edit}
use Rattle.node_model.specs.declared.entry.By.{By}
use Rattle.node_model.specs.declared.entry.Entry.{Entry}
use Rattle.node_model.specs.declared.key.Key.{Key}
use Rattle.node_model.specs.declared.query.Query.{Query}
use Rattle.lazy_core.specs.Run.{Course, after, answered, publish_answer, run, start, want_for, want_of, want_of_try, want_then, wanted_by}
use Rattle.lazy_core.specs.RunLaws.{EachIsAnswered, SkippedExactly, is_need, is_needed}
use Rattle.lazy_core.specs.Steps.{last_key, peeked, tried}
use Rattle.lazy_core.specs.declared.step.Step.{Step}
use Rattle.lazy_core.specs.declared.step.Step.TheVariants as steps
use Rattle.lazy_core.specs.declared.step.StepAnswer.{StepAnswer}
use Rattle.lazy_core.specs.declared.step.StepAnswer.TheVariants as answers
use Rattle.graph_query.specs.declared.answering.Peek as peeks
use Rattle.graph_query.specs.declared.answering.Peek.TheVariants.{Ready, Need}
use Rattle.lazy_core.specs.declared.wanted.Tried.{Tried}
use Rattle.lazy_core.specs.declared.wanted.Tried.TheVariants as tries
use Rattle.lazy_core.specs.declared.wanted.Wanted.{Wanted}
use Rattle.lazy_core.proofs.RunLemmas.{as_many}
use Rattle.lazy_core.proofs.TryLemmas.{need_has_last}

-- the answers from a course on
further : List ℕ → Course → List Step → List StepAnswer
further b c [] = []
further b c (x ∷ xs) = answered b c.history c.wants x ∷ further b (after b c x) xs

answers_grow : (b : List ℕ) (c : Course) (xs : List Step) → (fold (after b) c xs).answers ≡ c.answers ++ further b c xs
unfolding after further
answers_grow b c [] = sym (append-nil c.answers)
answers_grow b c (x ∷ xs) =
    answers_grow b (after b c x) xs
    ∙ append_assoc c.answers (answered b c.history c.wants x ∷ []) (further b (after b c x) xs)

pub drop_at : (xs : List Step) (n : ℕ) (x : Step) → slice_get xs n ≡ Some x → drop n xs ≡ x ∷ drop (suc n) xs
drop_at [] n x e = absurd cc
drop_at (y ∷ xs) zero x e = let same : y ≡ x = cc in ap (λ z. z ∷ xs) same
drop_at (y ∷ xs) (suc n) x e = drop_at xs n x e

-- the answers before a step, its own, and those after it
answers_at : (b : List ℕ) (h : List Entry) (xs : List Step) (n : ℕ) (x : Step) → slice_get xs n ≡ Some x
    → (run b h xs).answers
    ≡ (run b h (take n xs)).answers ++ answered b (run b h (take n xs)).history (run b h (take n xs)).wants x ∷ further b (after b (run b h (take n xs)) x) (drop (suc n) xs)
unfolding further
answers_at b h xs n x e =
    ap (λ ys. (run b h ys).answers) (sym (take-append-drop n xs))
    ∙ ap (λ c. c.answers) (fold-append (after b) (start h) (take n xs) (drop n xs))
    ∙ ap (λ ys. (fold (after b) (run b h (take n xs)) ys).answers) (drop_at xs n x e)
    ∙ answers_grow b (run b h (take n xs)) (x ∷ drop (suc n) xs)

many_before : (b : List ℕ) (h : List Entry) (xs : List Step) (n : ℕ) (x : Step) → slice_get xs n ≡ Some x → length (run b h (take n xs)).answers ≡ n
many_before b h xs n x e =
    let within : n < length xs = slice_get_within xs n x e in
    as_many b h (take n xs) ∙ length-take-le n xs (omega arith)

pub at_seam : {A : Type 0} (ts : List A) (a : A) (more : List A) (n : ℕ) → length ts ≡ n → slice_get (ts ++ a ∷ more) n ≡ Some a
at_seam [] a more n e = subst (λ k. slice_get (a ∷ more) k ≡ Some a) e refl
at_seam (c ∷ ts) a more zero e = absurd (omega arith)
at_seam (c ∷ ts) a more (suc n) e = at_seam ts a more n (omega arith)

front_of : (ts more : List StepAnswer) (n : ℕ) → length ts ≡ n → take n (ts ++ more) ≡ ts
front_of [] more n e = subst (λ k. take k more ≡ []) e refl
front_of (c ∷ ts) more zero e = absurd (omega arith)
front_of (c ∷ ts) more (suc n) e = ap (λ ys. c ∷ ys) (front_of ts more n (omega arith))

pub each_is_answered : EachIsAnswered
each_is_answered b h xs n x e =
    ap (λ ys. slice_get ys n) (answers_at b h xs n x e)
    ∙ at_seam (run b h (take n xs)).answers (answered b (run b h (take n xs)).history (run b h (take n xs)).wants x) (further b (after b (run b h (take n xs)) x) (drop (suc n) xs)) n (many_before b h xs n x e)

-- a step leaves a key wanted exactly where it answers that one is needed
abbrev Agrees : Course → Type 0
Agrees c = map is_some c.wants ≡ map is_need c.answers

agree_peek : (by : By) (q : Query) (h : List Entry) (p : peeks.Peek) → is_some (want_of by q h p) ≡ is_need (answers.Peek p)
agree_peek by q h (Ready reply) = refl
agree_peek by q h (Need k) = refl

agree_try : (b : List ℕ) (h : List Entry) (by : By) (e : Edit) → is_some (want_of_try by h (tried b h e)) ≡ is_need (answers.Tried (tried b h e))
agree_try b h by e = by_answer (tried b h e) refl
  where
    made_of : (o : Option Key) (ks : List Key) → is_some o ≡ true
        → is_some (option_map (want_for by h ks) o) ≡ true
    made_of (Some k) ks e = refl
    made_of None ks e = absurd cc

    by_answer : (t : Tried) → tried b h e ≡ t → is_some (want_of_try by h t) ≡ is_need (answers.Tried t)
    by_answer (tries.Done made) is = refl
    by_answer (tries.Refused r) is = refl
    by_answer (tries.Need ks) is = made_of (last_key ks) ks (need_has_last b h e ks is)

agree_publish : (b : List ℕ) (h : List Entry) (o : Option Wanted) → false ≡ is_need (publish_answer b h o)
agree_publish b h None = refl
agree_publish b h (Some w) = refl

agree_one : (b : List ℕ) (h : List Entry) (ws : List (Option Wanted)) (x : Step) → is_some (want_then b h x) ≡ is_need (answered b h ws x)
agree_one b h ws (steps.Peek by q) = agree_peek by q h (peeked b h q)
agree_one b h ws (steps.TryEdit by e) = agree_try b h by e
agree_one b h ws (steps.Publish of) = agree_publish b h (wanted_by ws of)

agree_after : (b : List ℕ) (c : Course) (x : Step) → Agrees c → Agrees (after b c x)
unfolding after
agree_after b c x agree =
    map-append is_some c.wants (want_then b c.history x ∷ [])
    ∙ ap₂ (λ ys y. ys ++ y ∷ []) agree (agree_one b c.history c.wants x)
    ∙ sym (map-append is_need c.answers (answered b c.history c.wants x ∷ []))

agree_steps : (b : List ℕ) (c : Course) (xs : List Step) → Agrees c → Agrees (fold (after b) c xs)
agree_steps b c [] agree = agree
agree_steps b c (x ∷ xs) agree = agree_steps b (after b c x) xs (agree_after b c x agree)

agree_at : (ws : List (Option Wanted)) (ts : List StepAnswer) (n : ℕ) → map is_some ws ≡ map is_need ts → is_some (wanted_by ws n) ≡ is_needed (slice_get ts n)
agree_at [] [] n e = refl
agree_at [] (a ∷ ts) n e = absurd cc
agree_at (w ∷ ws) [] n e = absurd cc
agree_at (w ∷ ws) (a ∷ ts) zero e = cc
agree_at (w ∷ ws) (a ∷ ts) (suc n) e = let rest : map is_some ws ≡ map is_need ts = cc in agree_at ws ts n rest

skipped_where : (b : List ℕ) (h : List Entry) (o : Option Wanted) (need : Bool) → is_some o ≡ need
    → (Some (publish_answer b h o) ≡ Some answers.Skipped) ↔ (need ≡ false)
skipped_where b h None need e = ((λ _. sym e), (λ _. refl))
skipped_where b h (Some w) need e = ((λ f. absurd cc), (λ f. absurd cc))

pub skipped_exactly : SkippedExactly
skipped_exactly b h xs n of e =
    subst (λ a. (a ≡ Some answers.Skipped) ↔ (is_needed (slice_get (take n (run b h xs).answers) of) ≡ false)) (sym (each_is_answered b h xs n (steps.Publish of) e))
    (subst (λ ts. (Some (publish_answer b (run b h (take n xs)).history (wanted_by (run b h (take n xs)).wants of)) ≡ Some answers.Skipped) ↔ (is_needed (slice_get ts of) ≡ false))
    (sym (ap (λ ys. take n ys) (answers_at b h xs n (steps.Publish of) e) ∙ front_of (run b h (take n xs)).answers _ n (many_before b h xs n (steps.Publish of) e)))
    (skipped_where b (run b h (take n xs)).history (wanted_by (run b h (take n xs)).wants of) (is_needed (slice_get (run b h (take n xs)).answers of))
    (agree_at (run b h (take n xs)).wants (run b h (take n xs)).answers of (agree_steps b (start h) (take n xs) refl))))
