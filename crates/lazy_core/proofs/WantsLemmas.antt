-- Which want stands where.
use Rattle.std.proofs.Common.{◌≡◌, sym, ◌∙◌, ap, ℕ, ◌+◌, suc, List, [], ◌∷◌, ◌++◌, length, take, drop, Option, Some, slice_get, ◌<◌, append_assoc, append-nil, arith}
use Rattle.std.specs.List.{fold}
use Rattle.std.proofs.lemmas.List.{length-append, length-take-le, take-append-drop}
use Rattle.std.proofs.lemmas.List.Sums.{fold-append}
use Rattle.std.proofs.lemmas.Option.{slice_get_within}
use Rattle.node_model.specs.declared.entry.Entry.{Entry}
use Rattle.lazy_core.specs.Run.{Course, after, run, start, want_then}
use Rattle.lazy_core.specs.RunLaws.{EachWantStands}
use Rattle.lazy_core.specs.declared.step.Step.{Step}
use Rattle.lazy_core.specs.declared.wanted.Wanted.{Wanted}
use Rattle.lazy_core.proofs.AnswerLemmas.{at_seam, drop_at}

-- the wants from a course on
further : List ℕ → Course → List Step → List (Option Wanted)
further b c [] = []
further b c (x ∷ xs) = want_then b c.history x ∷ further b (after b c x) xs

wants_grow : (b : List ℕ) (c : Course) (xs : List Step) → (fold (after b) c xs).wants ≡ c.wants ++ further b c xs
unfolding after further
wants_grow b c [] = sym (append-nil c.wants)
wants_grow b c (x ∷ xs) = wants_grow b (after b c x) xs ∙ append_assoc c.wants (want_then b c.history x ∷ []) (further b (after b c x) xs)

-- the wants before a step, its own, and those after it
wants_at : (b : List ℕ) (h : List Entry) (xs : List Step) (n : ℕ) (x : Step) → slice_get xs n ≡ Some x
    → (run b h xs).wants ≡ (run b h (take n xs)).wants ++ want_then b (run b h (take n xs)).history x ∷ further b (after b (run b h (take n xs)) x) (drop (suc n) xs)
unfolding further
wants_at b h xs n x e =
    ap (λ ys. (run b h ys).wants) (sym (take-append-drop n xs))
    ∙ ap (λ c. c.wants) (fold-append (after b) (start h) (take n xs) (drop n xs))
    ∙ ap (λ ys. (fold (after b) (run b h (take n xs)) ys).wants) (drop_at xs n x e)
    ∙ wants_grow b (run b h (take n xs)) (x ∷ drop (suc n) xs)

wants_more : (b : List ℕ) (c : Course) (xs : List Step) → length (fold (after b) c xs).wants ≡ length c.wants + length xs
unfolding after
wants_more b c [] = omega arith
wants_more b c (x ∷ xs) = wants_more b (after b c x) xs ∙ omega (arith, one_more)
  where
    one_more : length (after b c x).wants ≡ length c.wants + 1
    one_more = simp length-append

many_before : (b : List ℕ) (h : List Entry) (xs : List Step) (n : ℕ) (x : Step) → slice_get xs n ≡ Some x → length (run b h (take n xs)).wants ≡ n
many_before b h xs n x e =
    let within : n < length xs = slice_get_within xs n x e in
    wants_more b (start h) (take n xs) ∙ omega (arith, length-take-le n xs (omega arith))

pub each_stands : EachWantStands
each_stands b h xs n x e =
    ap (λ ys. slice_get ys n) (wants_at b h xs n x e)
    ∙ at_seam (run b h (take n xs)).wants (want_then b (run b h (take n xs)).history x) (further b (after b (run b h (take n xs)) x) (drop (suc n) xs)) n (many_before b h xs n x e)
