-- The actors of a job, from a place on.
use Rattle.std.proofs.Common.{◌≡◌, ◌∙◌, ℕ, zero, suc, ◌+◌, ◌<◌, ◌≤◌, List, [], ◌∷◌, ◌++◌, length, map, drop, get_or, nat_lt, cond, Option, Some, None, sym, ap, arith, length-append}
use Rattle.std.proofs.lemmas.Bool.Decides.{nat_tests}
use Rattle.std.proofs.lemmas.List.{at_drop_more, drop_all}
use Rattle.std.specs.Prelude.{Ok, Err}
use Rattle.serde_json.specs.View.{view}
use Rattle.serde_json.specs.declared.value.Value.{Value}
use Rattle.job_text.specs.Commands.{commands_from}
use Rattle.job_text.specs.Job.{actors_from, after_actor}
use Rattle.job_text.specs.Limits.{long_actor}
use Rattle.job_text.specs.Shape.{items}
use Rattle.job_text.specs.declared.command.Command.{Command}

step : (n : ℕ) (all : List (List Command)) (vs : List Value) (i : ℕ) (d : Value) → i < length vs → actors_from n all (map view (drop i vs)) ≡ after_actor all (λ more. actors_from n more (map view (drop (i + 1) vs))) (commands_from n [] (items (view (get_or vs i d))))
unfolding actors_from
step n all vs i d h = at_drop_more (λ xs. actors_from n all (map view xs)) vs i d h

pub actor_next : (n : ℕ) (all : List (List Command)) (vs : List Value) (i : ℕ) (d : Value) (cs : List Command) → i < length vs → commands_from n [] (items (view (get_or vs i d))) ≡ Ok cs → actors_from n (all ++ cs ∷ []) (map view (drop (i + 1) vs)) ≡ actors_from n all (map view (drop i vs))
actor_next n all vs i d cs h e =
    sym (step n all vs i d h ∙ ap (after_actor all (λ more. actors_from n more (map view (drop (i + 1) vs)))) e)

pub actor_none : (n : ℕ) (all : List (List Command)) (vs : List Value) (i : ℕ) (d : Value) (c : ℕ) → i < length vs → commands_from n [] (items (view (get_or vs i d))) ≡ Err c → actors_from n all (map view (drop i vs)) ≡ Err (length all, c)
actor_none n all vs i d c h e =
    step n all vs i d h ∙ ap (after_actor all (λ more. actors_from n more (map view (drop (i + 1) vs)))) e

pub actors_over : (n : ℕ) (all : List (List Command)) (vs : List Value) (i : ℕ) → length vs ≤ i → actors_from n all (map view (drop i vs)) ≡ Ok all
unfolding actors_from
actors_over n all vs i h = ap (λ xs. actors_from n all (map view xs)) (drop_all i vs h)

-- the first actor of those of whom none has too many commands, and the others
pub few_commands : (n : ℕ) (o : Option ℕ) → cond (nat_lt 4096 n) (Some n) o ≡ None → n ≤ 4096
few_commands n o e = grind (arith, nat_tests)

pub later_short : (n : ℕ) (o : Option ℕ) → cond (nat_lt 4096 n) (Some n) o ≡ None → o ≡ None
later_short n o e = grind (arith, nat_tests)

-- where no actor has too many commands, the one at a place has not
pub long_none : (vs : List Value) (i : ℕ) (d : Value) → long_actor (map view vs) ≡ None → i < length vs → length (items (view (get_or vs i d))) ≤ 4096
unfolding long_actor
long_none [] i d e h = absurd (omega arith)
long_none (v ∷ vs) zero d e h = few_commands (length (items (view v))) (long_actor (map view vs)) e
long_none (v ∷ vs) (suc i) d e h = long_none vs i d (later_short (length (items (view v))) (long_actor (map view vs)) e) (omega arith)

pub one_actor_more : (all : List (List Command)) (cs : List Command) → length (all ++ cs ∷ []) ≡ length all + 1
one_actor_more all cs = simp length-append
