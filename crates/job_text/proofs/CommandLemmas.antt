-- An actor's commands, from a place on.
use Rattle.std.proofs.Common.{◌≡◌, ◌∙◌, ℕ, ◌+◌, ◌<◌, ◌≤◌, List, [], ◌∷◌, ◌++◌, length, map, drop, get_or, Some, None, sym, ap, length-append}
use Rattle.std.proofs.lemmas.List.{at_drop_more, drop_all}
use Rattle.std.specs.Prelude.{Ok, Err}
use Rattle.serde_json.specs.View.{view}
use Rattle.serde_json.specs.declared.value.Value.{Value}
use Rattle.job_text.specs.Commands.{after_command, given_command, commands_from}
use Rattle.job_text.specs.declared.command.Command.{Command}

step : (n : ℕ) (before : List Command) (vs : List Value) (i : ℕ) (d : Value) → i < length vs → commands_from n before (map view (drop i vs)) ≡ after_command before (λ more. commands_from n more (map view (drop (i + 1) vs))) (given_command n before (view (get_or vs i d)))
unfolding commands_from
step n before vs i d h = at_drop_more (λ xs. commands_from n before (map view xs)) vs i d h

pub command_next : (n : ℕ) (before : List Command) (vs : List Value) (i : ℕ) (d : Value) (c : Command) → i < length vs → Some c ≡ given_command n before (view (get_or vs i d)) → commands_from n (before ++ c ∷ []) (map view (drop (i + 1) vs)) ≡ commands_from n before (map view (drop i vs))
command_next n before vs i d c h e =
    sym (step n before vs i d h ∙ ap (after_command before (λ more. commands_from n more (map view (drop (i + 1) vs)))) (sym e))

pub command_none : (n : ℕ) (before : List Command) (vs : List Value) (i : ℕ) (d : Value) → i < length vs → None ≡ given_command n before (view (get_or vs i d)) → commands_from n before (map view (drop i vs)) ≡ Err (length before)
command_none n before vs i d h e =
    step n before vs i d h ∙ ap (after_command before (λ more. commands_from n more (map view (drop (i + 1) vs)))) (sym e)

pub commands_over : (n : ℕ) (before : List Command) (vs : List Value) (i : ℕ) → length vs ≤ i → commands_from n before (map view (drop i vs)) ≡ Ok before
unfolding commands_from
commands_over n before vs i h = ap (λ xs. commands_from n before (map view xs)) (drop_all i vs h)

pub one_more : (cs : List Command) (c : Command) → length (cs ++ c ∷ []) ≡ length cs + 1
one_more cs c = simp length-append
