-- What an edit answers, and the keys that it reaches; the same of a list of edits that are made together.
use Rattle.std.specs.Prelude.{Bool, true, false, not, List, [], ◌∷◌, ◌++◌, Option, Some, None, Result, Ok, Err, ◌&&◌}
use Rattle.std.specs.Prelude.{if◌then◌else◌}
use Rattle.std.specs.List.{filter}
use Rattle.std.specs.Result.{is_ok}
use Rattle.cil_base.specs.Token.{Token}
use Rattle.node_model.specs.Changes.{Changing, token_made}
use Rattle.node_model.specs.EditRefusals.{early_refusal}
use Rattle.node_model.specs.EditWalks.{edit_walk}
use Rattle.node_model.specs.Graph.{Graph, edit_changing, edited}
use Rattle.node_model.specs.Keys.{token_of_key, same_token}
use Rattle.node_model.specs.Look.{look}
use Rattle.node_model.specs.Replies.{all_slots}
use Rattle.node_model.specs.Walk.{looked}
use Rattle.node_model.specs.declared.edit.Edit.{Edit}
use Rattle.node_model.specs.declared.edit_refusal.EditRefusal.{EditRefusal}
use Rattle.node_model.specs.declared.key.Key.{Key}
use Rattle.node_model.specs.declared.look.Look.{Look}
use Rattle.node_model.specs.declared.look.Look.TheVariants as looks
use Rattle.node_model.specs.declared.slot.Slot.TheVariants as slots

abbrev pub answer_by : Changing → Result (Option Token) EditRefusal
answer_by (Ok change) = Ok (token_made change.rows)
answer_by (Err r) = Err r

-- an edit is done, with the token of the row that it makes, if it makes one; or its first refusal
abbrev pub edit_answer : Graph → Edit → Result (Option Token) EditRefusal
edit_answer g e = answer_by (edit_changing g e)

abbrev pub unless_early_refused : Option EditRefusal → List Key → List Key
unless_early_refused (Some r) ks = []
unless_early_refused None ks = ks

-- the keys that an edit looks at, up to the first that holds a fault, that one included; none where it is refused
-- before
unfoldable pub edit_reach : Graph → Edit → List Key
edit_reach g e = unless_early_refused (early_refusal g.nodes e) (looked (all_slots g) (edit_walk g.nodes e))

abbrev pub is_seen_fault : Look → Bool
is_seen_fault (looks.Slot (slots.Fault fault)) = true
is_seen_fault _ = false

-- keys up to the first that holds a fault, that one included
abbrev pub up_to_fault : Graph → List Key → List Key
up_to_fault g [] = []
up_to_fault g (k ∷ ks) = k ∷ (if is_seen_fault (look g k) then [] else up_to_fault g ks)

-- each of the edits is done, after those before it
abbrev pub all_done : Graph → List Edit → Bool
all_done g [] = true
all_done g (e ∷ es) = is_ok (edit_answer g e) && all_done (edited g e) es

-- without the keys of a row that was made
abbrev pub keys_but : Result (Option Token) EditRefusal → List Key → List Key
keys_but (Ok (Some t)) ks = filter (λ k. not (same_token t (token_of_key k))) ks
keys_but (Ok None) ks = ks
keys_but (Err r) ks = []

-- the keys that edits look at, each after those before it, up to the first that is refused, without the keys of rows
-- that one of them makes
unfoldable pub edits_reach : Graph → List Edit → List Key
edits_reach g [] = []
edits_reach g (e ∷ es) = edit_reach g e ++ keys_but (edit_answer g e) (edits_reach (edited g e) es)
