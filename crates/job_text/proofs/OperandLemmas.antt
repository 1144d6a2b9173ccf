-- The targets of a switch, and the units of a text, from a place on.
use Rattle.std.proofs.Common.{◌≡◌, ◌∙◌, ℕ, ◌+◌, ◌<◌, ◌≤◌, ◌^◌, List, [], ◌∷◌, ◌++◌, length, map, drop, get_or, Some, None, refl, sym, ap, append_assoc}
use Rattle.std.proofs.lemmas.List.{append-nil, at_drop_more, drop_all}
use Rattle.std.specs.Char.Escape.{encode_utf16}
use Rattle.std.specs.Prelude.{flat_map}
use Rattle.cil_base.specs.Steps.{◌>>=◌}
use Rattle.serde_json.specs.View.{view}
use Rattle.serde_json.specs.declared.value.Value.{Value}
use Rattle.job_text.specs.Operands.{given_targets_from}
use Rattle.job_text.specs.Values.{given_number}

step : (front : List ℕ) (vs : List Value) (i : ℕ) (d : Value) → i < length vs → given_targets_from front (map view (drop i vs)) ≡ (given_number (2 ^ 32) (view (get_or vs i d)) >>= λ t. given_targets_from (front ++ t ∷ []) (map view (drop (i + 1) vs)))
unfolding given_targets_from
step front vs i d h = at_drop_more (λ xs. given_targets_from front (map view xs)) vs i d h

pub target_next : (front : List ℕ) (vs : List Value) (i : ℕ) (d : Value) (t : ℕ) → i < length vs → Some t ≡ given_number (2 ^ 32) (view (get_or vs i d)) → given_targets_from (front ++ t ∷ []) (map view (drop (i + 1) vs)) ≡ given_targets_from front (map view (drop i vs))
target_next front vs i d t h e = sym (step front vs i d h ∙ ap (λ o. o >>= λ t. given_targets_from (front ++ t ∷ []) (map view (drop (i + 1) vs))) (sym e))

pub target_none : (front : List ℕ) (vs : List Value) (i : ℕ) (d : Value) → i < length vs → None ≡ given_number (2 ^ 32) (view (get_or vs i d)) → given_targets_from front (map view (drop i vs)) ≡ None
target_none front vs i d h e = step front vs i d h ∙ ap (λ o. o >>= λ t. given_targets_from (front ++ t ∷ []) (map view (drop (i + 1) vs))) (sym e)

pub targets_over : (front : List ℕ) (vs : List Value) (i : ℕ) → length vs ≤ i → given_targets_from front (map view (drop i vs)) ≡ Some front
unfolding given_targets_from
targets_over front vs i h = ap (λ xs. given_targets_from front (map view xs)) (drop_all i vs h)

-- the units of one more character stand behind those of the others
pub units_more : (cs : List ℕ) (c : ℕ) → flat_map encode_utf16 (cs ++ c ∷ []) ≡ flat_map encode_utf16 cs ++ encode_utf16 c
units_more [] c = append-nil (encode_utf16 c)
units_more (d ∷ cs) c = ap (λ xs. encode_utf16 d ++ xs) (units_more cs c) ∙ sym (append_assoc (encode_utf16 d) (flat_map encode_utf16 cs) (encode_utf16 c))

pub same_map : (xs : List ℕ) → map (λ x. x) xs ≡ xs
same_map [] = refl
same_map (x ∷ xs) = ap (λ ys. x ∷ ys) (same_map xs)
