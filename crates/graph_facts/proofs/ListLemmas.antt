-- Lists that change: the keys that get another list, and what stands there.
use Rattle.std.proofs.Common.{◌≡◌, ◌∙◌, refl, sym, ap, subst, ℕ, Bool, true, false, List, [], ◌∷◌, map, Option, Some, None}
use Rattle.std.specs.Prelude.{◌||◌}
use Rattle.std.specs.List.{AllByRecursion, list_any}
use Rattle.std.specs.Map.{lookup}
use Rattle.std.proofs.lemmas.Bool.{or_parts}
use Rattle.cil_base.specs.Token.{Token}
use Rattle.node_model.specs.Graph.{Graph}
use Rattle.node_model.specs.Keys.{same_key}
use Rattle.node_model.specs.Lists.{tokens_slot}
use Rattle.node_model.specs.declared.key.Key.{Key}
use Rattle.node_model.specs.declared.slot.Slot.{Slot}
use Rattle.node_model.specs.inner.KeyEquality.{key_is}
use Rattle.node_model.proofs.LeafLemmas.{is_list_key}
use Rattle.graph_facts.specs.GraphHolds.{IsKeyOf}

-- the list that a key holds
pub record IsHeldList (g : Graph) (l : Key × List Token) : Type 0 where
  pub held : g.held l.0 ≡ tokens_slot l.1
  pub known : IsKeyOf g l.0
  pub list : is_list_key l.0 ≡ true

abbrev pub is_list_of : Key → Key × List Token → Bool
is_list_of q l = same_key q l.0

-- the keys, each with what is made of its list
abbrev pub lists_with : (List Token → List Token) → List (Key × List Token) → List (Key × Slot)
lists_with f lists = map (λ (l : Key × List Token). (l.0, tokens_slot (f l.1))) lists

-- a key that changes: its list, and what is made of it
pub record FoundList (g : Graph) (f : List Token → List Token) (lists : List (Key × List Token)) (q : Key) : Type 0 where
  pub tokens : List Token
  pub held : g.held q ≡ tokens_slot tokens
  pub known : IsKeyOf g q
  pub list : is_list_key q ≡ true
  pub now : lookup (same_key q) (lists_with f lists) ≡ Some (tokens_slot (f tokens))

pub found_list : (g : Graph) (f : List Token → List Token) (q : Key) (lists : List (Key × List Token)) → AllByRecursion (IsHeldList g) lists → list_any (is_list_of q) lists ≡ true
    → FoundList g f lists q
found_list g f q [] all e = absurd cc
found_list g f q (l ∷ lists) all e = by (same_key q l.0) refl e (found_list g f q lists all.1)
  where
    by : (b : Bool) → same_key q l.0 ≡ b → (b || list_any (is_list_of q) lists) ≡ true → (list_any (is_list_of q) lists ≡ true → FoundList g f lists q) → FoundList g f (l ∷ lists) q
    by true is e again =
        let same : q ≡ l.0 = key_is q l.0 is in
        record {
          tokens = l.1;
          held = ap g.held same ∙ all.0.held;
          known = subst (IsKeyOf g) (sym same) all.0.known;
          list = ap is_list_key same ∙ all.0.list;
          now = rw is refl;
        }
    by false is e again =
        let more = again e in
        record { tokens = more.tokens; held = more.held; known = more.known; list = more.list; now = rw is more.now }

pub no_list : (f : List Token → List Token) (q : Key) (lists : List (Key × List Token)) → list_any (is_list_of q) lists ≡ false → lookup (same_key q) (lists_with f lists) ≡ None
no_list f q [] e = refl
no_list f q (l ∷ lists) e =
    let parts = or_parts (same_key q l.0) (list_any (is_list_of q) lists) e in
    rw parts.0 (no_list f q lists parts.1)

-- what holds of the keys that change holds of one of them
pub list_has : (P : Key → Type 0) (q : Key) (lists : List (Key × List Token)) → AllByRecursion (λ (l : Key × List Token). P l.0) lists → list_any (is_list_of q) lists ≡ true → P q
list_has P q [] all e = absurd cc
list_has P q (l ∷ lists) all e = by (same_key q l.0) refl e (list_has P q lists all.1)
  where
    by : (b : Bool) → same_key q l.0 ≡ b → (b || list_any (is_list_of q) lists) ≡ true → (list_any (is_list_of q) lists ≡ true → P q) → P q
    by true is e more = subst P (sym (key_is q l.0 is)) all.0
    by false is e more = more e
