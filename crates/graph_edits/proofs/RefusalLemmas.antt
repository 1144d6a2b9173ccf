-- The first of several rows and tokens.
use Rattle.std.proofs.Common.{◌≡◌, List, [], ◌∷◌, true, false, cond, Some, refl}
use Rattle.std.specs.List.{find}
use Rattle.std.specs.Option.{option_map}
use Rattle.std.proofs.lemmas.List.Folds.{find-append}
use Rattle.node_model.specs.EditRefusals.{is_bad_name}
use Rattle.node_model.specs.NamedTokens.{NamedToken}
use Rattle.node_model.specs.Nodes.{Nodes}
use Rattle.node_model.specs.declared.edit_refusal.EditRefusal.TheVariants.{BadRef}
use Rattle.graph_edits.specs.inner.BadNames.{first_bad}

pub ruleset finds = (find-append)

pub first_name : (n : Nodes) (xs : List NamedToken) → option_map (λ x. BadRef x.token) (find (is_bad_name n) xs) ≡ option_map BadRef (first_bad n xs)
first_name n [] = refl
first_name n (x ∷ xs) =
    elim (is_bad_name n x) as (λ b. option_map (λ (x : NamedToken). BadRef x.token) (cond b (Some x) (find (is_bad_name n) xs)) ≡ option_map BadRef (cond b (Some x.token) (first_bad n xs))) [
      | true ↦ refl
      | false ↦ first_name n xs
    ]
