-- The first refused token of several.
use Rattle.std.proofs.Common.{◌≡◌, ℕ, ◌+◌, ◌<◌, ◌≤◌, List, [], ◌∷◌, ◌++◌, true, false, cond, Option, Some, None, map, drop, get_or, length, refl, sym, ap, ◌∙◌}
use Rattle.std.proofs.lemmas.List.{at_drop_all, at_drop_more, map-append}
use Rattle.std.specs.Option.{option_or}
use Rattle.cil_base.specs.Token.{Token}
use Rattle.md_schema.specs.Reference.{may_name_of}
use Rattle.md_schema.specs.declared.coded_kind.CodedKind.TheVariants.{TypeDefOrRef}
use Rattle.md_schema.specs.declared.column.ColumnKind.TheVariants.{Coded}
use Rattle.sig_tree.specs.declared.tree.TypeSig.{TypeSig}
use Rattle.node_model.specs.EditRefusals.{is_bad_name}
use Rattle.node_model.specs.NamedTokens.{NamedToken, name_in}
use Rattle.node_model.specs.Nodes.{Nodes}
use Rattle.graph_edits.specs.inner.BadNames.{first_bad, first_bad_type, tokens_of_type, tokens_of_types}

pub first_bad_append : (n : Nodes) (xs ys : List NamedToken) → first_bad n (xs ++ ys) ≡ option_or (first_bad n xs) (first_bad n ys)
first_bad_append n [] ys = refl
first_bad_append n (x ∷ xs) ys =
    elim (is_bad_name n x) as (λ b. cond b (Some x.token) (first_bad n (xs ++ ys)) ≡ option_or (cond b (Some x.token) (first_bad n xs)) (first_bad n ys)) [
      | true ↦ refl
      | false ↦ first_bad_append n xs ys
    ]

pub first_bad_types : (n : Nodes) (ts us : List Token) → first_bad_type n (ts ++ us) ≡ option_or (first_bad_type n ts) (first_bad_type n us)
unfolding first_bad_type
first_bad_types n ts us =
    ap (first_bad n) (map-append (name_in (may_name_of (Coded TypeDefOrRef))) ts us)
    ∙ first_bad_append n (map (name_in (may_name_of (Coded TypeDefOrRef))) ts) (map (name_in (may_name_of (Coded TypeDefOrRef))) us)

pub no_type : (n : Nodes) → first_bad_type n [] ≡ None
unfolding first_bad_type
no_type n = refl

-- types, one after the other
pub types_more : (n : Nodes) (types : List TypeSig) (i : ℕ) (ty : TypeSig) → i < length types → ty ≡ get_or types i ty
    → first_bad_type n (tokens_of_types (drop i types)) ≡ option_or (first_bad_type n (tokens_of_type ty)) (first_bad_type n (tokens_of_types (drop (i + 1) types)))
types_more n types i ty within is =
    at_drop_more (λ (ts : List TypeSig). first_bad_type n (tokens_of_types ts)) types i ty within
    ∙ ap (λ (t : TypeSig). first_bad_type n (tokens_of_types (t ∷ drop (i + 1) types))) (sym is)
    ∙ first_bad_types n (tokens_of_type ty) (tokens_of_types (drop (i + 1) types))

pub types_end : (n : Nodes) (types : List TypeSig) (i : ℕ) → length types ≤ i → first_bad_type n (tokens_of_types (drop i types)) ≡ None
types_end n types i past = at_drop_all (λ (ts : List TypeSig). first_bad_type n (tokens_of_types ts)) types i past ∙ no_type n

-- the first of two, and the second where the first is none
pub first_is : {A : Type 0} (all first second : Option A) (x : A) → all ≡ option_or first second → first ≡ Some x → Some x ≡ all
first_is all first second x e is = sym (e ∙ ap (λ o. option_or o second) is)

pub second_is : {A : Type 0} (all first second : Option A) → all ≡ option_or first second → first ≡ None → second ≡ all
second_is all first second e none = sym (e ∙ ap (λ o. option_or o second) none)
