-- What is kept for writing: the rows of each table in the order in which they are written, and what the keys hold.
use Rattle.std.specs.Prelude.{◌≡◌, ◌<◌, ◌==◌, ℕ, suc, List, Option, Some, None, Result, Ok, Err, true, length}
use Rattle.std.specs.List.{list_any}
use Rattle.std.specs.Map.{lookup}
use Rattle.cil_base.specs.Token.{Token}
use Rattle.node_model.specs.Keys.{same_key, same_token}
use Rattle.node_model.specs.declared.key.Key.{Key}
use Rattle.node_model.specs.declared.look.Look.{Look}
use Rattle.node_model.specs.declared.value.Value.{Value}
use Rattle.write_plan.specs.GraphWalk.{graph_walk, rows_of_table, walk_tables, walked_value}
use Rattle.write_plan.specs.Refusals.{Refused, plan_refusal}
use Rattle.write_plan.specs.Written.{token_renumbered, written_lists}
use Rattle.write_plan.specs.declared.refusal.WriteRefusal.{WriteRefusal}

pub record Planned : Type 0 where
  pub lists : List (List Token)
  pub entries : List (Key × Value)

-- what a key holds, if it was taken
abbrev pub kept_value : List (Key × Value) → Key → Option Value
kept_value entries k = lookup (same_key k) entries

-- the plan is that of the graph that shows this at its keys
pub record Plans (see : Key → Look) (plan : Planned) : Type 0 where
  pub lists : plan.lists ≡ written_lists (walked_value see) (graph_walk see).all
  pub values : (k : Key) → kept_value plan.entries k ≡ walked_value see k

-- new numbers of the kept rows of a table: each has one, no two have the same, and they go from 1 to the count
pub record OneToOne (lists : List (List Token)) (kept : List Token) (table : ℕ) : Type 0 where
  pub each : (t : Token) → list_any (same_token t) kept ≡ true
      → (n : ℕ) × (n < length kept) × (token_renumbered lists t ≡ Some (record { table = table; rid = suc n }))
  pub apart : (t u new : Token) → token_renumbered lists t ≡ Some new → token_renumbered lists u ≡ Some new → t ≡ u
  pub onto : (n : ℕ) → n < length kept
      → (t : Token) × (list_any (same_token t) kept ≡ true)
      × (token_renumbered lists t ≡ Some (record { table = table; rid = suc n }))

abbrev pub NumbersAreOneToOne : Type 0
NumbersAreOneToOne =
    (see : Key → Look) (table : ℕ) → list_any (λ n. n == table) walk_tables ≡ true
    → OneToOne (written_lists (walked_value see) (graph_walk see).all) (rows_of_table table (graph_walk see).all) table

-- the plan of the graph, where nothing is refused; or the first refusal
abbrev pub PlanMade : (Key → Look) → Result Planned WriteRefusal → Type 0
PlanMade see (Ok plan) = (plan_refusal see ≡ None) × Plans see plan
PlanMade see (Err refusal) = Refused (plan_refusal see) refusal
