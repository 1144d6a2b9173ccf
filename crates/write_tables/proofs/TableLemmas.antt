-- What is gathered of all tables and of all user strings.
use Rattle.std.proofs.Common.{◌≡◌, ◌∙◌, sym, ap, ℕ, List, map, length, subst, Option}
use Rattle.std.specs.Prelude.{Result, Ok, Err}
use Rattle.std.specs.Result.{IsErrAnd}
use Rattle.std.proofs.lemmas.List.Sums.{fold-append}
use Rattle.md_heaps.specs.LaidHeaps.{HeapEntries, first_entries}
use Rattle.md_heaps.specs.Pools.{heap_of_entries}
use Rattle.write_plan.specs.Planned.{Planned}
use Rattle.write_plan.specs.Refusals.{Refused, Refuses}
use Rattle.write_plan.specs.declared.refusal.WriteRefusal.{WriteRefusal}
use Rattle.write_plan.specs.declared.refusal.WriteRefusal.TheVariants.{NoMemory}
use Rattle.write_tables.specs.Contents.{rows_contents, table_range, user_contents, with_content, with_contents, written_entries}
use Rattle.write_tables.specs.UserStrings.{method_strings}
use Rattle.write_tables.specs.UserTokens.{string_token, string_tokens, too_large_users, too_many_users}
use Rattle.write_tables.specs.WrittenRows.{table_numbers, written_rows}
use Rattle.write_tables.specs.declared.placed.Placed.{Placed}
use Rattle.write_tables.specs.inner.Gathered.{Gathers}
use Rattle.write_tables.proofs.GatherLemmas.{stays-same}
use Rattle.write_tables.proofs.UserLemmas.{users_alone}

abbrev pub tokens_said : Planned → HeapEntries → List (List ℕ)
tokens_said plan later = map (λ strings. map (string_token later.users) strings) (method_strings plan)

-- user strings alone have the tokens of the whole
pub tokens_are : (plan : Planned) (new : HeapEntries) (tokens : List (List ℕ))
    → Gathers (List (List ℕ)) first_entries new (user_contents plan) (tokens_said plan) tokens → tokens ≡ string_tokens plan
unfolding string_tokens
tokens_are plan new tokens g =
    g.says new (stays-same new)
    ∙ ap (λ users. map (λ strings. map (string_token users) strings) (method_strings plan))
    (ap (λ (h : HeapEntries). h.users) g.entries ∙ users_alone plan)

pub users_are : (plan : Planned) (new : HeapEntries) (tokens : List (List ℕ))
    → Gathers (List (List ℕ)) first_entries new (user_contents plan) (tokens_said plan) tokens
    → too_large_users (length (heap_of_entries new.users)) ≡ too_many_users plan
unfolding too_many_users
users_are plan new tokens g =
    ap (λ es. too_large_users (length (heap_of_entries es))) (ap (λ (h : HeapEntries). h.users) g.entries ∙ users_alone plan)

-- the whole, after the rows and then the user strings
module _ (plan : Planned) (placed : Placed) (between new : HeapEntries) (rows : List (List (List ℕ))) (tokens : List (List ℕ))
    (first : Gathers (List (List (List ℕ))) first_entries between (rows_contents plan) (λ later. map (table_numbers plan placed later) table_range) rows)
    (second : Gathers (List (List ℕ)) between new (user_contents plan) (tokens_said plan) tokens) where
  pub entries_are : new ≡ written_entries plan
  unfolding written_entries
  entries_are =
      second.entries ∙ ap (λ h. with_contents h (user_contents plan)) first.entries
      ∙ sym (fold-append with_content first_entries (rows_contents plan) (user_contents plan))

  pub rows_are : rows ≡ written_rows plan placed
  unfolding written_rows
  rows_are =
      first.says new second.stays ∙ ap (λ later. map (table_numbers plan placed later) table_range) entries_are

  pub refusal_is : too_large_users (length (heap_of_entries new.users)) ≡ too_many_users plan
  unfolding too_many_users
  refusal_is = ap (λ (h : HeapEntries). too_large_users (length (heap_of_entries h.users))) entries_are

-- a heap that is too large, or not, in other words
pub refused_as : (size : ℕ) (users : List (List ℕ)) (wanted : Option WriteRefusal) → size ≡ length (heap_of_entries users)
    → too_large_users (length (heap_of_entries users)) ≡ wanted → too_large_users size ≡ wanted
refused_as size users wanted same is = ap too_large_users same ∙ is

-- want of memory is refused whatever is wanted
pub memory_refuses : {A : Type 0} (wanted : Option WriteRefusal) (r : Result A WriteRefusal) → IsErrAnd r (λ x. x ≡ NoMemory) → Refuses wanted r
memory_refuses wanted (Ok _) h = absurd h
memory_refuses wanted (Err x) h = subst (Refused wanted) (sym h) tt
