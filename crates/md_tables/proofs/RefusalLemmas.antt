-- A stream is opened or has one refusal.
use Rattle.std.proofs.Common.{◌≡◌, ℕ, ◌<◌, ◌≤◌, ⊎_elim, List, Option, None, true, false, is_some, refl, sym, ap, ◌∙◌, arith}
use Rattle.std.specs.Option.{IsSome}
use Rattle.std.proofs.lemmas.Bool.{cases_lt}
use Rattle.md_schema.specs.Entry.{columns_of}
use Rattle.md_schema.specs.Header.{IsSupported}
use Rattle.md_tables.specs.Refusal.{IsUnsupported}
use Rattle.md_tables.specs.Refusal.{WholeIsNotRefused}
use Rattle.md_tables.specs.declared.tables.TablesRefusal.TheVariants.{UnsupportedTable, BadHeapSizes, BadTables}

some_none : {A : Type 0} (o : Option A) → IsSome o → o ≡ None → ⊥
some_none o h e = let clash : false ≡ true = ap is_some (sym e) ∙ h in cc

-- a table that is not supported is not among those that are
clashes : (stream : List ℕ) (table : ℕ) → IsUnsupported stream table → ((k : ℕ) → k < 64 → IsSupported stream k) → ⊥
clashes stream table u all = some_none (columns_of table) (all table u.within u.present) u.unknown

-- there is one first table that is not supported
one_first : (stream : List ℕ) (table other : ℕ) → IsUnsupported stream table → IsUnsupported stream other → table ≡ other
one_first stream table other u v =
    ⊎_elim
    (λ (h : table < other). absurd (some_none (columns_of table) (v.first table h u.present) u.unknown))
    (λ (h : other ≤ table). ⊎_elim
    (λ (k : other < table). absurd (some_none (columns_of other) (u.first other k v.present) v.unknown))
    (λ (k : table ≤ other). omega arith)
    (cases_lt other table))
    (cases_lt table other)

pub whole_is_not_refused : WholeIsNotRefused
whole_is_not_refused stream (UnsupportedTable table) (UnsupportedTable other) (long, u) =
    (λ whole. clashes stream table u whole.supported, λ r. ap UnsupportedTable (one_first stream table other u r.1))
whole_is_not_refused stream (UnsupportedTable table) (BadHeapSizes sizes) (long, u) =
    (λ whole. clashes stream table u whole.supported, λ r. absurd (clashes stream table u r.1))
whole_is_not_refused stream (UnsupportedTable table) BadTables (long, u) =
    (λ whole. clashes stream table u whole.supported, λ r. absurd (clashes stream table u (r.0 long).supported))
whole_is_not_refused stream (BadHeapSizes sizes) (UnsupportedTable other) (long, all, is, large) =
    (λ whole. omega (arith, whole.heaps, is, large), λ r. absurd (clashes stream other r.1 all))
whole_is_not_refused stream (BadHeapSizes sizes) (BadHeapSizes other) (long, all, is, large) =
    (λ whole. omega (arith, whole.heaps, is, large), λ r. ap BadHeapSizes (is ∙ sym r.2))
whole_is_not_refused stream (BadHeapSizes sizes) BadTables (long, all, is, large) =
    (λ whole. omega (arith, whole.heaps, is, large), λ r. let heaps = (r.0 long).heaps in absurd (omega (arith, heaps, is, large)))
whole_is_not_refused stream BadTables (UnsupportedTable other) (readable, cut) =
    (cut, λ r. absurd (clashes stream other r.1 (readable r.0).supported))
whole_is_not_refused stream BadTables (BadHeapSizes other) (readable, cut) =
    (cut, λ r. let heaps = (readable r.0).heaps in absurd (omega (arith, heaps, r.2, r.3)))
whole_is_not_refused stream BadTables BadTables (readable, cut) = (cut, λ r. refl)
