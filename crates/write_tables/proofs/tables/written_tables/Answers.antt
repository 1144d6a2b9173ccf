use Rattle.std.proofs.Common.{ℕ, List, ◌∙◌, ap, length, map, subst, sym}
use Rattle.md_heaps.specs.LaidHeaps.{HeapEntries, laid_heaps}
use Rattle.md_heaps.specs.declared.builder.Heaps.{Heaps}
use Rattle.write_plan.specs.Refusals.{Refused}
use Rattle.write_tables.specs.Contents.{rows_contents, table_range}
use Rattle.write_tables.specs.ReadBack.{HeapsReadBack}
use Rattle.write_tables.specs.UserTokens.{too_many_users}
use Rattle.write_tables.specs.WrittenRows.{table_numbers}
use Rattle.write_tables.specs.inner.Gathered.{Gathers}
use Rattle.write_tables.proofs.TableLemmas.{entries_are, memory_refuses, refusal_is, refused_as, rows_are}
use Rattle.write_tables.proofs.tables.written_tables.Goals as goal

pub returns-in-Ok-clause-heaps : goal.returns-in-Ok-clause-heaps
returns-in-Ok-clause-heaps c =
    let plan = c.args.plan.now in
    let placed = c.args.placed.now in
    let first = subst (λ (h : HeapEntries). Gathers (List (List (List ℕ))) h c.put_tables.new.heaps (rows_contents plan)
    (λ later. map (table_numbers plan placed later) table_range) c.in_ok-rows.rows) c.in_ok-builder.ensures c.in_ok-rows.ensures in
    c.in_ok-heaps.ensures.laid
    ∙ ap laid_heaps (entries_are plan placed c.put_tables.new.heaps c.put_strings.new.heaps c.in_ok-rows.rows c.in_ok-put_strings.field-0 first c.in_ok-put_strings.ensures)

pub returns-in-Ok-clause-rows : goal.returns-in-Ok-clause-rows
returns-in-Ok-clause-rows c =
    let plan = c.args.plan.now in
    let placed = c.args.placed.now in
    let first = subst (λ (h : HeapEntries). Gathers (List (List (List ℕ))) h c.put_tables.new.heaps (rows_contents plan)
    (λ later. map (table_numbers plan placed later) table_range) c.in_ok-rows.rows) c.in_ok-builder.ensures c.in_ok-rows.ensures in
    rows_are plan placed c.put_tables.new.heaps c.put_strings.new.heaps c.in_ok-rows.rows c.in_ok-put_strings.field-0 first c.in_ok-put_strings.ensures

pub returns-in-Ok-clause-reads : goal.returns-in-Ok-clause-reads
returns-in-Ok-clause-reads c =
    let plan = c.args.plan.now in
    let placed = c.args.placed.now in
    let first = subst (λ (h : HeapEntries). Gathers (List (List (List ℕ))) h c.put_tables.new.heaps (rows_contents plan)
    (λ later. map (table_numbers plan placed later) table_range) c.in_ok-rows.rows) c.in_ok-builder.ensures c.in_ok-rows.ensures in
    subst (λ (h : HeapEntries). HeapsReadBack h c.in_ok-heaps.heaps)
    (entries_are plan placed c.put_tables.new.heaps c.put_strings.new.heaps c.in_ok-rows.rows c.in_ok-put_strings.field-0 first c.in_ok-put_strings.ensures)
    (record {
      texts = c.in_ok-heaps.ensures.texts;
      users = c.in_ok-heaps.ensures.users;
      guids = c.in_ok-heaps.ensures.guids;
      blobs = c.in_ok-heaps.ensures.blobs;
    })

pub returns-in-Ok-clause-refused : goal.returns-in-Ok-clause-refused
returns-in-Ok-clause-refused c =
    let plan = c.args.plan.now in
    let placed = c.args.placed.now in
    let first = subst (λ (h : HeapEntries). Gathers (List (List (List ℕ))) h c.put_tables.new.heaps (rows_contents plan)
    (λ later. map (table_numbers plan placed later) table_range) c.in_ok-rows.rows) c.in_ok-builder.ensures c.in_ok-rows.ensures in
    sym (refused_as (length c.as_slice.result.now) c.put_strings.new.heaps.users (too_many_users plan)
    (ap length (c.as_slice.ensures ∙ ap (λ (h : Heaps). h.users) c.in_ok-heaps.ensures.laid))
    (refusal_is plan placed c.put_tables.new.heaps c.put_strings.new.heaps c.in_ok-rows.rows c.in_ok-put_strings.field-0 first c.in_ok-put_strings.ensures))
    ∙ c.in-Ok.ensures

pub returns-in-Err-clause-refused : goal.returns-in-Err-clause-refused
returns-in-Err-clause-refused c =
    let plan = c.args.plan.now in
    let placed = c.args.placed.now in
    let first = subst (λ (h : HeapEntries). Gathers (List (List (List ℕ))) h c.put_tables.new.heaps (rows_contents plan)
    (λ later. map (table_numbers plan placed later) table_range) c.in_ok-rows.rows) c.in_ok-builder.ensures c.in_ok-rows.ensures in
    subst (λ wanted. Refused wanted c.in-Err.refusal)
    (refused_as (length c.as_slice.result.now) c.put_strings.new.heaps.users (too_many_users plan)
    (ap length (c.as_slice.ensures ∙ ap (λ (h : Heaps). h.users) c.in_ok-heaps.ensures.laid))
    (refusal_is plan placed c.put_tables.new.heaps c.put_strings.new.heaps c.in_ok-rows.rows c.in_ok-put_strings.field-0 first c.in_ok-put_strings.ensures))
    c.in-Err.ensures

pub returns-in_err-rows-clause-refused : goal.returns-in_err-rows-clause-refused
returns-in_err-rows-clause-refused c =
    memory_refuses (too_many_users c.args.plan.now) c.from_residual-in_err-rows.result c.from_residual-in_err-rows.ensures.1

pub returns-in_err-put_strings-clause-refused : goal.returns-in_err-put_strings-clause-refused
returns-in_err-put_strings-clause-refused c =
    memory_refuses (too_many_users c.args.plan.now) c.from_residual-in_err-put_strings.result c.from_residual-in_err-put_strings.ensures.1
