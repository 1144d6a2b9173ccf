use Rattle.std.proofs.Common.{◌∙◌, ap, refl, subst, sym}
use Rattle.std.specs.Prelude.{Ok}
use Rattle.std.specs.Option.{option_copied}
use Rattle.md_schema.specs.declared.column.ColumnKind.TheVariants.{Coded, Index}
use Rattle.node_model.specs.RowTexts.{number_of_cell}
use Rattle.write_tables.specs.WrittenRows.{row_named}
use Rattle.write_tables.proofs.GatherLemmas.{GathersColumn, gathers_plain}
use Rattle.write_tables.proofs.column.put_column.Goals as goal

pub returns-in-U8Pad : goal.returns-in-U8Pad
returns-in-U8Pad c =
    subst (GathersColumn c.args.plan.now c.args.row (option_copied c.args.cell) c.args.placed c.args.heaps.now c.args.heaps.now c.cell_number.result) (sym c.in-U8Pad.is)
    (gathers_plain c.args.heaps.now c.cell_number.result (number_of_cell (option_copied c.args.cell)) c.cell_number.ensures)

pub returns-in-U16 : goal.returns-in-U16
returns-in-U16 c =
    subst (GathersColumn c.args.plan.now c.args.row (option_copied c.args.cell) c.args.placed c.args.heaps.now c.args.heaps.now c.cell_number-in-U16.result) (sym c.in-U16.is)
    (gathers_plain c.args.heaps.now c.cell_number-in-U16.result (number_of_cell (option_copied c.args.cell)) c.cell_number-in-U16.ensures)

pub returns-in-U32 : goal.returns-in-U32
returns-in-U32 c =
    subst (GathersColumn c.args.plan.now c.args.row (option_copied c.args.cell) c.args.placed c.args.heaps.now c.args.heaps.now c.cell_number-in-U32.result) (sym c.in-U32.is)
    (gathers_plain c.args.heaps.now c.cell_number-in-U32.result (number_of_cell (option_copied c.args.cell)) c.cell_number-in-U32.ensures)

pub returns-in-Text : goal.returns-in-Text
returns-in-Text c =
    subst (GathersColumn c.args.plan.now c.args.row (option_copied c.args.cell) c.args.placed c.args.heaps.now c.put_text.new.heaps c.put_text.result) (sym c.in-Text.is)
    c.put_text.ensures

pub returns-in-Guid : goal.returns-in-Guid
returns-in-Guid c =
    subst (GathersColumn c.args.plan.now c.args.row (option_copied c.args.cell) c.args.placed c.args.heaps.now c.put_guid.new.heaps c.put_guid.result) (sym c.in-Guid.is)
    c.put_guid.ensures

pub returns-in-Blob : goal.returns-in-Blob
returns-in-Blob c =
    subst (GathersColumn c.args.plan.now c.args.row (option_copied c.args.cell) c.args.placed c.args.heaps.now c.put_blob.new.heaps c.put_blob.result) (sym c.in-Blob.is)
    c.put_blob.ensures

pub returns-in-Sig : goal.returns-in-Sig
returns-in-Sig c =
    subst (GathersColumn c.args.plan.now c.args.row (option_copied c.args.cell) c.args.placed c.args.heaps.now c.put_sig.new.heaps c.put_sig.result) (sym c.in-Sig.is)
    c.put_sig.ensures

pub returns-in-Index : goal.returns-in-Index
returns-in-Index c =
    subst (GathersColumn c.args.plan.now c.args.row (option_copied c.args.cell) c.args.placed c.args.heaps.now c.args.heaps.now (Ok c.row_named.result)) (sym c.in-Index.is)
    (gathers_plain c.args.heaps.now (Ok c.row_named.result) (row_named c.args.plan.now (Index c.in-Index.field-0) (option_copied c.args.cell))
    (c.row_named.ensures ∙ ap (λ k. row_named c.args.plan.now k (option_copied c.args.cell)) c.in-Index.is))

pub returns-in-Coded : goal.returns-in-Coded
returns-in-Coded c =
    subst (GathersColumn c.args.plan.now c.args.row (option_copied c.args.cell) c.args.placed c.args.heaps.now c.args.heaps.now (Ok c.row_named-in-Coded.result)) (sym c.in-Coded.is)
    (gathers_plain c.args.heaps.now (Ok c.row_named-in-Coded.result) (row_named c.args.plan.now (Coded c.in-Coded.field-0) (option_copied c.args.cell))
    (c.row_named-in-Coded.ensures ∙ ap (λ k. row_named c.args.plan.now k (option_copied c.args.cell)) c.in-Coded.is))

pub returns-in-Start : goal.returns-in-Start
returns-in-Start c =
    subst (GathersColumn c.args.plan.now c.args.row (option_copied c.args.cell) c.args.placed c.args.heaps.now c.args.heaps.now (Ok c.args.placed)) (sym c.in-Start.is)
    (gathers_plain c.args.heaps.now (Ok c.args.placed) c.args.placed refl)

pub returns-in-Rva : goal.returns-in-Rva
returns-in-Rva c =
    subst (GathersColumn c.args.plan.now c.args.row (option_copied c.args.cell) c.args.placed c.args.heaps.now c.args.heaps.now (Ok c.args.placed)) (sym c.in-Rva.is)
    (gathers_plain c.args.heaps.now (Ok c.args.placed) c.args.placed refl)

pub returns-in-Offset : goal.returns-in-Offset
returns-in-Offset c =
    subst (GathersColumn c.args.plan.now c.args.row (option_copied c.args.cell) c.args.placed c.args.heaps.now c.args.heaps.now (Ok c.args.placed)) (sym c.in-Offset.is)
    (gathers_plain c.args.heaps.now (Ok c.args.placed) c.args.placed refl)
