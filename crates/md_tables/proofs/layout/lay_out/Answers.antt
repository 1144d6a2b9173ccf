-- The places so far are those of the definition.
use Rattle.std.proofs.Common.{◌+◌, ◌*◌, ◌∙◌, sym, ap, refl, arith}
use Rattle.std.proofs.lemmas.List.{length-set}
use Rattle.md_schema.specs.Width.{rows_of}
use Rattle.md_schema.specs.Layout.{Head, first_place, table_row_width}
use Rattle.md_tables.proofs.HeaderLemmas.{fill-next}
use Rattle.md_tables.proofs.LayoutLemmas.{first_place-more, first_place-zero, small_product}
use Rattle.md_tables.proofs.layout.lay_out.Goals as goal

pub loop-table-init : goal.loop-table-init
loop-table-init c =
    let head : Head = record { present = c.args.present; counts = c.args.counts.now } in
    record {
      starts = λ k h. absurd (omega arith);
      widths = λ k h. absurd (omega arith);
      end = sym (first_place-zero head);
      small = omega arith;
      starts_long = refl;
      widths_long = refl;
    }

pub loop-table-preserved : goal.loop-table-preserved
loop-table-preserved c =
    let inv = c.loop-table.invariant in
    let head : Head = record { present = c.args.present; counts = c.args.counts.now } in
    let table = c.loop-table.table in
    let row = c.width_of_row-width.ensures in
    let rows = rows_of c.args.counts.now table in
    let product = small_product rows c.width_of_row-width.result (c.requires.few table (omega arith)) row.few in
    record {
      starts = fill-next (first_place head) c.loop-table.starts table c.loop-table.end inv.end (omega arith) inv.starts;
      widths = fill-next (table_row_width c.args.counts.now) c.loop-table.widths table c.width_of_row-width.result row.width (omega arith) inv.widths;
      end = ap (λ n. n + rows * c.width_of_row-width.result) inv.end ∙ ap (λ w. first_place head table + rows * w) row.width ∙ sym (first_place-more head table);
      small = omega (arith, product, inv.small);
      starts_long = length-set c.loop-table.starts table c.loop-table.end ∙ inv.starts_long;
      widths_long = length-set c.loop-table.widths table c.width_of_row-width.result ∙ inv.widths_long;
    }
