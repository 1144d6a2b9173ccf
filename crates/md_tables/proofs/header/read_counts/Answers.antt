-- The counts so far, and how many tables of lesser number are in the stream.
use Rattle.std.proofs.Common.{◌≡◌, ◌<◌, ◌+◌, ◌∙◌, sym, subst, refl, arith}
use borrow.Author.Count.{below_more}
use Rattle.std.proofs.lemmas.List.{length-set}
use Rattle.std.proofs.lemmas.List.FromFn.{fill_by_all}
use Rattle.md_schema.specs.Header.{count_of, present_below}
use Rattle.md_tables.proofs.HeaderLemmas.{IsNext, fill-next, next-clear, next-set, present-zero}
use Rattle.md_tables.proofs.header.read_counts.Goals.{then-is_bit_set, else-is_bit_set}
use Rattle.md_tables.proofs.header.read_counts.Goals as goal

pub loop-table-init : goal.loop-table-init
loop-table-init c = record {
  valid = c.valid-valid.ensures;
  present = sym (present-zero c.args.stream.now);
  within = omega arith;
  rows = λ k h. absurd (omega arith);
  few = λ k h. absurd (omega arith);
  small = omega arith;
  long = refl;
}

pub loop-table-preserved : goal.loop-table-preserved
loop-table-preserved c =
    let inv = c.loop-table.invariant in
    let stream = c.args.stream.now in
    let count = c.in_ok-rows.ensures.some in
    let now : IsNext stream c.loop-table.table c.loop-table.present = record { is = inv.present; within = inv.within; small = inv.small } in
    let next : IsNext stream (c.loop-table.table + 1) c.if-is_bit_set.present = elim c.if-is_bit_set.branch [
      | then-is_bit_set w ↦ subst (λ p. IsNext stream (c.loop-table.table + 1) p) (sym w.present-is) (next-set stream c.valid-valid.result c.loop-table.table c.loop-table.present c.in_ok-rows.field-0 inv.valid now count (sym w.if-is_bit_set.ensures))
      | else-is_bit_set w ↦ subst (λ p. IsNext stream (c.loop-table.table + 1) p) (sym w.present-is) (next-clear stream c.valid-valid.result c.loop-table.table c.loop-table.present inv.valid now (sym w.if-is_bit_set.ensures))
    ] in
    record {
      valid = inv.valid;
      present = next.is;
      within = next.within;
      rows = fill-next (count_of stream) c.loop-table.rows c.loop-table.table c.in_ok-rows.field-0 count.value (omega arith) inv.rows;
      few = below_more (λ k. count_of stream k < 16777216) c.loop-table.table inv.few (subst (λ n. n < 16777216) count.value count.few);
      small = next.small;
      long = length-set c.loop-table.rows c.loop-table.table c.in_ok-rows.field-0 ∙ inv.long;
    }

pub returns-clause-some : goal.returns-clause-some
returns-clause-some c =
    let inv = c.loop-table.invariant in
    let stream = c.args.stream.now in
    let end : c.loop-table.table ≡ 64 = omega arith in
    record {
      rows = fill_by_all (count_of stream) c.loop-table.rows 64 0 inv.long (λ k h. inv.rows k (omega arith));
      present = subst (λ t. c.loop-table.present ≡ present_below stream t) end inv.present;
      counted = inv.within;
      few = λ k h. inv.few k (omega arith);
      within = omega arith;
    }
