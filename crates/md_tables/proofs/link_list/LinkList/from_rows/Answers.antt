-- The sort keeps the rows of each number in their order.
use Rattle.std.proofs.Common.{ℕ, List, length, map, sym, ap, subst, ◌∙◌, rules}
use Rattle.std.specs.List.Sorted.{IsNonDecreasing, IsNonDecreasingBy}
use Rattle.std.proofs.lemmas.List.{length-map}
use Rattle.std.proofs.lemmas.List.Sorted.{IsNonDecreasingBy-from_sort_by_key, answers_always}
use Rattle.md_tables.proofs.IndexLemmas.{beside, list_made, rising_numbers, sort-keeps}
use Rattle.md_tables.specs.LinkIndex.{rids_at, rows_beside}
use Rattle.md_tables.specs.declared.link_row.LinkRow.{LinkRow}
use Rattle.md_tables.proofs.link_list.LinkList.from_rows.Goals as goal

pub invariant_of-result : goal.invariant_of-result
invariant_of-result c =
    let items = c.deref-row-items.result.now in
    let made = list_made items c.loop-row.numbers.items c.loop-row.rids.items c.loop-row.row-index c.loop-row-test.false c.loop-row.invariant.numbers c.loop-row.invariant.rids in
    let number : LinkRow → ℕ = λ row. row.number in
    let rid : LinkRow → ℕ = λ row. row.rid in
    let sorted = IsNonDecreasingBy-from_sort_by_key number c.sort_by_key.new.self.items c.in_ok-sort_by_key.ensures.sorted (λ a r q k. search rules) in
    let rises = subst (λ (rows : List LinkRow). IsNonDecreasingBy number rows) (sym c.deref-row-items.ensures.value) sorted in (
      ap length made.1 ∙ length-map items rid ∙ sym (length-map items number) ∙ sym (ap length made.0),
      subst (λ (numbers : List ℕ). IsNonDecreasing numbers) (sym made.0) (rising_numbers items rises),
    )

pub returns : goal.returns
returns c number =
    let items = c.deref-row-items.result.now in
    let made = list_made items c.loop-row.numbers.items c.loop-row.rids.items c.loop-row.row-index c.loop-row-test.false c.loop-row.invariant.numbers c.loop-row.invariant.rids in
    let stable = c.sort_by_key.ensures.stable (λ row. row.number) (answers_always _ _ _ (λ f a r g h. search rules)) in
    ap (λ (numbers : List ℕ). rids_at (rows_beside numbers c.loop-row.rids.items) number) made.0
    ∙ ap (λ (rids : List ℕ). rids_at (rows_beside (map (λ (row : LinkRow). row.number) items) rids) number) made.1
    ∙ ap (λ (rows : List LinkRow). rids_at rows number) (beside items ∙ c.deref-row-items.ensures.value)
    ∙ sort-keeps c.args.rows.items c.sort_by_key.new.self.items stable number
