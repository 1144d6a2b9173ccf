-- The rows of one number lie between two points of the rising numbers.
use Rattle.std.proofs.Common.{◌≡◌, ◌≤◌, ◌-◌, ℕ, List, true, false, length, ltb, leb, take, drop, sym, ap, subst, ◌∙◌}
use Rattle.std.specs.List.Sorted.{IsPartitionPoint}
use Rattle.md_tables.proofs.IndexLemmas.{slice_at}
use Rattle.md_tables.specs.LinkIndex.{rids_at}
use Rattle.md_tables.specs.declared.link_row.LinkRow.{LinkRow}
use Rattle.md_tables.proofs.link_list.LinkList.at.Goals as goal

pub returns : goal.returns
returns c =
    let number = c.args.number in
    let start = c.below-start.result in
    let end = c.up_to-end.result in
    let low = subst (λ (l : List ℕ). IsPartitionPoint (λ n. ltb n number ≡ true) (λ n. ltb n number ≡ false) l start) c.as_slice.ensures.value c.below-start.ensures.point in
    let high = subst (λ (l : List ℕ). IsPartitionPoint (λ n. leb n number ≡ true) (λ n. leb n number ≡ false) l end) c.as_slice-2.ensures.value c.up_to-end.ensures.point in
    let first = subst (λ (l : List ℕ). start ≤ length l) c.as_slice.ensures.value c.below-start.ensures.within in
    let last = subst (λ (l : List ℕ). end ≤ length l) c.as_slice-2.ensures.value c.up_to-end.ensures.within in
    let at = slice_at c.self.inside.numbers.items c.self.inside.rids.items number start end c.self.invariant.0 first last low high in
    ap (λ (l : List ℕ). take (end - start) (drop start l)) c.as_slice-3.ensures.value ∙ sym at ∙ ap (λ (rows : List LinkRow). rids_at rows number) c.self.view_is
