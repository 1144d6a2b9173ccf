-- The rows that the index of the links gives are those of the link.
use Rattle.std.proofs.Common.{◌≡◌, ℕ, ◌<◌, ◌^◌, List, [], ◌∷◌, map, Bool, true, false, cond, refl, ap, ◌∙◌, arith}
use Rattle.std.specs.List.{All, filter, range_with_len}
use Rattle.std.proofs.lemmas.List.Elements.{All-filter, All-map, All-same}
use Rattle.std.proofs.lemmas.List.FromFn.{get_or-range_with_len, length-range_with_len}
use Rattle.cil_base.specs.Token.{Token}
use Rattle.md_schema.specs.Layout.{Head, OpensTables}
use Rattle.md_schema.specs.Link.{link_table_of}
use Rattle.md_schema.specs.LinkedRows.{is_linked, linked_of, rows_to}
use Rattle.md_schema.specs.Runs.{table_row_count}
use Rattle.md_schema.specs.declared.link.Link.{Link}
use Rattle.md_tables.specs.LinkIndex.{IndexesLinks, rids_in}
use Rattle.md_tables.specs.declared.link_row.LinkRow.{LinkRow}
use Rattle.node_read.specs.inner.Opened.{rows_numbered}
use Rattle.node_read.proofs.ListLemmas.{few_counted}

abbrev row_in : ℕ → ℕ → Token
row_in table rid = record { table = table; rid = rid }

abbrev rids_of : List Token → List ℕ
rids_of rows = map (λ row. row.rid) rows

-- rows of one table are those that have their numbers
numbered-again : (p : Token → Bool) (table : ℕ) (rids : List ℕ) → rows_numbered table (rids_of (filter p (map (row_in table) rids))) ≡ filter p (map (row_in table) rids)
numbered-again p table [] = refl
numbered-again p table (rid ∷ rids) =
    let more : List Token = filter p (map (row_in table) rids) in
    elim (p (row_in table rid)) as (λ b. rows_numbered table (rids_of (cond b (row_in table rid ∷ more) more)) ≡ cond b (row_in table rid ∷ more) more) [
      | true ↦ ap (λ rows. row_in table rid ∷ rows) (numbered-again p table rids)
      | false ↦ numbered-again p table rids
    ]

linked-again : (stream : List ℕ) (token : Token) (link : Link) → rows_numbered (link_table_of link) (rids_of (linked_of stream token link)) ≡ linked_of stream token link
unfolding linked_of rows_to
linked-again stream token link = numbered-again (is_linked stream token link) (link_table_of link) (range_with_len 1 (table_row_count stream (link_table_of link)))

small-range : (count : ℕ) → count < 2 ^ 24 → All (λ (rid : ℕ). rid < 2 ^ 24) (range_with_len 1 count)
small-range count few k d within =
    let bound : k < count = omega (arith, within, length-range_with_len 1 count) in
    omega (arith, few, bound, get_or-range_with_len 1 count k d bound)

small-linked : (stream : List ℕ) (token : Token) (link : Link) → table_row_count stream (link_table_of link) < 2 ^ 24 → All (λ (rid : ℕ). rid < 2 ^ 24) (rids_of (linked_of stream token link))
unfolding linked_of rows_to
small-linked stream token link few =
    let table = link_table_of link in
    let range = range_with_len 1 (table_row_count stream table) in
    let is_small : Token → Type 0 = λ row. row.rid < 2 ^ 24 in
    All-map (λ (rid : ℕ). rid < 2 ^ 24) (λ (row : Token). row.rid) (filter (is_linked stream token link) (map (row_in table) range))
    (All-filter (is_linked stream token link) is_small (map (row_in table) range) (All-map is_small (row_in table) range (small-range (table_row_count stream table) few)))

-- the numbers that the index gives are those of rows, and the rows those of the link
pub indexed-small : (stream : List ℕ) (head : Head) (links : List (List LinkRow)) (token : Token) (link : Link) (rids : List ℕ) → OpensTables stream head → IndexesLinks stream links → rids ≡ rids_in links token link → All (λ (rid : ℕ). rid < 2 ^ 24) rids
indexed-small stream head links token link rids opened indexed is =
    All-same (λ (rid : ℕ). rid < 2 ^ 24) rids (rids_of (linked_of stream token link)) (is ∙ indexed token link)
    (small-linked stream token link (few_counted stream head (link_table_of link) opened))

pub indexed-rows : (stream : List ℕ) (links : List (List LinkRow)) (token : Token) (link : Link) (table : ℕ) (rids : List ℕ) → IndexesLinks stream links → rids ≡ rids_in links token link → table ≡ link_table_of link → rows_numbered table rids ≡ linked_of stream token link
indexed-rows stream links token link table rids indexed is same =
    ap (λ n. rows_numbered n rids) same
    ∙ ap (rows_numbered (link_table_of link)) (is ∙ indexed token link)
    ∙ linked-again stream token link
