-- What each key of an image holds, after whatever edits; and that links and lists agree.
use Rattle.std.proofs.Common.{◌≡◌, ◌∙◌, refl, sym, ap, subst, ℕ, ◌<◌, ◌≤◌, ◌^◌, true, List, [], ◌∷◌, map, length, Option, Some, None, Ok, Err, nat_le, nat_lt, inl, inr, arith}
use Rattle.std.specs.Prelude.{◌&&◌}
use Rattle.std.specs.List.{AllByRecursion, fold, list_any, range_with_len}
use Rattle.std.proofs.lemmas.Bool.{and_parts, cases_lt, leb-true, ltb-true}
use Rattle.std.proofs.lemmas.List.{get_or_past}
use Rattle.std.proofs.lemmas.List.FromFn.{get_or-map-range_with_len, length-map-range_with_len}
use Rattle.cil_base.specs.Token.{Token}
use Rattle.md_schema.specs.Header.{count_of}
use Rattle.md_schema.specs.Layout.{IsWhole, head_of}
use Rattle.md_schema.specs.Link.{link_table_of}
use Rattle.md_schema.specs.LinkedRows.{linked_of}
use Rattle.md_schema.specs.Runs.{table_row_count}
use Rattle.md_schema.specs.declared.link.Link.{Link}
use Rattle.md_schema.proofs.LinkLemmas.{link_stands}
use Rattle.pe_image.specs.Streams.{stream}
use Rattle.pe_image.specs.declared.stream.StreamName.TheVariants.{Tables}
use Rattle.node_model.specs.Changes.{Changing}
use Rattle.node_model.specs.EditWalks.{edit_walk}
use Rattle.node_model.specs.Graph.{Graph, edit_changing, edited, untouched}
use Rattle.node_model.specs.Immediate.{read}
use Rattle.node_model.specs.Keys.{image_rows, same_token}
use Rattle.node_model.specs.Lists.{read_linked, tokens_slot}
use Rattle.node_model.specs.Nodes.{is_live_row}
use Rattle.node_model.specs.RowFaults.{row_fault}
use Rattle.node_model.specs.Rows.{read_row, row_cells, row_slot}
use Rattle.node_model.specs.Streams.{ImageStreams, image_streams}
use Rattle.node_model.specs.declared.cell.Cell.TheVariants.{Ref}
use Rattle.node_model.specs.declared.edit.Edit.{Edit}
use Rattle.node_model.specs.declared.key.Key.TheVariants.{Row, Linked}
use Rattle.node_model.specs.declared.slot.Slot.TheVariants as slots
use Rattle.node_model.specs.declared.value.RowValue.{RowValue}
use Rattle.node_model.specs.declared.value.Value.TheVariants as values
use Rattle.node_model.proofs.KnownEdits.{edit_known}
use Rattle.node_model.proofs.KnownLemmas.{live_there}
use Rattle.node_model.proofs.StepLemmas.{came_of, edited_is, edited_refused}
use Rattle.graph_facts.specs.GraphHolds.{GraphHolds, GraphsHold, IsKeyOf, LinksNameOwners, OwnersListLinks, link_cell}
use Rattle.graph_facts.specs.HoldsValue.{IsRowOfTable, ListsRows}
use Rattle.graph_facts.specs.OfTypes.{AreBytes, EditOfTypes}
use Rattle.graph_facts.proofs.EditHolds.{Keeps, edit_leads}
use Rattle.graph_facts.proofs.FileLemmas.{read_holds}
use Rattle.graph_facts.proofs.ItemLemmas.{all_at}
use Rattle.graph_facts.proofs.LinkReadLemmas.{linked_names, names_linked}
use Rattle.graph_facts.proofs.WalkHolds.{led}

few_rows : (stream : List ℕ) (table : ℕ) → IsWhole stream → table_row_count stream table < 2 ^ 24
unfolding head_of
few_rows stream table whole =
    elim (cases_lt table 64) [
      | inl below ↦
          let is = get_or-map-range_with_len (count_of stream) 0 64 table table 0 below (omega arith) in
          let few = whole.few table below in
          omega (arith, is, few)
      | inr past ↦
          let none = get_or_past (map (count_of stream) (range_with_len 0 64)) table 0 (omega (arith, past, length-map-range_with_len (count_of stream) 0 64)) in
          omega (arith, none)
    ]

file_few : (b : List ℕ) (table : ℕ) → IsWhole (stream b Tables) → image_rows b table < 2 ^ 24
unfolding image_rows
file_few b table whole = few_rows (stream b Tables) table whole

-- a row that is read has no fault, and the cells that are read
record RowIs (s : ImageStreams) (m : Token) (row : RowValue) : Type 0 where
  sound : row_fault s m ≡ None
  cells : row_cells s m ≡ row.cells

row_is : (s : ImageStreams) (m : Token) (row : RowValue) → read_row s m ≡ slots.Value (values.Row row) → RowIs s m row
unfolding read_row
row_is s m row e = by (row_fault s m) refl e
  where
    same : (x y : RowValue) → slots.Value (values.Row x) ≡ slots.Value (values.Row y) → x ≡ y
    same x y e = cc

    by : (o : Option ℕ) → row_fault s m ≡ o → row_slot s m o ≡ slots.Value (values.Row row) → RowIs s m row
    by None is e = record { sound = is; cells = ap (λ (r : RowValue). r.cells) (same (record { token = m; cells = row_cells s m }) row e) }
    by (Some column) is e = absurd cc

list_is : (s : ImageStreams) (t : Token) (l : Link) (ts : List Token) → read_linked s t l ≡ tokens_slot ts → linked_of s.tables t l ≡ ts
unfolding read_linked
list_is s t l ts e = same (linked_of s.tables t l) ts e
  where
    same : (x y : List Token) → tokens_slot x ≡ tokens_slot y → x ≡ y
    same x y e = cc

file_named : (b : List ℕ) → AreBytes b → LinksNameOwners (untouched b)
file_named b bytes t m l ts row key list has held =
    let s = image_streams b in
    let is = row_is s m row held in
    let listed = list_is s t l ts list in
    let kind = link_stands l in
    let rows : ListsRows (untouched b).nodes (link_table_of l) ts = read_holds b (Linked t l) (values.Tokens ts) bytes list in
    let table = (all_at (IsRowOfTable (untouched b).nodes (link_table_of l)) m ts rows.rows has).table_is in
    ap (λ cs. link_cell l (record { token = m; cells = cs })) (sym is.cells) ∙ linked_names s t m l kind.0 table kind.1 is.sound (ap (list_any (same_token m)) listed ∙ has)

rows_of_file : (b : List ℕ) (table : ℕ) → image_rows b table ≡ table_row_count (image_streams b).tables table
unfolding image_streams image_rows
rows_of_file b table = refl

file_listed : (b : List ℕ) → OwnersListLinks (untouched b)
file_listed b t m l ts row live table held names list =
    let s = image_streams b in
    let is = row_is s m row held in
    let listed = list_is s t l ts list in
    let kind = link_stands l in
    let there = and_parts (nat_lt 0 m.rid) (nat_le m.rid (image_rows b m.table)) (live_there (untouched b).nodes m live) in
    let low = ltb-true 0 m.rid there.0 in
    let high = leb-true m.rid (image_rows b m.table) there.1 in
    let count = ap (image_rows b) table ∙ rows_of_file b (link_table_of l) in
    ap (list_any (same_token m)) (sym listed)
    ∙ names_linked s t m l kind.0 table kind.1 is.sound low (omega (arith, high, count)) (ap (λ cs. link_cell l (record { token = m; cells = cs })) is.cells ∙ names)

file_sound : (b : List ℕ) → IsWhole (stream b Tables) → AreBytes b → GraphHolds (untouched b)
file_sound b whole bytes = record {
  few = λ table. file_few b table whole;
  holds = λ k v key e. read_holds b k v bytes e;
  named = file_named b bytes;
  listed = file_listed b;
}

edit_sound : (g : Graph) (e : Edit) → GraphHolds g → EditOfTypes e → GraphHolds (edited g e)
edit_sound g e sound typed = by (edit_changing g e) refl
  where
    by : (c : Changing) → edit_changing g e ≡ c → GraphHolds (edited g e)
    by (Err r) is = subst GraphHolds (sym (edited_refused g e r is)) sound
    by (Ok change) is =
        let came = came_of g e change is in
        subst GraphHolds (sym (edited_is g e change is)) (led g (Keeps g) (edit_walk g.nodes e) change (edit_known g.nodes e came.early) (edit_leads g e sound came.early typed) came.says)

edits_sound : (g : Graph) (es : List Edit) → GraphHolds g → AllByRecursion EditOfTypes es → GraphHolds (fold edited g es)
edits_sound g [] sound typed = sound
edits_sound g (e ∷ es) sound typed = edits_sound (edited g e) es (edit_sound g e sound typed.0) typed.1

pub graphs_hold : GraphsHold
graphs_hold b j whole bytes typed = edits_sound (untouched b) j (file_sound b whole bytes) typed
