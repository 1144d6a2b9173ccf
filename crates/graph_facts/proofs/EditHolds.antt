-- What held of a graph holds after each edit.
use Rattle.std.proofs.Common.{◌≡◌, ◌∙◌, refl, sym, ap, subst, ℕ, ◌<◌, ◌≤◌, ◌^◌, Bool, true, false, cond, List, [], ◌∷◌, ◌++◌, take, drop, map, length, Option, Some, None, Ok, Err, find, not, is_some, nat_le, nat_lt, arith}
use Rattle.std.specs.Prelude.{◌==◌, ◌&&◌, ◌||◌, insert}
use Rattle.std.specs.List.{AllByRecursion, list_all, list_any}
use Rattle.std.specs.Option.{option_or}
use Rattle.std.proofs.lemmas.Bool.{and_parts, eq-eqb, eqb-false, eqb-true, leb-true, ne_eqb}
use Rattle.std.proofs.lemmas.Bool.Decides.{nat_tests}
use Rattle.std.proofs.lemmas.List.{append-nil, take-append-drop}
use Rattle.std.proofs.lemmas.List.Folds.{list_all-append}
use Rattle.cil_base.specs.Token.{Token}
use Rattle.il_code.specs.Body.{Body as BodyOf}
use Rattle.il_code.specs.Edited.{add_handler_refusal, bad_code, bad_handler, edit_refusal, insert_refusal, remove_handler_refusal, remove_refusal, replace_refusal, with_handler, with_instr, with_instr_for, without_handler, without_instr}
use Rattle.il_code.specs.Writable.{Writable}
use Rattle.il_code.specs.declared.handler.Handler.{Handler}
use Rattle.il_code.specs.declared.il_refusal.IlRefusal.{IlRefusal}
use Rattle.il_code.specs.declared.instr.Instr.{Instr}
use Rattle.md_schema.specs.Column.{ColumnOf}
use Rattle.md_schema.specs.Entry.{column_of}
use Rattle.md_schema.specs.Link.{link_column_of, link_table_of}
use Rattle.md_schema.specs.Tables.{file, method_def, nested_class}
use Rattle.md_schema.specs.declared.column.ColumnKind.{ColumnKind}
use Rattle.md_schema.specs.declared.link.Link.{Link}
use Rattle.pe_image.specs.declared.facts.Facts.{Facts as FactsOf}
use Rattle.node_model.specs.Changes.{Changing, all_without, body_put, cell_put, code_edited, new_row, puts, row_inserted, row_removed, unless_refused}
use Rattle.node_model.specs.ColumnFit.{may_set}
use Rattle.node_model.specs.EditRefusals.{early_refusal, is_bad_name}
use Rattle.node_model.specs.EditWalks.{code_walk, edit_walk, leave_walk, remove_walk, with_head}
use Rattle.node_model.specs.Graph.{Graph, edited, graph_changed}
use Rattle.node_model.specs.KeyKinds.{has_kind, is_root_token}
use Rattle.node_model.specs.Keys.{is_row, same_key, same_token}
use Rattle.node_model.specs.NamedTokens.{cells_name, edit_names, entry_names, name_in, opt_sig_names}
use Rattle.node_model.specs.Nodes.{Nodes, is_live_row}
use Rattle.node_model.specs.PlacedCells.{edit_cells, row_placed, set_placed}
use Rattle.node_model.specs.RowCells.{cell_in, is_link_column, with_cell_in}
use Rattle.node_model.specs.RowFaults.{cell_columns}
use Rattle.node_model.specs.RowLists.{added_lists, added_table, enclosing_lists, list_key}
use Rattle.node_model.specs.Signatures.{sort_fits}
use Rattle.node_model.specs.Walk.{Walk, Gives, Asks}
use Rattle.node_model.specs.declared.cell.Cell.{Cell}
use Rattle.node_model.specs.declared.cell.Cell.TheVariants as cells
use Rattle.node_model.specs.declared.change.Change.{Change}
use Rattle.node_model.specs.declared.change.RowChange.TheVariants.{Made}
use Rattle.node_model.specs.declared.edit.Edit.{Edit}
use Rattle.node_model.specs.declared.edit.Edit.TheVariants as edits
use Rattle.node_model.specs.declared.edit.OptSig.{OptSig}
use Rattle.node_model.specs.declared.edit_refusal.EditRefusal.TheVariants.{NotThere, PlaceBeyond}
use Rattle.node_model.specs.declared.key.Key.{Key}
use Rattle.node_model.specs.declared.key.Key.TheVariants as keys
use Rattle.node_model.specs.declared.slot.Slot.TheVariants as slots
use Rattle.node_model.specs.declared.value.BodyValue.{BodyValue}
use Rattle.node_model.specs.declared.value.BodyValue.TheVariants.{NoBody, Native, Il}
use Rattle.node_model.specs.declared.value.RowValue.{RowValue}
use Rattle.node_model.specs.declared.value.Value.TheVariants as values
use Rattle.node_model.proofs.EarlyLemmas.{found_none, has_room, or_none, passed, row_fits, told_none}
use Rattle.node_model.proofs.KnownLemmas.{live_there}
use Rattle.node_model.proofs.LeafLemmas.{is_list_key}
use Rattle.node_model.proofs.LinkCellLemmas.{is_good_name}
use Rattle.node_model.proofs.ListKeyLemmas.{added_are, enclosing_are, list_key_is}
use Rattle.node_model.proofs.RowLemmas.{IsNext}
use Rattle.node_model.proofs.SchemaLemmas.{added_small, owned_small}
use Rattle.graph_facts.specs.GraphHolds.{GraphHolds, link_cell}
use Rattle.graph_facts.specs.HoldsValue.{HoldsValue, HoldsFacts, HoldsSig}
use Rattle.graph_facts.specs.OfTypes.{CellOfType, EditOfTypes, OptSigOfType}
use Rattle.graph_facts.specs.RowHolds.{HoldsCell, HoldsRow}
use Rattle.graph_facts.proofs.CellEditLemmas.{CellsPass, SetsCell, cells_pass, row_made, set_found}
use Rattle.graph_facts.proofs.ColumnLemmas.{Placed, at_link, beside_is, none_of_links, with_holds, with_other}
use Rattle.graph_facts.proofs.GoneLemmas.{gone_sound}
use Rattle.graph_facts.proofs.LinkListLemmas.{added_listed, added_named, added_tables, owned_no_link}
use Rattle.graph_facts.proofs.ListLemmas.{IsHeldList, is_list_of}
use Rattle.graph_facts.proofs.MadeLemmas.{MakesRow, list_table}
use Rattle.graph_facts.proofs.MadeSound.{made_sound}
use Rattle.graph_facts.proofs.PutLemmas.{RowBefore, put_sound}
use Rattle.graph_facts.proofs.RowReadLemmas.{IsColumn, cell_columns_are}
use Rattle.graph_facts.proofs.WalkHolds.{Leads, keys_of, lists_lead}
use Rattle.graph_facts.proofs.WritableLemmas.{body_writable}

-- the change leaves what holds of the graph
abbrev pub Keeps : Graph → Change → Type 0
Keeps g change = GraphHolds (graph_changed g change)

-- what is found passes the test, and has what all have
find_has : (test : Placed → Bool) (P : Placed → Type 0) (columns : List Placed) (c : Placed) → AllByRecursion P columns → find test columns ≡ Some c → (test c ≡ true) × P c
find_has test P [] c all e = absurd cc
find_has test P (d ∷ columns) c all e = by (test d) refl e (find_has test P columns c all.1)
  where
    same : (a b : Placed) → Some a ≡ Some b → a ≡ b
    same a b e = cc

    by : (y : Bool) → test d ≡ y → cond y (Some d) (find test columns) ≡ Some c → (find test columns ≡ Some c → (test c ≡ true) × P c) → (test c ≡ true) × P c
    by true is e more = let is_c = same d c e in (ap test (sym is_c) ∙ is, subst P is_c all.0)
    by false is e more = more e

one_column : (table : ℕ) (c d : Placed) → IsColumn table c → IsColumn table d → c.0 ≡ d.0 → c.1 ≡ d.1
one_column table c d is also same = some_is (sym is ∙ ap (column_of table) same ∙ also)
  where
    some_is : Some c.1 ≡ Some d.1 → c.1 ≡ d.1
    some_is e = cc

-- a cell is set
set_row : (n : Nodes) (t : Token) (column : ℕ) (cell : Cell) (row : RowValue) → SetsCell n t.table column cell → HoldsRow n t row
    → HoldsRow n t (record { token = row.token; cells = with_cell_in t.table column cell row.cells })
set_row n t column cell row sets held = record {
  token = held.token;
  cells = with_holds n (λ c. c.0 == column) (cell_columns t.table) cell row.cells held.cells (λ d found. fit d (find_has (λ c. c.0 == column) (IsColumn t.table) (cell_columns t.table) d (cell_columns_are t.table) found));
}
  where
    fit : (d : Placed) → ((d.0 == column) ≡ true) × IsColumn t.table d → HoldsCell n d.1.kind cell
    fit d has =
        let same : sets.found.0 ≡ d.0 = eqb-true sets.found.0 column sets.number ∙ sym (eqb-true d.0 column has.0) in
        subst (λ (c : ColumnOf). HoldsCell n c.kind cell) (one_column t.table sets.found d sets.is_column has.1 same) sets.holds

set_links : (n : Nodes) (t : Token) (column : ℕ) (cell : Cell) (row : RowValue) (l : Link) → SetsCell n t.table column cell → t.table ≡ link_table_of l
    → link_cell l (record { token = row.token; cells = with_cell_in t.table column cell row.cells }) ≡ link_cell l row
set_links n t column cell row l sets table =
    ap (λ k. cell_in k (link_column_of l) (with_cell_in t.table column cell row.cells)) (sym table)
    ∙ beside_is (at_link l) (cell_columns t.table) (with_cell_in t.table column cell row.cells)
    ∙ with_other (λ c. c.0 == column) (at_link l) (cell_columns t.table) cell row.cells apart
    ∙ sym (beside_is (at_link l) (cell_columns t.table) row.cells)
    ∙ ap (λ k. cell_in k (link_column_of l) row.cells) table
  where
    rest : (x y : Bool) → (x && y) ≡ false → x ≡ true → y ≡ false
    rest true y e is = e
    rest false y e is = absurd cc

    other : ((link_table_of l == t.table) && (link_column_of l == sets.found.0)) ≡ false
    other = none_of_links (λ l. (link_table_of l == t.table) && (link_column_of l == sets.found.0)) l sets.free

    apart : (c : Placed) → (c.0 == column) ≡ true → at_link l c ≡ false
    apart c is =
        let none = rest (link_table_of l == t.table) (link_column_of l == sets.found.0) other (eq-eqb (link_table_of l) t.table (sym table)) in
        let here = eqb-true c.0 column is in
        let there = eqb-true sets.found.0 column sets.number in
        let differ = eqb-false (link_column_of l) sets.found.0 none in
        ne_eqb c.0 (link_column_of l) (λ e. differ (sym e ∙ here ∙ sym there))

set_leads : (g : Graph) (t : Token) (column : ℕ) (cell : Cell) → GraphHolds g → SetsCell g.nodes t.table column cell
    → Leads g (Keeps g) (Asks (keys.Row t) (λ row. Gives (Ok (cell_put t column cell row))))
set_leads g t column cell sound sets = λ row held known.
    let before = sound.holds (keys.Row t) (values.Row row) known held in
    let new : RowValue = record { token = row.token; cells = with_cell_in t.table column cell row.cells } in
    let keeps : RowBefore g t new = record { before = row; held = held; links = λ l table. set_links g.nodes t column cell row l sets table } in
    put_sound g (keys.Row t) (values.Row new) sound refl (set_row g.nodes t column cell row sets before) keeps

-- a body is put, or edited
unless_leads : (g : Graph) (t : Token) (o : Option IlRefusal) (body : BodyOf) → GraphHolds g → (o ≡ None → Writable body)
    → Leads g (Keeps g) (Gives (unless_refused o (puts (keys.Body t) (values.Body (Il body)))))
unless_leads g t (Some r) body sound writable = tt
unless_leads g t None body sound writable = put_sound g (keys.Body t) (values.Body (Il body)) sound refl (writable refl) tt

body_leads : (g : Graph) (t : Token) (body : BodyValue) → GraphHolds g → Leads g (Keeps g) (Gives (body_put t body))
body_leads g t (Il body) sound =
    unless_leads g t (option_or (bad_code body) (bad_handler body)) body sound (λ none. let parts = or_none (bad_code body) (bad_handler body) none in body_writable body parts.0 parts.1)
body_leads g t NoBody sound = put_sound g (keys.Body t) (values.Body NoBody) sound refl tt tt
body_leads g t (Native rva) sound = put_sound g (keys.Body t) (values.Body (Native rva)) sound refl tt tt

code_leads : (g : Graph) (t : Token) (refused : BodyOf → Option IlRefusal) (made : BodyOf → BodyOf) → GraphHolds g → ((body : BodyOf) → Writable body → refused body ≡ None → Writable (made body))
    → Leads g (Keeps g) (code_walk t refused made)
code_leads g t refused made sound writable = λ body held known. by body held (sound.holds (keys.Body t) (values.Body body) known held)
  where
    by : (body : BodyValue) → g.held (keys.Body t) ≡ slots.Value (values.Body body) → HoldsValue g.nodes (keys.Body t) (values.Body body) → Leads g (Keeps g) (Gives (code_edited t refused made body))
    by (Il body) held hold = unless_leads g t (refused body) (made body) sound (λ none. writable body hold none)
    by NoBody held hold = tt
    by (Native rva) held hold = tt

edited_writable : (place : Option IlRefusal) (after : BodyOf) → edit_refusal place after ≡ None → Writable after
edited_writable place after none =
    let outer = or_none place (option_or (bad_code after) (bad_handler after)) none in
    let inner = or_none (bad_code after) (bad_handler after) outer.1 in
    body_writable after inner.0 inner.1

inserted : (at : ℕ) (x : Instr) (body : BodyOf) → insert_refusal at x body ≡ None → Writable (with_instr at x body)
unfolding insert_refusal
inserted at x body none = edited_writable _ (with_instr at x body) none

removed : (at : ℕ) (body : BodyOf) → remove_refusal at body ≡ None → Writable (without_instr at body)
unfolding remove_refusal
removed at body none = edited_writable _ (without_instr at body) none

replaced : (at : ℕ) (x : Instr) (body : BodyOf) → replace_refusal at x body ≡ None → Writable (with_instr_for at x body)
unfolding replace_refusal
replaced at x body none = edited_writable _ (with_instr_for at x body) none

handler_added : (h : Handler) (body : BodyOf) → add_handler_refusal h body ≡ None → Writable (with_handler h body)
unfolding add_handler_refusal
handler_added h body none = edited_writable _ (with_handler h body) none

handler_removed : (at : ℕ) (body : BodyOf) → remove_handler_refusal at body ≡ None → Writable (without_handler at body)
unfolding remove_handler_refusal
handler_removed at body none = edited_writable _ (without_handler at body) none

-- the entry point is a row that is there, or none
record EntryFits (t : Token) : Type 0 where
  table : t.table < 2 ^ 8
  rid : t.rid < 2 ^ 24

entry_fits : (g : Graph) (t : Token) → GraphHolds g → find (is_bad_name g.nodes) (entry_names t) ≡ None → EntryFits t
entry_fits g t sound names = by (is_root_token t) refl names
  where
    twice : (x : Bool) → not (not x) ≡ true → x ≡ true
    twice true e = refl
    twice false e = absurd cc

    low : (table : ℕ) → ((table == method_def) || (table == file)) ≡ true → table < 2 ^ 8
    low table e = grind (arith, nat_tests)

    by : (b : Bool) → is_root_token t ≡ b → find (is_bad_name g.nodes) (cond b [] (name_in (λ table. (table == method_def) || (table == file)) t ∷ [])) ≡ None → EntryFits t
    by true is e =
        let parts = and_parts (t.table == 0) (t.rid == 0) is in
        let table = eqb-true t.table 0 parts.0 in
        let rid = eqb-true t.rid 0 parts.1 in
        record { table = omega (arith, table); rid = omega (arith, rid) }
    by false is e =
        let good = (and_parts (is_good_name g.nodes (name_in (λ table. (table == method_def) || (table == file)) t)) true
        (found_none (is_bad_name g.nodes) (name_in (λ table. (table == method_def) || (table == file)) t ∷ []) e)).0 in
        let parts = and_parts (is_live_row g.nodes t) ((t.table == method_def) || (t.table == file)) (twice (is_live_row g.nodes t && ((t.table == method_def) || (t.table == file))) good) in
        let there = and_parts (nat_lt 0 t.rid) (nat_le t.rid (g.nodes.rows t.table)) (live_there g.nodes t parts.0) in
        let within = leb-true t.rid (g.nodes.rows t.table) there.1 in
        let few = sound.few t.table in
        record { table = low t.table parts.1; rid = omega (arith, within, few) }

entry_leads : (g : Graph) (t : Token) → GraphHolds g → EntryFits t → (facts : FactsOf) → HoldsFacts facts → HoldsFacts (record facts { entry = t })
entry_leads g t sound fits facts hold = record {
  machine = hold.machine;
  time = hold.time;
  characteristics = hold.characteristics;
  base = hold.base;
  subsystem = hold.subsystem;
  dll = hold.dll;
  runtime_major = hold.runtime_major;
  runtime_minor = hold.runtime_minor;
  flags = hold.flags;
  entry_table = fits.table;
  entry_rid = fits.rid;
  version = hold.version;
}

-- a row is added
keys_all : (P : Key → Type 0) (lists : List (Key × List Token)) (ks : List Key) → keys_of lists ≡ ks → AllByRecursion P ks → AllByRecursion (λ (l : Key × List Token). P l.0) lists
keys_all P lists ks same all = spread lists (subst (AllByRecursion P) (sym same) all)
  where
    spread : (lists : List (Key × List Token)) → AllByRecursion P (keys_of lists) → AllByRecursion (λ (l : Key × List Token). P l.0) lists
    spread [] all = tt
    spread (l ∷ lists) all = (all.0, spread lists all.1)

keys_any : (q : Key) (lists : List (Key × List Token)) → list_any (is_list_of q) lists ≡ list_any (same_key q) (keys_of lists)
keys_any q [] = refl
keys_any q (l ∷ lists) = ap (λ x. same_key q l.0 || x) (keys_any q lists)

add_leads : (g : Graph) (table : ℕ) (cs : List Cell) (sig : OptSig) → GraphHolds g → early_refusal g.nodes (edits.Add table cs sig) ≡ None → AllByRecursion CellOfType cs × OptSigOfType sig
    → Leads g (Keeps g) (edit_walk g.nodes (edits.Add table cs sig))
unfolding edit_walk
add_leads g table cs sig sound early typed =
    let pass = passed g.nodes (edits.Add table cs sig) early in
    let fits = row_fits (added_table table) table cs sig pass.fits in
    let names = cells_name (row_placed table cs) in
    let good = and_parts (list_all (is_good_name g.nodes) names) (list_all (is_good_name g.nodes) (opt_sig_names sig))
    (sym (list_all-append (is_good_name g.nodes) names (opt_sig_names sig)) ∙ found_none (is_bad_name g.nodes) (names ++ opt_sig_names sig) pass.names) in
    let row = new_row g.nodes table cs in
    let next : IsNext g.nodes row sig = record { token = refl; room = has_room g.nodes table pass.room; small = added_small table fits.stands; fits = fits.sig } in
    let hold = row_made g.nodes (added_table table) table cs sig pass.fits (cells_pass g.nodes (edits.Add table cs sig) early good.0) typed.0 in
    lists_lead g (Keeps g) (added_lists table cs) _ (added_are table cs) (λ lists same held. made_sound g row sig (λ ts. ts ++ (row.token ∷ [])) lists sound (record {
      next = next;
      own = hold;
      typed = typed.1;
      held = held;
      tables = keys_all (λ k. list_table k ≡ table) lists (added_lists table cs) same (added_tables table cs);
      puts = λ ts. record { front = ts; back = []; whole = sym (append-nil ts); put = refl };
      named = λ t l any. added_named table cs t l (ap (list_any (same_key (keys.Linked t l))) (sym same) ∙ sym (keys_any (keys.Linked t l) lists) ∙ any);
      listed = λ t l is names. keys_any (keys.Linked t l) lists ∙ ap (list_any (same_key (keys.Linked t l))) same ∙ added_listed table cs t l is names;
    }))

-- a row is inserted into the list of its owner
insert_leads : (g : Graph) (owner : Token) (table at : ℕ) (cs : List Cell) (sig : OptSig) → GraphHolds g → early_refusal g.nodes (edits.Insert owner table at cs sig) ≡ None
    → AllByRecursion CellOfType cs × OptSigOfType sig → Leads g (Keeps g) (edit_walk g.nodes (edits.Insert owner table at cs sig))
unfolding edit_walk
insert_leads g owner table at cs sig sound early typed =
    let pass = passed g.nodes (edits.Insert owner table at cs sig) early in
    let fits = row_fits (has_kind (keys.Owned owner table)) table cs sig pass.fits in
    let names = cells_name (row_placed table cs) in
    let good = and_parts (list_all (is_good_name g.nodes) names) (list_all (is_good_name g.nodes) (opt_sig_names sig))
    (sym (list_all-append (is_good_name g.nodes) names (opt_sig_names sig)) ∙ found_none (is_bad_name g.nodes) (names ++ opt_sig_names sig) pass.names) in
    let next : IsNext g.nodes (new_row g.nodes table cs) sig =
    record { token = refl; room = has_room g.nodes table pass.room; small = owned_small owner table fits.stands; fits = fits.sig } in
    let hold = row_made g.nodes (has_kind (keys.Owned owner table)) table cs sig pass.fits (cells_pass g.nodes (edits.Insert owner table at cs sig) early good.0) typed.0 in
    λ ts held known. by (nat_le at (length ts)) ts (record {
      next = next;
      own = hold;
      typed = typed.1;
      held = (record { held = held; known = known; list = refl }, tt);
      tables = (refl, tt);
      puts = λ us. record { front = take at us; back = drop at us; whole = sym (take-append-drop at us); put = refl };
      named = λ t l any. absurd (never any);
      listed = λ t l is names. absurd (owned_no_link owner table l fits.stands is);
    })
  where
    never : false ≡ true → ⊥
    never e = cc

    by : (b : Bool) (ts : List Token) → MakesRow g (new_row g.nodes table cs) sig (λ us. insert us at (new_row g.nodes table cs).token) ((keys.Owned owner table, ts) ∷ [])
        → Leads g (Keeps g) (Gives (cond b (Ok (record { contents = (keys.Owned owner table, slots.Value (values.Tokens (insert ts at (new_row g.nodes table cs).token))) ∷ []; rows = Made (new_row g.nodes table cs) sig })) (Err (PlaceBeyond at (length ts)))))
    by true ts makes = made_sound g (new_row g.nodes table cs) sig (λ us. insert us at (new_row g.nodes table cs).token) ((keys.Owned owner table, ts) ∷ []) sound makes
    by false ts makes = tt

-- a row leaves lists
leave_leads : (g : Graph) (t : Token) (ks : List Key) → list_all is_list_key ks ≡ true → GraphHolds g → Leads g (Keeps g) (leave_walk t ks)
leave_leads g t ks all sound = lists_lead g (Keeps g) ks _ all (λ lists same held. by_lists lists held)
  where
    by_lists : (lists : List (Key × List Token)) → AllByRecursion (IsHeldList g) lists → Leads g (Keeps g) (Gives (row_removed t lists))
    by_lists [] held = tt
    by_lists (l ∷ lists) held = by (list_any (same_token t) l.1)
      where
        by : (b : Bool) → Leads g (Keeps g) (Gives (cond b (Ok (all_without t (l ∷ lists))) (Err (NotThere t))))
        by true = gone_sound g t (l ∷ lists) sound held
        by false = tt

remove_leads : (g : Graph) (owner t : Token) → GraphHolds g → Leads g (Keeps g) (remove_walk g.nodes owner t)
remove_leads g owner t sound = by (t.table == nested_class)
  where
    first : (ks : List Key) → list_all is_list_key ks ≡ true → list_all is_list_key (list_key owner t.table ∷ ks) ≡ true
    first ks all = rw (list_key_is owner t.table, all) refl

    by : (b : Bool) → Leads g (Keeps g) (cond b (Asks (keys.Row t) (λ row. leave_walk t (list_key owner t.table ∷ enclosing_lists g.nodes t.table row.cells))) (leave_walk t (list_key owner t.table ∷ [])))
    by true = λ row held known. leave_leads g t (list_key owner t.table ∷ enclosing_lists g.nodes t.table row.cells) (first (enclosing_lists g.nodes t.table row.cells) (enclosing_are g.nodes t.table row.cells)) sound
    by false = leave_leads g t (list_key owner t.table ∷ []) (first [] refl) sound

set_found_by : (n : Nodes) (t : Token) (column : ℕ) (cell : Cell) → early_refusal n (edits.Set t column cell) ≡ None → CellOfType cell → SetsCell n t.table column cell
set_found_by n t column cell early typed =
    let pass = passed n (edits.Set t column cell) early in
    let good = found_none (is_bad_name n) (cells_name (set_placed t.table column cell)) pass.names in
    set_found n t.table column cell (told_none (list_any may_set (set_placed t.table column cell)) column pass.fits) (cells_pass n (edits.Set t column cell) early good) typed

pub edit_leads : (g : Graph) (e : Edit) → GraphHolds g → early_refusal g.nodes e ≡ None → EditOfTypes e → Leads g (Keeps g) (edit_walk g.nodes e)
unfolding edit_walk
edit_leads g (edits.Set t column cell) sound early typed = set_leads g t column cell sound (set_found_by g.nodes t column cell early typed)
edit_leads g (edits.SetSig t sig) sound early typed =
    let pass = passed g.nodes (edits.SetSig t sig) early in
    let hold : HoldsSig t sig = record { sort = told_none (sort_fits t.table sig) 0 pass.fits; bounded = typed } in
    λ old held known. put_sound g (keys.Sig t) (values.Sig sig) sound refl hold tt
edit_leads g (edits.SetBody t body) sound early typed = λ old held known. body_leads g t body sound
edit_leads g (edits.SetData t bytes) sound early typed = λ old held known. put_sound g (keys.Data t) (values.Data bytes) sound refl tt tt
edit_leads g (edits.SetResource t value) sound early typed = λ old held known. put_sound g (keys.Resource t) (values.Resource value) sound refl typed tt
edit_leads g (edits.SetEntry t) sound early typed =
    let pass = passed g.nodes (edits.SetEntry t) early in
    λ facts held known. put_sound g keys.Facts (values.Facts (record facts { entry = t })) sound refl (entry_leads g t sound (entry_fits g t sound pass.names) facts (sound.holds keys.Facts (values.Facts facts) known held)) tt
edit_leads g (edits.Add table cs sig) sound early typed = add_leads g table cs sig sound early typed
edit_leads g (edits.Insert owner table at cs sig) sound early typed = insert_leads g owner table at cs sig sound early typed
edit_leads g (edits.Remove owner t) sound early typed = remove_leads g owner t sound
edit_leads g (edits.IlInsert t at x) sound early typed = code_leads g t (insert_refusal at x) (with_instr at x) sound (λ body w none. inserted at x body none)
edit_leads g (edits.IlRemove t at) sound early typed = code_leads g t (remove_refusal at) (without_instr at) sound (λ body w none. removed at body none)
edit_leads g (edits.IlReplace t at x) sound early typed = code_leads g t (replace_refusal at x) (with_instr_for at x) sound (λ body w none. replaced at x body none)
edit_leads g (edits.IlHead t max_stack init_locals locals) sound early typed =
    code_leads g t (λ (body : BodyOf). None) (with_head max_stack init_locals locals) sound (λ body w none. record { code = w.code; handlers = w.handlers })
edit_leads g (edits.AddHandler t h) sound early typed = code_leads g t (add_handler_refusal h) (with_handler h) sound (λ body w none. handler_added h body none)
edit_leads g (edits.RemoveHandler t at) sound early typed = code_leads g t (remove_handler_refusal at) (without_handler at) sound (λ body w none. handler_removed at body none)
