-- What the graph has before each of the edits: what an edit of each kind looks at, and what the graph has after it.
use Rattle.std.proofs.Common.{◌≡◌, refl, sym, subst, ℕ, suc, ◌+◌, ◌*◌, ◌<◌, ◌≤◌, true, false, List, [], ◌∷◌, ◌++◌, length, Some, None, Ok, arith}
use Rattle.std.specs.Fmt.{decimal}
use Rattle.std.specs.Prelude.{◌==◌, insert, nat_le, nat_lt, codes}
use Rattle.std.proofs.lemmas.Bool.{eq-eqb}
use Rattle.std.proofs.lemmas.Bool.Decides.{nat_tests}
use Rattle.std.proofs.lemmas.List.Edits.{length-insert}
use Rattle.cil_base.specs.Token.{Token, root}
use Rattle.il_code.specs.Instructions.{kind_of}
use Rattle.md_schema.specs.Schema.{tables}
use Rattle.node_model.specs.Changes.{changed_slot, new_row, puts, row_added}
use Rattle.node_model.specs.ColumnFit.{bad_row}
use Rattle.node_model.specs.EditAnswers.{edit_answer, edit_reach}
use Rattle.node_model.specs.EditRefusals.{early_refusal}
use Rattle.node_model.specs.EditWalks.{edit_walk}
use Rattle.node_model.specs.Fresh.{fresh_slot}
use Rattle.node_model.specs.Graph.{Graph, edit_changing, edited, graph_changed}
use Rattle.node_model.specs.KeyKinds.{has_sig, owns_table}
use Rattle.node_model.specs.Lists.{tokens_slot}
use Rattle.node_model.specs.Nodes.{Nodes, next_row, row_status}
use Rattle.node_model.specs.Replies.{all_slots}
use Rattle.node_model.specs.RowLists.{added_lists, added_table}
use Rattle.node_model.specs.Walk.{looked, said}
use Rattle.node_model.specs.declared.change.Change.{Change}
use Rattle.node_model.specs.declared.change.RowChange.TheVariants.{Made}
use Rattle.node_model.specs.declared.edit.Edit.{Edit}
use Rattle.node_model.specs.declared.edit.OptSig.TheVariants as sigs
use Rattle.node_model.specs.declared.key.Key.{Key}
use Rattle.node_model.specs.declared.key.Key.TheVariants.{Body, Owned}
use Rattle.node_model.specs.declared.nodes.RowStatus.TheVariants.{Live}
use Rattle.node_model.specs.declared.slot.Slot.TheVariants as slots
use Rattle.node_model.specs.declared.value.BodyValue.TheVariants.{NoBody}
use Rattle.node_model.specs.declared.value.Value.TheVariants as values
use Rattle.cil_gen.specs.GenEdits.{GenStep, body_step, field_cells, field_sig, field_step, gen_method, gen_type, method_cells, method_sig, method_step, returning, type_cells, type_step}
use Rattle.cil_gen.proofs.SigLemmas.{field_tokens, method_tokens}
use Rattle.cil_gen.proofs.TextLemmas.{decimal_has_none, none_is_zero}

-- so many rows of each table that is added to, none removed, and a list of types
pub record Counts (t f m : ℕ) (g : Graph) : Type 0 where
  pub types : g.nodes.rows 0x02 ≡ t
  pub fields : g.nodes.rows 0x04 ≡ f
  pub methods : g.nodes.rows 0x06 ≡ m
  pub removed : g.nodes.removed ≡ []
  pub listed : (ts : List Token) × (g.held (Owned root 0x02) ≡ tokens_slot ts)

-- the type of a number, which owns so many methods
pub record Owns (i j : ℕ) (g : Graph) : Type 0 where
  pub counts : Counts (i + 2) (i + 1) (3 * i + j) g
  pub methods : (ts : List Token) × (length ts ≡ j) × (g.held (Owned (gen_type i) 0x06) ≡ tokens_slot ts)

-- an edit that changes the graph so
changing : (g : Graph) (e : Edit) (change : Change) → early_refusal g.nodes e ≡ None → said (λ k. Some (g.held k)) (edit_walk g.nodes e) ≡ Ok (Ok change)
    → edit_changing g e ≡ Ok change
unfolding edit_changing
changing g e change early says = rw (early, says) refl

-- an edit that looks at these keys
looks : (g : Graph) (e : Edit) (ks : List Key) → early_refusal g.nodes e ≡ None → looked (all_slots g) (edit_walk g.nodes e) ≡ ks → edit_reach g e ≡ ks
unfolding edit_reach
looks g e ks early keys = rw (early, keys) refl

becomes : (g : Graph) (e : Edit) (change : Change) → edit_changing g e ≡ Ok change → edited g e ≡ graph_changed g change
unfolding edited
becomes g e change is = rw is refl

-- early refusals
type_early : (n : Nodes) (i : ℕ) → n.rows 0x02 < 16777215 → early_refusal n (type_step i).edit ≡ None
unfolding early_refusal bad_row added_table has_sig tables
type_early n i room =
    let full : nat_le 16777215 (n.rows 0x02) ≡ false = grind (arith, nat_tests) in
    rw (none_is_zero (codes "T" ++ decimal i) (decimal_has_none i), full) refl

field_early : (n : Nodes) (i : ℕ) → row_status n (gen_type i) ≡ Live → n.rows 0x04 < 16777215 → early_refusal n (field_step i).edit ≡ None
unfolding early_refusal bad_row owns_table has_sig tables
field_early n i live room =
    let full : nat_le 16777215 (n.rows 0x04) ≡ false = grind (arith, nat_tests) in
    rw (live, field_tokens, full) refl

method_early : (n : Nodes) (i j : ℕ) → row_status n (gen_type i) ≡ Live → n.rows 0x06 < 16777215 → early_refusal n (method_step i j).edit ≡ None
unfolding early_refusal bad_row owns_table has_sig tables
method_early n i j live room =
    let full : nat_le 16777215 (n.rows 0x06) ≡ false = grind (arith, nat_tests) in
    rw (live, none_is_zero (codes "m" ++ decimal j) (decimal_has_none j), method_tokens, full) refl

body_early : (n : Nodes) (i j : ℕ) → row_status n (gen_method i j) ≡ Live → early_refusal n (body_step i j).edit ≡ None
unfolding early_refusal bad_row
body_early n i j live = rw live refl

-- a row that was counted is live where none was removed
live : (n : Nodes) (t : Token) → 0 < t.rid → t.rid ≤ n.rows t.table → n.removed ≡ [] → row_status n t ≡ Live
live n t one within none =
    let low : nat_lt 0 t.rid ≡ true = grind (arith, nat_tests) in
    let high : nat_le t.rid (n.rows t.table) ≡ true = grind (arith, nat_tests) in
    rw (low, high, none) refl

-- an edit is done as counted
pub record IsDone (g : Graph) (step : GenStep) : Type 0 where
  pub answer : edit_answer g step.edit ≡ Ok step.made
  pub reach : edit_reach g step.edit ≡ step.key ∷ []

-- and the graph is so after it
pub record Does (g : Graph) (step : GenStep) (After : Graph → Type 0) : Type 0 where
  pub done : IsDone g step
  pub after : After (edited g step.edit)

-- the type of a number is there, without a field or a method
pub record Begun (i : ℕ) (g : Graph) : Type 0 where
  pub counts : Counts (i + 2) i (3 * i) g
  pub fields : g.held (Owned (gen_type i) 0x04) ≡ tokens_slot []
  pub methods : g.held (Owned (gen_type i) 0x06) ≡ tokens_slot []

-- its method of a number is there, without a body
pub record HasMethod (i j : ℕ) (g : Graph) : Type 0 where
  pub counts : Counts (i + 2) (i + 1) (3 * i + j + 1) g
  pub methods : (ts : List Token) × (length ts ≡ j + 1) × (g.held (Owned (gen_type i) 0x06) ≡ tokens_slot ts)
  pub body : g.held (Body (gen_method i j)) ≡ slots.Value (values.Body NoBody)

-- the change that adds the type of a number to a list of types
abbrev type_change : Graph → ℕ → List Token → Change
type_change g i ts = row_added (new_row g.nodes 0x02 (type_cells i)) sigs.None ((Owned root 0x02, ts) ∷ [])

type_changes : (g : Graph) (i : ℕ) (ts : List Token) → g.nodes.rows 0x02 < 16777215 → g.held (Owned root 0x02) ≡ tokens_slot ts
    → edit_changing g (type_step i).edit ≡ Ok (type_change g i ts)
unfolding edit_walk added_lists tables
type_changes g i ts room listed = changing g (type_step i).edit (type_change g i ts) (type_early g.nodes i room) (rw listed refl)

type_looks : (g : Graph) (i : ℕ) (ts : List Token) → g.nodes.rows 0x02 < 16777215 → g.held (Owned root 0x02) ≡ tokens_slot ts
    → edit_reach g (type_step i).edit ≡ Owned root 0x02 ∷ []
unfolding edit_walk added_lists tables
type_looks g i ts room listed = looks g (type_step i).edit (Owned root 0x02 ∷ []) (type_early g.nodes i room) (rw listed refl)

type_begun : (g : Graph) (i : ℕ) (ts : List Token) → Counts (i + 1) i (3 * i) g → Begun i (graph_changed g (type_change g i ts))
unfolding changed_slot fresh_slot owns_table tables
type_begun g i ts c =
    let next : suc (g.nodes.rows 0x02) ≡ i + 2 = omega arith in
    let same : (suc (g.nodes.rows 0x02) == i + 2) ≡ true = eq-eqb (suc (g.nodes.rows 0x02)) (i + 2) next in
    record {
      counts = record { types = next; fields = c.fields; methods = c.methods; removed = c.removed; listed = (ts ++ next_row g.nodes 0x02 ∷ [], refl) };
      fields = rw same refl;
      methods = rw same refl;
    }

pub type_does : (g : Graph) (i : ℕ) → i < 10000 → Counts (i + 1) i (3 * i) g → Does g (type_step i) (Begun i)
type_does g i few c =
    let changes = type_changes g i c.listed.0 (omega arith) c.listed.1 in
    let next : suc (g.nodes.rows 0x02) ≡ i + 2 = omega arith in
    record {
      done = record { answer = rw (changes, next) refl; reach = type_looks g i c.listed.0 (omega arith) c.listed.1 };
      after = subst (Begun i) (sym (becomes g (type_step i).edit _ changes)) (type_begun g i c.listed.0 c);
    }

-- the change that puts a new row before a place of a list
abbrev field_change : Graph → ℕ → Change
field_change g i = record {
  contents = (Owned (gen_type i) 0x04, tokens_slot (next_row g.nodes 0x04 ∷ [])) ∷ [];
  rows = Made (new_row g.nodes 0x04 field_cells) (sigs.Is field_sig);
}

field_changes : (g : Graph) (i : ℕ) → i < 10000 → Begun i g → edit_changing g (field_step i).edit ≡ Ok (field_change g i)
unfolding edit_walk
field_changes g i few c =
    let there = live g.nodes (gen_type i) (omega arith) (omega arith) c.counts.removed in
    changing g (field_step i).edit (field_change g i) (field_early g.nodes i there (omega arith)) (rw c.fields refl)

field_looks : (g : Graph) (i : ℕ) → i < 10000 → Begun i g → edit_reach g (field_step i).edit ≡ Owned (gen_type i) 0x04 ∷ []
unfolding edit_walk
field_looks g i few c =
    let there = live g.nodes (gen_type i) (omega arith) (omega arith) c.counts.removed in
    looks g (field_step i).edit (Owned (gen_type i) 0x04 ∷ []) (field_early g.nodes i there (omega arith)) (rw c.fields refl)

field_made : (g : Graph) (i : ℕ) → Begun i g → Owns i 0 (graph_changed g (field_change g i))
unfolding changed_slot fresh_slot
field_made g i c =
    let next : suc (g.nodes.rows 0x04) ≡ i + 1 = omega arith in
    let owner : (i + 2 == i + 2) ≡ true = eq-eqb (i + 2) (i + 2) refl in
    record {
      counts = record {
        types = c.counts.types;
        fields = next;
        methods = omega arith;
        removed = c.counts.removed;
        listed = c.counts.listed;
      };
      methods = ([], refl, rw owner c.methods);
    }

pub field_does : (g : Graph) (i : ℕ) → i < 10000 → Begun i g → Does g (field_step i) (Owns i 0)
field_does g i few c =
    let changes = field_changes g i few c in
    let next : suc (g.nodes.rows 0x04) ≡ i + 1 = omega arith in
    record {
      done = record { answer = rw (changes, next) refl; reach = field_looks g i few c };
      after = subst (Owns i 0) (sym (becomes g (field_step i).edit _ changes)) (field_made g i c);
    }

abbrev method_change : Graph → ℕ → ℕ → List Token → Change
method_change g i j ts = record {
  contents = (Owned (gen_type i) 0x06, tokens_slot (insert ts j (next_row g.nodes 0x06))) ∷ [];
  rows = Made (new_row g.nodes 0x06 (method_cells j)) (sigs.Is method_sig);
}

method_changes : (g : Graph) (i j : ℕ) → i < 10000 → j < 3 → (c : Owns i j g) → edit_changing g (method_step i j).edit ≡ Ok (method_change g i j c.methods.0)
unfolding edit_walk
method_changes g i j few three c =
    let there = live g.nodes (gen_type i) (omega arith) (omega arith) c.counts.removed in
    let len : length c.methods.0 ≡ j = c.methods.1 in
    let end : nat_le j (length c.methods.0) ≡ true = grind (arith, nat_tests) in
    changing g (method_step i j).edit (method_change g i j c.methods.0) (method_early g.nodes i j there (omega arith)) (rw (c.methods.2, end) refl)

method_looks : (g : Graph) (i j : ℕ) → i < 10000 → j < 3 → Owns i j g → edit_reach g (method_step i j).edit ≡ Owned (gen_type i) 0x06 ∷ []
unfolding edit_walk
method_looks g i j few three c =
    let there = live g.nodes (gen_type i) (omega arith) (omega arith) c.counts.removed in
    looks g (method_step i j).edit (Owned (gen_type i) 0x06 ∷ []) (method_early g.nodes i j there (omega arith)) (rw c.methods.2 refl)

method_made : (g : Graph) (i j : ℕ) → (c : Owns i j g) → HasMethod i j (graph_changed g (method_change g i j c.methods.0))
unfolding changed_slot fresh_slot
method_made g i j c =
    let next : suc (g.nodes.rows 0x06) ≡ 3 * i + j + 1 = omega arith in
    let same : (suc (g.nodes.rows 0x06) == 3 * i + j + 1) ≡ true = eq-eqb (suc (g.nodes.rows 0x06)) (3 * i + j + 1) next in
    let owner : (i + 2 == i + 2) ≡ true = eq-eqb (i + 2) (i + 2) refl in
    let len : length c.methods.0 ≡ j = c.methods.1 in
    let one = length-insert c.methods.0 j (next_row g.nodes 0x06) (omega arith) in
    let long : length (insert c.methods.0 j (next_row g.nodes 0x06)) ≡ j + 1 = omega arith in
    record {
      counts = record {
        types = c.counts.types;
        fields = c.counts.fields;
        methods = next;
        removed = c.counts.removed;
        listed = c.counts.listed;
      };
      methods = (insert c.methods.0 j (next_row g.nodes 0x06), long, rw owner refl);
      body = rw same refl;
    }

pub method_does : (g : Graph) (i j : ℕ) → i < 10000 → j < 3 → Owns i j g → Does g (method_step i j) (HasMethod i j)
method_does g i j few three c =
    let changes = method_changes g i j few three c in
    let next : suc (g.nodes.rows 0x06) ≡ 3 * i + j + 1 = omega arith in
    record {
      done = record { answer = rw (changes, next) refl; reach = method_looks g i j few three c };
      after = subst (HasMethod i j) (sym (becomes g (method_step i j).edit _ changes)) (method_made g i j c);
    }

abbrev body_change : ℕ → ℕ → Change
body_change i j = puts (Body (gen_method i j)) (values.Body (returning (3 * i + j)))

body_changes : (g : Graph) (i j : ℕ) → HasMethod i j g → edit_changing g (body_step i j).edit ≡ Ok (body_change i j)
unfolding edit_walk kind_of
body_changes g i j c =
    let there = live g.nodes (gen_method i j) (omega arith) (omega arith) c.counts.removed in
    changing g (body_step i j).edit (body_change i j) (body_early g.nodes i j there) (rw c.body refl)

body_looks : (g : Graph) (i j : ℕ) → HasMethod i j g → edit_reach g (body_step i j).edit ≡ Body (gen_method i j) ∷ []
unfolding edit_walk
body_looks g i j c =
    let there = live g.nodes (gen_method i j) (omega arith) (omega arith) c.counts.removed in
    looks g (body_step i j).edit (Body (gen_method i j) ∷ []) (body_early g.nodes i j there) (rw c.body refl)

body_set : (g : Graph) (i j : ℕ) → HasMethod i j g → Owns i (j + 1) (graph_changed g (body_change i j))
unfolding changed_slot
body_set g i j c = record {
  counts = record {
    types = c.counts.types;
    fields = c.counts.fields;
    methods = omega arith;
    removed = c.counts.removed;
    listed = c.counts.listed;
  };
  methods = c.methods;
}

pub body_does : (g : Graph) (i j : ℕ) → HasMethod i j g → Does g (body_step i j) (Owns i (j + 1))
body_does g i j c =
    let changes = body_changes g i j c in
    record {
      done = record { answer = rw changes refl; reach = body_looks g i j c };
      after = subst (Owns i (j + 1)) (sym (becomes g (body_step i j).edit _ changes)) (body_set g i j c);
    }
