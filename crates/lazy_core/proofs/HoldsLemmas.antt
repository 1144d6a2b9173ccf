-- What holds of a core, kept by each of its steps.
use Rattle.std.proofs.Common.{◌≡◌, refl, sym, ◌∙◌, ap, subst, ℕ, zero, suc, ◌+◌, Bool, true, false, List, [], ◌∷◌, ◌++◌, Option, Some, None, if◌then◌else◌, is_none, is_some, length, not, replicate, arith}
use Rattle.std.specs.Prelude.{◌&&◌, ◌||◌, slice_index}
use Rattle.std.specs.List.{list_any}
use Rattle.std.specs.Map.{lookup}
use Rattle.std.specs.Option.{option_or}
use Rattle.cil_base.specs.Token.{Token}
use Rattle.node_model.specs.Changes.{begun}
use Rattle.node_model.specs.Graph.{Graph, untouched}
use Rattle.node_model.specs.Immediate.{read}
use Rattle.node_model.specs.KeyKinds.{has_kind}
use Rattle.node_model.specs.Keys.{image_rows, is_key, is_key_there, same_key, token_of_key}
use Rattle.node_model.specs.Nodes.{Nodes, is_added, nodes_of}
use Rattle.node_model.specs.Places.{image_shape, key_place}
use Rattle.node_model.specs.declared.change.Change.{Change}
use Rattle.node_model.specs.declared.edit.Edit.{Edit as EditOf}
use Rattle.node_model.specs.declared.entry.By.{By}
use Rattle.node_model.specs.declared.entry.Entry.{Entry}
use Rattle.node_model.specs.declared.entry.Entry.TheVariants.{Fill, Edit}
use Rattle.node_model.specs.declared.entry.Why.{Why}
use Rattle.node_model.specs.declared.key.Key.{Key}
use Rattle.node_model.specs.declared.slot.Slot.{Slot}
use Rattle.node_model.specs.inner.KeyEquality.{key_is, key_turned}
use Rattle.slot_store.specs.Shape.{is_in_shape}
use Rattle.node_model.proofs.PlaceLemmas.{in_image_shape}
use Rattle.node_model.proofs.AddedLemmas.{Grown, added_after}
use Rattle.node_model.proofs.FreshLemmas.{begun_some}
use Rattle.node_model.proofs.RowLemmas.{SoundRows, is_made}
use Rattle.node_model.proofs.SoundLemmas.{Sound}
use Rattle.node_model.proofs.StayLemmas.{grown}
use Rattle.node_model.proofs.StepLemmas.{found_has}
use Rattle.graph_edits.proofs.NextLemmas.{done}
use Rattle.graph_edits.specs.Applying.{change_made}
use Rattle.graph_edits.specs.Graphs.{IsKept, IsMade, nodes_in, slots_in}
use Rattle.graph_edits.specs.Stands.{Stands}
use Rattle.graph_edits.specs.declared.graph.EditGraph.{EditGraph}
use Rattle.lazy_core.specs.History.{edits, filled, graph_after, is_fill_of}
use Rattle.lazy_core.specs.Legal.{MayEdit, WasWanted}
use Rattle.lazy_core.specs.Slots.{Holds, slot_after}
use Rattle.lazy_core.specs.Steps.{history_after, published}
use Rattle.lazy_core.specs.declared.wanted.Published.TheVariants.{Already, Stored}
use Rattle.lazy_core.specs.declared.wanted.Wanted.{Wanted}
use Rattle.lazy_core.proofs.ChangeLemmas.{sound_made}
use Rattle.lazy_core.proofs.GrowLemmas.{filled_there, legal_done, legal_more}
use Rattle.lazy_core.proofs.HistoryLemmas.{edits_edit, filled_more, fills_of_edit, graph_fill, none_filled}
use Rattle.lazy_core.proofs.LawLemmas.{unfilled}

-- what a slot says of its key
pub slot_after_some : (b : List ℕ) (h : List Entry) (k : Key) → is_some (slot_after b h k) ≡ filled b h k
unfolding slot_after
slot_after_some b h k = by_filled (filled b h k)
  where
    by_filled : (x : Bool) → is_some (if x then Some ((graph_after b h).held k) else None) ≡ x
    by_filled true = refl
    by_filled false = refl

pub slot_after_none : (b : List ℕ) (h : List Entry) (k : Key) → filled b h k ≡ false → slot_after b h k ≡ None
unfolding slot_after
slot_after_none b h k free = rw free refl

pub slot_after_full : (b : List ℕ) (h : List Entry) (k : Key) → filled b h k ≡ true → slot_after b h k ≡ Some ((graph_after b h).held k)
unfolding slot_after
slot_after_full b h k full = rw full refl

pub has_slot : (b : List ℕ) (h : List Entry) (k : Key) (s : Slot) → Some s ≡ slot_after b h k → (filled b h k ≡ true) × (s ≡ (graph_after b h).held k)
has_slot b h k s e =
    let full : filled b h k ≡ true = sym (slot_after_some b h k) ∙ ap is_some (sym e) in
    let same : Some s ≡ Some ((graph_after b h).held k) = e ∙ slot_after_full b h k full in
    (full, cc)

pub no_slot : (b : List ℕ) (h : List Entry) (k : Key) → None ≡ slot_after b h k → filled b h k ≡ false
no_slot b h k e = sym (slot_after_some b h k) ∙ ap is_some (sym e)

pub free_is : (b : List ℕ) (h : List Entry) (g : EditGraph) (k : Key) → Holds b h g → is_none (slots_in g k) ≡ not (filled b h k)
free_is b h g k holds = none_is (slots_in g k) ∙ ap not (ap is_some (holds.slot k) ∙ slot_after_some b h k)
  where
    none_is : (o : Option Slot) → is_none o ≡ not (is_some o)
    none_is (Some s) = refl
    none_is None = refl

-- a key of the image has a place in the store
pub in_store : (b : List ℕ) (h : List Entry) (g : EditGraph) (k : Key) → Holds b h g → is_key b k ≡ true → is_in_shape g.slots.shape (key_place k) ≡ true
unfolding is_key
in_store b h g k holds known =
    ap (λ s. is_in_shape s (key_place k)) holds.shape
    ∙ in_image_shape g.rows k holds.long
    ∙ ap (λ (rows : ℕ → ℕ). is_key_there rows k && has_kind k) same
    ∙ known
  where
    same : slice_index g.rows ≡ image_rows b
    same = λ i table. holds.rows table i

-- what is said to a want, and the history after it, where its key is filled and where it is not
pub already : (b : List ℕ) (h : List Entry) (w : Wanted) → filled b h w.key ≡ true → (Already ≡ published b h w) × (h ≡ history_after b h w)
already b h w full = rw full (refl, refl)

pub stored : (b : List ℕ) (h : List Entry) (w : Wanted) → filled b h w.key ≡ false
    → (Stored ≡ published b h w) × (h ++ Fill w.by w.point w.why w.key ∷ [] ≡ history_after b h w)
stored b h w free = rw free (refl, refl)

-- an image of which nothing is filled
zeros : (n i : ℕ) → slice_index (replicate n 0) i ≡ zero
zeros zero i = refl
zeros (suc n) zero = refl
zeros (suc n) (suc i) = zeros n i

pub none_added : (b : List ℕ) (rows : List ℕ) → ((table : ℕ) → slice_index rows table ≡ image_rows b table) → nodes_of rows (replicate 64 0) [] ≡ (untouched b).nodes
none_added b rows same = λ i. record { rows = λ table. count table i; removed = [] }
  where
    count : (table : ℕ) → slice_index rows table + slice_index (replicate 64 0) table ≡ image_rows b table
    count table = omega (arith, same table, zeros 64 table)

pub holds_opened : (b : List ℕ) (rows : List ℕ) (g : EditGraph) → ((table : ℕ) → slice_index rows table ≡ image_rows b table)
    → length rows ≡ 64 → nodes_in g ≡ nodes_of rows (replicate 64 0) [] → ((k : Key) → slots_in g k ≡ None) → g.rows ≡ rows → g.slots.shape ≡ image_shape rows → Holds b [] g
holds_opened b rows g same long nodes slots is shape = record {
  legal = tt;
  nodes = nodes ∙ none_added b rows same;
  slot = λ k. slots k ∙ sym (slot_after_none b [] k (none_filled b k));
  rows = λ table. ap (λ r. slice_index r table) is ∙ same table;
  long = ap length is ∙ long;
  shape = shape ∙ ap image_shape (sym is);
}

-- a graph of which nothing that is seen has changed
pub holds_kept : (b : List ℕ) (h : List Entry) (old new : EditGraph) → Holds b h old → IsKept old new → Holds b h new
holds_kept b h old new holds same = record {
  legal = holds.legal;
  nodes = same.nodes ∙ holds.nodes;
  slot = λ k. same.slots k ∙ holds.slot k;
  rows = λ table. ap (λ r. slice_index r table) same.rows ∙ holds.rows table;
  long = ap length same.rows ∙ holds.long;
  shape = same.shape ∙ holds.shape ∙ ap image_shape (sym same.rows);
}

-- a graph in which one key more, that was wanted, has what the file says
pub holds_fill : (b : List ℕ) (h : List Entry) (old new : EditGraph) (by : By) (point : ℕ) (why : Why) (key : Key) (slot : Slot)
    → Holds b h old → WasWanted b h point why key → filled b h key ≡ false → slot ≡ read b key
    → nodes_in new ≡ nodes_in old → new.rows ≡ old.rows → new.slots.shape ≡ old.slots.shape
    → ((k : Key) → slots_in new k ≡ (if same_key key k then Some slot else slots_in old k))
    → Holds b (h ++ Fill by point why key ∷ []) new
unfolding slot_after
holds_fill b h old new by point why key slot holds wanted free is nodes rows shape slots = record {
  legal = legal_more b [] h (Fill by point why key) holds.legal (wanted, free);
  nodes = nodes ∙ holds.nodes ∙ ap (λ (g : Graph). g.nodes) (sym stays);
  slot = λ k. slots k
      ∙ by_same k (same_key key k) refl
      ∙ ap (λ x. if x then Some ((graph_after b h).held k) else None) (sym (filled_more b h by point why key k))
      ∙ ap (λ (g : Graph). if filled b (h ++ Fill by point why key ∷ []) k then Some (g.held k) else None) (sym stays);
  rows = λ table. ap (λ r. slice_index r table) rows ∙ holds.rows table;
  long = ap length rows ∙ holds.long;
  shape = shape ∙ holds.shape ∙ ap image_shape (sym rows);
}
  where
    stays : graph_after b (h ++ Fill by point why key ∷ []) ≡ graph_after b h
    stays = graph_fill b h by point why key

    or_true : (x : Bool) → (x || true) ≡ true
    or_true true = refl
    or_true false = refl

    or_false : (x : Bool) → (x || false) ≡ x
    or_false true = refl
    or_false false = refl

    by_same : (k : Key) (x : Bool) → same_key key k ≡ x
        → (if x then Some slot else slots_in old k) ≡ (if (filled b h k || same_key k key) then Some ((graph_after b h).held k) else None)
    by_same k true same =
        rw (sym (key_turned key k) ∙ same, or_true (filled b h k))
        (ap Some (is ∙ sym (unfilled b h key holds.legal wanted.known free) ∙ ap (graph_after b h).held (key_is key k same)))
    by_same k false same = rw (sym (key_turned key k) ∙ same, or_false (filled b h k)) (holds.slot k)

-- a core's graph stands for the image after the edits of its history
pub stands : (b : List ℕ) (h : List Entry) (g : EditGraph) → Holds b h g → Stands b (edits h) g
unfolding filled
stands b h g holds = record {
  graph = record {
    done = legal_done b h holds.legal;
    nodes = holds.nodes;
    known = λ k some. subst (λ (n : Nodes). (is_key_there n.rows k && has_kind k) ≡ true) (sym holds.nodes)
        (filled_there b h k holds.legal (sym (full k) ∙ some));
    slot = λ k s some. (has_slot b h k s (sym some ∙ holds.slot k)).1;
    added = λ k is. full k ∙ or_right (list_any (is_fill_of k) h) _
        (subst (λ n. (is_added b n (token_of_key k) && has_kind k) ≡ true) holds.nodes is);
  };
  rows = holds.rows;
  shape = holds.shape;
}
  where
    full : (k : Key) → is_some (slots_in g k) ≡ filled b h k
    full k = ap is_some (holds.slot k) ∙ slot_after_some b h k

    or_right : (x y : Bool) → y ≡ true → (x || y) ≡ true
    or_right true y e = refl
    or_right false y e = e

-- what is filled once an edit more is done: what was filled, and the keys of the row that it makes
then_filled : (b : List ℕ) (h : List Entry) (old new : EditGraph) (by : By) (e : EditOf) (c : Change) (k : Key)
    → nodes_in old ≡ (graph_after b h).nodes → SoundRows (nodes_in old) c.rows → IsMade old c new → nodes_in new ≡ (graph_after b (h ++ Edit by (e ∷ []) ∷ [])).nodes
    → (filled b h k || (is_made c.rows (token_of_key k) && has_kind k)) ≡ filled b (h ++ Edit by (e ∷ []) ∷ []) k
unfolding filled
then_filled b h old new by e c k was sound is nodes =
    ap (λ (n : Nodes). (F || (is_added b n t && has_kind k)) || (is_made c.rows t && has_kind k)) (sym was)
    ∙ sym (turned F (is_added b (nodes_in old) t) (is_made c.rows t) (has_kind k))
    ∙ ap (λ x. F || (x && has_kind k)) (sym (added_after b (nodes_in old) c.rows t grown_here sound))
    ∙ ap (λ (n : Nodes). F || (is_added b n t && has_kind k)) (sym is.nodes ∙ nodes)
    ∙ ap (λ x. x || (is_added b (graph_after b (h ++ Edit by (e ∷ []) ∷ [])).nodes t && has_kind k)) (sym (fills_of_edit h by (e ∷ []) k))
  where
    t : Token
    t = token_of_key k

    F : Bool
    F = list_any (is_fill_of k) h

    grown_here : Grown b (nodes_in old)
    grown_here = subst (Grown b) (sym was) (grown b (edits h))

    turned : (f a m kind : Bool) → (f || ((a || m) && kind)) ≡ ((f || (a && kind)) || (m && kind))
    turned true a m kind = refl
    turned false true true true = refl
    turned false true true false = refl
    turned false true false true = refl
    turned false true false false = refl
    turned false false m kind = refl

some_or : (l o m : Option Slot) → (is_some l ≡ true → is_some o ≡ true) → is_some (option_or l (option_or o m)) ≡ (is_some o || is_some m)
some_or None None m has = refl
some_or None (Some s) m has = refl
some_or (Some s) (Some r) m has = refl
some_or (Some s) None m has = let no : false ≡ true = has refl in absurd cc

-- a graph that was changed by an edit
pub holds_edit : (b : List ℕ) (h : List Entry) (old new : EditGraph) (by : By) (e : EditOf) (c : Change)
    → Holds b h old → MayEdit b h (e ∷ []) → change_made (nodes_in old) (slots_in old) e ≡ Some c → IsMade old c new
    → Holds b (h ++ Edit by (e ∷ []) ∷ []) new
holds_edit b h old new by e c holds may made is = record {
  legal = legal_more b [] h (Edit by (e ∷ [])) holds.legal may;
  nodes = nodes;
  slot = λ k. by_slot k (slots_in new k) refl;
  rows = next.rows;
  long = ap length is.rows ∙ holds.long;
  shape = next.shape;
}
  where
    next : Stands b (edits (h ++ Edit by (e ∷ []) ∷ [])) new
    next = subst (λ j. Stands b j new) (sym (edits_edit h by e)) (done b (edits h) old new e c (stands b h old holds) made is)

    nodes : nodes_in new ≡ (graph_after b (h ++ Edit by (e ∷ []) ∷ [])).nodes
    nodes = next.graph.nodes

    sound : Sound (nodes_in old) (λ k. is_some (slots_in old k)) c
    sound = sound_made (nodes_in old) (slots_in old) e c made

    full : (k : Key) → is_some (slots_in new k) ≡ filled b (h ++ Edit by (e ∷ []) ∷ []) k
    full k =
        ap is_some (is.slots k)
        ∙ some_or (lookup (same_key k) c.contents) (slots_in old k) (begun c.rows k) (found_has (λ q. is_some (slots_in old q)) c.contents k sound.have)
        ∙ ap (λ x. x || is_some (begun c.rows k)) (ap is_some (holds.slot k) ∙ slot_after_some b h k)
        ∙ ap (λ x. filled b h k || x) (begun_some (nodes_in old) c.rows k sound.rows)
        ∙ then_filled b h old new by e c k holds.nodes sound.rows is nodes

    by_slot : (k : Key) (o : Option Slot) → slots_in new k ≡ o → slots_in new k ≡ slot_after b (h ++ Edit by (e ∷ []) ∷ []) k
    by_slot k None none =
        none ∙ sym (slot_after_none b (h ++ Edit by (e ∷ []) ∷ []) k (sym (full k) ∙ ap is_some none))
    by_slot k (Some s) some =
        some ∙ ap Some (next.graph.slot k s some) ∙ sym (slot_after_full b (h ++ Edit by (e ∷ []) ∷ []) k (sym (full k) ∙ ap is_some some))
