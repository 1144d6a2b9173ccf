-- Slots after they were put in, replaced and taken out again.
use Rattle.std.proofs.Common.{◌≡◌, ◌∙◌, refl, sym, ap, Bool, true, false, cond, ◌||◌, List, [], ◌∷◌, ◌++◌, Option, Some, None, is_some, is_none}
use Rattle.std.specs.List.{list_any}
use Rattle.std.specs.Map.{lookup}
use Rattle.std.specs.Option.{option_or}
use Rattle.std.proofs.lemmas.Bool.{and_parts}
use Rattle.slot_store.specs.SlotMap.{ChangesSlot, PutsSlot, SlotMap}
use Rattle.node_model.specs.Changes.{begun}
use Rattle.node_model.specs.Fresh.{begins_with, fresh_slot, is_key_of}
use Rattle.node_model.specs.Keys.{same_key}
use Rattle.node_model.specs.Places.{key_place, row_keys, slot_at}
use Rattle.node_model.specs.contracts.key.KeyPartialEq.TheImpl.{eq-value}
use Rattle.node_model.specs.declared.change.RowChange.{RowChange}
use Rattle.node_model.specs.declared.edit.OptSig.{OptSig}
use Rattle.node_model.specs.declared.key.Key.{Key}
use Rattle.node_model.specs.declared.slot.Slot.{Slot}
use Rattle.node_model.specs.declared.value.RowValue.{RowValue}
use Rattle.node_model.specs.inner.KeyEquality.{eq_is_same, key_is, key_turned}
use Rattle.graph_edits.specs.inner.Making.{BeginsOne, RowsBegin, SlotsKept, WritesSlot, all_filled, begun_among}

-- one key has another slot, by the definitions' test of keys
pub changed : (old new : SlotMap Key Slot) (k : Key) (slot : Option Slot) → ChangesSlot key_place (eq-value).it old new k slot
    → (q : Key) → slot_at new q ≡ cond (same_key q k) slot (slot_at old q)
changed old new k slot changes q = changes q ∙ ap (λ t. cond t slot (slot_at old q)) (eq_is_same k q ∙ key_turned k q)

pub or_none : {A : Type 0} (o : Option A) → option_or o None ≡ o
or_none (Some x) = refl
or_none None = refl

pub or_or : {A : Type 0} (a b c : Option A) → option_or (option_or a b) c ≡ option_or a (option_or b c)
or_or (Some x) b c = refl
or_or None b c = refl

-- a key gets its first slot
begins_new : (old new : SlotMap Key Slot) (row : RowValue) (sig : OptSig) (k : Key) (s : Slot) → begins_with row sig k ≡ Some s
    → slot_at old k ≡ None → ChangesSlot key_place (eq-value).it old new k (Some s) → BeginsOne old new row sig k true
begins_new old new row sig k s is free changes = record { free = λ e. free; kept = λ e. absurd cc; slots = each }
  where
    at : (q : Key) (t : Bool) → same_key q k ≡ t → cond t (Some s) (slot_at old q) ≡ option_or (slot_at old q) (cond t (begins_with row sig k) None)
    at q true e = sym (ap (λ o. option_or o (begins_with row sig k)) (ap (slot_at old) (key_is q k e) ∙ free) ∙ is)
    at q false e = sym (or_none (slot_at old q))

    each : (q : Key) → slot_at new q ≡ option_or (slot_at old q) (cond (same_key q k) (begins_with row sig k) None)
    each q = changed old new k (Some s) changes q ∙ at q (same_key q k) refl

-- a key has a slot already
begins_filled : (old new : SlotMap Key Slot) (row : RowValue) (sig : OptSig) (k : Key) → is_none (slot_at old k) ≡ false → new ≡ old
    → BeginsOne old new row sig k false
begins_filled old new row sig k filled same = record { free = λ e. absurd cc; kept = λ e q. kept q; slots = λ q. kept q ∙ at q (same_key q k) refl }
  where
    kept : (q : Key) → slot_at new q ≡ slot_at old q
    kept q = ap (λ m. slot_at m q) same

    stays : (o : Option Slot) → is_none o ≡ false → o ≡ option_or o (begins_with row sig k)
    stays (Some s) e = refl
    stays None e = absurd cc

    at : (q : Key) (t : Bool) → same_key q k ≡ t → slot_at old q ≡ option_or (slot_at old q) (cond t (begins_with row sig k) None)
    at q true e = stays (slot_at old q) (ap (λ x. is_none (slot_at old x)) (key_is q k e) ∙ filled)
    at q false e = sym (or_none (slot_at old q))

-- by the answer
pub begins_by : (old new : SlotMap Key Slot) (row : RowValue) (sig : OptSig) (k : Key) (s : Slot) (is_new : Bool) → begins_with row sig k ≡ Some s
    → is_new ≡ is_none (slot_at old k) → PutsSlot key_place (eq-value).it old new k s is_new → BeginsOne old new row sig k is_new
begins_by old new row sig k s true is free puts = begins_new old new row sig k s is (none_is (slot_at old k) (sym free)) puts
  where
    none_is : (o : Option Slot) → is_none o ≡ true → o ≡ None
    none_is None e = refl
    none_is (Some x) e = absurd cc
begins_by old new row sig k s false is free same = begins_filled old new row sig k (sym free) same

-- a key begins with no slot
pub begins_none : (old : SlotMap Key Slot) (row : RowValue) (sig : OptSig) (k : Key) → begins_with row sig k ≡ None
    → BeginsOne old old row sig k false
begins_none old row sig k none = record { free = λ e. absurd cc; kept = λ e q. refl; slots = λ q. at q (same_key q k) }
  where
    at : (q : Key) (t : Bool) → slot_at old q ≡ option_or (slot_at old q) (cond t (begins_with row sig k) None)
    at q true = sym (ap (option_or (slot_at old q)) none ∙ or_none (slot_at old q))
    at q false = sym (or_none (slot_at old q))

-- the first slot of a key is taken out again
pub taken_back : (old mid late new : SlotMap Key Slot) (row : RowValue) (sig : OptSig) (k : Key) → BeginsOne old mid row sig k true
    → SlotsKept mid late → ChangesSlot key_place (eq-value).it late new k None → SlotsKept old new
taken_back old mid late new row sig k one kept changes q =
    changed late new k None changes q ∙ ap (cond (same_key q k) None) (kept q ∙ one.slots q) ∙ at (same_key q k) refl
  where
    at : (t : Bool) → same_key q k ≡ t → cond t None (option_or (slot_at old q) (cond t (begins_with row sig k) None)) ≡ slot_at old q
    at true e = sym (ap (slot_at old) (key_is q k e) ∙ one.free refl)
    at false e = or_none (slot_at old q)

-- the last of new contents is written first
pub written_last : (cs : List (Key × Slot)) (k q : Key) (s : Slot) (o : Option Slot)
    → option_or (lookup (same_key q) (cs ++ (k, s) ∷ [])) o ≡ option_or (lookup (same_key q) cs) (cond (same_key q k) (Some s) o)
written_last [] k q s o = by (same_key q k)
  where
    by : (t : Bool) → option_or (cond t (Some s) None) o ≡ cond t (Some s) o
    by true = refl
    by false = refl
written_last (c ∷ cs) k q s o = by (same_key q c.0) (written_last cs k q s o)
  where
    by : (t : Bool) → option_or (lookup (same_key q) (cs ++ (k, s) ∷ [])) o ≡ option_or (lookup (same_key q) cs) (cond (same_key q k) (Some s) o)
        → option_or (cond t (Some c.1) (lookup (same_key q) (cs ++ (k, s) ∷ []))) o ≡ option_or (cond t (Some c.1) (lookup (same_key q) cs)) (cond (same_key q k) (Some s) o)
    by true more = refl
    by false more = more

-- keys that have a slot still have one where others have one too
pub filled_still : (old new : SlotMap Key Slot) (cs : List (Key × Slot)) → ((q : Key) → is_some (slot_at old q) ≡ true → is_some (slot_at new q) ≡ true)
    → all_filled (slot_at old) cs ≡ true → all_filled (slot_at new) cs ≡ true
filled_still old new [] more e = refl
filled_still old new (c ∷ cs) more e =
    let parts = and_parts (is_some (slot_at old c.0)) (all_filled (slot_at old) cs) e in
    rw (more c.0 parts.0, filled_still old new cs more parts.1) refl

pub or_some : {A : Type 0} (o p : Option A) → is_some o ≡ true → is_some (option_or o p) ≡ true
or_some (Some x) p e = refl
or_some None p e = absurd cc

pub filled_begun : (old new : SlotMap Key Slot) (rows : RowChange) → RowsBegin old new rows → (q : Key) → is_some (slot_at old q) ≡ true → is_some (slot_at new q) ≡ true
filled_begun old new rows begins q e = ap is_some (begins q) ∙ or_some (slot_at old q) (begun rows q) e

pub filled_written : (old new : SlotMap Key Slot) (k : Key) (s : Slot) → WritesSlot old new k s → (q : Key) → is_some (slot_at old q) ≡ true → is_some (slot_at new q) ≡ true
filled_written old new k s writes q e = ap is_some (writes q) ∙ by (same_key q k)
  where
    by : (t : Bool) → is_some (cond t (Some s) (slot_at old q)) ≡ true
    by true = refl
    by false = e

-- the last of contents that all have slots
pub filled_last : (p : Key → Option Slot) (cs : List (Key × Slot)) (k : Key) (s : Slot) → all_filled p (cs ++ (k, s) ∷ []) ≡ true
    → (all_filled p cs ≡ true) × (is_some (p k) ≡ true)
filled_last p [] k s e = (refl, (and_parts (is_some (p k)) true e).0)
filled_last p (c ∷ cs) k s e =
    let parts = and_parts (is_some (p c.0)) (all_filled p (cs ++ (k, s) ∷ [])) e in
    let rest = filled_last p cs k s parts.1 in
    (rw (parts.0, rest.0) refl, rest.1)

-- what a key of a new row begins with, by the keys of the row
pub among_is : (row : RowValue) (sig : OptSig) (ks : List Key) (q : Key)
    → begun_among row sig ks q ≡ cond (list_any (same_key q) ks) (begins_with row sig q) None
among_is row sig [] q = refl
among_is row sig (k ∷ ks) q = by (same_key q k) refl (among_is row sig ks q)
  where
    twice : (x : Bool) (o : Option Slot) → option_or o (cond x o None) ≡ o
    twice x (Some s) = refl
    twice true None = refl
    twice false None = refl

    by : (t : Bool) → same_key q k ≡ t → begun_among row sig ks q ≡ cond (list_any (same_key q) ks) (begins_with row sig q) None
        → option_or (cond t (begins_with row sig k) None) (begun_among row sig ks q) ≡ cond (t || list_any (same_key q) ks) (begins_with row sig q) None
    by true e rest =
        ap (option_or (begins_with row sig k)) rest
        ∙ ap (λ x. option_or (begins_with row sig x) (cond (list_any (same_key q) ks) (begins_with row sig q) None)) (sym (key_is q k e))
        ∙ twice (list_any (same_key q) ks) (begins_with row sig q)
    by false e rest = rest

-- the keys of a new row begin as the definition says
pub begun_is : (row : RowValue) (sig : OptSig) → ((q : Key) → list_any (same_key q) (row_keys row.token) ≡ is_key_of row.token q)
    → (q : Key) → begun_among row sig (row_keys row.token) q ≡ fresh_slot row sig q
unfolding fresh_slot
begun_is row sig keys q =
    among_is row sig (row_keys row.token) q ∙ ap (λ t. cond t (begins_with row sig q) None) (keys q)
