-- Which keys a new row has, and what they begin with.
use Rattle.std.proofs.Common.{◌≡◌, refl, sym, ◌∙◌, ap, ℕ, Bool, true, false, Some, None, is_some, if◌then◌else◌, arith, tests}
use Rattle.std.specs.Prelude.{◌&&◌, not}
use Rattle.std.specs.Result.{is_ok}
use Rattle.std.proofs.lemmas.Bool.{and_parts}
use Rattle.cil_base.specs.Token.{Token, root}
use Rattle.node_model.specs.Changes.{begun}
use Rattle.node_model.specs.declared.change.RowChange.{RowChange}
use Rattle.node_model.specs.declared.change.RowChange.TheVariants.{Stays, Made, Gone}
use Rattle.node_model.specs.ColumnFit.{sig_fits_table}
use Rattle.node_model.specs.Fresh.{begins_with, fresh_slot, is_key_of, sig_begins}
use Rattle.node_model.specs.KeyKinds.{has_kind, has_sig}
use Rattle.node_model.specs.Keys.{same_token, token_of_key}
use Rattle.node_model.specs.Nodes.{Nodes, next_row}
use Rattle.node_model.specs.Walk.{part}
use Rattle.node_model.specs.declared.edit.OptSig.{OptSig}
use Rattle.node_model.specs.declared.edit.OptSig.TheVariants as sigs
use Rattle.node_model.specs.declared.key.Key.{Key}
use Rattle.node_model.specs.declared.key.Key.TheVariants as keys
use Rattle.node_model.specs.declared.slot.Slot.{Slot}
use Rattle.node_model.specs.declared.value.RowValue.{RowValue}
use Rattle.node_model.specs.inner.KeyEquality.{token_is}
use Rattle.node_model.proofs.RowLemmas.{SoundRows, is_made}

sig_some : (table : ℕ) (sig : OptSig) → sig_fits_table table sig ≡ true → has_sig table ≡ true → is_some (sig_begins sig) ≡ true
sig_some table (sigs.Is sig) fits has = refl
sig_some table sigs.None fits has = absurd (no (has_sig table) fits has)
  where
    no : (x : Bool) → not x ≡ true → x ≡ true → ⊥
    no true fits has = cc
    no false fits has = cc

root_is_none : (n : Nodes) (table : ℕ) → same_token (next_row n table) root ≡ false
root_is_none n table = grind (arith, tests)

-- each key of the row begins with something: a signature is there where the table has one
begins_some : (n : Nodes) (row : RowValue) (sig : OptSig) (k : Key) → row.token ≡ next_row n row.token.table → sig_fits_table row.token.table sig ≡ true
    → is_key_of row.token k ≡ true → is_some (begins_with row sig k) ≡ true
begins_some n row sig (keys.Row t) next fits e = refl
begins_some n row sig (keys.Sig t) next fits e =
    let parts = and_parts (same_token row.token t) (has_sig t.table) e in
    let same : row.token ≡ t = token_is row.token t parts.0 in
    sig_some row.token.table sig fits (ap (λ (x : Token). has_sig x.table) same ∙ parts.1)
begins_some n row sig (keys.Owned t m) next fits e = refl
begins_some n row sig (keys.Linked t l) next fits e = refl
begins_some n row sig (keys.Body t) next fits e = refl
begins_some n row sig (keys.Data t) next fits e = refl
begins_some n row sig (keys.Resource t) next fits e = refl
begins_some n row sig keys.Facts next fits e =
    let none : same_token row.token root ≡ false = ap (λ t. same_token t root) next ∙ root_is_none n row.token.table in
    let is : same_token row.token root ≡ true = (and_parts (same_token row.token root) true e).0 in
    absurd cc

fresh_some : (n : Nodes) (row : RowValue) (sig : OptSig) (k : Key) → row.token ≡ next_row n row.token.table → sig_fits_table row.token.table sig ≡ true
    → is_some (fresh_slot row sig k) ≡ is_key_of row.token k
unfolding fresh_slot
fresh_some n row sig k next fits = by_key (is_key_of row.token k) refl
  where
    by_key : (x : Bool) → is_key_of row.token k ≡ x → is_some (if x then begins_with row sig k else None) ≡ x
    by_key true is = begins_some n row sig k next fits is
    by_key false is = refl

-- the keys that begin with something are those of the row that is made
pub begun_some : (n : Nodes) (c : RowChange) (k : Key) → SoundRows n c → is_some (begun c k) ≡ (is_made c (token_of_key k) && has_kind k)
begun_some n Stays k sound = refl
begun_some n (Made row sig) k sound = fresh_some n row sig k sound.token sound.fits
begun_some n (Gone t) k sound = refl

some_is : {A : Type 0} (x y : A) → Some x ≡ Some y → x ≡ y
some_is x y e = cc

begins_fit : (row : RowValue) (sig : OptSig) (k : Key) (s : Slot) → begins_with row sig k ≡ Some s → is_ok (part k (Some s)) ≡ true
begins_fit row sig (keys.Row t) s e = rw (sym (some_is _ s e)) refl
begins_fit row (sigs.Is sig) (keys.Sig t) s e = rw (sym (some_is _ s e)) refl
begins_fit row sigs.None (keys.Sig t) s e = absurd cc
begins_fit row sig (keys.Owned t m) s e = rw (sym (some_is _ s e)) refl
begins_fit row sig (keys.Linked t l) s e = rw (sym (some_is _ s e)) refl
begins_fit row sig (keys.Body t) s e = rw (sym (some_is _ s e)) refl
begins_fit row sig (keys.Data t) s e = rw (sym (some_is _ s e)) refl
begins_fit row sig (keys.Resource t) s e = rw (sym (some_is _ s e)) refl
begins_fit row sig keys.Facts s e = absurd cc

fresh_fit : (row : RowValue) (sig : OptSig) (k : Key) (s : Slot) → fresh_slot row sig k ≡ Some s → is_ok (part k (Some s)) ≡ true
unfolding fresh_slot
fresh_fit row sig k s e = by_key (is_key_of row.token k) e
  where
    by_key : (x : Bool) → (if x then begins_with row sig k else None) ≡ Some s → is_ok (part k (Some s)) ≡ true
    by_key true e = begins_fit row sig k s e
    by_key false e = absurd cc

-- what a key begins with is a value of its kind
pub begun_fit : (c : RowChange) (k : Key) (s : Slot) → begun c k ≡ Some s → is_ok (part k (Some s)) ≡ true
begun_fit Stays k s e = absurd cc
begun_fit (Made row sig) k s e = fresh_fit row sig k s e
begun_fit (Gone t) k s e = absurd cc
