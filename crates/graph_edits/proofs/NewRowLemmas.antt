-- A row more: its keys have no place among those of the image, and it is counted.
use Rattle.std.proofs.Common.{◌≡◌, ◌≢◌, ◌∙◌, refl, sym, ap, ◌<◌, ℕ, Bool, true, false, cond, List, [], ◌∷◌, Option, Some, None, arith}
use Rattle.std.specs.Prelude.{◌&&◌, nat_le, nat_lt, slice_index, slice_set}
use Rattle.std.specs.List.{list_any, position}
use Rattle.std.specs.Option.{option_map}
use Rattle.std.proofs.lemmas.Bool.{and_parts}
use Rattle.std.proofs.lemmas.Bool.Decides.{nat_tests}
use Rattle.std.proofs.lemmas.List.{get_or-set_other}
use Rattle.cil_base.specs.Token.{Token}
use Rattle.slot_store.specs.Shape.{is_in_shape}
use Rattle.node_model.specs.Changes.{begun}
use Rattle.node_model.specs.Fresh.{is_key_of}
use Rattle.node_model.specs.KeyKinds.{has_kind, is_root_token}
use Rattle.node_model.specs.Keys.{is_of_root, same_key, same_token, token_of_key}
use Rattle.node_model.specs.Nodes.{Nodes}
use Rattle.node_model.specs.Places.{image_shape, key_place, place_among, root_keys, row_keys}
use Rattle.node_model.specs.declared.change.RowChange.{RowChange}
use Rattle.node_model.specs.declared.change.RowChange.TheVariants.{Stays, Made, Gone}
use Rattle.node_model.specs.declared.edit.OptSig.{OptSig}
use Rattle.node_model.specs.declared.key.Key.{Key}
use Rattle.node_model.specs.declared.key.Key.TheVariants.{Row, Sig, Owned, Linked, Body, Data, Resource, Facts}
use Rattle.node_model.specs.declared.value.RowValue.{RowValue}
use Rattle.node_model.specs.inner.KeyEquality.{token_is}
use Rattle.node_model.proofs.RowKeyLemmas.{row_keys_are}
use Rattle.node_model.proofs.RowLemmas.{SoundRows as SoundOf}
use Rattle.node_model.proofs.StepLemmas.{all_within}
use Rattle.node_model.proofs.TableLemmas.{table_of_key}
use Rattle.graph_edits.specs.Graphs.{nodes_in}
use Rattle.graph_edits.specs.declared.graph.EditGraph.{EditGraph}
use Rattle.graph_edits.specs.inner.Making.{SoundRows, all_of_row, all_outside, begun_among}
use Rattle.graph_edits.proofs.SlotLemmas.{begun_is}

not_root : (t : Token) (k : Key) → t ≡ token_of_key k → 0 < t.rid → is_of_root k ≡ false
not_root t (Row a) is e = refl
not_root t (Sig a) is e = refl
not_root t (Owned a n) is e = rw (← is) (grind (arith, nat_tests))
not_root t (Linked a l) is e = refl
not_root t (Body a) is e = refl
not_root t (Data a) is e = refl
not_root t (Resource a) is e = refl
not_root t Facts is e = absurd (omega (arith, ap (λ (x : Token). x.rid) is))

beyond_shape : (rows : List ℕ) (t : Token) (o : Option ℕ) → t.table < 63 → slice_index rows t.table < t.rid
    → is_in_shape (image_shape rows) (option_map (λ (n : ℕ). record { table = t.table; rid = t.rid; kind = n }) o) ≡ false
unfolding is_in_shape image_shape
beyond_shape rows t None small beyond = refl
beyond_shape rows t (Some n) small beyond =
    let apart : t.table ≢ 63 = λ e. omega (arith, e) in
    let same = get_or-set_other rows 63 t.table 1 0 apart in
    let past : nat_le t.rid (slice_index (slice_set rows 63 1) t.table) ≡ false = grind (arith, nat_tests, same) in
    rw past (none (nat_lt t.table 64) (nat_lt 0 t.rid))
  where
    none : (x y : Bool) → (x && (y && false)) ≡ false
    none true true = refl
    none true false = refl
    none false y = refl

-- a key of a row that comes after those of the image has no place in the image's shape
outside : (rows : List ℕ) (t : Token) (k : Key) → slice_index rows t.table < t.rid → is_key_of t k ≡ true
    → is_in_shape (image_shape rows) (key_place k) ≡ false
unfolding key_place
outside rows t k beyond e =
    let parts = and_parts (same_token t (token_of_key k)) (has_kind k) e in
    let is : t ≡ token_of_key k = token_is t (token_of_key k) parts.0 in
    let low = table_of_key k (not_root t k is (omega arith)) parts.1 in
    let small : t.table < 63 = omega (arith, low, ap (λ (x : Token). x.table) is) in
    ap (λ x. is_in_shape (image_shape rows) (cond x (place_among root_keys 63 1 k) (place_among (row_keys (token_of_key k)) (token_of_key k).table (token_of_key k).rid k)))
    (not_root t k is (omega arith))
    ∙ ap (λ (x : Token). is_in_shape (image_shape rows) (place_among (row_keys x) x.table x.rid k)) (sym is)
    ∙ beyond_shape rows t (position (same_key k) (row_keys t)) small beyond

keys_outside : (rows : List ℕ) (row : RowValue) (ks : List Key) → slice_index rows row.token.table < row.token.rid
    → all_of_row row ks ≡ true → all_outside (image_shape rows) ks ≡ true
keys_outside rows row [] beyond e = refl
keys_outside rows row (k ∷ ks) beyond e =
    let parts = and_parts (is_key_of row.token k) (all_of_row row ks) e in
    rw (outside rows row.token k beyond parts.0, keys_outside rows row ks beyond parts.1) refl

-- the keys of a row are of the row
keys_of_row : (row : RowValue) → ((q : Key) → list_any (same_key q) (row_keys row.token) ≡ is_key_of row.token q) → all_of_row row (row_keys row.token) ≡ true
keys_of_row row keys = all_within (is_key_of row.token) (row_keys row.token) (λ q e. sym (keys q) ∙ e)

-- of a new row that can be made

pos_rid : (g : EditGraph) (row : RowValue) (sig : OptSig) → SoundRows (nodes_in g) (Made row sig) → slice_index g.rows row.token.table < row.token.rid
pos_rid g row sig sound = omega (arith, ap (λ (t : Token). t.rid) sound.0)

is_row_token : (g : EditGraph) (row : RowValue) (sig : OptSig) → SoundRows (nodes_in g) (Made row sig) → is_root_token row.token ≡ false
is_row_token g row sig sound = let r = pos_rid g row sig sound in grind (arith, nat_tests, r)

pub made_of_row : (g : EditGraph) (row : RowValue) (sig : OptSig) (keys : List Key) → SoundRows (nodes_in g) (Made row sig) → keys ≡ row_keys row.token → all_of_row row keys ≡ true
made_of_row g row sig keys sound is =
    ap (all_of_row row) is ∙ keys_of_row row (λ q. row_keys_are q row.token (is_row_token g row sig sound))

pub made_outside : (g : EditGraph) (row : RowValue) (sig : OptSig) (keys : List Key) → g.slots.shape ≡ image_shape g.rows → SoundRows (nodes_in g) (Made row sig)
    → keys ≡ row_keys row.token → all_outside g.slots.shape keys ≡ true
made_outside g row sig keys shape sound is =
    ap (λ s. all_outside s keys) shape
    ∙ keys_outside g.rows row keys (pos_rid g row sig sound) (made_of_row g row sig keys sound is)

pub made_begins : (g : EditGraph) (row : RowValue) (sig : OptSig) (keys : List Key) → SoundRows (nodes_in g) (Made row sig) → keys ≡ row_keys row.token
    → (q : Key) → begun_among row sig keys q ≡ begun (Made row sig) q
made_begins g row sig keys sound is q =
    ap (λ ks. begun_among row sig ks q) is ∙ begun_is row sig (λ k. row_keys_are k row.token (is_row_token g row sig sound)) q

pub rows_sound : (n : Nodes) (rows : RowChange) → SoundOf n rows → SoundRows n rows
rows_sound n Stays sound = tt
rows_sound n (Made row sig) sound = (sound.token, sound.room, sound.small)
rows_sound n (Gone t) sound = tt
