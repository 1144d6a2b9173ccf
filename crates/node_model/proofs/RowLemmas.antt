-- How the rows change: one more of a table, or one that was removed more.
use Rattle.std.proofs.Common.{◌≡◌, refl, sym, ◌∙◌, ap, ℕ, suc, ◌<◌, ◌≤◌, Bool, true, false, arith, tests, if◌then◌else◌}
use Rattle.std.specs.Prelude.{◌==◌, ◌&&◌, ◌||◌, nat_lt, nat_le}
use Rattle.std.proofs.lemmas.Bool.{and_parts}
use Rattle.cil_base.specs.Token.{Token}
use Rattle.node_model.specs.Changes.{nodes_after}
use Rattle.node_model.specs.declared.change.RowChange.{RowChange}
use Rattle.node_model.specs.declared.change.RowChange.TheVariants.{Stays, Made, Gone}
use Rattle.node_model.specs.ColumnFit.{sig_fits_table}
use Rattle.node_model.specs.Keys.{is_key_there, is_of_root, is_row, same_token, token_of_key}
use Rattle.node_model.specs.Nodes.{Nodes, next_row, with_row}
use Rattle.node_model.specs.declared.edit.OptSig.{OptSig}
use Rattle.node_model.specs.declared.key.Key.{Key}
use Rattle.node_model.specs.declared.key.Key.TheVariants as keys
use Rattle.node_model.specs.declared.value.RowValue.{RowValue}
use Rattle.node_model.specs.inner.KeyEquality.{token_is}

-- the row is the next of its table, which has room, and its signature is one of its table
pub record IsNext (n : Nodes) (row : RowValue) (sig : OptSig) : Type 0 where
  pub token : row.token ≡ next_row n row.token.table
  pub room : n.rows row.token.table < 16777215
  pub small : row.token.table < 64
  pub fits : sig_fits_table row.token.table sig ≡ true

abbrev pub SoundRows : Nodes → RowChange → Type 0
SoundRows n Stays = Unit {0}
SoundRows n (Made row sig) = IsNext n row sig
SoundRows n (Gone t) = Unit {0}

-- the token is that of the row that is made
abbrev pub is_made : RowChange → Token → Bool
is_made Stays t = false
is_made (Made row sig) t = same_token row.token t
is_made (Gone x) t = false

-- the next row is none yet
pub next_is_none : (n : Nodes) (table : ℕ) → is_row n.rows (next_row n table) ≡ false
next_is_none n table = grind (arith, tests)

or_false : (x : Bool) → x ≡ (x || false)
or_false true = refl
or_false false = refl

one_more : (r c t : ℕ) → (nat_lt 0 r && nat_le r (suc c)) ≡ ((nat_lt 0 r && nat_le r c) || ((t == t) && (suc c == r)))
one_more r c t = grind (arith, tests)

row_grown : (n : Nodes) (table : ℕ) (x : Token) → is_row (with_row n table).rows x ≡ (is_row n.rows x || same_token (next_row n table) x)
row_grown n table x = by_table (x.table == table) refl
  where
    by_table : (y : Bool) → (x.table == table) ≡ y
        → (nat_lt 0 x.rid && nat_le x.rid (if y then suc (n.rows x.table) else n.rows x.table))
        ≡ ((nat_lt 0 x.rid && nat_le x.rid (n.rows x.table)) || ((table == x.table) && (suc (n.rows table) == x.rid)))
    by_table true e =
        let same : table ≡ x.table = grind (arith, tests) in
        rw same (one_more x.rid (n.rows x.table) x.table)
    by_table false e =
        let other : (table == x.table) ≡ false = grind (arith, tests) in
        rw other (or_false (nat_lt 0 x.rid && nat_le x.rid (n.rows x.table)))

-- the rows that there are after a change
pub row_after : (n : Nodes) (c : RowChange) (x : Token) → SoundRows n c → is_row (nodes_after c n).rows x ≡ (is_row n.rows x || is_made c x)
row_after n Stays x sound = or_false (is_row n.rows x)
row_after n (Made row sig) x sound =
    row_grown n row.token.table x ∙ ap (λ t. is_row n.rows x || same_token t x) (sym sound.token)
row_after n (Gone t) x sound = or_false (is_row n.rows x)

over_or : (x y z : Bool) → (x || (y || z)) ≡ ((x || y) || z)
over_or true y z = refl
over_or false y z = refl

pub key_after : (n : Nodes) (c : RowChange) (k : Key) → SoundRows n c
    → is_key_there (nodes_after c n).rows k ≡ (is_key_there n.rows k || is_made c (token_of_key k))
key_after n c k sound =
    ap (λ x. is_of_root k || x) (row_after n c (token_of_key k) sound) ∙ over_or (is_of_root k) (is_row n.rows (token_of_key k)) (is_made c (token_of_key k))

-- rows that were there stay
pub rows_grow : (n : Nodes) (c : RowChange) (table : ℕ) → n.rows table ≤ (nodes_after c n).rows table
rows_grow n Stays table = omega arith
rows_grow n (Made row sig) table = by_table (table == row.token.table)
  where
    by_table : (y : Bool) → n.rows table ≤ (if y then suc (n.rows table) else n.rows table)
    by_table true = omega arith
    by_table false = omega arith
rows_grow n (Gone t) table = omega arith

pub row_stays : (rows more : ℕ → ℕ) (x : Token) → rows x.table ≤ more x.table → is_row rows x ≡ true → is_row more x ≡ true
row_stays rows more x grown there =
    let parts = and_parts (nat_lt 0 x.rid) (nat_le x.rid (rows x.table)) there in
    rw parts.0 (within x.rid (rows x.table) (more x.table) grown parts.1)
  where
    within : (r c d : ℕ) → c ≤ d → nat_le r c ≡ true → nat_le r d ≡ true
    within r c d grown e = grind (arith, tests)

pub key_stays : (rows more : ℕ → ℕ) (k : Key) → ((table : ℕ) → rows table ≤ more table) → is_key_there rows k ≡ true → is_key_there more k ≡ true
key_stays rows more k grown there = by_root (is_of_root k) there
  where
    by_root : (x : Bool) → (x || is_row rows (token_of_key k)) ≡ true → (x || is_row more (token_of_key k)) ≡ true
    by_root true e = refl
    by_root false e = row_stays rows more (token_of_key k) (grown (token_of_key k).table) e

-- the root's keys have the root for a token
pub root_key : (k : Key) → is_of_root k ≡ true → (token_of_key k).rid ≡ 0
root_key (keys.Owned t n) e = grind (arith, tests)
root_key keys.Facts e = refl
root_key _ e = absurd cc

-- a token that is made was no row, and is not the root
pub made_is_none : (n : Nodes) (c : RowChange) (x : Token) → SoundRows n c → is_made c x ≡ true → is_row n.rows x ≡ false
made_is_none n Stays x sound e = absurd cc
made_is_none n (Made row sig) x sound e =
    ap (is_row n.rows) (sym (token_is row.token x e) ∙ sound.token) ∙ next_is_none n row.token.table
made_is_none n (Gone t) x sound e = absurd cc

pub made_is_no_root : (n : Nodes) (c : RowChange) (x : Token) → SoundRows n c → is_made c x ≡ true → x.rid ≡ 0 → ⊥
made_is_no_root n Stays x sound e is = cc
made_is_no_root n (Made row sig) x sound e is =
    let same : row.token ≡ x = token_is row.token x e in
    let rid : suc (n.rows row.token.table) ≡ 0 = ap (λ (t : Token). t.rid) (sym sound.token ∙ same) ∙ is in
    cc
made_is_no_root n (Gone t) x sound e is = cc

-- a key that is there is none of a new row
pub there_is_not_made : (n : Nodes) (c : RowChange) (k : Key) → SoundRows n c → is_key_there n.rows k ≡ true → is_made c (token_of_key k) ≡ false
there_is_not_made n c k sound there = by_made (is_made c (token_of_key k)) refl
  where
    by_root : (x : Bool) → is_of_root k ≡ x → (x || is_row n.rows (token_of_key k)) ≡ true → is_made c (token_of_key k) ≡ true → ⊥
    by_root true is e made = made_is_no_root n c (token_of_key k) sound made (root_key k is)
    by_root false is e made =
        let none : is_row n.rows (token_of_key k) ≡ false = made_is_none n c (token_of_key k) sound made in
        cc

    by_made : (x : Bool) → is_made c (token_of_key k) ≡ x → x ≡ false
    by_made true made = absurd (by_root (is_of_root k) refl there made)
    by_made false made = refl
