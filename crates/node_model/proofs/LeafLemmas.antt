-- What an edit changes: keys that it looked at, each to a value of its kind, and its new row is the next of its table.
use Rattle.std.proofs.Common.{◌≡◌, refl, ℕ, Bool, true, false, List, [], ◌∷◌, ◌++◌, Option, Some, None, Ok, Err, if◌then◌else◌, map}
use Rattle.std.specs.Prelude.{◌||◌, ◌&&◌, nat_le, length, insert}
use Rattle.std.specs.List.{list_all, list_any}
use Rattle.std.specs.Result.{is_ok}
use Rattle.std.proofs.lemmas.Bool.{and_parts}
use Rattle.cil_base.specs.Token.{Token}
use Rattle.il_code.specs.Body.{Body as BodyOf}
use Rattle.il_code.specs.declared.il_refusal.IlRefusal.{IlRefusal}
use Rattle.node_model.specs.Changes.{Changing, all_without, body_put, code_edited, row_added, row_inserted, row_removed, unless_refused, without_token}
use Rattle.node_model.specs.declared.change.Change.{Change}
use Rattle.node_model.specs.declared.change.RowChange.TheVariants.{Stays, Made}
use Rattle.node_model.specs.EditWalks.{asks_lists, leave_walk}
use Rattle.node_model.specs.Keys.{same_key, same_token}
use Rattle.node_model.specs.Lists.{tokens_slot}
use Rattle.node_model.specs.Nodes.{Nodes}
use Rattle.node_model.specs.Walk.{Content, Walk, Gives, Asks, part}
use Rattle.node_model.specs.declared.edit.OptSig.{OptSig}
use Rattle.node_model.specs.declared.edit_refusal.EditRefusal.TheVariants.{PlaceBeyond, NotThere}
use Rattle.node_model.specs.declared.key.Key.{Key}
use Rattle.node_model.specs.declared.key.Key.TheVariants.{Owned, Linked, Body}
use Rattle.node_model.specs.declared.slot.Slot.{Slot}
use Rattle.node_model.specs.declared.value.BodyValue.{BodyValue}
use Rattle.node_model.specs.declared.value.BodyValue.TheVariants.{NoBody, Native, Il}
use Rattle.node_model.specs.declared.value.RowValue.{RowValue}
use Rattle.node_model.specs.inner.KeyEquality.{key_self}
use Rattle.node_model.proofs.RowLemmas.{SoundRows}

-- the key was looked at
abbrev pub is_asked : List Key → Key × Slot → Bool
is_asked ks s = list_any (same_key s.0) ks

-- the slot is a value of the key's kind
abbrev pub is_fit : Key × Slot → Bool
is_fit s = is_ok (part s.0 (Some s.1))

pub record SoundChange (n : Nodes) (ks : List Key) (change : Change) : Type 0 where
  pub asked : list_all (is_asked ks) change.contents ≡ true
  pub fit : list_all is_fit change.contents ≡ true
  pub rows : SoundRows n change.rows

abbrev pub Leaf : Nodes → List Key → Changing → Type 0
Leaf n ks (Ok change) = SoundChange n ks change
Leaf n ks (Err r) = Unit {0}

-- each end of the walk is sound, by the keys on the way to it
abbrev pub Leaves : Nodes → List Key → Walk Changing → Type 0
Leaves n ks (Gives changing) = Leaf n ks changing
Leaves n ks (Asks k f) = (v : Content k) → Leaves n (k ∷ ks) (f v)

pub first_in : (k : Key) (ks : List Key) → list_any (same_key k) (k ∷ ks) ≡ true
first_in k ks = rw (key_self k) refl

-- the one key that was looked at has another value
pub put_leaf : (n : Nodes) (k : Key) (s : Slot) → is_ok (part k (Some s)) ≡ true → SoundChange n (k ∷ []) (record { contents = (k, s) ∷ []; rows = Stays })
put_leaf n k s fit = record { asked = rw (first_in k []) refl; fit = rw fit refl; rows = tt }

unless_leaf : (n : Nodes) (ks : List Key) (o : Option IlRefusal) (change : Change) → SoundChange n ks change → Leaf n ks (unless_refused o change)
unless_leaf n ks (Some r) change sound = tt
unless_leaf n ks None change sound = sound

pub body_leaf : (n : Nodes) (t : Token) (body : BodyValue) → Leaf n (Body t ∷ []) (body_put t body)
body_leaf n t (Il body) = unless_leaf n (Body t ∷ []) _ _ (put_leaf n (Body t) _ refl)
body_leaf n t NoBody = put_leaf n (Body t) _ refl
body_leaf n t (Native rva) = put_leaf n (Body t) _ refl

pub code_leaf : (n : Nodes) (t : Token) (refused : BodyOf → Option IlRefusal) (made : BodyOf → BodyOf) (body : BodyValue) → Leaf n (Body t ∷ []) (code_edited t refused made body)
code_leaf n t refused made (Il body) = unless_leaf n (Body t ∷ []) (refused body) _ (put_leaf n (Body t) _ refl)
code_leaf n t refused made NoBody = tt
code_leaf n t refused made (Native rva) = tt

abbrev pub is_list_key : Key → Bool
is_list_key (Owned t n) = true
is_list_key (Linked t l) = true
is_list_key _ = false

-- the list was looked at, and its key is one of a list
abbrev pub is_asked_list : List Key → Key × List Token → Bool
is_asked_list ks l = list_any (same_key l.0) ks && is_list_key l.0

list_fits : (k : Key) (ts : List Token) → is_list_key k ≡ true → is_ok (part k (Some (tokens_slot ts))) ≡ true
list_fits (Owned t n) ts e = refl
list_fits (Linked t l) ts e = refl
list_fits _ ts e = absurd cc

lists_asked : (ks : List Key) (F : List Token → List Token) (lists : List (Key × List Token)) → list_all (is_asked_list ks) lists ≡ true
    → list_all (is_asked ks) (map (λ (l : Key × List Token). (l.0, tokens_slot (F l.1))) lists) ≡ true
lists_asked ks F [] all = refl
lists_asked ks F (l ∷ lists) all =
    let parts = and_parts (is_asked_list ks l) (list_all (is_asked_list ks) lists) all in
    rw ((and_parts (list_any (same_key l.0) ks) (is_list_key l.0) parts.0).0, lists_asked ks F lists parts.1) refl

lists_fit : (ks : List Key) (F : List Token → List Token) (lists : List (Key × List Token)) → list_all (is_asked_list ks) lists ≡ true
    → list_all is_fit (map (λ (l : Key × List Token). (l.0, tokens_slot (F l.1))) lists) ≡ true
lists_fit ks F [] all = refl
lists_fit ks F (l ∷ lists) all =
    let parts = and_parts (is_asked_list ks l) (list_all (is_asked_list ks) lists) all in
    rw (list_fits l.0 (F l.1) (and_parts (list_any (same_key l.0) ks) (is_list_key l.0) parts.0).1, lists_fit ks F lists parts.1) refl

-- the keys of a list, in front of others in turned order
abbrev onto : List Key → List Key → List Key
onto [] asked = asked
onto (k ∷ ks) asked = onto ks (k ∷ asked)

onto_has : (q : Key) (ks asked : List Key) → list_any (same_key q) asked ≡ true → list_any (same_key q) (onto ks asked) ≡ true
onto_has q [] asked e = e
onto_has q (k ∷ ks) asked e = onto_has q ks (k ∷ asked) (rw e (or_true (same_key q k)))
  where
    or_true : (x : Bool) → (x || true) ≡ true
    or_true true = refl
    or_true false = refl

-- lists that are looked at, one after the other
lists_leave : (n : Nodes) (asked ks : List Key) (f : List (Key × List Token) → Walk Changing) → list_all is_list_key ks ≡ true
    → ((lists : List (Key × List Token)) → list_all (is_asked_list (onto ks asked)) lists ≡ true → Leaves n (onto ks asked) (f lists))
    → Leaves n asked (asks_lists ks f)
lists_leave n asked [] f all leaf = leaf [] refl
lists_leave n asked (Owned t m ∷ ks) f all leaf =
    λ ts. lists_leave n (Owned t m ∷ asked) ks (λ rest. f ((Owned t m, ts) ∷ rest)) all
    (λ rest have. leaf ((Owned t m, ts) ∷ rest) (rw (onto_has (Owned t m) ks (Owned t m ∷ asked) (first_in (Owned t m) asked), have) refl))
lists_leave n asked (Linked t l ∷ ks) f all leaf =
    λ ts. lists_leave n (Linked t l ∷ asked) ks (λ rest. f ((Linked t l, ts) ∷ rest)) all
    (λ rest have. leaf ((Linked t l, ts) ∷ rest) (rw (onto_has (Linked t l) ks (Linked t l ∷ asked) (first_in (Linked t l) asked), have) refl))
lists_leave n asked (_ ∷ ks) f all leaf = absurd cc

pub add_leaves : (n : Nodes) (row : RowValue) (sig : OptSig) (ks : List Key) → list_all is_list_key ks ≡ true → SoundRows n (Made row sig)
    → Leaves n [] (asks_lists ks (λ lists. Gives (Ok (row_added row sig lists))))
add_leaves n row sig ks all sound =
    lists_leave n [] ks (λ lists. Gives (Ok (row_added row sig lists))) all (λ lists have. record {
      asked = lists_asked (onto ks []) (λ ts. ts ++ row.token ∷ []) lists have;
      fit = lists_fit (onto ks []) (λ ts. ts ++ row.token ∷ []) lists have;
      rows = sound;
    })

pub insert_leaf : (n : Nodes) (row : RowValue) (sig : OptSig) (owner : Token) (table at : ℕ) (ts : List Token) → SoundRows n (Made row sig)
    → Leaf n (Owned owner table ∷ []) (row_inserted row sig (Owned owner table) at ts)
insert_leaf n row sig owner table at ts sound = by_place (nat_le at (length ts))
  where
    by_place : (x : Bool) → Leaf n (Owned owner table ∷ []) (if x
        then Ok (record { contents = (Owned owner table, tokens_slot (insert ts at row.token)) ∷ []; rows = Made row sig })
        else Err (PlaceBeyond at (length ts)))
    by_place true = record { asked = rw (first_in (Owned owner table) []) refl; fit = refl; rows = sound }
    by_place false = tt

removed_leaf : (n : Nodes) (ks : List Key) (t : Token) (lists : List (Key × List Token)) → list_all (is_asked_list ks) lists ≡ true → Leaf n ks (row_removed t lists)
removed_leaf n ks t [] have = tt
removed_leaf n ks t (l ∷ lists) have = by_held (list_any (same_token t) l.1)
  where
    by_held : (x : Bool) → Leaf n ks (if x then Ok (all_without t (l ∷ lists)) else Err (NotThere t))
    by_held true = record {
      asked = lists_asked ks (without_token t) (l ∷ lists) have;
      fit = lists_fit ks (without_token t) (l ∷ lists) have;
      rows = tt;
    }
    by_held false = tt

pub leave_leaves : (n : Nodes) (asked : List Key) (t : Token) (ks : List Key) → list_all is_list_key ks ≡ true → Leaves n asked (leave_walk t ks)
leave_leaves n asked t ks all = lists_leave n asked ks (λ lists. Gives (row_removed t lists)) all (λ lists have. removed_leaf n (onto ks asked) t lists have)
