-- Walks that look at none but keys that are there, and of kinds that their tables have.
use Rattle.std.proofs.Common.{◌≡◌, refl, Bool, true, false, List, [], ◌∷◌, Option, Result, Ok, Err, if◌then◌else◌}
use Rattle.std.specs.Prelude.{◌&&◌, ◌||◌}
use Rattle.std.specs.List.{list_all, list_any}
use Rattle.std.proofs.lemmas.Bool.{and_parts}
use Rattle.cil_base.specs.Token.{Token}
use Rattle.node_model.specs.EditWalks.{asks_lists}
use Rattle.node_model.specs.KeyKinds.{has_kind}
use Rattle.node_model.specs.Keys.{is_key_there, is_of_root, is_row, same_token, token_of_key}
use Rattle.node_model.specs.Nodes.{Nodes, is_live_row, is_live_status}
use Rattle.node_model.specs.Walk.{Content, Walk, Gives, Asks, looked, part, then_looked}
use Rattle.node_model.specs.declared.key.Key.{Key}
use Rattle.node_model.specs.declared.key.Key.TheVariants.{Row, Sig, Owned, Linked, Body, Data, Resource, Facts}
use Rattle.node_model.specs.declared.nodes.RowStatus.TheVariants.{Absent, Removed, Live}
use Rattle.node_model.specs.declared.slot.Slot.{Slot}
use Rattle.node_model.specs.declared.walk.Halt.{Halt}

-- the key is there, and its table has its kind
abbrev pub knows : Nodes → Key → Bool
knows n k = is_key_there n.rows k && has_kind k

abbrev pub Known : {R : Type 0} → Nodes → Walk R → Type 0
Known n (Gives r) = Unit {0}
Known n (Asks k f) = (knows n k ≡ true) × ((v : Content k) → Known n (f v))

pub known_looked : {R : Type 0} (n : Nodes) (p : Key → Option Slot) (w : Walk R) → Known n w → list_all (knows n) (looked p w) ≡ true
known_looked n p (Gives r) known = refl
known_looked n p (Asks k f) known = rw known.0 (by_part (part k (p k)) (λ v. known_looked n p (f v) (known.1 v)))
  where
    by_part : (s : Result (Content k) Halt) → ((v : Content k) → list_all (knows n) (looked p (f v)) ≡ true) → list_all (knows n) (then_looked s (λ v. looked p (f v))) ≡ true
    by_part (Ok v) rest = rest v
    by_part (Err h) rest = refl

-- lists that are known, one after the other
pub known_lists : {R : Type 0} (n : Nodes) (ks : List Key) (f : List (Key × List Token) → Walk R) → list_all (knows n) ks ≡ true
    → ((lists : List (Key × List Token)) → Known n (f lists)) → Known n (asks_lists ks f)
known_lists n [] f all rest = rest []
known_lists n (Owned t m ∷ ks) f all rest =
    let parts = and_parts (knows n (Owned t m)) (list_all (knows n) ks) all in
    (parts.0, λ ts. known_lists n ks (λ lists. f ((Owned t m, ts) ∷ lists)) parts.1 (λ lists. rest ((Owned t m, ts) ∷ lists)))
known_lists n (Linked t l ∷ ks) f all rest =
    let parts = and_parts (knows n (Linked t l)) (list_all (knows n) ks) all in
    (parts.0, λ ts. known_lists n ks (λ lists. f ((Linked t l, ts) ∷ lists)) parts.1 (λ lists. rest ((Linked t l, ts) ∷ lists)))
known_lists n (Row t ∷ ks) f all rest =
    known_lists n ks (λ lists. f ((Row t, []) ∷ lists)) (and_parts (knows n (Row t)) (list_all (knows n) ks) all).1 (λ lists. rest ((Row t, []) ∷ lists))
known_lists n (Sig t ∷ ks) f all rest =
    known_lists n ks (λ lists. f ((Sig t, []) ∷ lists)) (and_parts (knows n (Sig t)) (list_all (knows n) ks) all).1 (λ lists. rest ((Sig t, []) ∷ lists))
known_lists n (Body t ∷ ks) f all rest =
    known_lists n ks (λ lists. f ((Body t, []) ∷ lists)) (and_parts (knows n (Body t)) (list_all (knows n) ks) all).1 (λ lists. rest ((Body t, []) ∷ lists))
known_lists n (Data t ∷ ks) f all rest =
    known_lists n ks (λ lists. f ((Data t, []) ∷ lists)) (and_parts (knows n (Data t)) (list_all (knows n) ks) all).1 (λ lists. rest ((Data t, []) ∷ lists))
known_lists n (Resource t ∷ ks) f all rest =
    known_lists n ks (λ lists. f ((Resource t, []) ∷ lists)) (and_parts (knows n (Resource t)) (list_all (knows n) ks) all).1 (λ lists. rest ((Resource t, []) ∷ lists))
known_lists n (Facts ∷ ks) f all rest =
    known_lists n ks (λ lists. f ((Facts, []) ∷ lists)) (and_parts (knows n Facts) (list_all (knows n) ks) all).1 (λ lists. rest ((Facts, []) ∷ lists))

-- a live row is there
pub live_there : (n : Nodes) (t : Token) → is_live_row n t ≡ true → is_row n.rows t ≡ true
live_there n t e = by_row (is_row n.rows t) e
  where
    by_row : (x : Bool) → is_live_status (if x then (if list_any (same_token t) n.removed then Removed else Live) else Absent) ≡ true → x ≡ true
    by_row true e = refl
    by_row false e = absurd cc

-- a key of a live row's kind is known
pub live_key : (n : Nodes) (k : Key) → is_live_row n (token_of_key k) ≡ true → has_kind k ≡ true → knows n k ≡ true
live_key n k live kind = rw (live_there n (token_of_key k) live, kind) (or_true (is_of_root k))
  where
    or_true : (x : Bool) → ((x || true) && true) ≡ true
    or_true true = refl
    or_true false = refl
