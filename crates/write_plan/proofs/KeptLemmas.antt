-- What a walk has taken, one key and one row at a time.
use Rattle.std.proofs.Common.{◌≡◌, ◌∙◌, sym, ap, ap₂, subst, refl, ℕ, ◌<◌, ◌+◌, Bool, true, false, cond, List, [], ◌∷◌, ◌++◌, length, take, drop, get_or, Option, Some, None, append_assoc, append-nil, OnOk}
use Rattle.std.specs.Prelude.{◌||◌, IsErrAnd, Result, Ok, Err}
use Rattle.std.specs.List.{list_any}
use Rattle.std.specs.Map.{lookup}
use Rattle.std.specs.Option.{option_map, option_or}
use Rattle.std.proofs.Math.Path.{fun_ext}
use Rattle.std.proofs.lemmas.List.{drop_more, take_more, take-append-drop}
use Rattle.std.proofs.lemmas.List.Folds.{list_any-append}
use Rattle.node_model.specs.EditRefusals.{first_made}
use Rattle.node_model.specs.Keys.{same_key}
use Rattle.node_model.specs.contracts.key.KeyPartialEq.TheImpl.{eq-value}
use Rattle.node_model.specs.declared.key.Key.{Key}
use Rattle.node_model.specs.declared.look.Look.{Look}
use Rattle.node_model.specs.declared.value.Value.{Value}
use Rattle.node_model.specs.inner.KeyEquality.{eq_is_same, key_is, key_turned}
use Rattle.write_plan.specs.GraphWalk.{value_among}
use Rattle.write_plan.specs.Planned.{kept_value}
use Rattle.write_plan.specs.Refusals.{Refused, Refuses, first_fault}
use Rattle.write_plan.specs.Seen.{fault_seen, value_seen}
use Rattle.write_plan.specs.declared.kept.Kept.{Kept}
use Rattle.write_plan.specs.declared.refusal.WriteRefusal.{WriteRefusal}
use Rattle.write_plan.specs.declared.refusal.WriteRefusal.TheVariants.{Reached, NotPureIl, Twice, Dangling, TooMany, Unfit, BranchTooFar, BodyTooLarge, TooLarge, NoMemory}
use Rattle.write_plan.specs.inner.Taken.{IsTaken, KeepsOne, Takes, value_kept}

-- the test of the code is that of the definitions
pub key_test : (k : Key) → (eq-value).it k ≡ same_key k
key_test k = fun_ext (eq_is_same k)

-- the first of two lists of which something is made

or_assoc : {A : Type 0} (x y z : Option A) → option_or (option_or x y) z ≡ option_or x (option_or y z)
or_assoc None y z = refl
or_assoc (Some x) y z = refl

pub or_none : {A : Type 0} (x : Option A) → option_or x None ≡ x
or_none None = refl
or_none (Some x) = refl

pub or_first : {A : Type 0} (x y : Option A) → option_or x y ≡ None → x ≡ None
or_first None y e = refl
or_first (Some x) y e = absurd (cc)

pub or_second : {A : Type 0} (x y : Option A) → option_or x y ≡ None → y ≡ None
or_second None y e = e
or_second (Some x) y e = absurd (cc)

pub made-append : {A B : Type 0} (f : A → Option B) (xs ys : List A) → first_made f (xs ++ ys) ≡ option_or (first_made f xs) (first_made f ys)
made-append f [] ys = refl
made-append f (x ∷ xs) ys = ap (option_or (f x)) (made-append f xs ys) ∙ sym (or_assoc (f x) (first_made f xs) (first_made f ys))

-- answers of refusals

pub refused_to : (v w : Option WriteRefusal) (e : WriteRefusal) → (v ≡ Some e → w ≡ Some e) → Refused v e → Refused w e
refused_to v w (Reached x) to r = to r
refused_to v w NotPureIl to r = to r
refused_to v w (Twice x) to r = to r
refused_to v w (Dangling x y) to r = to r
refused_to v w (TooMany x y) to r = to r
refused_to v w (Unfit x) to r = to r
refused_to v w (BranchTooFar x y) to r = to r
refused_to v w (BodyTooLarge x y) to r = to r
refused_to v w (TooLarge x) to r = to r
refused_to v w NoMemory to r = tt

pub refused_or : {A : Type 0} (make : A → WriteRefusal) (x y : Option A) (e : WriteRefusal) → Refused (option_map make x) e → Refused (option_map make (option_or x y)) e
refused_or make None y e r = refused_to None (option_map make y) e (λ h. absurd (cc)) r
refused_or make (Some x) y e r = r

map_none : {A : Type 0} (make : A → WriteRefusal) (x : Option A) → option_map make x ≡ None → x ≡ None
map_none make None e = refl
map_none make (Some x) e = absurd (cc)

-- a key more

or_self : {A : Type 0} (v : Option A) (a : Bool) → option_or v (cond a v None) ≡ v
or_self None true = refl
or_self None false = refl
or_self (Some v) a = refl

or_true : (a : Bool) → (a || true) ≡ true
or_true true = refl
or_true false = refl

or_false : (a : Bool) → (a || false) ≡ a
or_false true = refl
or_false false = refl

value_more : (see : Key → Look) (key : Key) (seen : Look) (keys : List Key) (before now : Option Value) (k : Key) → see key ≡ seen
    → before ≡ value_among see keys k → now ≡ cond (same_key key k) (option_or (value_seen seen) before) before → now ≡ value_among see (keys ++ key ∷ []) k
value_more see key seen keys before now k is was h =
    h ∙ by (same_key key k) refl ∙ ap (λ b. cond b (value_seen (see k)) None) (sym (list_any-append (same_key k) keys (key ∷ [])))
  where
    by : (b : Bool) → same_key key k ≡ b → cond b (option_or (value_seen seen) before) before ≡ cond (list_any (same_key k) keys || (same_key k key || false)) (value_seen (see k)) None
    by true e =
        let same : key ≡ k = key_is key k e in
        let seen_k : see k ≡ seen = ap see (sym same) ∙ is in
        rw (was, key_turned k key, e, or_true (list_any (same_key k) keys), seen_k) (or_self (value_seen seen) (list_any (same_key k) keys))
    by false e =
        rw (was, key_turned k key, e, or_false (list_any (same_key k) keys)) refl

pub takes_one : (see : Key → Look) (old new : Kept) (key : Key) (seen : Look) (r : Result (Unit {0}) WriteRefusal) → see key ≡ seen → IsTaken see old
    → OnOk r (KeepsOne key seen old new) → Refuses (option_map Reached (fault_seen seen)) r → Takes see old (key ∷ []) new r
takes_one see old new key seen (Ok u) is kept one fine = (
  one.0,
  record {
    values = λ k. value_more see key seen old.keys (value_kept old k) (value_kept new k) k is (kept.values k) (one.1 k) ∙ ap (λ keys. value_among see keys k) (sym one.0);
    sound = ap (first_fault see) one.0 ∙ made-append (λ k. fault_seen (see k)) old.keys (key ∷ [])
        ∙ ap (λ x. option_or x (option_or (fault_seen (see key)) None)) kept.sound ∙ or_none (fault_seen (see key)) ∙ ap fault_seen is ∙ map_none Reached (fault_seen seen) fine;
  },
)
takes_one see old new key seen (Err e) is kept one bad =
    subst (λ x. Refused (option_map Reached x) e) (sym (or_none (fault_seen (see key)) ∙ ap fault_seen is)) bad

pub kept_put : (old new : List (Key × Value)) (key : Key) (value : Value)
    → ((k : Key) → lookup ((eq-value).it k) new ≡ cond ((eq-value).it key k) (Some value) (lookup ((eq-value).it k) old))
    → (k : Key) → kept_value new k ≡ cond (same_key key k) (option_or (Some value) (kept_value old k)) (kept_value old k)
kept_put old new key value put k =
    ap (λ (test : Key → Bool). lookup test new) (sym (key_test k)) ∙ put k
    ∙ ap₂ (λ (b : Bool) (test : Key → Bool). cond b (Some value) (lookup test old)) (eq_is_same key k) (key_test k)

-- keys one after the other

abbrev pub TakesOk : (Key → Look) → Kept → List Key → Kept → Type 0
TakesOk see old keys new = (new.keys ≡ old.keys ++ keys) × IsTaken see new

pub takes_none : (see : Key → Look) (w : Kept) → IsTaken see w → TakesOk see w [] w
takes_none see w kept = (sym (append-nil w.keys), kept)

pub takes_nothing : (see : Key → Look) (w : Kept) (r : Result (Unit {0}) WriteRefusal) → IsTaken see w → Refuses None r → Takes see w [] w r
takes_nothing see w (Ok u) kept fine = takes_none see w kept
takes_nothing see w (Err e) kept bad = bad

faultless : (see : Key → Look) (a b : Kept) (ks : List Key) → TakesOk see a ks b → first_fault see ks ≡ None
faultless see a b ks t =
    or_second (first_fault see a.keys) (first_fault see ks) (sym (made-append (λ k. fault_seen (see k)) a.keys ks) ∙ ap (first_fault see) (sym t.0) ∙ t.1.sound)

pub takes_then : (see : Key → Look) (a b c : Kept) (ks ls : List Key) (r : Result (Unit {0}) WriteRefusal) → TakesOk see a ks b → Takes see b ls c r → Takes see a (ks ++ ls) c r
takes_then see a b c ks ls (Ok u) t s = (s.0 ∙ ap (λ keys. keys ++ ls) t.0 ∙ append_assoc a.keys ks ls, s.1)
takes_then see a b c ks ls (Err e) t s =
    let same : first_fault see (ks ++ ls) ≡ first_fault see ls = made-append (λ k. fault_seen (see k)) ks ls ∙ ap (λ x. option_or x (first_fault see ls)) (faultless see a b ks t) in
    subst (λ x. Refused (option_map Reached x) e) (sym same) s

pub takes_more : (see : Key → Look) (ks ls : List Key) (e : WriteRefusal) → Refused (option_map Reached (first_fault see ks)) e → Refused (option_map Reached (first_fault see (ks ++ ls))) e
takes_more see ks ls e r =
    subst (λ x. Refused (option_map Reached x) e) (sym (made-append (λ k. fault_seen (see k)) ks ls)) (refused_or Reached (first_fault see ks) (first_fault see ls) e r)

-- an error that is handed on
pub stopped_on : (see : Key → Look) (a b : Kept) (ks : List Key) (r : Result (Unit {0}) WriteRefusal) (e : WriteRefusal) → IsErrAnd r (λ x. x ≡ e)
    → Refused (option_map Reached (first_fault see ks)) e → Takes see a ks b r
stopped_on see a b ks (Ok u) e is refused = absurd is
stopped_on see a b ks (Err x) e is refused = subst (Refused (option_map Reached (first_fault see ks))) (sym is) refused

-- items of a list by their places

pub item_at : {X : Type 0} (xs : List X) (i : ℕ) (x : X) → i < length xs → x ≡ get_or xs i x → drop i xs ≡ x ∷ drop (i + 1) xs
item_at xs i x h is = drop_more xs i x h ∙ ap (λ y. y ∷ drop (i + 1) xs) (sym is)

pub front_more : {X : Type 0} (xs : List X) (i : ℕ) (x : X) → i < length xs → x ≡ get_or xs i x → take (i + 1) xs ≡ take i xs ++ x ∷ []
front_more xs i x h is = take_more xs i x h ∙ ap (λ y. take i xs ++ y ∷ []) (sym is)

pub split_at : {X : Type 0} (xs : List X) (i : ℕ) (x : X) → i < length xs → x ≡ get_or xs i x → take i xs ++ (x ∷ drop (i + 1) xs) ≡ xs
split_at xs i x h is = ap (λ ys. take i xs ++ ys) (sym (item_at xs i x h is)) ∙ take-append-drop i xs
