-- Walks over the members of a list, one token after the other.
use Rattle.std.proofs.Common.{◌≡◌, refl, sym, ◌∙◌, ap, ℕ, ◌<◌, ◌+◌, Bool, true, false, cond, List, [], ◌∷◌, ◌++◌, length, get_or, drop, Option, Result, Ok}
use Rattle.std.proofs.lemmas.List.{drop_more}
use Rattle.cil_base.specs.Token.{Token}
use Rattle.node_model.specs.Nodes.{Nodes}
use Rattle.node_model.specs.Parts.{Stops}
use Rattle.node_model.specs.RowNames.{is_member, live_members}
use Rattle.node_model.specs.Searches.{first_walk}
use Rattle.node_model.specs.Walk.{Walk, each_walk, said, then_said}
use Rattle.node_model.specs.declared.key.Key.{Key}
use Rattle.node_model.specs.declared.reply.Reply.TheVariants.{Found}
use Rattle.node_model.specs.declared.slot.Slot.{Slot}
use Rattle.node_model.specs.declared.stop.Stop.{Stop}
use Rattle.node_model.specs.declared.stop.Stop.TheVariants as stops
use Rattle.node_model.specs.declared.walk.Halt.{Halt}
use Rattle.graph_query.specs.inner.Parts.{member_said}
use Rattle.node_model.proofs.SayLemmas.{after, each_halts, each_more, first_next}

-- the item at a place, and those behind it
pub item_at : {X : Type 0} (xs : List X) (i : ℕ) (x : X) → i < length xs → x ≡ get_or xs i x → drop i xs ≡ x ∷ drop (i + 1) xs
item_at xs i x within is = drop_more xs i x within ∙ ap (λ y. y ∷ drop (i + 1) xs) (sym is)

-- a token that is no member is passed over
pub passed_over : (n : Nodes) (table : ℕ) (t : Token) (ts : List Token) → is_member n table t ≡ false → live_members n table (t ∷ ts) ≡ live_members n table ts
passed_over n table t ts gone = ap (λ x. cond x (t ∷ live_members n table ts) (live_members n table ts)) gone

pub taken : (n : Nodes) (table : ℕ) (t : Token) (ts : List Token) → is_member n table t ≡ true → live_members n table (t ∷ ts) ≡ t ∷ live_members n table ts
taken n table t ts here = ap (λ x. cond x (t ∷ live_members n table ts) (live_members n table ts)) here

-- one more of the members, behind what was said of those before
pub member_more : {R : Type 0} (p : Key → Option Slot) (n : Nodes) (table : ℕ) (f : Token → Walk R) (t : Token) (ts : List Token) (front : List R) (r : R)
    → is_member n table t ≡ true → said p (f t) ≡ Ok r
    → after front (said p (each_walk f (live_members n table (t ∷ ts)))) ≡ after (front ++ r ∷ []) (said p (each_walk f (live_members n table ts)))
member_more p n table f t ts front r here is =
    ap (λ ms. after front (said p (each_walk f ms))) (taken n table t ts here) ∙ each_more p f t (live_members n table ts) front r is

-- a search by what is said of a member
search_next : (p : Key → Option Slot) (n : Nodes) (table : ℕ) (test : Token → Walk Bool) (t : Token) (ts : List Token) (s : Result Bool Halt)
    → is_member n table t ≡ true → said p (test t) ≡ s
    → said p (first_walk test (live_members n table (t ∷ ts))) ≡ then_said s (λ fits. cond fits (Ok (Found t)) (said p (first_walk test (live_members n table ts))))
search_next p n table test t ts s here is =
    ap (λ ms. said p (first_walk test ms)) (taken n table t ts here) ∙ first_next p test t (live_members n table ts)
    ∙ ap (λ s. then_said s (λ fits. cond fits (Ok (Found t)) (said p (first_walk test (live_members n table ts))))) is

-- where one of a list stops, so does the list
pub each_stops : {A R : Type 0} (p : Key → Option Slot) (f : A → Walk R) (x : A) (xs : List A) (front : List R) (e : Stop) → Stops e (said p (f x))
    → Stops e (after front (said p (each_walk f (x ∷ xs))))
each_stops p f x xs front (stops.Halted h) is = each_halts p f x xs front h is
each_stops p f x xs front stops.NoMemory is = tt

-- a search by what is said of its first token, which may be no member
pub found_next : (p : Key → Option Slot) (n : Nodes) (table : ℕ) (test : Token → Walk Bool) (t : Token) (ts : List Token)
    → said p (first_walk test (live_members n table (t ∷ ts)))
    ≡ then_said (member_said p n table test t) (λ fits. cond fits (Ok (Found t)) (said p (first_walk test (live_members n table ts))))
found_next p n table test t ts = by_member (is_member n table t) refl
  where
    by_member : (x : Bool) → is_member n table t ≡ x
        → said p (first_walk test (live_members n table (t ∷ ts)))
        ≡ then_said (cond x (said p (test t)) (Ok false)) (λ fits. cond fits (Ok (Found t)) (said p (first_walk test (live_members n table ts))))
    by_member true is = search_next p n table test t ts (said p (test t)) is refl
    by_member false is = ap (λ ms. said p (first_walk test ms)) (passed_over n table t ts is)

-- where the test stops, so does the search
pub found_stops : (p : Key → Option Slot) (n : Nodes) (table : ℕ) (test : Token → Walk Bool) (t : Token) (ts : List Token) (e : Stop)
    → Stops e (member_said p n table test t) → Stops e (said p (first_walk test (live_members n table (t ∷ ts))))
found_stops p n table test t ts (stops.Halted h) is =
    found_next p n table test t ts
    ∙ ap (λ s. then_said s (λ fits. cond fits (Ok (Found t)) (said p (first_walk test (live_members n table ts))))) is
found_stops p n table test t ts stops.NoMemory is = tt
