-- What is said by walks that are made of other walks.
use Rattle.std.proofs.Common.{◌≡◌, refl, sym, ◌∙◌, ap, Bool, true, false, if◌then◌else◌, List, [], ◌∷◌, ◌++◌, Option, Result, Ok, Err, append_assoc}
use Rattle.node_model.specs.Searches.{first_walk}
use Rattle.node_model.specs.Walk.{Content, Walk, Gives, Asks, each_walk, part, said, then_said, then_walk}
use Rattle.node_model.specs.declared.key.Key.{Key}
use Rattle.node_model.specs.declared.reply.Reply.TheVariants.{Found}
use Rattle.node_model.specs.declared.slot.Slot.{Slot}
use Rattle.node_model.specs.declared.walk.Halt.{Halt}
use Rattle.cil_base.specs.Token.{Token}

-- one walk and then another: what the first says is handed on
pub said_then : {A R : Type 0} (p : Key → Option Slot) (w : Walk A) (f : A → Walk R) → said p (then_walk w f) ≡ then_said (said p w) (λ a. said p (f a))
said_then p (Gives a) f = refl
said_then p (Asks k g) f = by_part (part k (p k)) (λ v. said_then p (g v) f)
  where
    by_part : (s : Result (Content k) Halt) → ((v : Content k) → said p (then_walk (g v) f) ≡ then_said (said p (g v)) (λ a. said p (f a)))
        → then_said s (λ v. said p (then_walk (g v) f)) ≡ then_said (then_said s (λ v. said p (g v))) (λ a. said p (f a))
    by_part (Ok v) rest = rest v
    by_part (Err h) rest = refl

-- what is said behind these
abbrev pub after : {A : Type 0} → List A → Result (List A) Halt → Result (List A) Halt
after front (Ok rest) = Ok (front ++ rest)
after front (Err h) = Err h

after_none : {A : Type 0} (s : Result (List A) Halt) → after [] s ≡ s
after_none (Ok rest) = refl
after_none (Err h) = refl

after_after : {A : Type 0} (front more : List A) (s : Result (List A) Halt) → after front (after more s) ≡ after (front ++ more) s
after_after front more (Ok rest) = ap Ok (sym (append_assoc front more rest))
after_after front more (Err h) = refl

last_said : {R : Type 0} (r : R) (s : Result (List R) Halt) → then_said s (λ rs. Ok (r ∷ rs)) ≡ after (r ∷ []) s
last_said r (Ok rs) = refl
last_said r (Err h) = refl

each_said : {A R : Type 0} (p : Key → Option Slot) (f : A → Walk R) (xs : List A) (s : Result R Halt)
    → then_said s (λ r. said p (then_walk (each_walk f xs) (λ rs. Gives (r ∷ rs)))) ≡ then_said s (λ r. after (r ∷ []) (said p (each_walk f xs)))
each_said p f xs (Ok r) = said_then p (each_walk f xs) (λ rs. Gives (r ∷ rs)) ∙ last_said r (said p (each_walk f xs))
each_said p f xs (Err h) = refl

pub each_next : {A R : Type 0} (p : Key → Option Slot) (f : A → Walk R) (x : A) (xs : List A)
    → said p (each_walk f (x ∷ xs)) ≡ then_said (said p (f x)) (λ r. after (r ∷ []) (said p (each_walk f xs)))
each_next p f x xs = said_then p (f x) (λ r. then_walk (each_walk f xs) (λ rs. Gives (r ∷ rs))) ∙ each_said p f xs (said p (f x))

-- one more of a list, behind what was said of those before
pub each_more : {A R : Type 0} (p : Key → Option Slot) (f : A → Walk R) (x : A) (xs : List A) (front : List R) (r : R) → said p (f x) ≡ Ok r
    → after front (said p (each_walk f (x ∷ xs))) ≡ after (front ++ r ∷ []) (said p (each_walk f xs))
each_more p f x xs front r is =
    ap (after front) (each_next p f x xs ∙ ap (λ s. then_said s (λ r. after (r ∷ []) (said p (each_walk f xs)))) is)
    ∙ after_after front (r ∷ []) (said p (each_walk f xs))

-- or one that halts
pub each_halts : {A R : Type 0} (p : Key → Option Slot) (f : A → Walk R) (x : A) (xs : List A) (front : List R) (h : Halt) → said p (f x) ≡ Err h
    → after front (said p (each_walk f (x ∷ xs))) ≡ Err h
each_halts p f x xs front h is =
    ap (after front) (each_next p f x xs ∙ ap (λ s. then_said s (λ r. after (r ∷ []) (said p (each_walk f xs)))) is)

first_said : (p : Key → Option Slot) (test : Token → Walk Bool) (t : Token) (ts : List Token) (s : Result Bool Halt)
    → then_said s (λ fits. said p (if fits then Gives (Found t) else first_walk test ts)) ≡ then_said s (λ fits. if fits then Ok (Found t) else said p (first_walk test ts))
first_said p test t ts (Ok true) = refl
first_said p test t ts (Ok false) = refl
first_said p test t ts (Err h) = refl

-- a search by what is said of the first
pub first_next : (p : Key → Option Slot) (test : Token → Walk Bool) (t : Token) (ts : List Token)
    → said p (first_walk test (t ∷ ts)) ≡ then_said (said p (test t)) (λ fits. if fits then Ok (Found t) else said p (first_walk test ts))
first_next p test t ts =
    said_then p (test t) (λ fits. if fits then Gives (Found t) else first_walk test ts) ∙ first_said p test t ts (said p (test t))
