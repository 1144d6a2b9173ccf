-- Where walks end early.
use Rattle.std.proofs.Common.{◌≡◌, refl, ◌∙◌, ap, ℕ, true, List, [], ◌∷◌, Option, Some, None, Result, Ok, Err}
use Rattle.std.specs.Option.{option_or}
use Rattle.cil_base.specs.Token.{Token}
use Rattle.md_schema.specs.Tables.{field, method_def, param}
use Rattle.md_schema.specs.declared.link.Link.TheVariants.{InterfaceImpl, Nested}
use Rattle.node_model.specs.Nodes.{Nodes}
use Rattle.node_model.specs.RowNames.{is_member, live_members}
use Rattle.node_model.specs.TypeViews.{members_walk, method_walk, row_walk, type_walk}
use Rattle.node_model.specs.Walk.{Walk, each_walk, part, said, then_said, then_walk}
use Rattle.node_model.specs.declared.key.Key.{Key}
use Rattle.node_model.specs.declared.key.Key.TheVariants.{Row, Sig, Linked, Body}
use Rattle.node_model.specs.declared.slot.Slot.{Slot}
use Rattle.node_model.specs.declared.walk.Halt.{Halt}
use Rattle.node_model.proofs.SayLemmas.{after, each_next, said_then}
use Rattle.graph_query.specs.inner.Halts.{halt_of}
use Rattle.graph_query.proofs.MemberLemmas.{taken}

-- what ends early says nothing
pub halt_said : {R : Type 0} (s : Result R Halt) (h : Halt) → Some h ≡ halt_of s → s ≡ Err h
halt_said (Ok r) h e = absurd cc
halt_said (Err x) h e =
    let same : x ≡ h = cc in
    ap Err same

after_halt : {A : Type 0} (front : List A) (s : Result (List A) Halt) → halt_of (after front s) ≡ halt_of s
after_halt front (Ok rest) = refl
after_halt front (Err h) = refl

-- one after the other, where the end of the second does not go by what the first says
then_halt : {A R : Type 0} (s : Result A Halt) (f : A → Result R Halt) (o : Option Halt) → ((a : A) → halt_of (f a) ≡ o) → halt_of (then_said s f) ≡ option_or (halt_of s) o
then_halt (Ok a) f o same = same a
then_halt (Err h) f o same = refl

walk_halt : {A R : Type 0} (p : Key → Option Slot) (w : Walk A) (f : A → Walk R) (o : Option Halt) → ((a : A) → halt_of (said p (f a)) ≡ o)
    → halt_of (said p (then_walk w f)) ≡ option_or (halt_of (said p w)) o
walk_halt p w f o same = ap halt_of (said_then p w f) ∙ then_halt (said p w) (λ a. said p (f a)) o same

-- the members of a list
member_halt : {R : Type 0} (p : Key → Option Slot) (n : Nodes) (table : ℕ) (f : Token → Walk R) (t : Token) (ts : List Token) → is_member n table t ≡ true
    → halt_of (said p (each_walk f (live_members n table (t ∷ ts)))) ≡ option_or (halt_of (said p (f t))) (halt_of (said p (each_walk f (live_members n table ts))))
member_halt p n table f t ts here =
    ap (λ ms. halt_of (said p (each_walk f ms))) (taken n table t ts here)
    ∙ ap halt_of (each_next p f t (live_members n table ts))
    ∙ then_halt (said p (f t)) (λ r. after (r ∷ []) (said p (each_walk f (live_members n table ts)))) (halt_of (said p (each_walk f (live_members n table ts))))
    (λ r. after_halt (r ∷ []) (said p (each_walk f (live_members n table ts))))

last_halt : {A R : Type 0} (s : Result A Halt) (f : A → R) → halt_of (then_said s (λ a. Ok (f a))) ≡ halt_of s
last_halt (Ok a) f = refl
last_halt (Err h) f = refl

-- a member that is there does not end it
pub member_free : (p : Key → Option Slot) (n : Nodes) (table : ℕ) (t : Token) (ts : List Token) → is_member n table t ≡ true → halt_of (part (Row t) (p (Row t))) ≡ None
    → halt_of (said p (each_walk row_walk (live_members n table (t ∷ ts)))) ≡ halt_of (said p (each_walk row_walk (live_members n table ts)))
member_free p n table t ts here free =
    member_halt p n table row_walk t ts here
    ∙ ap (λ o. option_or o (halt_of (said p (each_walk row_walk (live_members n table ts))))) (last_halt (part (Row t) (p (Row t))) (λ row. row) ∙ free)

abbrev key_halt : (Key → Option Slot) → Key → Option Halt
key_halt p k = halt_of (part k (p k))

-- a type and its members, in the order in which they are looked at
pub type_halts : (p : Key → Option Slot) (n : Nodes) (t : Token) → halt_of (said p (type_walk n t))
    ≡ option_or (key_halt p (Row t)) (option_or (halt_of (said p (members_walk n t field))) (option_or (halt_of (said p (members_walk n t method_def)))
    (option_or (key_halt p (Linked t InterfaceImpl)) (key_halt p (Linked t Nested)))))
unfolding type_walk
type_halts p n t =
    then_halt (part (Row t) (p (Row t))) _ _ (λ row.
    walk_halt p (members_walk n t field) _ _ (λ fields.
    walk_halt p (members_walk n t method_def) _ _ (λ methods.
    then_halt (part (Linked t InterfaceImpl) (p (Linked t InterfaceImpl))) _ _ (λ interfaces.
    last_halt (part (Linked t Nested) (p (Linked t Nested))) _))))

-- a method, its parameters and its body
pub method_halts : (p : Key → Option Slot) (n : Nodes) (t : Token) → halt_of (said p (method_walk n t))
    ≡ option_or (key_halt p (Row t)) (option_or (key_halt p (Sig t)) (option_or (halt_of (said p (members_walk n t param))) (key_halt p (Body t))))
unfolding method_walk
method_halts p n t =
    then_halt (part (Row t) (p (Row t))) _ _ (λ row.
    then_halt (part (Sig t) (p (Sig t))) _ _ (λ sig.
    walk_halt p (members_walk n t param) _ _ (λ params.
    last_halt (part (Body t) (p (Body t))) _)))
