-- Tokens in the places of a signature's own: with none it stays as it is, and with as many as it has they are its tokens.
use Rattle.std.proofs.Common.{◌≡◌, ℕ, suc, zero, ◌+◌, List, [], ◌∷◌, ◌++◌, length, map, drop, codes, refl, sym, ap, subst, ◌∙◌, append_assoc, arith}
use Rattle.std.proofs.lemmas.List.{length-append, append-nil, nil_from_length}
use Rattle.cil_base.specs.Token.{Token}
use Rattle.sig_tree.specs.Printed.{tokens, type_pieces}
use Rattle.sig_tree.specs.inner.OwnTokens.{type_tokens, types_tokens, method_tokens}
use Rattle.sig_tree.specs.Replaced.{next, type_taking, method_taking, type_with, method_with, types_with, replaced}
use Rattle.sig_tree.specs.declared.tree.TypeSig.{TypeSig}
use Rattle.sig_tree.specs.declared.tree.TypeSig.TheVariants.{Prim, Ptr, ByRef, Value, Class, Var, MVar, SzArray, Array, Inst, FnPtr, Mod, Pinned}
use Rattle.sig_tree.specs.declared.tree.TypeSig.TheOpen.{TypeSig-F, MethodSig-F}
use Rattle.sig_tree.specs.declared.tree.TypeSig.TheViews.{roll-TypeSig, roll-MethodSig, roll-out-MethodSig, rolls-Prim, rolls-Ptr, rolls-ByRef, rolls-Value, rolls-Class, rolls-Var, rolls-MVar, rolls-SzArray, rolls-Array, rolls-Inst, rolls-FnPtr, rolls-Mod, rolls-Pinned}
use Rattle.sig_tree.specs.declared.tree.TypeSig.TheFolds.{fold-roll-TypeSig, fold_out-MethodSig, map-TypeSig, map-MethodSig, ind-TypeSig, ind-MethodSig}
use Rattle.sig_tree.specs.declared.tree.MethodSig.{MethodSig}
use Rattle.sig_tree.specs.declared.tree.SigTree.{SigTree}
use Rattle.sig_tree.specs.declared.tree.SigTree.TheVariants.{Method, Field, Locals, Property, Inst as MethodInst, Plain}
use Rattle.sig_tree.proofs.TokenRows as rows

-- tokens in two parts
record Parted (ts : List Token) (a b : ℕ) : Type 0 where
  front : List Token
  back : List Token
  whole : front ++ back ≡ ts
  first : length front ≡ a
  second : length back ≡ b

parted : (a b : ℕ) (ts : List Token) → length ts ≡ a + b → Parted ts a b
parted zero b ts h = record { front = []; back = ts; whole = refl; first = refl; second = omega arith }
parted (suc a) b [] h = absurd (omega arith)
parted (suc a) b (t ∷ ts) h =
    let p = parted a b ts (omega arith) in
    record { front = t ∷ p.front; back = p.back; whole = ap (λ ts. t ∷ ts) p.whole; first = ap suc p.first; second = p.second }

-- a part with tokens: with none it stays, and with as many as it has, with others behind, they are its own
record Keeps (A : Type 0) (own : A → List Token) (put : A → List Token → A × List Token) (x : A) : Type 0 where
  pub stays : put x [] ≡ (x, [])
  pub takes : (ts more : List Token) → length ts ≡ length (own x) → (own (put x (ts ++ more)).0 ≡ ts) × ((put x (ts ++ more)).1 ≡ more)

abbrev TypeKeeps : TypeSig → Type 0
TypeKeeps t = Keeps TypeSig type_tokens type_with t

abbrev TypesKeep : List TypeSig → Type 0
TypesKeep ts = Keeps (List TypeSig) types_tokens types_with ts

abbrev MethodKeeps : MethodSig → Type 0
MethodKeeps m = Keeps MethodSig method_tokens method_with m

-- a type's tokens are placed level by level
taken : (x : TypeSig-F TypeSig MethodSig) (t : TypeSig) (ts : List Token) → roll-TypeSig x ≡ t
    → type_with t ts ≡ type_taking (map-TypeSig TypeSig MethodSig (List Token → TypeSig × List Token) (List Token → MethodSig × List Token) type_with method_with x) ts
taken x t ts h =
    ap (λ (t : TypeSig). type_with t ts) (sym h)
    ∙ ap (λ (f : List Token → TypeSig × List Token). f ts) (fold-roll-TypeSig (List Token → TypeSig × List Token) (List Token → MethodSig × List Token) type_taking method_taking x)

-- a type without tokens
without : (t : TypeSig) → type_tokens t ≡ [] → ((ts : List Token) → type_with t ts ≡ (t, ts)) → TypeKeeps t
without t none place = record {
  stays = place [];
  takes = λ ts more h.
      let e = nil_from_length ts (h ∙ ap length none) in (
        ap (λ q. type_tokens q.0) (place (ts ++ more)) ∙ none ∙ sym e,
        ap (λ q. q.1) (place (ts ++ more)) ∙ ap (λ ts. ts ++ more) e,
      );
}

-- one token in the place of one
single : (f : Token → TypeSig) → ((a : Token) → type_tokens (f a) ≡ a ∷ []) → ((a : Token) (ts : List Token) → type_with (f a) ts ≡ (f (next a ts), drop 1 ts)) → (a : Token) (ts more : List Token)
    → length ts ≡ 1 → (type_tokens (type_with (f a) (ts ++ more)).0 ≡ ts) × ((type_with (f a) (ts ++ more)).1 ≡ more)
single f own place a [] more h = absurd (omega arith)
single f own place a (t ∷ []) more h = (ap (λ q. type_tokens q.0) (place a (t ∷ more)) ∙ own t, ap (λ q. q.1) (place a (t ∷ more)))
single f own place a (t ∷ u ∷ ts) more h = absurd (omega arith)

of_token : (f : Token → TypeSig) → ((a : Token) → type_tokens (f a) ≡ a ∷ []) → ((a : Token) (ts : List Token) → type_with (f a) ts ≡ (f (next a ts), drop 1 ts)) → (a : Token) → TypeKeeps (f a)
of_token f own place a = record {
  stays = place a [];
  takes = λ ts more h. single f own place a ts more (h ∙ ap length (own a));
}

-- a type around one that stands for its tokens
around : (A : Type 0) (own : A → List Token) (put : A → List Token → A × List Token) (f : A → TypeSig) → ((x : A) → type_tokens (f x) ≡ own x)
    → ((x : A) (ts : List Token) → type_with (f x) ts ≡ (f (put x ts).0, (put x ts).1)) → (x : A) → Keeps A own put x → TypeKeeps (f x)
around A own put f same place x k = record {
  stays = place x [] ∙ ap (λ q. (f q.0, q.1)) k.stays;
  takes = λ ts more h.
      let p = k.takes ts more (h ∙ ap length (same x)) in (
        ap (λ q. type_tokens q.0) (place x (ts ++ more)) ∙ same (put x (ts ++ more)).0 ∙ p.0,
        ap (λ q. q.1) (place x (ts ++ more)) ∙ p.1,
      );
}

-- a type with a token before others
fronted : (A : Type 0) (own : A → List Token) (put : A → List Token → A × List Token) (f : Token → A → TypeSig) → ((a : Token) (x : A) → type_tokens (f a x) ≡ a ∷ own x)
    → ((a : Token) (x : A) (ts : List Token) → type_with (f a x) ts ≡ (f (next a ts) (put x (drop 1 ts)).0, (put x (drop 1 ts)).1)) → (a : Token) (x : A) → Keeps A own put x → (ts more : List Token)
    → length ts ≡ suc (length (own x)) → (type_tokens (type_with (f a x) (ts ++ more)).0 ≡ ts) × ((type_with (f a x) (ts ++ more)).1 ≡ more)
fronted A own put f same place a x k [] more h = absurd (omega arith)
fronted A own put f same place a x k (t ∷ ts) more h =
    let p = k.takes ts more (omega arith) in (
      ap (λ q. type_tokens q.0) (place a x (t ∷ (ts ++ more))) ∙ same t (put x (ts ++ more)).0 ∙ ap (λ ts. t ∷ ts) p.0,
      ap (λ q. q.1) (place a x (t ∷ (ts ++ more))) ∙ p.1,
    )

headed : (A : Type 0) (own : A → List Token) (put : A → List Token → A × List Token) (f : Token → A → TypeSig) → ((a : Token) (x : A) → type_tokens (f a x) ≡ a ∷ own x)
    → ((a : Token) (x : A) (ts : List Token) → type_with (f a x) ts ≡ (f (next a ts) (put x (drop 1 ts)).0, (put x (drop 1 ts)).1)) → (a : Token) (x : A) → Keeps A own put x → TypeKeeps (f a x)
headed A own put f same place a x k = record {
  stays = place a x [] ∙ ap (λ q. (f a q.0, q.1)) k.stays;
  takes = λ ts more h. fronted A own put f same place a x k ts more (h ∙ ap length (same a x));
}

-- two parts, one after the other
pair : (A B : Type 0) (own : A → List Token) (put : A → List Token → A × List Token) (own' : B → List Token) (put' : B → List Token → B × List Token) (x : A) (y : B) → Keeps A own put x → Keeps B own' put' y
    → (ts more : List Token) → length ts ≡ length (own x ++ own' y)
    → ((own (put x (ts ++ more)).0 ++ own' (put' y (put x (ts ++ more)).1).0) ≡ ts) × ((put' y (put x (ts ++ more)).1).1 ≡ more)
pair A B own put own' put' x y k l ts more h =
    let p = parted (length (own x)) (length (own' y)) ts (h ∙ length-append (own x) (own' y)) in
    let e : ts ++ more ≡ p.front ++ (p.back ++ more) = ap (λ ts. ts ++ more) (sym p.whole) ∙ append_assoc p.front p.back more in
    let a = k.takes p.front (p.back ++ more) p.first in
    let b = l.takes p.back more p.second in
    let first : own (put x (ts ++ more)).0 ≡ p.front = ap (λ ts. own (put x ts).0) e ∙ a.0 in
    let rest : (put x (ts ++ more)).1 ≡ p.back ++ more = ap (λ ts. (put x ts).1) e ∙ a.1 in (
      ap (λ us. us ++ own' (put' y (put x (ts ++ more)).1).0) first ∙ ap (λ us. p.front ++ own' (put' y us).0) rest ∙ ap (λ us. p.front ++ us) b.0 ∙ p.whole,
      ap (λ us. (put' y us).1) rest ∙ b.1,
    )

-- types in order
types_keep : (es : List ((t : TypeSig) × TypeKeeps t)) → TypesKeep (map (λ e. e.0) es)
types_keep [] = record { stays = refl; takes = λ ts more h. let e = nil_from_length ts h in (sym e, ap (λ ts. ts ++ more) e) }
types_keep (e ∷ es) =
    let k = e.1 in
    let l = types_keep es in
    let others = map (λ (e : (t : TypeSig) × TypeKeeps t). e.0) es in record {
      stays = ap (λ q. (q.0 ∷ (types_with others q.1).0, (types_with others q.1).1)) k.stays ∙ ap (λ q. (e.0 ∷ q.0, q.1)) l.stays;
      takes = λ ts more h. pair TypeSig (List TypeSig) type_tokens type_with types_tokens types_with e.0 others k l ts more h;
    }

-- a method, field by field, with other types
abbrev typed : MethodSig → TypeSig → List TypeSig → MethodSig
typed m ret params = record { kind = m.kind; this = m.this; explicit = m.explicit; arity = m.arity; ret = ret; params = params; sentinel = m.sentinel }

method_taken : (m : MethodSig) (ts : List Token)
    → method_with m ts ≡ (typed m (type_with m.ret ts).0 (types_with m.params (type_with m.ret ts).1).0, (types_with m.params (type_with m.ret ts).1).1)
method_taken m ts = ap (λ (f : List Token → MethodSig × List Token). f ts) (fold_out-MethodSig (List Token → TypeSig × List Token) (List Token → MethodSig × List Token) type_taking method_taking m)

method_keeps : (m : MethodSig) → TypeKeeps m.ret → TypesKeep m.params → MethodKeeps m
method_keeps m k l = record {
  stays = method_taken m []
      ∙ ap (λ q. (typed m q.0 (types_with m.params q.1).0, (types_with m.params q.1).1)) k.stays
      ∙ ap (λ q. (typed m m.ret q.0, q.1)) l.stays
      ∙ ap (λ m. (m, [])) (roll-out-MethodSig m);
  takes = λ ts more h.
      let p = pair TypeSig (List TypeSig) type_tokens type_with types_tokens types_with m.ret m.params k l ts more (h ∙ ap length (rows.method_row m)) in
      let ret = (type_with m.ret (ts ++ more)).0 in
      let params = (types_with m.params (type_with m.ret (ts ++ more)).1).0 in (
        ap (λ q. method_tokens q.0) (method_taken m (ts ++ more)) ∙ rows.method_row (typed m ret params) ∙ p.0,
        ap (λ q. q.1) (method_taken m (ts ++ more)) ∙ p.1,
      );
}

abbrev KeptType : Type 0
KeptType = (t : TypeSig) × TypeKeeps t

abbrev KeptMethod : Type 0
KeptMethod = (m : MethodSig) × MethodKeeps m

abbrev bare : TypeSig-F KeptType KeptMethod → TypeSig-F TypeSig MethodSig
bare y = map-TypeSig KeptType KeptMethod TypeSig MethodSig (λ e. e.0) (λ e. e.0) y

wrapped : (f : TypeSig → TypeSig) (x : TypeSig → TypeSig-F TypeSig MethodSig) → ((t : TypeSig) → roll-TypeSig (x t) ≡ f t) → ((t : TypeSig) → type_tokens (f t) ≡ type_tokens t)
    → ((t : TypeSig) (ts : List Token) → type_with (f t) ts ≡ (f (type_with t ts).0, (type_with t ts).1)) → (e : KeptType) → TypeKeeps (roll-TypeSig (x e.0))
wrapped f x rolls same place e = subst TypeKeeps (sym (rolls e.0)) (around TypeSig type_tokens type_with f same place e.0 e.1)

level_keeps : (y : TypeSig-F KeptType KeptMethod) → TypeKeeps (roll-TypeSig (bare y))
level_keeps (TypeSig-F.Prim code) = subst TypeKeeps (sym (rolls-Prim code)) (without (Prim code) (rows.tokens-Prim code) (λ ts. taken (TypeSig-F.Prim code) (Prim code) ts (rolls-Prim code)))
level_keeps (TypeSig-F.Var n) = subst TypeKeeps (sym (rolls-Var n)) (without (Var n) (rows.tokens-Var n) (λ ts. taken (TypeSig-F.Var n) (Var n) ts (rolls-Var n)))
level_keeps (TypeSig-F.MVar n) = subst TypeKeeps (sym (rolls-MVar n)) (without (MVar n) (rows.tokens-MVar n) (λ ts. taken (TypeSig-F.MVar n) (MVar n) ts (rolls-MVar n)))
level_keeps (TypeSig-F.Value of) = subst TypeKeeps (sym (rolls-Value of)) (of_token Value rows.tokens-Value (λ a ts. taken (TypeSig-F.Value a) (Value a) ts (rolls-Value a)) of)
level_keeps (TypeSig-F.Class of) = subst TypeKeeps (sym (rolls-Class of)) (of_token Class rows.tokens-Class (λ a ts. taken (TypeSig-F.Class a) (Class a) ts (rolls-Class a)) of)
level_keeps (TypeSig-F.Ptr e) = wrapped Ptr TypeSig-F.Ptr rolls-Ptr rows.tokens-Ptr (λ t ts. taken (TypeSig-F.Ptr t) (Ptr t) ts (rolls-Ptr t)) e
level_keeps (TypeSig-F.ByRef e) = wrapped ByRef TypeSig-F.ByRef rolls-ByRef rows.tokens-ByRef (λ t ts. taken (TypeSig-F.ByRef t) (ByRef t) ts (rolls-ByRef t)) e
level_keeps (TypeSig-F.SzArray e) = wrapped SzArray TypeSig-F.SzArray rolls-SzArray rows.tokens-SzArray (λ t ts. taken (TypeSig-F.SzArray t) (SzArray t) ts (rolls-SzArray t)) e
level_keeps (TypeSig-F.Pinned e) = wrapped Pinned TypeSig-F.Pinned rolls-Pinned rows.tokens-Pinned (λ t ts. taken (TypeSig-F.Pinned t) (Pinned t) ts (rolls-Pinned t)) e
level_keeps (TypeSig-F.Array e rank sizes lows) =
    wrapped (λ t. Array t rank sizes lows) (λ t. TypeSig-F.Array t rank sizes lows) (λ t. rolls-Array t rank sizes lows) (λ t. rows.tokens-Array t rank sizes lows)
    (λ t ts. taken (TypeSig-F.Array t rank sizes lows) (Array t rank sizes lows) ts (rolls-Array t rank sizes lows)) e
level_keeps (TypeSig-F.Inst value of es) =
    let args = map (λ (e : KeptType). e.0) es in
    subst TypeKeeps (sym (rolls-Inst value of args)) (headed (List TypeSig) types_tokens types_with (λ of args. Inst value of args) (λ of args. rows.tokens-Inst value of args)
    (λ of args ts. taken (TypeSig-F.Inst value of args) (Inst value of args) ts (rolls-Inst value of args)) of args (types_keep es))
level_keeps (TypeSig-F.Mod required of e) =
    subst TypeKeeps (sym (rolls-Mod required of e.0)) (headed TypeSig type_tokens type_with (λ of t. Mod required of t) (λ of t. rows.tokens-Mod required of t)
    (λ of t ts. taken (TypeSig-F.Mod required of t) (Mod required of t) ts (rolls-Mod required of t)) of e.0 e.1)
level_keeps (TypeSig-F.FnPtr e) =
    subst TypeKeeps (sym (rolls-FnPtr e.0)) (around MethodSig method_tokens method_with FnPtr rows.tokens-FnPtr (λ m ts. taken (TypeSig-F.FnPtr m) (FnPtr m) ts (rolls-FnPtr m)) e.0 e.1)

type_step : (x : TypeSig-F TypeSig MethodSig) (y : TypeSig-F KeptType KeptMethod) → bare y ≡ x → TypeKeeps (roll-TypeSig x)
type_step x y is = subst (λ z. TypeKeeps (roll-TypeSig z)) is (level_keeps y)

abbrev bare_method : MethodSig-F KeptType KeptMethod → MethodSig-F TypeSig MethodSig
bare_method y = map-MethodSig KeptType KeptMethod TypeSig MethodSig (λ e. e.0) (λ e. e.0) y

made : MethodSig-F KeptType KeptMethod → MethodSig
made y = record { kind = y.kind; this = y.this; explicit = y.explicit; arity = y.arity; ret = y.ret.0; params = map (λ (e : KeptType). e.0) y.params; sentinel = y.sentinel }

made_keeps : (y : MethodSig-F KeptType KeptMethod) → MethodKeeps (made y)
unfolding made
made_keeps y = method_keeps (made y) y.ret.1 (types_keep y.params)

method_step : (x : MethodSig-F TypeSig MethodSig) (y : MethodSig-F KeptType KeptMethod) → bare_method y ≡ x → MethodKeeps (roll-MethodSig x)
unfolding made
method_step x y is = subst (λ z. MethodKeeps (roll-MethodSig z)) is (subst MethodKeeps (sym (roll-out-MethodSig (made y))) (made_keeps y))

type_keeps : (t : TypeSig) → TypeKeeps t
type_keeps = ind-TypeSig TypeKeeps MethodKeeps type_step method_step

method_keeps_all : (m : MethodSig) → MethodKeeps m
method_keeps_all = ind-MethodSig TypeKeeps MethodKeeps type_step method_step

own : (ts : List TypeSig) → TypesKeep ts
own [] = types_keep []
own (t ∷ ts) =
    let k = type_keeps t in
    let l = own ts in record {
      stays = ap (λ q. (q.0 ∷ (types_with ts q.1).0, (types_with ts q.1).1)) k.stays ∙ ap (λ q. (t ∷ q.0, q.1)) l.stays;
      takes = λ us more h. pair TypeSig (List TypeSig) type_tokens type_with types_tokens types_with t ts k l us more h;
    }

-- what a copy is
pub type_untouched : (t : TypeSig) → type_with t [] ≡ (t, [])
type_untouched t = (type_keeps t).stays

pub method_untouched : (m : MethodSig) → method_with m [] ≡ (m, [])
method_untouched m = (method_keeps_all m).stays

pub tree_untouched : (sig : SigTree) → replaced sig [] ≡ sig
tree_untouched (Method m) = ap (λ q. Method q.0) (method_untouched m)
tree_untouched (Field t) = ap (λ q. Field q.0) (type_untouched t)
tree_untouched (Locals ts) = ap (λ q. Locals q.0) (own ts).stays
tree_untouched (Property this t params) = ap (λ q. Property this q.0 (types_with params q.1).0) (type_untouched t) ∙ ap (λ q. Property this t q.0) (own params).stays
tree_untouched (MethodInst args) = ap (λ q. MethodInst q.0) (own args).stays
tree_untouched (Plain t) = ap (λ q. Plain q.0) (type_untouched t)

-- the tokens of each sort of signature
alone : (A : Type 0) (own : A → List Token) (put : A → List Token → A × List Token) (x : A) → Keeps A own put x → (ts : List Token) → length ts ≡ length (own x) → own (put x ts).0 ≡ ts
alone A own put x k ts h = ap (λ ts. own (put x ts).0) (sym (append-nil ts)) ∙ (k.takes ts [] h).0

listed : (f : List TypeSig → SigTree) → ((ts : List TypeSig) → tokens (f ts) ≡ types_tokens ts) → (types : List TypeSig) (ts : List Token) → length ts ≡ length (tokens (f types)) → tokens (f (types_with types ts).0) ≡ ts
listed f same types ts h = same (types_with types ts).0 ∙ alone (List TypeSig) types_tokens types_with types (own types) ts (h ∙ ap length (same types))

pub tree_tokens : (sig : SigTree) (ts : List Token) → length ts ≡ length (tokens sig) → tokens (replaced sig ts) ≡ ts
tree_tokens (Method m) ts h = alone MethodSig method_tokens method_with m (method_keeps_all m) ts h
tree_tokens (Field t) ts h =
    rows.behind (codes "field ") (type_pieces (type_with t ts).0)
    ∙ alone TypeSig type_tokens type_with t (type_keeps t) ts (h ∙ ap length (rows.behind (codes "field ") (type_pieces t)))
tree_tokens (Locals types) ts h = listed Locals (rows.bracketed (codes "locals(") (codes ")")) types ts h
tree_tokens (Property this t params) ts h =
    let k = type_keeps t in
    let l = own params in
    let p = pair TypeSig (List TypeSig) type_tokens type_with types_tokens types_with t params k l ts [] (h ∙ ap length (rows.property_row this t params)) in
    rows.property_row this (type_with t ts).0 (types_with params (type_with t ts).1).0
    ∙ subst (λ us. type_tokens (type_with t us).0 ++ types_tokens (types_with params (type_with t us).1).0 ≡ ts) (append-nil ts) p.0
tree_tokens (MethodInst args) ts h = listed MethodInst (rows.bracketed (codes "inst<") (codes ">")) args ts h
tree_tokens (Plain t) ts h = alone TypeSig type_tokens type_with t (type_keeps t) ts h
