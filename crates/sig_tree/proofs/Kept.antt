-- A signature keeps its bounds when type tokens stand in the places of its own.
use Rattle.std.proofs.Common.{◌≡◌, ℕ, suc, zero, List, [], ◌∷◌, ◌++◌, Bool, true, false, ◌&&◌, ℤ, length, map, drop, refl, sym, ap, subst, ◌∙◌}
use Rattle.std.specs.List.{list_all}
use Rattle.std.proofs.lemmas.List.Folds.{list_all-map, list_all-append}
use Rattle.cil_base.specs.Token.{Token}
use Rattle.sig_tree.specs.declared.symbol.Symbol.{Symbol}
use Rattle.sig_tree.specs.declared.symbol.Symbol.TheVariants.{Byte, Number, Signed, TypeToken}
use Rattle.sig_tree.specs.Symbols.{can_be_spelled}
use Rattle.sig_tree.specs.Spelling.{counted, arity_symbols, method_symbols, type_symbols, all_symbols}
use Rattle.sig_tree.specs.Bounds.{is_kind, has_place, type_fits, method_fits, all_fit, IsBoundedSig, depth_limit}
use Rattle.sig_tree.specs.Replaced.{next, type_taking, method_taking, type_with, method_with, types_with, replaced, names_type}
use Rattle.sig_tree.specs.declared.tree.TypeSig.{TypeSig}
use Rattle.sig_tree.specs.declared.tree.TypeSig.TheVariants.{Prim, Ptr, ByRef, Value, Class, Var, MVar, SzArray, Array, Inst, FnPtr, Mod, Pinned}
use Rattle.sig_tree.specs.declared.tree.TypeSig.TheOpen.{TypeSig-F}
use Rattle.sig_tree.specs.declared.tree.TypeSig.TheViews.{roll-TypeSig, out-TypeSig, roll-out-TypeSig, rolls-Prim, rolls-Ptr, rolls-ByRef, rolls-Value, rolls-Class, rolls-Var, rolls-MVar, rolls-SzArray, rolls-Array, rolls-Inst, rolls-FnPtr, rolls-Mod, rolls-Pinned}
use Rattle.sig_tree.specs.declared.tree.TypeSig.TheFolds.{fold-roll-TypeSig, fold_out-MethodSig, map-TypeSig}
use Rattle.sig_tree.specs.declared.tree.MethodSig.{MethodSig}
use Rattle.sig_tree.specs.declared.tree.SigTree.{SigTree}
use Rattle.sig_tree.specs.declared.tree.SigTree.TheVariants.{Method, Field, Locals, Property, Inst as MethodInst, Plain}
use Rattle.sig_tree.proofs.Rows.{method_spellable, token_spelled}
use Rattle.sig_tree.proofs.Strips.{both, and}
use Rattle.sig_tree.proofs.Methods.{fits-is}
use Rattle.sig_tree.proofs.Rolls.{row-of, fit-of, row-Inst, fits_zero}

-- tokens that can be spelled
abbrev pub Known : List Token → Type 0
Known ts = list_all can_be_spelled (map TypeToken ts) ≡ true

-- tokens that a signature can name can be spelled
pub known_tokens : (ts : List Token) → list_all names_type ts ≡ true → Known ts
known_tokens [] h = refl
known_tokens (t ∷ ts) h =
    let p = both (names_type t) (list_all names_type ts) h in
    and (can_be_spelled (TypeToken t)) (list_all can_be_spelled (map TypeToken ts)) (token_spelled t ∙ p.0) (known_tokens ts p.1)

known_next : (of : Token) (ts : List Token) → Known ts → can_be_spelled (TypeToken of) ≡ true → can_be_spelled (TypeToken (next of ts)) ≡ true
known_next of [] h k = k
known_next of (t ∷ ts) h k = (both (can_be_spelled (TypeToken t)) (list_all can_be_spelled (map TypeToken ts)) h).0

known_rest : (ts : List Token) → Known ts → Known (drop 1 ts)
known_rest [] h = refl
known_rest (t ∷ ts) h = (both (can_be_spelled (TypeToken t)) (list_all can_be_spelled (map TypeToken ts)) h).1

-- a type within a depth that can be spelled
record Holds (d : ℕ) (t : TypeSig) : Type 0 where
  fitting : type_fits t d ≡ true
  spelling : list_all can_be_spelled (type_symbols t) ≡ true

record Keeps (d : ℕ) (placed : TypeSig × List Token) : Type 0 where
  holds : Holds d placed.0
  left : Known placed.1

abbrev Kept : ℕ → TypeSig → Type 0
Kept d t = (ts : List Token) → Known ts → Holds d t → Keeps d (type_with t ts)

-- a type's tokens are placed level by level
taken : (x : TypeSig-F TypeSig MethodSig) (t : TypeSig) (ts : List Token) → roll-TypeSig x ≡ t
    → type_with t ts ≡ type_taking (map-TypeSig TypeSig MethodSig (List Token → TypeSig × List Token) (List Token → MethodSig × List Token) type_with method_with x) ts
taken x t ts h =
    ap (λ (t : TypeSig). type_with t ts) (sym h)
    ∙ ap (λ (f : List Token → TypeSig × List Token). f ts) (fold-roll-TypeSig (List Token → TypeSig × List Token) (List Token → MethodSig × List Token) type_taking method_taking x)

-- a type without tokens
without : (d : ℕ) (t : TypeSig) → ((ts : List Token) → type_with t ts ≡ (t, ts)) → Kept d t
without d t place = λ ts h k. subst (Keeps d) (sym (place ts)) (record { holds = k; left = h })

-- a type of one token after its first byte
of_token : (d b : ℕ) (f : Token → TypeSig) → ((a : Token) → type_symbols (f a) ≡ Byte b ∷ TypeToken a ∷ []) → ((a : Token) → type_fits (f a) (suc d) ≡ true)
    → ((a : Token) (ts : List Token) → type_with (f a) ts ≡ (f (next a ts), drop 1 ts)) → (a : Token) → Kept (suc d) (f a)
of_token d b f row fit place a = λ ts h k.
    let own = both (can_be_spelled (TypeToken a)) true (sym (ap (list_all can_be_spelled) (row a)) ∙ k.spelling) in
    let new = and (can_be_spelled (TypeToken (next a ts))) true (known_next a ts h own.0) refl in
    subst (Keeps (suc d)) (sym (place a ts)) (record {
      holds = record { fitting = fit (next a ts); spelling = ap (list_all can_be_spelled) (row (next a ts)) ∙ new };
      left = known_rest ts h;
    })

-- a type of one type after its first byte
unary : (d b : ℕ) (f : TypeSig → TypeSig) → ((u : TypeSig) → type_symbols (f u) ≡ Byte b ∷ type_symbols u) → ((u : TypeSig) → type_fits (f u) (suc d) ≡ type_fits u d)
    → ((u : TypeSig) (ts : List Token) → type_with (f u) ts ≡ (f (type_with u ts).0, (type_with u ts).1)) → (u : TypeSig) → Kept d u → Kept (suc d) (f u)
unary d b f row fit place u kept = λ ts h k.
    let p = kept ts h (record { fitting = sym (fit u) ∙ k.fitting; spelling = sym (ap (list_all can_be_spelled) (row u)) ∙ k.spelling }) in
    subst (Keeps (suc d)) (sym (place u ts)) (record {
      holds = record { fitting = fit (type_with u ts).0 ∙ p.holds.fitting; spelling = ap (list_all can_be_spelled) (row (type_with u ts).0) ∙ p.holds.spelling };
      left = p.left;
    })

-- types in order
record AllHold (d : ℕ) (types : List TypeSig) : Type 0 where
  fitting : all_fit types d ≡ true
  spelling : list_all can_be_spelled (all_symbols types) ≡ true

record AllKeep (d n : ℕ) (placed : List TypeSig × List Token) : Type 0 where
  holds : AllHold d placed.0
  count : length placed.0 ≡ n
  left : Known placed.1

types_kept : (d : ℕ) → ((t : TypeSig) → Kept d t) → (types : List TypeSig) (ts : List Token) → Known ts → AllHold d types → AllKeep d (length types) (types_with types ts)
types_kept d kept [] ts h k = record { holds = record { fitting = refl; spelling = refl }; count = refl; left = h }
types_kept d kept (t ∷ types) ts h k =
    let f = both (type_fits t d) (all_fit types d) k.fitting in
    let s = both (list_all can_be_spelled (type_symbols t)) (list_all can_be_spelled (all_symbols types)) (sym (list_all-append can_be_spelled (type_symbols t) (all_symbols types)) ∙ k.spelling) in
    let p = kept t ts h (record { fitting = f.0; spelling = s.0 }) in
    let q = types_kept d kept types (type_with t ts).1 p.left (record { fitting = f.1; spelling = s.1 }) in
    let u = (type_with t ts).0 in
    let us = (types_with types (type_with t ts).1).0 in
    record {
      holds = record {
        fitting = and (type_fits u d) (all_fit us d) p.holds.fitting q.holds.fitting;
        spelling = list_all-append can_be_spelled (type_symbols u) (all_symbols us)
            ∙ and (list_all can_be_spelled (type_symbols u)) (list_all can_be_spelled (all_symbols us)) p.holds.spelling q.holds.spelling;
      };
      count = ap suc q.count;
      left = q.left;
    }

-- a method, field by field, with other types
abbrev typed : MethodSig → TypeSig → List TypeSig → MethodSig
typed m ret params = record { kind = m.kind; this = m.this; explicit = m.explicit; arity = m.arity; ret = ret; params = params; sentinel = m.sentinel }

record MethodHolds (pointer : Bool) (d : ℕ) (m : MethodSig) : Type 0 where
  fitting : method_fits m pointer d ≡ true
  spelling : list_all can_be_spelled (method_symbols m) ≡ true

record MethodKeeps (pointer : Bool) (d : ℕ) (placed : MethodSig × List Token) : Type 0 where
  holds : MethodHolds pointer d placed.0
  left : Known placed.1

method_taken : (m : MethodSig) (ts : List Token)
    → method_with m ts ≡ (typed m (type_with m.ret ts).0 (types_with m.params (type_with m.ret ts).1).0, (types_with m.params (type_with m.ret ts).1).1)
method_taken m ts = ap (λ (f : List Token → MethodSig × List Token). f ts) (fold_out-MethodSig (List Token → TypeSig × List Token) (List Token → MethodSig × List Token) type_taking method_taking m)

abbrev within : MethodSig → ℕ → Bool
within m d = is_kind m.kind && type_fits m.ret d && list_all (λ t. type_fits t d) m.params

abbrev types_spelled : MethodSig → Bool
types_spelled m = list_all can_be_spelled (type_symbols m.ret) && list_all can_be_spelled (all_symbols m.params)

method_kept : (pointer : Bool) (d : ℕ) → ((t : TypeSig) → Kept d t) → (m : MethodSig) (ts : List Token) → Known ts → MethodHolds pointer d m → MethodKeeps pointer d (method_with m ts)
method_kept pointer d kept m ts h k =
    let ret = (type_with m.ret ts).0 in
    let params = (types_with m.params (type_with m.ret ts).1).0 in
    let new = typed m ret params in
    let f = both (within m d) (has_place pointer (length m.params) m.sentinel) (sym (fits-is m pointer d) ∙ k.fitting) in
    let g = both (is_kind m.kind && type_fits m.ret d) (list_all (λ t. type_fits t d) m.params) f.0 in
    let e = both (is_kind m.kind) (type_fits m.ret d) g.0 in
    let s = both (list_all can_be_spelled (arity_symbols m.arity)) (can_be_spelled (Number (length m.params)) && types_spelled m) (sym (method_spellable m) ∙ k.spelling) in
    let c = both (can_be_spelled (Number (length m.params))) (types_spelled m) s.1 in
    let r = both (list_all can_be_spelled (type_symbols m.ret)) (list_all can_be_spelled (all_symbols m.params)) c.1 in
    let p = kept m.ret ts h (record { fitting = e.1; spelling = r.0 }) in
    let all = list_all-map (λ (t : ℕ → Bool). t d) type_fits m.params in
    let q = types_kept d kept m.params (type_with m.ret ts).1 p.left (record { fitting = all ∙ g.1; spelling = r.1 }) in
    let fits = and (is_kind m.kind && type_fits ret d) (list_all (λ t. type_fits t d) params) (and (is_kind m.kind) (type_fits ret d) e.0 p.holds.fitting) (sym (list_all-map (λ (t : ℕ → Bool). t d) type_fits params) ∙ q.holds.fitting) in
    let place = ap (λ (n : ℕ). has_place pointer n m.sentinel) q.count ∙ f.1 in
    let count = ap (λ (n : ℕ). can_be_spelled (Number n)) q.count ∙ c.0 in
    let types = and (list_all can_be_spelled (type_symbols ret)) (list_all can_be_spelled (all_symbols params)) p.holds.spelling q.holds.spelling in
    subst (MethodKeeps pointer d) (sym (method_taken m ts)) (record {
      holds = record {
        fitting = fits-is new pointer d ∙ and (within new d) (has_place pointer (length params) m.sentinel) fits place;
        spelling = method_spellable new
            ∙ and (list_all can_be_spelled (arity_symbols m.arity)) (can_be_spelled (Number (length params)) && types_spelled new) s.0 (and (can_be_spelled (Number (length params))) (types_spelled new) count types);
      };
      left = q.left;
    })

pointer_kept : (d : ℕ) → ((t : TypeSig) → Kept d t) → (m : MethodSig) → Kept (suc d) (FnPtr m)
pointer_kept d kept m = λ ts h k.
    let new = (method_with m ts).0 in
    let row = λ (m : MethodSig). row-of (TypeSig-F.FnPtr m) (FnPtr m) (rolls-FnPtr m) in
    let fit = λ (m : MethodSig). fit-of (TypeSig-F.FnPtr m) (FnPtr m) d (rolls-FnPtr m) in
    let p = method_kept true d kept m ts h (record { fitting = sym (fit m) ∙ k.fitting; spelling = sym (ap (list_all can_be_spelled) (row m)) ∙ k.spelling }) in
    subst (Keeps (suc d)) (sym (taken (TypeSig-F.FnPtr m) (FnPtr m) ts (rolls-FnPtr m))) (record {
      holds = record { fitting = fit new ∙ p.holds.fitting; spelling = ap (list_all can_be_spelled) (row new) ∙ p.holds.spelling };
      left = p.left;
    })

spelled-Mod : (required : Bool) (of : Token) (u : TypeSig) → list_all can_be_spelled (type_symbols (Mod required of u)) ≡ (can_be_spelled (TypeToken of) && list_all can_be_spelled (type_symbols u))
spelled-Mod required of u = ap (list_all can_be_spelled) (row-of (TypeSig-F.Mod required of u) (Mod required of u) (rolls-Mod required of u))

mod_kept : (d : ℕ) (required : Bool) (of : Token) (u : TypeSig) → Kept d u → Kept (suc d) (Mod required of u)
mod_kept d required of u kept = λ ts h k.
    let fit = λ (of : Token) (u : TypeSig). fit-of (TypeSig-F.Mod required of u) (Mod required of u) d (rolls-Mod required of u) in
    let s = both (can_be_spelled (TypeToken of)) (list_all can_be_spelled (type_symbols u)) (sym (spelled-Mod required of u) ∙ k.spelling) in
    let p = kept (drop 1 ts) (known_rest ts h) (record { fitting = sym (fit of u) ∙ k.fitting; spelling = s.1 }) in
    let inner = (type_with u (drop 1 ts)).0 in
    subst (Keeps (suc d)) (sym (taken (TypeSig-F.Mod required of u) (Mod required of u) ts (rolls-Mod required of u))) (record {
      holds = record {
        fitting = fit (next of ts) inner ∙ p.holds.fitting;
        spelling = spelled-Mod required (next of ts) inner ∙ and (can_be_spelled (TypeToken (next of ts))) (list_all can_be_spelled (type_symbols inner)) (known_next of ts h s.0) p.holds.spelling;
      };
      left = p.left;
    })

-- the symbols of an array's shape
abbrev pub shape : ℕ → List ℕ → List ℤ → List Symbol
shape rank sizes lows = Number rank ∷ (counted (map Number sizes) ++ counted (map Signed lows))

pub spelled-Array : (elem : TypeSig) (rank : ℕ) (sizes : List ℕ) (lows : List ℤ)
    → list_all can_be_spelled (type_symbols (Array elem rank sizes lows)) ≡ (list_all can_be_spelled (type_symbols elem) && list_all can_be_spelled (shape rank sizes lows))
spelled-Array elem rank sizes lows =
    ap (list_all can_be_spelled) (row-of (TypeSig-F.Array elem rank sizes lows) (Array elem rank sizes lows) (rolls-Array elem rank sizes lows))
    ∙ list_all-append can_be_spelled (type_symbols elem) (shape rank sizes lows)

array_kept : (d : ℕ) (elem : TypeSig) (rank : ℕ) (sizes : List ℕ) (lows : List ℤ) → Kept d elem → Kept (suc d) (Array elem rank sizes lows)
array_kept d elem rank sizes lows kept = λ ts h k.
    let fit = λ (elem : TypeSig). fit-of (TypeSig-F.Array elem rank sizes lows) (Array elem rank sizes lows) d (rolls-Array elem rank sizes lows) in
    let s = both (list_all can_be_spelled (type_symbols elem)) (list_all can_be_spelled (shape rank sizes lows)) (sym (spelled-Array elem rank sizes lows) ∙ k.spelling) in
    let p = kept ts h (record { fitting = sym (fit elem) ∙ k.fitting; spelling = s.0 }) in
    let new = (type_with elem ts).0 in
    subst (Keeps (suc d)) (sym (taken (TypeSig-F.Array elem rank sizes lows) (Array elem rank sizes lows) ts (rolls-Array elem rank sizes lows))) (record {
      holds = record {
        fitting = fit new ∙ p.holds.fitting;
        spelling = spelled-Array new rank sizes lows ∙ and (list_all can_be_spelled (type_symbols new)) (list_all can_be_spelled (shape rank sizes lows)) p.holds.spelling s.1;
      };
      left = p.left;
    })

pub spelled-Inst : (value : Bool) (of : Token) (args : List TypeSig)
    → list_all can_be_spelled (type_symbols (Inst value of args)) ≡ (can_be_spelled (TypeToken of) && (can_be_spelled (Number (length args)) && list_all can_be_spelled (all_symbols args)))
spelled-Inst value of args = ap (list_all can_be_spelled) (row-Inst value of args)

inst_kept : (d : ℕ) → ((t : TypeSig) → Kept d t) → (value : Bool) (of : Token) (args : List TypeSig) → Kept (suc d) (Inst value of args)
inst_kept d kept value of args = λ ts h k.
    let s = both (can_be_spelled (TypeToken of)) (can_be_spelled (Number (length args)) && list_all can_be_spelled (all_symbols args)) (sym (spelled-Inst value of args) ∙ k.spelling) in
    let c = both (can_be_spelled (Number (length args))) (list_all can_be_spelled (all_symbols args)) s.1 in
    let fit = λ (of : Token) (args : List TypeSig). fit-of (TypeSig-F.Inst value of args) (Inst value of args) d (rolls-Inst value of args) in
    let q = types_kept d kept args (drop 1 ts) (known_rest ts h) (record { fitting = sym (fit of args) ∙ k.fitting; spelling = c.1 }) in
    let new = (types_with args (drop 1 ts)).0 in
    let count = ap (λ (n : ℕ). can_be_spelled (Number n)) q.count ∙ c.0 in
    subst (Keeps (suc d)) (sym (taken (TypeSig-F.Inst value of args) (Inst value of args) ts (rolls-Inst value of args))) (record {
      holds = record {
        fitting = fit (next of ts) new ∙ q.holds.fitting;
        spelling = spelled-Inst value (next of ts) new
            ∙ and (can_be_spelled (TypeToken (next of ts))) (can_be_spelled (Number (length new)) && list_all can_be_spelled (all_symbols new)) (known_next of ts h s.0)
            (and (can_be_spelled (Number (length new))) (list_all can_be_spelled (all_symbols new)) count q.holds.spelling);
      };
      left = q.left;
    })

level_kept : (d : ℕ) → ((t : TypeSig) → Kept d t) → (x : TypeSig-F TypeSig MethodSig) → Kept (suc d) (roll-TypeSig x)
level_kept d kept (TypeSig-F.Prim code) = subst (Kept (suc d)) (sym (rolls-Prim code)) (without (suc d) (Prim code) (λ ts. taken (TypeSig-F.Prim code) (Prim code) ts (rolls-Prim code)))
level_kept d kept (TypeSig-F.Var n) = subst (Kept (suc d)) (sym (rolls-Var n)) (without (suc d) (Var n) (λ ts. taken (TypeSig-F.Var n) (Var n) ts (rolls-Var n)))
level_kept d kept (TypeSig-F.MVar n) = subst (Kept (suc d)) (sym (rolls-MVar n)) (without (suc d) (MVar n) (λ ts. taken (TypeSig-F.MVar n) (MVar n) ts (rolls-MVar n)))
level_kept d kept (TypeSig-F.Value of) = subst (Kept (suc d)) (sym (rolls-Value of)) (of_token d 0x11 Value (λ a. row-of (TypeSig-F.Value a) (Value a) (rolls-Value a)) (λ a. fit-of (TypeSig-F.Value a) (Value a) d (rolls-Value a)) (λ a ts. taken (TypeSig-F.Value a) (Value a) ts (rolls-Value a)) of)
level_kept d kept (TypeSig-F.Class of) = subst (Kept (suc d)) (sym (rolls-Class of)) (of_token d 0x12 Class (λ a. row-of (TypeSig-F.Class a) (Class a) (rolls-Class a)) (λ a. fit-of (TypeSig-F.Class a) (Class a) d (rolls-Class a)) (λ a ts. taken (TypeSig-F.Class a) (Class a) ts (rolls-Class a)) of)
level_kept d kept (TypeSig-F.Ptr u) = subst (Kept (suc d)) (sym (rolls-Ptr u)) (unary d 0x0f Ptr (λ u. row-of (TypeSig-F.Ptr u) (Ptr u) (rolls-Ptr u)) (λ u. fit-of (TypeSig-F.Ptr u) (Ptr u) d (rolls-Ptr u)) (λ u ts. taken (TypeSig-F.Ptr u) (Ptr u) ts (rolls-Ptr u)) u (kept u))
level_kept d kept (TypeSig-F.ByRef u) = subst (Kept (suc d)) (sym (rolls-ByRef u)) (unary d 0x10 ByRef (λ u. row-of (TypeSig-F.ByRef u) (ByRef u) (rolls-ByRef u)) (λ u. fit-of (TypeSig-F.ByRef u) (ByRef u) d (rolls-ByRef u)) (λ u ts. taken (TypeSig-F.ByRef u) (ByRef u) ts (rolls-ByRef u)) u (kept u))
level_kept d kept (TypeSig-F.SzArray u) = subst (Kept (suc d)) (sym (rolls-SzArray u)) (unary d 0x1d SzArray (λ u. row-of (TypeSig-F.SzArray u) (SzArray u) (rolls-SzArray u)) (λ u. fit-of (TypeSig-F.SzArray u) (SzArray u) d (rolls-SzArray u)) (λ u ts. taken (TypeSig-F.SzArray u) (SzArray u) ts (rolls-SzArray u)) u (kept u))
level_kept d kept (TypeSig-F.Pinned u) = subst (Kept (suc d)) (sym (rolls-Pinned u)) (unary d 0x45 Pinned (λ u. row-of (TypeSig-F.Pinned u) (Pinned u) (rolls-Pinned u)) (λ u. fit-of (TypeSig-F.Pinned u) (Pinned u) d (rolls-Pinned u)) (λ u ts. taken (TypeSig-F.Pinned u) (Pinned u) ts (rolls-Pinned u)) u (kept u))
level_kept d kept (TypeSig-F.Array elem rank sizes lows) = subst (Kept (suc d)) (sym (rolls-Array elem rank sizes lows)) (array_kept d elem rank sizes lows (kept elem))
level_kept d kept (TypeSig-F.Inst value of args) = subst (Kept (suc d)) (sym (rolls-Inst value of args)) (inst_kept d kept value of args)
level_kept d kept (TypeSig-F.FnPtr m) = subst (Kept (suc d)) (sym (rolls-FnPtr m)) (pointer_kept d kept m)
level_kept d kept (TypeSig-F.Mod required of u) = subst (Kept (suc d)) (sym (rolls-Mod required of u)) (mod_kept d required of u (kept u))

type_kept : (d : ℕ) (t : TypeSig) → Kept d t
type_kept zero t = λ ts h k. let e = fits_zero t in let f = k.fitting in absurd cc
type_kept (suc d) t = subst (Kept (suc d)) (roll-out-TypeSig t) (level_kept d (type_kept d) (out-TypeSig t))

list_kept : (types : List TypeSig) (ts : List Token) → Known ts → all_fit types depth_limit ≡ true → (can_be_spelled (Number (length types)) && list_all can_be_spelled (all_symbols types)) ≡ true
    → (all_fit (types_with types ts).0 depth_limit ≡ true) × ((can_be_spelled (Number (length (types_with types ts).0)) && list_all can_be_spelled (all_symbols (types_with types ts).0)) ≡ true)
list_kept types ts h fit spell =
    let s = both (can_be_spelled (Number (length types))) (list_all can_be_spelled (all_symbols types)) spell in
    let q = types_kept depth_limit (type_kept depth_limit) types ts h (record { fitting = fit; spelling = s.1 }) in
    let new = (types_with types ts).0 in
    (q.holds.fitting, and (can_be_spelled (Number (length new))) (list_all can_be_spelled (all_symbols new)) (ap (λ (n : ℕ). can_be_spelled (Number n)) q.count ∙ s.0) q.holds.spelling)

property_kept : (this : Bool) (t : TypeSig) (params : List TypeSig) (ts : List Token) → Known ts → IsBoundedSig (Property this t params) → IsBoundedSig (replaced (Property this t params) ts)
property_kept this t params ts h k =
    let f = both (type_fits t depth_limit) (all_fit params depth_limit) k.fitting in
    let s = both (can_be_spelled (Number (length params))) (list_all can_be_spelled (type_symbols t ++ all_symbols params)) k.spellable in
    let r = both (list_all can_be_spelled (type_symbols t)) (list_all can_be_spelled (all_symbols params)) (sym (list_all-append can_be_spelled (type_symbols t) (all_symbols params)) ∙ s.1) in
    let p = type_kept depth_limit t ts h (record { fitting = f.0; spelling = r.0 }) in
    let q = types_kept depth_limit (type_kept depth_limit) params (type_with t ts).1 p.left (record { fitting = f.1; spelling = r.1 }) in
    let u = (type_with t ts).0 in
    let us = (types_with params (type_with t ts).1).0 in
    record {
      fitting = and (type_fits u depth_limit) (all_fit us depth_limit) p.holds.fitting q.holds.fitting;
      spellable = and (can_be_spelled (Number (length us))) (list_all can_be_spelled (type_symbols u ++ all_symbols us)) (ap (λ (n : ℕ). can_be_spelled (Number n)) q.count ∙ s.0)
          (list_all-append can_be_spelled (type_symbols u) (all_symbols us) ∙ and (list_all can_be_spelled (type_symbols u)) (list_all can_be_spelled (all_symbols us)) p.holds.spelling q.holds.spelling);
    }

-- a signature in its bounds stays in them
pub tree_kept : (sig : SigTree) (ts : List Token) → Known ts → IsBoundedSig sig → IsBoundedSig (replaced sig ts)
tree_kept (Method m) ts h k =
    let p = method_kept false depth_limit (type_kept depth_limit) m ts h (record { fitting = k.fitting; spelling = k.spellable }) in
    record { fitting = p.holds.fitting; spellable = p.holds.spelling }
tree_kept (Field t) ts h k =
    let p = type_kept depth_limit t ts h (record { fitting = k.fitting; spelling = k.spellable }) in
    record { fitting = p.holds.fitting; spellable = p.holds.spelling }
tree_kept (Locals types) ts h k = let p = list_kept types ts h k.fitting k.spellable in record { fitting = p.0; spellable = p.1 }
tree_kept (Property this t params) ts h k = property_kept this t params ts h k
tree_kept (MethodInst args) ts h k = let p = list_kept args ts h k.fitting k.spellable in record { fitting = p.0; spellable = p.1 }
tree_kept (Plain t) ts h k =
    let p = type_kept depth_limit t ts h (record { fitting = k.fitting; spelling = k.spellable }) in
    record { fitting = p.holds.fitting; spellable = p.holds.spelling }
