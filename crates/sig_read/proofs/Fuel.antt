-- One step of the depth that is left.
use Rattle.std.proofs.Common.{◌≡◌, ℕ, zero, suc, ◌-◌, ◌<◌, List, [], ◌∷◌, Option, Some, None, ℤ, refl, sym, ap, ◌∙◌, take, drop, length, ◌+◌, ◌++◌, Bool, true, false, cond, append_assoc, arith}
use Rattle.std.proofs.Math.Seq.{take-length}
use Rattle.std.proofs.lemmas.List.{length-drop}
use Rattle.cil_base.specs.Number.{strip_number}
use Rattle.cil_base.specs.Signed.{strip_signed}
use Rattle.cil_base.specs.inner.Reading.{compressed_at, signed_at}
use Rattle.cil_base.proofs.NumberLemmas.{strip-compressed_at, none-compressed_at}
use Rattle.cil_base.proofs.SignedLemmas.{strip-signed_at, signed_at-strip}
use Rattle.sig_tree.specs.Fronts.{after_value, wrap, many_at}
use Rattle.sig_read.specs.inner.Found.{fronted}
use Rattle.sig_tree.specs.Parsing.{type_sig_at, level_at, params_at, begins}
use Rattle.sig_read.specs.inner.Found.{fronted_params, marked}
use Rattle.std.specs.Option.{option_map}
use Rattle.sig_tree.specs.declared.tree.TypeSig.{TypeSig}
use Rattle.sig_tree.specs.declared.tree.Sentinel.{Sentinel}
use Rattle.sig_tree.proofs.Strips.{goes}

pub type_at_front : (d b : ℕ) (s : List ℕ) → 0 < d → type_sig_at d (b ∷ s) ≡ level_at (type_sig_at (d - 1)) b s
unfolding type_sig_at
type_at_front zero b s h = absurd (omega arith)
type_at_front (suc d) b s h = let e : suc d - 1 ≡ d = omega arith in rw e

pub type_at_none : (d : ℕ) → type_sig_at d [] ≡ None
unfolding type_sig_at
type_at_none zero = refl
type_at_none (suc d) = refl

pub type_at_zero : (s : List ℕ) → type_sig_at 0 s ≡ None
unfolding type_sig_at
type_at_zero s = refl

-- the bytes after a front
tail : (len : ℕ) (s : List ℕ) → take (length s - len) (drop len s) ≡ drop len s
tail len s = ap (λ n. take n (drop len s)) (sym (length-drop len s)) ∙ take-length (drop len s)

pub number_found : (n len : ℕ) (s : List ℕ) → strip_number n s ≡ Some (drop len s) → compressed_at s ≡ Some (n, take (length s - len) (drop len s))
number_found n len s h = strip-compressed_at n s (drop len s) h ∙ ap (λ r. Some (n, r)) (sym (tail len s))

pub number_missing : (s : List ℕ) → ((n : ℕ) → strip_number n s ≡ None) → compressed_at s ≡ None
number_missing s h = none-compressed_at s h

pub low_found : (z : ℤ) (len : ℕ) (s : List ℕ) → strip_signed z s ≡ Some (drop len s) → signed_at s ≡ Some (z, take (length s - len) (drop len s))
low_found z len s h = strip-signed_at z s (drop len s) h ∙ ap (λ r. Some (z, r)) (sym (tail len s))

pub low_missing : (s : List ℕ) → ((z : ℤ) → strip_signed z s ≡ None) → signed_at s ≡ None
low_missing s h =
    elim (signed_at s) as (λ found. signed_at s ≡ found → found ≡ None) [
      | None ↦ λ _. refl
      | Some x ↦ λ e. let found = signed_at-strip s x.0 x.1 e in let none = h x.0 in cc
    ] refl

-- one more item
shifted : {A : Type 0} (before : List A) (x : A) (found : Option (List A × List ℕ)) → fronted before (wrap (λ xs. x ∷ xs) found) ≡ fronted (before ++ x ∷ []) found
shifted before x None = refl
shifted before x (Some y) = ap (λ xs. Some (xs, y.1)) (sym (append_assoc before (x ∷ []) y.0))

pub fronted_more : {A : Type 0} (before : List A) (at : List ℕ → Option (A × List ℕ)) (n m : ℕ) (x : A) (s r : List ℕ) → at s ≡ Some (x, r) → n ≡ suc m → fronted before (many_at at n s) ≡ fronted (before ++ x ∷ []) (many_at at m r)
fronted_more {A} before at n m x s r h e =
    ap (λ k. fronted before (many_at at k s)) e
    ∙ ap (fronted before) (goes (at s) (λ x r. wrap (λ xs. x ∷ xs) (many_at at m r)) x r h)
    ∙ shifted before x (many_at at m r)

pub fronted_none : {A : Type 0} (before : List A) (at : List ℕ → Option (A × List ℕ)) (n m : ℕ) (s : List ℕ) → at s ≡ None → n ≡ suc m → fronted before (many_at at n s) ≡ None
fronted_none {A} before at n m s h e =
    ap (λ k. fronted before (many_at at k s)) e
    ∙ ap (λ (o : Option (A × List ℕ)). fronted before (after_value {A = A} {B = List A × List ℕ} o (λ x r. wrap (λ xs. x ∷ xs) (many_at at m r)))) h

pub type_at_step : (d b : ℕ) (s r : List ℕ) → s ≡ b ∷ r → 0 < d → type_sig_at d s ≡ level_at (type_sig_at (d - 1)) b r
type_at_step d b s r e h = ap (type_sig_at d) e ∙ type_at_front d b r h

pub type_at_empty : (d : ℕ) (s : List ℕ) → s ≡ [] → type_sig_at d s ≡ None
type_at_empty d s e = ap (type_sig_at d) e ∙ type_at_none d

-- one more parameter, none, and the rest after a sentinel
abbrev Params : Type 0
Params = List TypeSig × Sentinel × List ℕ

abbrev taken : TypeSig → Params → Params
taken t x = (t ∷ x.0, x.1, x.2)

moved : (before : List TypeSig) (t : TypeSig) (found : Option Params) → fronted_params before (option_map (taken t) found) ≡ fronted_params (before ++ t ∷ []) found
moved before t None = refl
moved before t (Some y) = ap (λ (xs : List TypeSig). Some (xs, y.1, y.2)) (sym (append_assoc before (t ∷ []) y.0))

pub params_more : (before : List TypeSig) (ty : List ℕ → Option (TypeSig × List ℕ)) (at n m : ℕ) (t : TypeSig) (s r : List ℕ) → begins 0x41 s ≡ false → ty s ≡ Some (t, r) → n ≡ suc m
    → fronted_params before (params_at ty at n s) ≡ fronted_params (before ++ t ∷ []) (params_at ty (at + 1) m r)
params_more before ty at n m t s r b h e =
    ap (λ k. fronted_params before (params_at ty at k s)) e
    ∙ ap (λ (v : Bool). fronted_params before (cond {A = Option Params} v (marked at (many_at ty (suc m) (drop 1 s))) (after_value (ty s) (λ t r. option_map (taken t) (params_at ty (at + 1) m r))))) b
    ∙ ap (fronted_params before) (goes (ty s) (λ t r. option_map (taken t) (params_at ty (at + 1) m r)) t r h)
    ∙ moved before t (params_at ty (at + 1) m r)

pub params_none : (before : List TypeSig) (ty : List ℕ → Option (TypeSig × List ℕ)) (at n m : ℕ) (s : List ℕ) → begins 0x41 s ≡ false → ty s ≡ None → n ≡ suc m → fronted_params before (params_at ty at n s) ≡ None
params_none before ty at n m s b h e =
    ap (λ k. fronted_params before (params_at ty at k s)) e
    ∙ ap (λ (v : Bool). fronted_params before (cond {A = Option Params} v (marked at (many_at ty (suc m) (drop 1 s))) (after_value (ty s) (λ t r. option_map (taken t) (params_at ty (at + 1) m r))))) b
    ∙ ap (λ (o : Option (TypeSig × List ℕ)). fronted_params before (after_value {A = TypeSig} {B = Params} o (λ t r. option_map (taken t) (params_at ty (at + 1) m r)))) h

stood : (before : List TypeSig) (at : ℕ) (found : Option (List TypeSig × List ℕ)) → fronted_params before (marked at found) ≡ marked at (fronted before found)
stood before at None = refl
stood before at (Some x) = refl

pub params_marked : (before : List TypeSig) (ty : List ℕ → Option (TypeSig × List ℕ)) (at n m : ℕ) (s r : List ℕ) → begins 0x41 s ≡ true → r ≡ drop 1 s → n ≡ suc m
    → fronted_params before (params_at ty at n s) ≡ marked at (fronted before (many_at ty n r))
params_marked before ty at n m s r b d e =
    ap (λ k. fronted_params before (params_at ty at k s)) e
    ∙ ap (λ (v : Bool). fronted_params before (cond {A = Option Params} v (marked at (many_at ty (suc m) (drop 1 s))) (after_value (ty s) (λ t r. option_map (taken t) (params_at ty (at + 1) m r))))) b
    ∙ stood before at (many_at ty (suc m) (drop 1 s))
    ∙ ap (λ k. marked at (fronted before (many_at ty k (drop 1 s)))) (sym e)
    ∙ ap (λ q. marked at (fronted before (many_at ty n q))) (sym d)
