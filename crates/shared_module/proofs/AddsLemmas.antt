-- What is added, one turn after the other.
use Rattle.std.proofs.Common.{◌≡◌, sym, ◌∙◌, ap, subst, ℕ, suc, ◌≤◌, Bool, true, false, List, [], ◌∷◌, ◌++◌, Some, None, cond, length, take, slice_get, arith}
use mathlib.Core.List.{IsPrefix}
use mathlib.Core.Logic.{dite}
use native.Mathlib.Decide.{dec_le}
use Rattle.std.proofs.lemmas.Option.{slice_get_past}
use Rattle.std.proofs.Math.Seq.{take-append_seam, take-length}
use Rattle.turn_lock.specs.Passes.{MadeBy}
use Rattle.turn_lock.specs.Views.{own}
use Rattle.turn_lock.proofs.Turns.{made_if, prefix_if}
use Rattle.node_model.specs.declared.entry.By.{By}
use Rattle.node_model.specs.declared.entry.Entry.{Entry}
use Rattle.node_model.specs.declared.entry.Entry.TheVariants.{Fill, Edit}
use Rattle.node_model.specs.declared.entry.Why.{Why}
use Rattle.node_model.specs.declared.key.Key.{Key}
use Rattle.lazy_core.specs.History.{entry_caller}
use Rattle.lazy_core.specs.declared.wanted.Wanted.{Wanted}
use Rattle.shared_module.specs.Adds.{Adds, AddsFills, IsFillFor}
use Rattle.shared_module.specs.inner.Turns.{AddsNothing, IsFillOf}
use Rattle.shared_module.proofs.PrefixLemmas.{begins_further, begins_itself, none_behind, not_longer, one_behind, same_front, same_item}

-- nothing of the caller's, whatever is asked of it
pub adds_none : (k : ℕ) (P : List Entry → Entry → Type 0) (seen h : List Entry) → IsPrefix seen h → own entry_caller k h ≡ own entry_caller k seen → Adds k P seen h
adds_none k P seen h p same = record { later = p; own = λ i e l is mine. absurd (none_behind entry_caller k seen h p same i e l is mine) }

pub adds_same : (k : ℕ) (P : List Entry → Entry → Type 0) (h : List Entry) → Adds k P h h
adds_same k P h = record {
  later = begins_itself h;
  own = λ i e l is mine. let past = slice_get_past h i l in absurd cc;
}

-- the same of less
pub adds_as : (k : ℕ) (P Q : List Entry → Entry → Type 0) (seen h : List Entry) → ((t : List Entry) (e : Entry) → P t e → Q t e) → Adds k P seen h → Adds k Q seen h
adds_as k P Q seen h less a = record { later = a.later; own = λ i e l is mine. less (take i h) e (a.own i e l is mine) }

pub adds_then : (k : ℕ) (P : List Entry → Entry → Type 0) (seen h g : List Entry) → Adds k P seen h → Adds k P h g → Adds k P seen g
adds_then k P seen h g a b = record {
  later = begins_further seen h g a.later b.later;
  own = λ i e l is mine. dite (dec_le (suc i) (length h))
      (λ less. subst (λ t. P t e) (sym (same_front h g i b.later (omega arith))) (a.own i e l (sym (same_item h g i b.later (omega arith)) ∙ is) mine))
      (λ more. b.own i e (omega arith) is mine);
}

-- a history has one entry more, or it has not
pub record MayGrow (e : Entry) (h new : List Entry) : Type 0 where
  pub more : Bool
  pub is : new ≡ cond more (h ++ e ∷ []) h

module _ (e : Entry) (h new : List Entry) (g : MayGrow e h new) where
  pub grown_begins : IsPrefix h new
  grown_begins = subst (λ l. IsPrefix h l) (sym g.is) (prefix_if g.more h e)

  pub grown_made : (k : ℕ) → entry_caller e ≡ k → MadeBy entry_caller k (length h) new
  grown_made k mine = subst (λ l. MadeBy entry_caller k (length h) l) (sym g.is) (made_if entry_caller k g.more h e mine)

  grown_item : (i : ℕ) (x : Entry) → length h ≤ i → slice_get new i ≡ Some x → (x ≡ e) × (take i new ≡ h)
  grown_item i x l is = by_more g.more g.is
    where
      by_more : (t : Bool) → new ≡ cond t (h ++ e ∷ []) h → (x ≡ e) × (take i new ≡ h)
      by_more true longer =
          let there = one_behind h e x i l (ap (λ t. slice_get t i) (sym longer) ∙ is) in
          (there.0, ap (take i) longer ∙ ap (λ n. take n (h ++ e ∷ [])) there.1 ∙ take-append_seam h (e ∷ []))
      by_more false same =
          let past : slice_get new i ≡ None = ap (λ t. slice_get t i) same ∙ slice_get_past h i l in
          absurd cc

  -- a turn that found h, and left it so
  pub adds_grown : (k : ℕ) (P : List Entry → Entry → Type 0) (seen : List Entry) → IsPrefix seen h → own entry_caller k h ≡ own entry_caller k seen → P h e → Adds k P seen new
  adds_grown k P seen p same holds = adds_then k P seen h new (adds_none k P seen h p same) (record {
    later = grown_begins;
    own = λ i x l is mine. let there = grown_item i x l is in
        subst (λ t. P t x) (sym there.1) (subst (P h) (sym there.0) holds);
  })

-- fills of a call that were wanted later in it are fills of it
fills_from : (by : By) (from later : ℕ) (W : List Entry → Why → Type 0) → from ≤ later → (h : List Entry) (e : Entry) → IsFillFor by later W h e → IsFillFor by from W h e
fills_from by from later W l h (Fill other point why key) f = (f.0, (let after = f.1 in omega arith), f.2)
fills_from by from later W l h (Edit other es) f = f

module _ (by : By) (W : List Entry → Why → Type 0) where
  pub fills_then : (seen h g : List Entry) → AddsFills by W seen h → AddsFills by W h g → AddsFills by W seen g
  fills_then seen h g a b =
      adds_then by.caller (IsFillFor by (length seen) W) seen h g a
      (adds_as by.caller (IsFillFor by (length h) W) (IsFillFor by (length seen) W) h g (fills_from by (length seen) (length h) W (not_longer seen h a.later)) b)

  pub no_fills : (seen h : List Entry) → AddsNothing by.caller seen h → AddsFills by W seen h
  no_fills seen h a = adds_as by.caller (λ t e. ⊥) (IsFillFor by (length seen) W) seen h (λ t e never. absurd never) a

  -- nothing, and then the fill of what was wanted by the caller of this number
  pub fills_wanted : (k n point : ℕ) (why : Why) (key : Key) (w : Wanted) (seen h g : List Entry) → by.caller ≡ k → n ≡ k → point ≡ length h
      → w ≡ record { by = by; point = point; why = why; key = key } → W h why → AddsNothing k seen h → Adds n (IsFillOf w h) h g → AddsFills by W seen g
  fills_wanted k n point why key w seen h g mine same at is holds a f =
      fills_then seen h g
      (no_fills seen h (subst (λ c. AddsNothing c seen h) (sym mine) a))
      (adds_as by.caller (IsFillOf w h) (IsFillFor by (length h) W) h g is_for (subst (λ c. Adds c (IsFillOf w h) h g) (same ∙ sym mine) f))
    where
      is_for : (t : List Entry) (e : Entry) → IsFillOf w h t e → IsFillFor by (length h) W t e
      is_for t e x =
          let here : w.point ≡ length h = ap (λ (v : Wanted). v.point) is ∙ at in
          let all : take w.point t ≡ h = x.1 ∙ ap (λ n. take n h) here ∙ take-length h in
          let reason : W (take w.point t) w.why = subst (λ u. W u w.why) (sym all) (subst (W h) (sym (ap (λ (v : Wanted). v.why) is)) holds) in
          subst (λ y. IsFillFor by (length h) W t y) (sym x.0) (ap (λ (v : Wanted). v.by) is, omega (arith, here), reason)
