-- For callers: what `leave` asks of a turn that adds one entry, or none.
use Rattle.std.proofs.Common.{◌≡◌, ℕ, zero, suc, Bool, true, false, cond, List, [], ◌∷◌, ◌++◌, length, refl, sym, ap, ◌∙◌, arith, append-nil}
use mathlib.Core.List.{IsPrefix}
use Rattle.std.proofs.lemmas.Option.{slice_get_past}
use Rattle.turn_lock.specs.Passes.{MadeBy}

module _ {E : Type 0} (caller : E → ℕ) (k : ℕ) where
  pub one_made : (seen : List E) (e : E) → caller e ≡ k → MadeBy caller k (length seen) (seen ++ e ∷ [])
  one_made [] e mine zero x l is = let same : e ≡ x = cc in ap caller (sym same) ∙ mine
  one_made [] e mine (suc i) x l is = cc
  one_made (y ∷ seen) e mine zero x l is = absurd (omega arith)
  one_made (y ∷ seen) e mine (suc i) x l is = one_made seen e mine i x (omega arith) is

  pub none_made : (seen : List E) → MadeBy caller k (length seen) seen
  none_made seen i e l is = let past = slice_get_past seen i l in cc

  -- the entry is added, or it is not
  pub made_if : (t : Bool) (seen : List E) (e : E) → caller e ≡ k → MadeBy caller k (length seen) (cond t (seen ++ e ∷ []) seen)
  made_if true seen e mine = one_made seen e mine
  made_if false seen e mine = none_made seen

pub prefix_if : {E : Type 0} (t : Bool) (seen : List E) (e : E) → IsPrefix seen (cond t (seen ++ e ∷ []) seen)
prefix_if true seen e = (e ∷ [], refl)
prefix_if false seen e = ([], append-nil seen)
