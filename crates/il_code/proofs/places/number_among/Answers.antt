use Rattle.std.proofs.Common.{◌≡◌, ◌<◌, ℕ, length, get_or, sym, arith, inl, inr}
use Rattle.std.proofs.lemmas.Bool.{cases_lt}
use Rattle.il_code.proofs.NumberingLemmas.{number_in-is, number_in-none}
use Rattle.il_code.proofs.places.number_among.Goals as goal

pub returns-then-found-place : goal.returns-then-found-place
returns-then-found-place c =
    sym (number_in-is c.args.starts.now c.args.place _ c.requires.rising (omega (arith, c.loop-low.invariant.0)) c.if-found-place.true)

pub returns : goal.returns
returns c = sym (number_in-none c.args.starts.now c.args.place other)
  where
    other : (k : ℕ) → k < length c.args.starts.now → get_or c.args.starts.now k 0 ≡ c.args.place → ⊥
    other k h e = elim (cases_lt k c.loop-low.low) [ inl l ↦ omega (arith, c.loop-low.invariant.1 k l, e) | inr g ↦ omega (arith, c.loop-low.invariant.2 k (omega arith) h, e) ]
