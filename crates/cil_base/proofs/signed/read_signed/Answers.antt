use Rattle.std.proofs.Common.{ℤ, w32, ap, ◌∙◌, rules}
use Rattle.std.proofs.lemmas.Int.{to_z-of_z}
use mir.Val.{SFits}
use Rattle.cil_base.specs.Signed.{strip_signed}
use Rattle.cil_base.proofs.SignedLemmas.{signed-there, number-none_signed}
use Rattle.cil_base.proofs.signed.read_signed.Goals as goal

pub returns-in_err-rotated : goal.returns-in_err-rotated
returns-in_err-rotated c =
    let none = λ (z : ℤ). number-none_signed c.args.bytes.now z c.in_err-rotated.ensures.none in
    rw c.from_residual.ensures (record { value = tt; within = tt; none = none })

pub unrotated-requires : goal.unrotated-requires
unrotated-requires c =
    (signed-there c.in_ok-rotated.rotated c.in_ok-rotated.width c.args.bytes.now c.in_ok-rotated.ensures.value c.in_ok-rotated.ensures.within).fits

pub returns-clause-value : goal.returns-clause-value
returns-clause-value c =
    let there = signed-there c.in_ok-rotated.rotated c.in_ok-rotated.width c.args.bytes.now c.in_ok-rotated.ensures.value c.in_ok-rotated.ensures.within in
    let fits : SFits w32 c.unrotated.result = search rules in
    let same = to_z-of_z w32 c.unrotated.result fits ∙ c.unrotated.ensures in
    ap (λ (z : ℤ). strip_signed z c.args.bytes.now) same ∙ there.strips
