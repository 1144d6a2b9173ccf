use Rattle.std.proofs.Common.{sym, ap, ◌∙◌}
use Rattle.il_code.specs.CodePlaces.{instr_place}
use Rattle.il_code.specs.Refusal.{is_far_branch, first_far}
use Rattle.il_write.proofs.LayoutLemmas.{find-found, find-passed, find-over, far_test}
use Rattle.il_write.proofs.far.far_branch.Goals as goal

pub returns-then-branch_is_far : goal.returns-then-branch_is_far
unfolding first_far
returns-then-branch_is_far c =
    find-found (far_test (instr_place c.args.places.now)) c.args.code.now c.loop-i.i c.index-code-i.result c.loop-i-test.true c.index-code-i.is c.loop-i.invariant
    (ap (λ p. is_far_branch (instr_place c.args.places.now) p c.index-code-i.result) (sym c.any_place.ensures) ∙ sym c.branch_is_far.ensures ∙ c.if-branch_is_far.true)

pub loop-i-preserved : goal.loop-i-preserved
loop-i-preserved c =
    find-passed (far_test (instr_place c.args.places.now)) c.args.code.now c.loop-i.i c.index-code-i.result c.loop-i-test.true c.index-code-i.is c.loop-i.invariant
    (ap (λ p. is_far_branch (instr_place c.args.places.now) p c.index-code-i.result) (sym c.any_place.ensures) ∙ sym c.branch_is_far.ensures ∙ c.if-branch_is_far.false)

pub returns : goal.returns
unfolding first_far
returns c = find-over (far_test (instr_place c.args.places.now)) c.args.code.now c.loop-i.i c.loop-i-test.false c.loop-i.invariant
