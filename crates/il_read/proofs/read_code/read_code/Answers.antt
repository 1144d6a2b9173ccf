use Rattle.std.proofs.Common.{subst, sym, ◌∙◌, arith}
use Rattle.il_code.proofs.CodeLemmas.{size_of-pos}
use Rattle.il_read.proofs.EndLemmas.{instr_within}
use Rattle.il_read.proofs.ReadLemmas.{Read, read-more, read-over, read-start, read-stop}
use Rattle.il_read.proofs.read_code.read_code.Goals as goal

pub loop-place-init : goal.loop-place-init
loop-place-init c = subst (λ front. Read c.args.users.now c.args.code.now front 0) (sym c.new-all.ensures) (read-start c.args.users.now c.args.code.now)

pub returns-in_default-clause-value : goal.returns-in_default-clause-value
returns-in_default-clause-value c = read-stop c.args.users.now c.args.code.now c.loop-place.all c.loop-place.place c.loop-place-test.true (sym c.in_ok-instr.ensures ∙ c.in_default.is) c.loop-place.invariant

pub overflow_cast-place : goal.overflow_cast-place
overflow_cast-place c =
    let end = instr_within c.args.users.now c.args.code.now c.loop-place.place c.in-Some.instr (λ i. omega (arith, c.type_inv.code i)) (sym c.in_ok-instr.ensures ∙ c.in-Some.is) in
    omega (arith, end, c.size.ensures.value)

pub overflow_add-place : goal.overflow_add-place
overflow_add-place c =
    let end = instr_within c.args.users.now c.args.code.now c.loop-place.place c.in-Some.instr (λ i. omega (arith, c.type_inv.code i)) (sym c.in_ok-instr.ensures ∙ c.in-Some.is) in
    omega (arith, end, c.size.ensures.value)

pub loop-place-smaller : goal.loop-place-smaller
loop-place-smaller c =
    let pos = size_of-pos c.in-Some.instr in
    omega (arith, pos, c.size.ensures.value)

pub loop-place-preserved : goal.loop-place-preserved
loop-place-preserved c =
    let end = instr_within c.args.users.now c.args.code.now c.loop-place.place c.in-Some.instr (λ i. omega (arith, c.type_inv.code i)) (sym c.in_ok-instr.ensures ∙ c.in-Some.is) in
    rw (c.in_ok-push.ensures.ok, c.size.ensures.value)
    (read-more c.args.users.now c.args.code.now c.loop-place.all c.loop-place.place c.in-Some.instr c.loop-place-test.true end (sym c.in_ok-instr.ensures ∙ c.in-Some.is) c.loop-place.invariant)

pub returns-clause-value : goal.returns-clause-value
returns-clause-value c = read-over c.args.users.now c.args.code.now c.loop-place.all c.loop-place.place c.loop-place-test.false c.loop-place.invariant

pub returns-clause-few : goal.returns-clause-few
returns-clause-few c = omega (arith, c.loop-place.invariant.few, c.loop-place.invariant.within)
