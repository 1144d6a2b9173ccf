use Rattle.std.proofs.Common.{◌≡◌, ◌+◌, [], ◌∷◌, ◌++◌, length, subst, sym, ap, ◌∙◌, arith}
use Rattle.il_code.specs.CodePlaces.{Rising}
use Rattle.il_code.proofs.SpellingLemmas.{places-rise, places-length}
use Rattle.il_code.specs.Code.{at}
use Rattle.il_code.proofs.NumberingLemmas.{at-none, at-more, places-more, places-is}
use Rattle.il_code.proofs.places.starts_of.Goals as goal

pub loop-instr-init : goal.loop-instr-init
loop-instr-init c =
    (c.in_ok-push.ensures.ok ∙ ap (λ all. all ++ 0 ∷ []) c.new-all.ensures ∙ ap (λ p. p ∷ []) (sym (at-none c.args.code.now)), sym (at-none c.args.code.now), omega arith)

pub loop-instr-preserved : goal.loop-instr-preserved
loop-instr-preserved c =
    let next = at-more c.args.code.now c.loop-instr.instr-index c.instr-item.result c.loop-instr-test.true c.instr-item.is in
    let place : c.loop-instr.place + c.size-place.result ≡ at c.args.code.now (c.loop-instr.instr-index + 1) = rw (c.loop-instr.invariant.1, c.size-place.ensures.value) (sym next) in
    (c.in_ok-push-2.ensures.ok ∙ places-more c.args.code.now _ c.loop-instr.instr-index _ c.loop-instr.invariant.0 place, place, omega (arith, c.size-place.ensures.bound, c.loop-instr.invariant.2))

pub returns-clause-value : goal.returns-clause-value
returns-clause-value c = places-is c.args.code.now c.loop-instr.all c.loop-instr.instr-index (omega arith) c.loop-instr.invariant.0

pub returns-clause-rising : goal.returns-clause-rising
returns-clause-rising c = subst Rising (sym (places-is c.args.code.now c.loop-instr.all c.loop-instr.instr-index (omega arith) c.loop-instr.invariant.0)) (places-rise c.args.code.now)

pub returns-clause-len : goal.returns-clause-len
returns-clause-len c = ap length (places-is c.args.code.now c.loop-instr.all c.loop-instr.instr-index (omega arith) c.loop-instr.invariant.0) ∙ places-length c.args.code.now
