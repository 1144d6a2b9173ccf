use Rattle.std.proofs.Common.{◌≡◌, ◌<◌, ◌^◌, length, Some, ap, ◌∙◌, arith}
use Rattle.il_code.specs.declared.il_refusal.IlRefusal.TheVariants.{PlaceBeyond}
use Rattle.il_code.specs.Body.{Body}
use Rattle.il_edit.proofs.EditLemmas.{insert-by, insert-is_beyond, insert-is_full}
use Rattle.il_edit.proofs.refused.insert_refused.Goals as goal

pub returns-then-count-place : goal.returns-then-count-place
returns-then-count-place c =
    let code : c.as_slice-code.result.now ≡ c.args.body.now.code = (c.as_slice-code.ensures ∙ ap (λ (b : Body). b.code) c.body.view_is) in
    ap (λ n. Some (PlaceBeyond c.args.at n)) (ap length code) ∙ insert-is_beyond c.args.at c.args.instr.now c.args.body.now (omega (arith, ap length code, c.if-count-place.true))

pub returns-then-count-eq-MOST : goal.returns-then-count-eq-MOST
returns-then-count-eq-MOST c =
    let code : c.as_slice-code.result.now ≡ c.args.body.now.code = (c.as_slice-code.ensures ∙ ap (λ (b : Body). b.code) c.body.view_is) in
    insert-is_full c.args.at c.args.instr.now c.args.body.now (omega (arith, ap length code, c.if-count-eq-MOST.true))

pub returns : goal.returns
returns c =
    let code : c.as_slice-code.result.now ≡ c.args.body.now.code = (c.as_slice-code.ensures ∙ ap (λ (b : Body). b.code) c.body.view_is) in
    let small : length c.as_slice-code.result.now < 2 ^ 32 = omega (arith, ap length c.as_slice-code.ensures, c.body.invariant.0) in
    insert-by c.args.at c.args.instr.now c.args.body.now c.as_slice-code.result.now c.front.result.now c.back.result.now c.as_slice.result.now c.first_bad_with-bad.result c.first_bad_handler-bad_handler.result c.refusal.result
    code (c.as_slice.ensures ∙ ap (λ (b : Body). b.handlers) c.body.view_is) c.front.ensures c.back.ensures c.first_bad_with-bad.ensures c.first_bad_handler-bad_handler.ensures (omega (arith, c.if-count-place.false)) (omega (arith, small, c.if-count-eq-MOST.false)) c.refusal.ensures
