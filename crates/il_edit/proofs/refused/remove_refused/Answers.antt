use Rattle.std.proofs.Common.{◌≡◌, length, Some, ap, ◌∙◌, arith}
use Rattle.il_code.specs.declared.il_refusal.IlRefusal.TheVariants.{PlaceBeyond}
use Rattle.il_code.specs.Body.{Body}
use Rattle.il_edit.proofs.EditLemmas.{remove-by, remove-is_beyond}
use Rattle.il_edit.proofs.refused.remove_refused.Goals as goal

pub returns-then-count-place : goal.returns-then-count-place
returns-then-count-place c =
    let code : c.as_slice-code.result.now ≡ c.args.body.now.code = (c.as_slice-code.ensures ∙ ap (λ (b : Body). b.code) c.body.view_is) in
    ap (λ n. Some (PlaceBeyond c.args.at n)) (ap length code) ∙ remove-is_beyond c.args.at c.args.body.now (omega (arith, ap length code, c.if-count-place.true))

pub returns : goal.returns
returns c =
    let code : c.as_slice-code.result.now ≡ c.args.body.now.code = (c.as_slice-code.ensures ∙ ap (λ (b : Body). b.code) c.body.view_is) in
    remove-by c.args.at c.args.body.now c.as_slice-code.result.now c.front.result.now c.back.result.now c.as_slice.result.now c.first_bad_of-bad.result c.first_bad_handler-bad_handler.result c.refusal.result
    code (c.as_slice.ensures ∙ ap (λ (b : Body). b.handlers) c.body.view_is) c.front.ensures c.back.ensures c.first_bad_of-bad.ensures c.first_bad_handler-bad_handler.ensures (omega (arith, c.if-count-place.false)) c.refusal.ensures
