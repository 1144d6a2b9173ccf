use Rattle.std.proofs.Common.{◌≡◌, ◌<◌, ◌^◌, length, ap, ◌∙◌, arith}
use Rattle.il_code.specs.Body.{Body}
use Rattle.il_edit.proofs.EditLemmas.{add_handler-by, add_handler-is_full}
use Rattle.il_edit.proofs.refused.add_handler_refused.Goals as goal

pub returns-then-handlers-eq-MOST : goal.returns-then-handlers-eq-MOST
returns-then-handlers-eq-MOST c =
    let hs : c.as_slice-handlers.result.now ≡ c.args.body.now.handlers = (c.as_slice-handlers.ensures ∙ ap (λ (b : Body). b.handlers) c.body.view_is) in
    add_handler-is_full c.args.handler.now c.args.body.now (omega (arith, ap length hs, c.if-handlers-eq-MOST.true))

pub returns : goal.returns
returns c =
    let hs : c.as_slice-handlers.result.now ≡ c.args.body.now.handlers = (c.as_slice-handlers.ensures ∙ ap (λ (b : Body). b.handlers) c.body.view_is) in
    let small : length c.as_slice-handlers.result.now < 2 ^ 32 = omega (arith, ap length c.as_slice-handlers.ensures, c.body.invariant.1) in
    add_handler-by c.args.handler.now c.args.body.now c.as_slice.result.now c.as_slice-handlers.result.now c.len-count.result c.first_bad-bad.result c.first_bad_handler_with-bad_handler.result c.refusal.result
    (c.as_slice.ensures ∙ ap (λ (b : Body). b.code) c.body.view_is) hs (c.len-count.ensures ∙ ap (λ (b : Body). length b.code) c.body.view_is) c.first_bad-bad.ensures c.first_bad_handler_with-bad_handler.ensures (omega (arith, small, c.if-handlers-eq-MOST.false)) c.refusal.ensures
