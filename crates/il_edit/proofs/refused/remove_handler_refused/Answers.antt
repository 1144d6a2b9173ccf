use Rattle.std.proofs.Common.{◌≡◌, length, Some, ap, ◌∙◌, arith}
use Rattle.il_code.specs.declared.il_refusal.IlRefusal.TheVariants.{PlaceBeyond}
use Rattle.il_code.specs.Body.{Body}
use Rattle.il_edit.proofs.EditLemmas.{remove_handler-by, remove_handler-is_beyond}
use Rattle.il_edit.proofs.refused.remove_handler_refused.Goals as goal

pub returns-then-handlers-place : goal.returns-then-handlers-place
returns-then-handlers-place c =
    let hs : c.as_slice-handlers.result.now ≡ c.args.body.now.handlers = (c.as_slice-handlers.ensures ∙ ap (λ (b : Body). b.handlers) c.body.view_is) in
    ap (λ n. Some (PlaceBeyond c.args.at n)) (ap length hs) ∙ remove_handler-is_beyond c.args.at c.args.body.now (omega (arith, ap length hs, c.if-handlers-place.true))

pub returns : goal.returns
returns c =
    let hs : c.as_slice-handlers.result.now ≡ c.args.body.now.handlers = (c.as_slice-handlers.ensures ∙ ap (λ (b : Body). b.handlers) c.body.view_is) in
    remove_handler-by c.args.at c.args.body.now c.as_slice.result.now c.as_slice-handlers.result.now c.front.result.now c.back.result.now c.len-count.result c.first_bad-bad.result c.first_bad_handler_of-bad_handler.result c.refusal.result
    (c.as_slice.ensures ∙ ap (λ (b : Body). b.code) c.body.view_is) hs (c.len-count.ensures ∙ ap (λ (b : Body). length b.code) c.body.view_is) c.front.ensures c.back.ensures c.first_bad-bad.ensures c.first_bad_handler_of-bad_handler.ensures (omega (arith, c.if-handlers-place.false)) c.refusal.ensures
