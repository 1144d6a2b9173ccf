use Rattle.std.proofs.Common.{length, ap, ◌∙◌}
use Rattle.il_code.specs.Body.{Body}
use Rattle.il_edit.proofs.EditLemmas.{body-by}
use Rattle.il_edit.proofs.refused.body_refused.Goals as goal

pub returns : goal.returns
returns c =
    body-by c.args.body.now c.as_slice-code.result.now c.as_slice-handlers.result.now c.len-count.result c.first_bad-bad.result c.first_bad_handler-bad_handler.result c.refusal.result
    (c.as_slice-code.ensures ∙ ap (λ (b : Body). b.code) c.body.view_is) (c.as_slice-handlers.ensures ∙ ap (λ (b : Body). b.handlers) c.body.view_is)
    (c.len-count.ensures ∙ ap (λ (b : Body). length b.code) c.body.view_is) c.first_bad-bad.ensures c.first_bad_handler-bad_handler.ensures c.refusal.ensures
