use Rattle.std.proofs.Common.{◌≡◌, ◌+◌, [], ◌∷◌, length, sym, ap, ◌∙◌, arith, length-append}
use Rattle.il_code.specs.Body.{Body}
use Rattle.il_code.specs.Edited.{body_of_parts, with_handler}
use Rattle.il_edit.proofs.EditLemmas.{add_handler-done, add_handler-place}
use Rattle.il_edit.proofs.handlers.add_handler.Goals as goal

pub invariant_of-body-2 : goal.invariant_of-body-2
invariant_of-body-2 c =
    let same : length c.body.inside.handlers ≡ length c.args.body.now.handlers = ap (λ (b : Body). length b.handlers) c.body.view_is in
    let room = add_handler-place c.args.handler c.args.body.now (omega (arith, same, c.body.invariant.1)) (sym c.in_default.ensures) in
    let more : length c.extend.new.self ≡ length c.body.inside.handlers + 1 = ap length c.in_ok-extend.ensures.ok ∙ length-append c.body.inside.handlers (c.args.handler ∷ []) in
    (c.body.invariant.0, omega (arith, same, room, more))

pub returns-clause-done : goal.returns-clause-done
returns-clause-done c =
    let w : Body = record { max_stack = c.body.inside.max_stack; init_locals = c.body.inside.init_locals; locals = c.body.inside.locals; code = c.body.inside.code; handlers = c.body.inside.handlers } in
    ap (λ hs. body_of_parts w w.code hs) c.in_ok-extend.ensures.ok ∙ add_handler-done c.args.handler w ∙ ap (with_handler c.args.handler) c.body.view_is
