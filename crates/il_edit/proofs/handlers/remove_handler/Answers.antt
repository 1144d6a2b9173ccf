use Rattle.std.proofs.Common.{◌≡◌, length, sym, ap, ◌∙◌, arith}
use Rattle.il_code.specs.Body.{Body}
use Rattle.il_code.specs.Edited.{body_of_parts, without_handler}
use Rattle.il_edit.proofs.EditLemmas.{remove_handler-done, remove_handler-place}
use Rattle.il_edit.proofs.handlers.remove_handler.Goals as goal

pub remove-requires : goal.remove-requires
remove-requires c =
    let same : length c.body.inside.handlers ≡ length c.args.body.now.handlers = ap (λ (b : Body). length b.handlers) c.body.view_is in
    omega (arith, same, remove_handler-place c.args.at c.args.body.now (sym c.in_default.ensures))

pub returns-clause-done : goal.returns-clause-done
returns-clause-done c =
    let w : Body = record { max_stack = c.body.inside.max_stack; init_locals = c.body.inside.init_locals; locals = c.body.inside.locals; code = c.body.inside.code; handlers = c.body.inside.handlers } in
    ap (λ hs. body_of_parts w w.code hs) c.remove.ensures.rest ∙ remove_handler-done c.args.at w ∙ ap (without_handler c.args.at) c.body.view_is
