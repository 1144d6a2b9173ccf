use Rattle.std.proofs.Common.{◌≡◌, length, map, None, sym, ap, ◌∙◌, arith}
use Rattle.std.specs.Prelude.{remove}
use Rattle.il_code.specs.Code.{placed}
use Rattle.il_edit.specs.declared.shift.Shift.TheVariants.{TakenOut}
use Rattle.il_edit.specs.inner.Shifted.{kept_number}
use Rattle.il_code.specs.Body.{Body}
use Rattle.il_code.specs.Edited.{body_of_parts, remove_refusal, without_instr}
use Rattle.il_edit.proofs.EditLemmas.{remove-done, remove-place}
use Rattle.il_edit.proofs.code.remove.Goals as goal

pub remove-requires : goal.remove-requires
remove-requires c =
    let same : length c.body.inside.code ≡ length c.args.body.now.code = ap (λ (b : Body). length b.code) c.body.view_is in
    omega (arith, same, remove-place c.args.at c.args.body.now (sym c.in_default.ensures))

pub returns-clause-done : goal.returns-clause-done
returns-clause-done c =
    let w : Body = record { max_stack = c.body.inside.max_stack; init_locals = c.body.inside.init_locals; locals = c.body.inside.locals; code = c.body.inside.code; handlers = c.body.inside.handlers } in
    let same : length c.body.inside.code ≡ length c.args.body.now.code = ap (λ (b : Body). length b.code) c.body.view_is in
    let place = remove-place c.args.at c.args.body.now (sym c.in_default.ensures) in
    let none : remove_refusal c.args.at w ≡ None = ap (remove_refusal c.args.at) c.body.view_is ∙ sym c.in_default.ensures in
    let code = c.move_code.ensures ∙ ap (map (placed (kept_number (TakenOut c.args.at)))) c.remove.ensures.rest in
    ap (λ xs. body_of_parts w xs c.move_handlers.new.handlers) code
    ∙ ap (λ hs. body_of_parts w (map (placed (kept_number (TakenOut c.args.at))) (remove c.body.inside.code c.args.at)) hs) c.move_handlers.ensures
    ∙ remove-done c.args.at w (omega (arith, same, place)) c.body.invariant.0 none ∙ ap (without_instr c.args.at) c.body.view_is
