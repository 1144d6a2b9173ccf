use Rattle.std.proofs.Common.{◌≡◌, ◌+◌, length, map, None, sym, ap, ◌∙◌, arith}
use Rattle.std.specs.Prelude.{insert, slice_set}
use Rattle.std.proofs.lemmas.List.{length-map}
use Rattle.std.proofs.lemmas.List.Edits.{length-insert}
use Rattle.il_code.specs.Code.{placed}
use Rattle.il_code.specs.Spelling.{placed_handler}
use Rattle.il_edit.specs.declared.shift.Shift.TheVariants.{PutIn}
use Rattle.il_edit.specs.inner.Shifted.{kept_number}
use Rattle.il_code.specs.Body.{Body}
use Rattle.il_code.specs.Edited.{body_of_parts, insert_refusal, with_instr}
use Rattle.il_edit.proofs.EditLemmas.{insert-done, insert-place, length-set}
use Rattle.il_edit.proofs.code.insert.Goals as goal

pub insert-requires : goal.insert-requires
insert-requires c =
    let same : length c.body.inside.code ≡ length c.args.body.now.code = ap (λ (b : Body). length b.code) c.body.view_is in
    omega (arith, same, (insert-place c.args.at c.args.instr c.args.body.now (omega (arith, same, c.body.invariant.0)) (sym c.in_default.ensures)).0)

pub set-requires : goal.set-requires
set-requires c =
    let same : length c.body.inside.code ≡ length c.args.body.now.code = ap (λ (b : Body). length b.code) c.body.view_is in
    let place = (insert-place c.args.at c.args.instr c.args.body.now (omega (arith, same, c.body.invariant.0)) (sym c.in_default.ensures)).0 in
    let longer : length c.insert.new.self ≡ length c.body.inside.code + 1 = ap length c.in_ok-insert.ensures.ok ∙ length-insert c.body.inside.code c.args.at c.nop.result (omega (arith, same, place)) in
    let moved : length c.move_code.new.code ≡ length c.insert.new.self = ap length c.move_code.ensures ∙ length-map c.insert.new.self (placed (kept_number (PutIn c.args.at))) in
    omega (arith, same, place, longer, moved)

pub invariant_of-body-2 : goal.invariant_of-body-2
invariant_of-body-2 c =
    let same : length c.body.inside.code ≡ length c.args.body.now.code = ap (λ (b : Body). length b.code) c.body.view_is in
    let place = insert-place c.args.at c.args.instr c.args.body.now (omega (arith, same, c.body.invariant.0)) (sym c.in_default.ensures) in
    let longer : length c.insert.new.self ≡ length c.body.inside.code + 1 = ap length c.in_ok-insert.ensures.ok ∙ length-insert c.body.inside.code c.args.at c.nop.result (omega (arith, same, place.0)) in
    let moved : length c.move_code.new.code ≡ length c.insert.new.self = ap length c.move_code.ensures ∙ length-map c.insert.new.self (placed (kept_number (PutIn c.args.at))) in
    let put : length c.set.new.self ≡ length c.move_code.new.code = ap length c.set.ensures.rest ∙ length-set c.move_code.new.code c.args.at c.args.instr in
    let hs : length c.move_handlers.new.handlers ≡ length c.body.inside.handlers = ap length c.move_handlers.ensures ∙ length-map c.body.inside.handlers (placed_handler (kept_number (PutIn c.args.at))) in
    (omega (arith, same, place.1, longer, moved, put), omega (arith, hs, c.body.invariant.1))

pub returns-clause-done : goal.returns-clause-done
returns-clause-done c =
    let w : Body = record { max_stack = c.body.inside.max_stack; init_locals = c.body.inside.init_locals; locals = c.body.inside.locals; code = c.body.inside.code; handlers = c.body.inside.handlers } in
    let same : length c.body.inside.code ≡ length c.args.body.now.code = ap (λ (b : Body). length b.code) c.body.view_is in
    let place = insert-place c.args.at c.args.instr c.args.body.now (omega (arith, same, c.body.invariant.0)) (sym c.in_default.ensures) in
    let none : insert_refusal c.args.at c.args.instr w ≡ None = ap (insert_refusal c.args.at c.args.instr) c.body.view_is ∙ sym c.in_default.ensures in
    let code = c.set.ensures.rest ∙ ap (λ xs. slice_set xs c.args.at c.args.instr) (c.move_code.ensures ∙ ap (map (placed (kept_number (PutIn c.args.at)))) c.in_ok-insert.ensures.ok) in
    ap (λ xs. body_of_parts w xs c.move_handlers.new.handlers) code
    ∙ ap (λ hs. body_of_parts w (slice_set (map (placed (kept_number (PutIn c.args.at))) (insert c.body.inside.code c.args.at c.nop.result)) c.args.at c.args.instr) hs) c.move_handlers.ensures
    ∙ insert-done c.args.at c.args.instr w c.nop.result (omega (arith, same, place.0)) (omega (arith, same, place.1)) none ∙ ap (with_instr c.args.at c.args.instr) c.body.view_is
