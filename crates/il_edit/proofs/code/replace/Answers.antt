use Rattle.std.proofs.Common.{◌≡◌, length, sym, ap, ◌∙◌, arith}
use Rattle.il_code.specs.Body.{Body}
use Rattle.il_code.specs.Edited.{body_of_parts, with_instr_for}
use Rattle.il_edit.proofs.EditLemmas.{replace-done, replace-place}
use Rattle.il_edit.proofs.code.replace.Goals as goal

pub set-requires : goal.set-requires
set-requires c =
    let same : length c.body.inside.code ≡ length c.args.body.now.code = ap (λ (b : Body). length b.code) c.body.view_is in
    omega (arith, same, replace-place c.args.at c.args.instr c.args.body.now (sym c.in_default.ensures))

pub returns-clause-done : goal.returns-clause-done
returns-clause-done c =
    let w : Body = record { max_stack = c.body.inside.max_stack; init_locals = c.body.inside.init_locals; locals = c.body.inside.locals; code = c.body.inside.code; handlers = c.body.inside.handlers } in
    ap (λ xs. body_of_parts w xs w.handlers) c.set.ensures.rest ∙ replace-done c.args.at c.args.instr w ∙ ap (with_instr_for c.args.at c.args.instr) c.body.view_is
