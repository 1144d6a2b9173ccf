use Rattle.std.proofs.Common.{◌∙◌, List, ap, sym}
use Rattle.std.specs.List.{find, flat_map}
use Rattle.il_code.specs.Body.{Body}
use Rattle.il_code.specs.declared.handler.Handler.{Handler}
use Rattle.il_code.specs.declared.instr.Instr.{Instr}
use Rattle.write_plan.specs.Named.{handler_tokens, il_tokens, is_dangling, operand_tokens}
use Rattle.write_plan.proofs.ScanLemmas.{found_first, found_later}
use Rattle.write_plan.proofs.named.dangling_in_il.Goals as goal

pub returns-in-Some : goal.returns-in-Some
returns-in-Some c =
    let p = is_dangling c.args.met.now.all in
    let body = c.body.inside in
    let code = c.dangling_in_code.ensures ∙ ap (λ (xs : List Instr). find p (flat_map (λ (x : Instr). operand_tokens x.operand) xs)) c.as_slice.ensures in
    found_first p body.locals (flat_map (λ (x : Instr). operand_tokens x.operand) body.code) (flat_map (λ (h : Handler). handler_tokens h.kind) body.handlers)
    (sym (c.if-is_dangling.ensures)) c.in-Some.token (sym code ∙ c.in-Some.is)
    ∙ ap (λ (b : Body). find p (il_tokens b)) c.body.view_is

pub returns : goal.returns
returns c =
    let p = is_dangling c.args.met.now.all in
    let body = c.body.inside in
    let code = c.dangling_in_code.ensures ∙ ap (λ (xs : List Instr). find p (flat_map (λ (x : Instr). operand_tokens x.operand) xs)) c.as_slice.ensures in
    let handlers = c.dangling_in_handlers.ensures ∙ ap (λ (xs : List Handler). find p (flat_map (λ (h : Handler). handler_tokens h.kind) xs)) c.as_slice-2.ensures in
    found_later p body.locals (flat_map (λ (x : Instr). operand_tokens x.operand) body.code) (flat_map (λ (h : Handler). handler_tokens h.kind) body.handlers)
    (sym (c.if-is_dangling.ensures)) c.dangling_in_handlers.result (sym code ∙ c.in_default.is) handlers
    ∙ ap (λ (b : Body). find p (il_tokens b)) c.body.view_is
