-- Edits worked by hand, so that a wrong bound or order in a definition does not check.
use Rattle.std.proofs.Common.{◌≡◌, ℕ, List, [], ◌∷◌, false, Some, refl}
use Rattle.cil_base.specs.Token.{root}
use Rattle.il_code.specs.declared.operand.Operand.TheVariants as of
use Rattle.il_code.specs.declared.instr.Instr.{Instr}
use Rattle.il_code.specs.declared.handler.Handler.{Handler}
use Rattle.il_code.specs.declared.handler.HandlerKind.TheVariants.{Typed, Finally}
use Rattle.il_code.specs.declared.il_refusal.IlRefusal.TheVariants.{PlaceBeyond, BadCode, BadHandler}
use Rattle.il_code.specs.Body.{Body}
use Rattle.il_code.specs.Code.{instr_of}
use Rattle.il_code.specs.Instructions.{kind_of}
use Rattle.il_code.specs.Edited.{with_instr, without_instr, with_handler, with_instr_for, insert_refusal, remove_refusal, replace_refusal, add_handler_refusal}

-- two branches that leave to `target` over a `pop`, or over one more instruction before the last, and `ret`
abbrev pub leaving : ℕ → List Instr → Handler → Body
leaving target more h = record {
  max_stack = 1;
  init_locals = false;
  locals = root;
  code = instr_of 0xDE (of.Target target) ∷ instr_of 0x26 of.None ∷ instr_of 0xDE (of.Target target) ∷ more;
  handlers = h ∷ [];
}

-- instruction 0 is protected, and what follows it up to a number handles a type
abbrev pub typed : ℕ → Handler
typed end = record { kind = Typed (record { table = 1; rid = 1 }); try_start = 0; try_end = 1; start = 1; end = end }

abbrev pub ret : Instr
ret = instr_of 0x2A of.None

abbrev pub nop : Instr
nop = instr_of 0x00 of.None

-- what is put in before 3 moves the targets and the end that are 3
pub put_in_before_3 : with_instr 3 nop (leaving 3 (ret ∷ []) (typed 3)) ≡ leaving 4 (nop ∷ ret ∷ []) (typed 4)
unfolding with_instr
put_in_before_3 = refl

-- instruction 3 is the target of instruction 0, which has none once it is taken out
pub target_taken_out : remove_refusal 3 (leaving 3 (ret ∷ []) (typed 3)) ≡ Some (BadCode 0)
unfolding remove_refusal without_instr kind_of
target_taken_out = refl

pub nothing_at_4 : remove_refusal 4 (leaving 3 (ret ∷ []) (typed 3)) ≡ Some (PlaceBeyond 4 4)
unfolding remove_refusal
nothing_at_4 = refl

pub nothing_past_4 : insert_refusal 5 nop (leaving 3 (ret ∷ []) (typed 3)) ≡ Some (PlaceBeyond 5 4)
unfolding insert_refusal
nothing_past_4 = refl

-- a protected range that ends before its start
pub backwards : add_handler_refusal (record { kind = Finally; try_start = 2; try_end = 1; start = 1; end = 3 }) (leaving 3 (ret ∷ []) (typed 3)) ≡ Some (BadHandler 1)
unfolding add_handler_refusal with_handler kind_of
backwards = refl

-- the instructions are tried before the handlers
pub code-is_first : replace_refusal 3 (instr_of 0x2A (of.U8 0)) (leaving 3 (ret ∷ []) (typed 5)) ≡ Some (BadCode 3)
unfolding replace_refusal with_instr_for kind_of
code-is_first = refl
