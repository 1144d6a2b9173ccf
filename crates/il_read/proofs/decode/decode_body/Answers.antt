use Rattle.std.proofs.Common.{rules, ◌≤◌, List, length, Option, sym, subst, arith}
use Rattle.std.specs.Prelude.{IfSome}
use Rattle.il_code.specs.declared.instr.Instr.{Instr}
use Rattle.il_code.specs.Decoded.{body_at, body_after, numbered_body, body_with}
use Rattle.il_code.proofs.DecodedLemmas.{found-spells}
use Rattle.il_read.proofs.ReadLemmas.{each-length}
use Rattle.il_read.proofs.ReadWritableLemmas.{spelled-writable}
use Rattle.il_read.proofs.decode.decode_body.Goals as goal

pub invariant_of-result : goal.invariant_of-result
invariant_of-result c =
    let few = subst (λ (o : Option (List Instr)). IfSome o (λ xs. length xs ≤ length c.in-Some-code_of.code.now)) c.in-Some-2.is c.in_ok-raw.ensures.few in
    let kept = each-length _ c.in-Some-2.raw c.in-Some-number_code.code (sym c.in-Some-number_code.ensures) in
    (omega (arith, few, c.in-Some-code_of.ensures.small, kept), omega (arith, c.len.ensures, c.if-len-gt-MAX_HANDLERS.false))

pub returns-clause-value : goal.returns-clause-value
unfolding body_at body_after numbered_body body_with
returns-clause-value c = search rules

pub returns-clause-writable : goal.returns-clause-writable
returns-clause-writable c = spelled-writable _ c.args.bytes.now c.args.users.now (found-spells c.args.bytes.now c.args.users.now _ (sym (returns-clause-value c)))
