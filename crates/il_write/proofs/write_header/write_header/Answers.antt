use Rattle.std.proofs.Common.{◌≡◌, ◌++◌, ◌+◌, ◌*◌, cond, false, sym, ap, subst, arith, ◌∙◌}
use Rattle.byteorder.specs.Endian.{little_bytes}
use Rattle.il_code.specs.Body.{Body}
use Rattle.il_write.specs.inner.Ranges.{TokenFits}
use Rattle.cil_base.specs.Token.{token_number}
use Rattle.il_code.specs.HeaderBytes.{flags_of, header_bytes, is_tiny}
use Rattle.il_write.proofs.LayoutLemmas.{four-put}
use Rattle.il_write.proofs.write_header.write_header.Goals as goal

pub returns : goal.returns
unfolding header_bytes
returns c =
    let v : Body = c.args.body.now in
    let fat : is_tiny v c.args.size ≡ false = sym c.is_tiny.ensures ∙ c.if-is_tiny.false in
    let flags = c.in_ok-put.ensures.ok ∙ ap (λ n. c.args.out.now ++ little_bytes 2 n) c.flags.ensures in
    let stack = c.in_ok-put-2.ensures.ok ∙ ap (λ (b : Body). c.put-2.new.out ++ little_bytes 2 b.max_stack) c.body.view_is in
    let locals = c.in_ok-put-4.ensures.ok ∙ ap (λ n. c.put-4.new.out ++ little_bytes 4 n) (c.token_number-locals.ensures.value ∙ ap (λ (b : Body). token_number b.locals) c.body.view_is) in
    record {
      stack = omega (arith, ap (λ (b : Body). b.max_stack) c.body.view_is);
      locals = subst (λ (b : Body). TokenFits b.locals) c.body.view_is c.token_number-locals.ensures.fits;
      ok = four-put c.args.out.now c.put-2.new.out c.put-3.new.out c.put-4.new.out c.put-5.new.out (little_bytes 2 (flags_of v)) (little_bytes 2 v.max_stack) (little_bytes 4 c.args.size) (little_bytes 4 (token_number v.locals)) flags stack c.in_ok-put-3.ensures.ok locals
          ∙ ap (λ z. c.args.out.now ++ z) (sym (ap (λ t. cond t (little_bytes 1 (c.args.size * 4 + 2)) (little_bytes 2 (flags_of v) ++ little_bytes 2 v.max_stack ++ little_bytes 4 c.args.size ++ little_bytes 4 (token_number v.locals))) fat));
    }
