use Rattle.std.proofs.Common.{◌≡◌, ◌+◌, ◌++◌, take, length, slice_index, sym, ap, subst, ◌∙◌, arith}
use Rattle.std.specs.List.{AllByRecursion, flat_map, enumerate_from}
use Rattle.std.proofs.lemmas.List.{take_all}
use Rattle.std.proofs.lemmas.List.FromFn.{length-enumerate_from}
use Rattle.il_code.specs.CodeBytes.{instr_bytes, numbered_bytes, code_bytes, token_at}
use Rattle.il_code.specs.CodePlaces.{instr_place}
use Rattle.il_code.specs.Writable.{texts_of}
use Rattle.il_write.specs.inner.Ranges.{InstrFits}
use Rattle.il_write.proofs.LayoutLemmas.{code-more, texts-more}
use Rattle.il_write.proofs.WritableLemmas.{all-more}
use Rattle.il_write.proofs.write_code.write_code.Goals as goal

pub loop-i-preserved : goal.loop-i-preserved
loop-i-preserved c =
    let place = instr_place c.args.places.now in
    let x = c.index-code-i.result in
    let token : c.token.result ≡ token_at c.args.texts.now c.args.code.now c.loop-i.i = c.token.ensures ∙ ap (λ k. slice_index c.args.texts.now k) c.loop-i.invariant.named in
    let bytes : c.write_instr.new.out ≡ c.loop-i.out ++ numbered_bytes place c.args.texts.now c.args.code.now (c.loop-i.i, x) =
    c.in_ok-write_instr.ensures.ok
    ∙ ap (λ p. c.loop-i.out ++ instr_bytes place p c.token.result x) c.place_at.ensures.value
    ∙ ap (λ t. c.loop-i.out ++ instr_bytes place (place (c.loop-i.i + 1)) t x) token in
    record {
      written = bytes ∙ ap (λ z. z ++ numbered_bytes place c.args.texts.now c.args.code.now (c.loop-i.i, x)) c.loop-i.invariant.written ∙ code-more (numbered_bytes place c.args.texts.now c.args.code.now) c.args.code.now c.loop-i.i x c.args.out.now c.loop-i-test.true c.index-code-i.is;
      named = ap (λ n. n + c.text_count-named.result) c.loop-i.invariant.named ∙ ap (λ n. length (texts_of (take c.loop-i.i c.args.code.now)) + n) c.text_count-named.ensures.value ∙ sym (texts-more c.args.code.now c.loop-i.i x c.loop-i-test.true c.index-code-i.is);
      few = omega (arith, c.loop-i.invariant.few, c.text_count-named.ensures.small);
      fits = all-more InstrFits c.args.code.now c.loop-i.i x c.loop-i-test.true c.index-code-i.is c.loop-i.invariant.fits c.in_ok-write_instr.ensures.fits;
    }

pub returns : goal.returns
unfolding code_bytes
returns c = record { fits = subst (AllByRecursion InstrFits) (take_all c.loop-i.i c.args.code.now c.loop-i-test.false) c.loop-i.invariant.fits; ok = c.loop-i.invariant.written ∙ ap (λ es. c.args.out.now ++ flat_map (numbered_bytes (instr_place c.args.places.now) c.args.texts.now c.args.code.now) es) (take_all c.loop-i.i (enumerate_from 0 c.args.code.now) (omega (arith, c.loop-i-test.false, length-enumerate_from 0 c.args.code.now))) }
