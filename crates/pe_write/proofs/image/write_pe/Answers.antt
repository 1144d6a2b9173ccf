use Rattle.std.proofs.Common.{ℕ, length, sym, ap, ◌∙◌, arith}
use Rattle.pe_write.specs.Image.{image_length}
use Rattle.pe_write.proofs.ImagePlaces.{length-is}
use Rattle.pe_write.proofs.WriteLemmas.{kept-is, laid-is, long-is}
use Rattle.pe_write.proofs.image.write_pe.Goals as goal

pub returns-then-length-gt-MAX_LENGTH : goal.returns-then-length-gt-MAX_LENGTH
returns-then-length-gt-MAX_LENGTH c =
    let section = c.args.contents.now in (
      c.in_ok-length.ensures
          ∙ ap (λ (n : ℕ). image_length n c.len-2.result) c.len.ensures
          ∙ ap (λ (n : ℕ). image_length (length section.body) n) c.len-2.ensures
          ∙ sym (length-is c.args.facts.now section),
      omega (arith, c.if-length-gt-MAX_LENGTH.true),
    )

pub returns-in-Ok : goal.returns-in-Ok
returns-in-Ok c =
    let f = c.args.facts.now in
    let section = c.args.contents.now in
    let n = c.lengths_of-lengths.result in
    let sizes = c.lengths_of-lengths.ensures in
    let all = laid-is f section c.push_headers.new.parts c.push_section.new.parts n.used n.raw n.image c.cli_numbers-numbers.result sizes.used sizes.raw sizes.image c.cli_numbers-numbers.ensures c.in_ok-push_section.ensures c.in_ok-push_headers.ensures in
    kept-is f section c.push_section.new.parts c.in-Ok.bytes all c.in-Ok.ensures

pub returns-in-Err : goal.returns-in-Err
returns-in-Err c =
    let f = c.args.facts.now in
    let section = c.args.contents.now in
    let n = c.lengths_of-lengths.result in
    let sizes = c.lengths_of-lengths.ensures in
    let all = laid-is f section c.push_headers.new.parts c.push_section.new.parts n.used n.raw n.image c.cli_numbers-numbers.result sizes.used sizes.raw sizes.image c.cli_numbers-numbers.ensures c.in_ok-push_section.ensures c.in_ok-push_headers.ensures in
    long-is f section c.push_section.new.parts c.in-Err.long all c.in-Err.ensures
