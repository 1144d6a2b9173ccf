use Rattle.std.proofs.Common.{length, map, sym}
use Rattle.std.proofs.lemmas.List.{length-map}
use Rattle.il_code.specs.Code.{placed}
use Rattle.il_code.specs.Sound.{is_sound_instr}
use Rattle.il_edit.specs.inner.Shifted.{shifted}
use Rattle.il_edit.proofs.FailingLemmas.{joined-found, joined-rest}
use Rattle.il_edit.proofs.refused.first_bad_of.Goals as goal

pub returns-in-Some : goal.returns-in-Some
returns-in-Some c = joined-found (is_sound_instr c.args.count) (map (placed (shifted c.args.shift)) c.args.front.now) (map (placed (shifted c.args.shift)) c.args.back.now) c.in-Some.number c.in-Some.ensures

pub returns : goal.returns
returns c = joined-rest (is_sound_instr c.args.count) (map (placed (shifted c.args.shift)) c.args.front.now) (map (placed (shifted c.args.shift)) c.args.back.now) (length c.args.front.now) c.first_bad-2.result c.in_default.ensures (sym (length-map c.args.front.now (placed (shifted c.args.shift)))) c.first_bad-2.ensures
