use Rattle.std.proofs.Common.{length, map, sym, ap, ◌∙◌}
use Rattle.std.proofs.lemmas.List.{length-map}
use Rattle.il_code.specs.Code.{placed}
use Rattle.il_code.specs.Sound.{is_sound_instr}
use Rattle.il_edit.specs.inner.Shifted.{shifted}
use Rattle.il_edit.proofs.FailingLemmas.{joined-found, joined-item, joined-over}
use Rattle.il_edit.proofs.ShiftLemmas.{stay-instr}
use Rattle.il_edit.proofs.refused.first_bad_with.Goals as goal

pub returns-in-Some : goal.returns-in-Some
returns-in-Some c = joined-found (is_sound_instr c.args.count) (map (placed (shifted c.args.shift)) c.args.front.now) _ c.in-Some.number c.in-Some.ensures

pub returns-then-not-is_sound : goal.returns-then-not-is_sound
returns-then-not-is_sound c =
    joined-item (is_sound_instr c.args.count) (map (placed (shifted c.args.shift)) c.args.front.now) (map (placed (shifted c.args.shift)) c.args.back.now) c.args.instr.now (length c.args.front.now) c.in_default.ensures (sym (length-map c.args.front.now (placed (shifted c.args.shift))))
    (ap (is_sound_instr c.args.count) (sym (stay-instr c.args.instr.now)) ∙ sym c.is_sound.ensures ∙ c.if-not-is_sound.true)

pub returns : goal.returns
returns c =
    joined-over (is_sound_instr c.args.count) (map (placed (shifted c.args.shift)) c.args.front.now) (map (placed (shifted c.args.shift)) c.args.back.now) c.args.instr.now (length c.args.front.now) c.first_bad-2.result c.in_default.ensures (sym (length-map c.args.front.now (placed (shifted c.args.shift))))
    (ap (is_sound_instr c.args.count) (sym (stay-instr c.args.instr.now)) ∙ sym c.is_sound.ensures ∙ c.if-not-is_sound.false) c.first_bad-2.ensures
