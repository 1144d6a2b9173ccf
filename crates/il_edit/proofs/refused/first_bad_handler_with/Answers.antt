use Rattle.std.proofs.Common.{◌+◌, [], length, refl, sym, ap, ◌∙◌}
use Rattle.il_code.specs.Sound.{is_sound_handler}
use Rattle.il_code.specs.Spelling.{placed_handler}
use Rattle.il_edit.specs.inner.Failing.{failing_from}
use Rattle.il_edit.proofs.FailingLemmas.{failing-none, joined-found, joined-item, joined-over}
use Rattle.il_edit.proofs.ShiftLemmas.{all-stay, stay-handler}
use Rattle.il_edit.proofs.refused.first_bad_handler_with.Goals as goal

pub returns-in-Some : goal.returns-in-Some
returns-in-Some c = joined-found (is_sound_handler c.args.count) c.args.front.now _ c.in-Some.number (c.in-Some.ensures ∙ ap (failing_from (is_sound_handler c.args.count) 0) (all-stay (placed_handler (λ n. n)) stay-handler c.args.front.now))

pub returns-then-is_handler_sound : goal.returns-then-is_handler_sound
returns-then-is_handler_sound c =
    joined-over (is_sound_handler c.args.count) c.args.front.now [] c.args.handler.now (length c.args.front.now) _
    (c.in_default.ensures ∙ ap (failing_from (is_sound_handler c.args.count) 0) (all-stay (placed_handler (λ n. n)) stay-handler c.args.front.now)) refl
    (ap (is_sound_handler c.args.count) (sym (stay-handler c.args.handler.now)) ∙ sym c.is_handler_sound.ensures ∙ c.if-is_handler_sound.true)
    (sym (failing-none (is_sound_handler c.args.count) (length c.args.front.now + 1)))

pub returns-else-is_handler_sound : goal.returns-else-is_handler_sound
returns-else-is_handler_sound c =
    joined-item (is_sound_handler c.args.count) c.args.front.now [] c.args.handler.now (length c.args.front.now)
    (c.in_default.ensures ∙ ap (failing_from (is_sound_handler c.args.count) 0) (all-stay (placed_handler (λ n. n)) stay-handler c.args.front.now)) refl
    (ap (is_sound_handler c.args.count) (sym (stay-handler c.args.handler.now)) ∙ sym c.is_handler_sound.ensures ∙ c.if-is_handler_sound.false)
