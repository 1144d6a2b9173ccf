use Rattle.std.proofs.Common.{length, refl, ap, ◌∙◌}
use Rattle.il_code.specs.Sound.{is_sound_handler}
use Rattle.il_code.specs.Spelling.{placed_handler}
use Rattle.il_edit.specs.inner.Failing.{failing_from}
use Rattle.il_edit.proofs.FailingLemmas.{joined-found, joined-rest}
use Rattle.il_edit.proofs.ShiftLemmas.{all-stay, stay-handler}
use Rattle.il_edit.proofs.refused.first_bad_handler_of.Goals as goal

pub returns-in-Some : goal.returns-in-Some
returns-in-Some c = joined-found (is_sound_handler c.args.count) c.args.front.now c.args.back.now c.in-Some.number (c.in-Some.ensures ∙ ap (failing_from (is_sound_handler c.args.count) 0) (all-stay (placed_handler (λ n. n)) stay-handler c.args.front.now))

pub returns : goal.returns
returns c =
    joined-rest (is_sound_handler c.args.count) c.args.front.now c.args.back.now (length c.args.front.now) c.first_bad_handler-2.result
    (c.in_default.ensures ∙ ap (failing_from (is_sound_handler c.args.count) 0) (all-stay (placed_handler (λ n. n)) stay-handler c.args.front.now)) refl
    (c.first_bad_handler-2.ensures ∙ ap (failing_from (is_sound_handler c.args.count) (length c.args.front.now)) (all-stay (placed_handler (λ n. n)) stay-handler c.args.back.now))
