use Rattle.std.proofs.Common.{◌+◌, refl, sym, subst, rules, []}
use Rattle.cecil_top.specs.inner.Opens.{AllAreNew}
use Rattle.cecil_top.proofs.OpenLemmas.{new_more}
use Rattle.cecil_top.proofs.PlaceLemmas.{left_then, taken_at}
use Rattle.cecil_top.proofs.opening.new_actors.Goals as goal

pub loop-number-preserved : goal.loop-number-preserved
loop-number-preserved c =
    let n = c.loop-number.number in
    let left = c.loop-number.invariant.0 in
    let cs = c.remove-commands.result in
    let at = taken_at c.args.given c.loop-number.given n cs left c.remove-commands.ensures.item in (
      left_then c.args.given c.loop-number.given c.remove-commands.new.self n left c.remove-commands.ensures.rest,
      subst (λ actors. AllAreNew [] c.args.given actors (n + 1)) (sym c.in_ok-push.ensures.ok)
          (new_more c.args.given n c.loop-number.actors _ cs c.loop-number.invariant.1 at
          (record {
            number = refl;
            given = refl;
            none_done = search rules;
            none_said = search rules;
            passes = record { as_many = search rules; each = λ m l p is there. absurd cc };
          })),
    )
