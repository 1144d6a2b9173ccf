use Rattle.std.proofs.Common.{◌∙◌, ◌+◌, sym, subst, length, [], ◌∷◌, ◌++◌}
use Rattle.cecil_top.specs.inner.Opens.{AllAreNew, AreOpened}
use Rattle.cecil_top.proofs.OpenLemmas.{opened_for_all, opened_more}
use Rattle.cecil_top.proofs.PlaceLemmas.{left_then, taken_at}
use Rattle.cecil_top.proofs.opening.open_all.Goals as goal

pub loop-at-preserved : goal.loop-at-preserved
loop-at-preserved c =
    let n = c.loop-at._at in
    let left = c.loop-at.invariant.0 in
    let many = c.loop-at.invariant.1 in
    let core = c.remove-core.result in
    let l = c.in_ok-shared.shared in
    let ms = c.loop-at.modules in
    let at = taken_at c.args.cores c.loop-at.cores n core left c.remove-core.ensures.item in (
      left_then c.args.cores c.loop-at.cores c.remove-core.new.self n left c.remove-core.ensures.rest,
      c.in_ok-shared.ensures.actors.as_many ∙ many,
      subst (λ ms. AreOpened c.args.cores (length c.args.actors.now) ms (n + 1)) (sym c.in_ok-push.ensures.ok)
          (opened_more c.args.cores (length c.args.actors.now) n ms core l c.loop-at.invariant.2 at c.in_ok-shared.ensures.shared.1
          (c.in_ok-shared.ensures.shared.0 ∙ many)),
      λ given new. subst (λ ms. AllAreNew ms given c.open_one.new.actors (length c.args.actors.now)) (sym c.in_ok-push.ensures.ok)
          (subst (AllAreNew (ms ++ l ∷ []) given c.open_one.new.actors) many
          (opened_for_all ms l given c.loop-at.actors c.open_one.new.actors c.in_ok-shared.ensures.shared.0 c.in_ok-shared.ensures.actors
          (subst (AllAreNew ms given c.loop-at.actors) (sym many) (c.loop-at.invariant.3 given new)))),
    )
