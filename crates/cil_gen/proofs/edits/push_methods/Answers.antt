use Rattle.std.proofs.Common.{◌≡◌, ◌++◌, ◌∙◌, ap, arith}
use Rattle.cil_gen.specs.GenEdits.{edits_of, method_steps}
use Rattle.cil_gen.proofs.edits.push_methods.Goals as goal

-- all three places were taken
pub returns : goal.returns
returns c =
    let all : c.loop-place.place ≡ 3 = omega arith in
    c.loop-place.invariant ∙ ap (λ count. c.args.edits.now ++ edits_of (method_steps c.args.number count)) all
