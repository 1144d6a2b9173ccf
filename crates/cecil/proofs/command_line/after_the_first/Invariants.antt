use Rattle.std.proofs.Common.{◌≡◌, ◌++◌, drop}
use Rattle.std.specs.Vec.Iter.{into_iter_items, into_iter_len}
use Rattle.cecil.proofs.command_line.after_the_first.Given as goal

-- the words so far, and those that are left
abbrev pub invariant-taking : goal.invariant-taking
invariant-taking l = l.words.items ++ into_iter_items l.args ≡ drop 1 (into_iter_items l.fn.args)

abbrev pub decreases-taking : goal.decreases-taking
decreases-taking l = into_iter_len l.args
