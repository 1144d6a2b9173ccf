use Rattle.std.proofs.Common.{◌≡◌, ◌+◌, ◌-◌, ◌*◌}
use Rattle.attr_blob.specs.inner.Reading.{arg_at, many_items_at, with_before}
use Rattle.attr_blob.proofs.read_arg.+read.Given as goal

abbrev pub invariant-read_items-loop-index : goal.invariant-read_items-loop-index
invariant-read_items-loop-index l = with_before l.items (many_items_at (arg_at l.widths l.depth l.elem) (l.count - l.index) l.rest) ≡ many_items_at (arg_at l.widths l.depth l.elem) l.count l.initial.rest

abbrev pub decreases-read_arg : goal.decreases-read_arg
decreases-read_arg l = 10 * l.depth

abbrev pub decreases-read_boxed : goal.decreases-read_boxed
decreases-read_boxed l = 10 * l.depth + 1

abbrev pub decreases-read_items : goal.decreases-read_items
decreases-read_items l = 10 * l.depth + 1

abbrev pub decreases-read_array : goal.decreases-read_array
decreases-read_array l = 10 * l.depth + 2

abbrev pub decreases-read_level : goal.decreases-read_level
decreases-read_level l = 10 * l.depth + 3
