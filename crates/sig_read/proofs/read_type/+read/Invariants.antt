use Rattle.std.proofs.Common.{◌≡◌, ◌+◌, ◌-◌, ◌*◌}
use Rattle.sig_tree.specs.Fronts.{many_at}
use Rattle.sig_read.specs.inner.Found.{fronted}
use Rattle.sig_tree.specs.Parsing.{params_at, type_sig_at}
use Rattle.sig_read.specs.inner.Found.{fronted_params}
use Rattle.sig_read.proofs.read_type.+read.Given as goal

abbrev pub invariant-read_more-loop-index : goal.invariant-read_more-loop-index
invariant-read_more-loop-index l = fronted l.types (many_at (type_sig_at l.depth) (l.count - l.index) l.rest) ≡ fronted l.initial.types (many_at (type_sig_at l.depth) l.count l.initial.rest)

abbrev pub invariant-read_params-loop-number : goal.invariant-read_params-loop-number
invariant-read_params-loop-number l = fronted_params l.params (params_at (type_sig_at l.depth) l.number (l.count - l.number) l.rest) ≡ params_at (type_sig_at l.depth) 0 l.count l.initial.rest

abbrev pub decreases-read_type : goal.decreases-read_type
decreases-read_type l = 10 * l.depth

abbrev pub decreases-read_boxed : goal.decreases-read_boxed
decreases-read_boxed l = 10 * l.depth + 1

abbrev pub decreases-read_more : goal.decreases-read_more
decreases-read_more l = 10 * l.depth + 1

abbrev pub decreases-read_params : goal.decreases-read_params
decreases-read_params l = 10 * l.depth + 3

abbrev pub decreases-read_types : goal.decreases-read_types
decreases-read_types l = 10 * l.depth + 2

abbrev pub decreases-read_convention : goal.decreases-read_convention
decreases-read_convention l = 10 * l.depth + 4

abbrev pub decreases-read_method : goal.decreases-read_method
decreases-read_method l = 10 * l.depth + 5

abbrev pub decreases-read_pointer : goal.decreases-read_pointer
decreases-read_pointer l = 10 * l.depth + 6

abbrev pub decreases-read_array : goal.decreases-read_array
decreases-read_array l = 10 * l.depth + 6

abbrev pub decreases-read_inst : goal.decreases-read_inst
decreases-read_inst l = 10 * l.depth + 6

abbrev pub decreases-read_mod : goal.decreases-read_mod
decreases-read_mod l = 10 * l.depth + 6

abbrev pub decreases-read_wrapped : goal.decreases-read_wrapped
decreases-read_wrapped l = 10 * l.depth + 6

abbrev pub decreases-read_level : goal.decreases-read_level
decreases-read_level l = 10 * l.depth + 7

abbrev pub decreases-read_marked : goal.decreases-read_marked
decreases-read_marked l = 10 * l.depth + 2
