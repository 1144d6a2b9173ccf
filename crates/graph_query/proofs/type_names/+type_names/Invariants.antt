use Rattle.std.proofs.Common.{◌+◌, ◌*◌}
use Rattle.graph_query.proofs.type_names.+type_names.Given as goal

abbrev pub decreases-type_name : goal.decreases-type_name
decreases-type_name l = 6 * l.depth

abbrev pub decreases-name_of_type : goal.decreases-name_of_type
decreases-name_of_type l = 6 * l.depth + 1

abbrev pub decreases-nested_name : goal.decreases-nested_name
decreases-nested_name l = 6 * l.depth + 2

abbrev pub decreases-scoped_name : goal.decreases-scoped_name
decreases-scoped_name l = 6 * l.depth + 2

abbrev pub decreases-reference_name : goal.decreases-reference_name
decreases-reference_name l = 6 * l.depth + 3

abbrev pub decreases-type_def_name : goal.decreases-type_def_name
decreases-type_def_name l = 6 * l.depth + 3

abbrev pub decreases-type_ref_name : goal.decreases-type_ref_name
decreases-type_ref_name l = 6 * l.depth + 4

abbrev pub decreases-type_name_level : goal.decreases-type_name_level
decreases-type_name_level l = 6 * l.depth + 5
