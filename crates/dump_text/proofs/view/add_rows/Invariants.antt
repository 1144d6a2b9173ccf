use Rattle.std.proofs.Common.{◌≡◌, ◌++◌, take}
use Rattle.std.specs.List.{flat_map}
use Rattle.dump_text.specs.ViewTexts.{next_row_text}
use Rattle.dump_text.proofs.view.add_rows.Given as goal

abbrev pub invariant-loop-row : goal.invariant-loop-row
invariant-loop-row l = l.text ≡ l.initial.text ++ flat_map next_row_text (take l.row-index l.rows)
