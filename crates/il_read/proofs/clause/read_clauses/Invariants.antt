use Rattle.std.proofs.Common.{◌≡◌, ◌+◌, ◌-◌, ◌*◌}
use Rattle.il_code.specs.Sections.{clause_size}
use Rattle.il_code.specs.Items.{items_at}
use Rattle.il_code.specs.Numbering.{numbered_clause}
use Rattle.il_read.proofs.ItemLemmas.{with_front}
use Rattle.il_read.proofs.clause.read_clauses.Given as goal

abbrev pub invariant-loop-i : goal.invariant-loop-i
invariant-loop-i l =
    with_front l.all (items_at (numbered_clause l.places.starts l.places.count l.section.fat l.bytes) (clause_size l.section.fat) (l.place + l.len * l.i) (l.section.count - l.i))
    ≡ with_front l.initial.all (items_at (numbered_clause l.places.starts l.places.count l.section.fat l.bytes) (clause_size l.section.fat) l.place l.section.count)
