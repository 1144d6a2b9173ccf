use Rattle.std.proofs.Common.{◌≡◌, take}
use Rattle.node_read.specs.inner.Opened.{rows_numbered}
use Rattle.node_read.proofs.linked.rows_numbered.Given as goal

-- the rows so far
abbrev pub invariant-loop-rid : goal.invariant-loop-rid
invariant-loop-rid l = l.rows ≡ rows_numbered l.table (take l.rid-index l.rids)
