use Rattle.std.proofs.Common.{◌≡◌, ◌-◌}
use Rattle.cil_base.specs.inner.Reading.{signed_at}
use Rattle.sig_tree.specs.Fronts.{many_at}
use Rattle.sig_read.specs.inner.Found.{fronted}
use Rattle.sig_read.proofs.read_number.read_lows.Given as goal

abbrev pub invariant-loop-index : goal.invariant-loop-index
invariant-loop-index l = fronted l.lows (many_at signed_at (l.count - l.index) l.rest) ≡ many_at signed_at l.count l.initial.rest
