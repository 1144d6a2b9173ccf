use Rattle.std.proofs.Common.{◌≡◌, ◌-◌}
use Rattle.attr_blob.specs.inner.Reading.{many_items_at, named_at, with_before}
use Rattle.attr_blob.proofs.decode.read_all_named.Given as goal

abbrev pub invariant-loop-index : goal.invariant-loop-index
invariant-loop-index l = with_before l.named (many_items_at (named_at l.widths) (l.count - l.index) l.rest) ≡ many_items_at (named_at l.widths) l.count l.initial.rest
