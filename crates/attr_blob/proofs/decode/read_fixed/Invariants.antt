use Rattle.std.proofs.Common.{◌≡◌, drop}
use Rattle.attr_blob.specs.inner.Reading.{fixed_at, with_before}
use Rattle.attr_blob.proofs.decode.read_fixed.Given as goal

abbrev pub invariant-loop-ty : goal.invariant-loop-ty
invariant-loop-ty l = with_before l.fixed (fixed_at l.widths (drop l.ty-index l.params) l.rest) ≡ fixed_at l.widths l.params l.initial.rest
