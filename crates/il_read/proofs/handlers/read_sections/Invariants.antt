use Rattle.std.proofs.Common.{◌≡◌, ◌+◌, ◌-◌, ◌<◌, ◌^◌, length}
use Rattle.il_code.specs.Numbering.{sections_in}
use Rattle.il_read.specs.inner.Handlers.{after_front}
use Rattle.il_read.proofs.handlers.read_sections.Given as goal

abbrev pub invariant-loop-turn : goal.invariant-loop-turn
invariant-loop-turn l =
    (l.place < 2 ^ 63 + 2 ^ 30) × (after_front l.handlers (sections_in l.places.starts l.places.count l.bytes (length l.bytes - l._turn) l.place) ≡ sections_in l.places.starts l.places.count l.bytes (length l.bytes) l.fn.place)
