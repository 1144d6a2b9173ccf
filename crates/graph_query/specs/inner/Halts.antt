-- Where a walk ends before its end. No public contract cites these words.
use Rattle.std.specs.Prelude.{Option, Some, None, Result, Ok, Err}
use Rattle.node_model.specs.declared.walk.Halt.{Halt}

-- why it ends early, if it does
abbrev pub halt_of : {R : Type 0} → Result R Halt → Option Halt
halt_of (Ok r) = None
halt_of (Err h) = Some h
