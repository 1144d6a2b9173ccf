-- What a gate holds.
use Rattle.std.specs.Prelude.{◌≡◌, ℕ}
use Rattle.cil_outside.specs.declared.hold_gate.HoldGate.{HoldGate}

-- the actor and its command that are held, those whose answer ends it, and how often it is looked for
abbrev pub IsHold : HoldGate → ℕ × ℕ → ℕ × ℕ → ℕ → Type 0
IsHold gate held until limit = (gate.held ≡ held) × (gate.until ≡ until) × (gate.limit ≡ limit)
