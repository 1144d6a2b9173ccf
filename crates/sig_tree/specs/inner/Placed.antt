-- The replacer's own word. No public contract cites it.
use Rattle.std.specs.Prelude.{◌≡◌, List}
use Rattle.std.specs.Borrow.{Bor}
use Rattle.cil_base.specs.Token.{Token}

-- a part with its tokens, and the tokens that are left
abbrev pub Placed : {A : Type 0} → A × Bor (List Token) → A × List Token → Type 0
Placed placed expected = (placed.0 ≡ expected.0) × (placed.1.now ≡ expected.1)
