-- Items of one width, one after the other in bytes.
use Rattle.std.specs.Prelude.{ℕ, zero, suc, [], ◌∷◌, option_map, ◌+◌, List, Option, Some}
use Rattle.cil_base.specs.Steps.{◌>>=◌}

-- as many items as the count, one after the other from a place on, of w bytes each
unfoldable pub items_at : {A : Type 0} → (ℕ → Option A) → ℕ → ℕ → ℕ → Option (List A)
items_at item w p zero = Some []
items_at item w p (suc count) = item p >>= λ x. option_map (λ xs. x ∷ xs) (items_at item w (p + w) count)
