-- Targets of branches in the code's bytes: ECMA-335 III.1.7.2.
use Rattle.std.specs.Prelude.{ℕ, ◌+◌, ◌*◌, ◌-◌, List, length, Option, Some, None, nat_lt, if◌then◌else◌}

-- a place within the bytes
unfoldable pub within : List ℕ → ℕ → Option ℕ
within b p = if nat_lt p (length b) then Some p else None

-- the place within the code at a distance from another: n is the distance in two's complement, whose sign counts `half`
unfoldable pub target_at : List ℕ → ℕ → ℕ → ℕ → Option ℕ
target_at b half after n =
    if nat_lt n half then within b (after + n)
    else (if nat_lt (after + n) (2 * half) then None else within b (after + n - 2 * half))
