-- Bytes that stand in quotes as they are. No public contract cites these words.
use Rattle.std.specs.Prelude.{ℕ, Bool, ◌==◌, ◌&&◌, ◌||◌, not, nat_le}

-- from 20 to 7E, and neither `"` nor `\`
abbrev pub is_unescaped : ℕ → Bool
is_unescaped n = not ((n == 0x22) || (n == 0x5c)) && (nat_le 0x20 n && nat_le n 0x7e)
