-- What an edit makes of numbers: the code's own words. No public contract cites them.
use Rattle.std.specs.Prelude.{ℕ, ◌-◌, ◌^◌, nat_lt, if◌then◌else◌}
use Rattle.il_code.specs.Edited.{lowered, raised}
use Rattle.il_edit.specs.declared.shift.Shift.{Shift}
use Rattle.il_edit.specs.declared.shift.Shift.TheVariants.{Stay, PutIn, TakenOut}

abbrev pub shifted : Shift → ℕ → ℕ
shifted Stay = λ n. n
shifted (PutIn at) = raised at
shifted (TakenOut at) = lowered at

-- the same in 32 bits, where it fits them
abbrev pub kept_number : Shift → ℕ → ℕ
kept_number shift n = if nat_lt (shifted shift n) (2 ^ 32) then shifted shift n else 2 ^ 32 - 1
