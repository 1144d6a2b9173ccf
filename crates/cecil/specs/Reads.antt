-- What reading a file answers where it does not fail.
use Rattle.std.specs.Prelude.{◌≡◌, ℕ, ◌<◌, ◌≤◌, List, length}
use Rattle.cil_outside.specs.declared.folder.Got.{Got}
use Rattle.cil_outside.specs.declared.folder.Got.TheVariants.{Found, Missing, TooLong, Failed}

-- no failure, and no more bytes than were asked for
abbrev pub IsRead : ℕ → Got → Type 0
IsRead max (Found bytes) = length bytes ≤ max
IsRead max Missing = Unit {0}
IsRead max TooLong = Unit {0}
IsRead max Failed = ⊥

-- what is answered of an opened file with these bytes: all of them, or that they pass the limit
abbrev pub IsAll : List ℕ → ℕ → Got → Type 0
IsAll left max (Found bytes) = bytes ≡ left
IsAll left max Missing = ⊥
IsAll left max TooLong = max < length left
IsAll left max Failed = ⊥
