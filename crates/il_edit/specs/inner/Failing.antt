-- The first item that fails a test, by recursion: the code's own words. No public contract cites them.
use Rattle.std.specs.Prelude.{ℕ, ◌+◌, Bool, List, [], ◌∷◌, Option, Some, None, if◌then◌else◌, option_map}
use Rattle.std.specs.Option.{option_or}
use Rattle.il_code.specs.declared.il_refusal.IlRefusal.{IlRefusal}
use Rattle.il_code.specs.declared.il_refusal.IlRefusal.TheVariants.{BadCode, BadHandler}

-- its number, where the first item has that number
unfoldable pub failing_from : {A : Type 0} → (A → Bool) → ℕ → List A → Option ℕ
failing_from test k [] = None
failing_from test k (x ∷ xs) = if test x then failing_from test (k + 1) xs else Some k

-- the refusal for the first bad instruction, or else for the first bad handler
abbrev pub refusal_told : Option ℕ → Option ℕ → Option IlRefusal
refusal_told code handler = option_or (option_map BadCode code) (option_map BadHandler handler)
