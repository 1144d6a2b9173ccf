-- What a run begins with.
use Rattle.std.specs.Prelude.{◌≡◌, List, [], All}
use Rattle.lazy_core.specs.Slots.{CoreState}

-- nothing was done to them yet
abbrev pub AreUntouched : List CoreState → Type 0
AreUntouched cores = All (λ (core : CoreState). core.history ≡ []) cores
