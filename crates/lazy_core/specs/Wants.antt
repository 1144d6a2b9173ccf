-- Which wants may be published.
use Rattle.std.specs.Prelude.{ℕ, List, [], ◌∷◌, Option, Some, None}
use Rattle.node_model.specs.declared.entry.Entry.{Entry}
use Rattle.lazy_core.specs.Legal.{WasWanted}
use Rattle.lazy_core.specs.declared.wanted.Wanted.{Wanted}

-- what is wanted, if anything, was wanted at an earlier moment of the history
abbrev pub MayPublish : List ℕ → List Entry → Option Wanted → Type 0
MayPublish b h (Some w) = WasWanted b h w.point w.why w.key
MayPublish b h None = Unit {0}

-- each of these may be published
abbrev pub AllMayPublish : List ℕ → List Entry → List (Option Wanted) → Type 0
AllMayPublish b h [] = Unit {0}
AllMayPublish b h (want ∷ wants) = MayPublish b h want × AllMayPublish b h wants
