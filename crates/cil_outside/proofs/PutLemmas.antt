-- What is read of puts once there is one more.
use Rattle.std.proofs.Common.{[], ◌∷◌, None}
use Rattle.std.proofs.lemmas.List.Sums.{fold-append}
use Rattle.cil_outside.specs.Laws.{LastPutCounts}
use Rattle.cil_outside.specs.Outlet.{content_then}

pub last_counts : LastPutCounts
last_counts puts put name = fold-append (content_then name) None puts (put ∷ [])
