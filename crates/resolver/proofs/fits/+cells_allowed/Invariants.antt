use Rattle.std.proofs.Common.{length}
use Rattle.resolver.proofs.fits.+cells_allowed.Given as goal

abbrev pub decreases-cells_allowed : goal.decreases-cells_allowed
decreases-cells_allowed l = length l.columns.now
