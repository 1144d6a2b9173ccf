use Rattle.laid_parts.proofs.PartLemmas as parts
use Rattle.laid_parts.proofs.laws.places_are_lengths.Goals as goal

pub returns : goal.returns
returns c = parts.places_are_lengths
