use Rattle.node_read.proofs.ImageLemmas as images
use Rattle.node_read.proofs.laws.image_is_not_refused.Goals as goal

pub returns : goal.returns
returns c = images.image_is_not_refused
