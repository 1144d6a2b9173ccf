use Rattle.pe_image.proofs.LayoutLemmas.{opened}
use Rattle.pe_image.proofs.image.Pe.resources.Goals as goal

pub returns : goal.returns
returns c = λ b h. (opened b c.args.self.now h).resources
