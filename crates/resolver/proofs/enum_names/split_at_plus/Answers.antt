use Rattle.resolver.specs.EnumNames.{is_plus_sign}
use Rattle.resolver.proofs.SplitLemmas.{glued_none}
use Rattle.resolver.proofs.enum_names.split_at_plus.Goals as goal

pub loop-byte-init : goal.loop-byte-init
loop-byte-init c = rw (c.new-parts.ensures, c.new-part.ensures) (glued_none is_plus_sign c.args.text.now)
