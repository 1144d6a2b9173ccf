use Rattle.lazy_core.proofs.SeveralLemmas.{put_read}
use Rattle.lazy_core.proofs.direct.read_in.Goals as goal

pub returns : goal.returns
returns c =
    put_read c.args.image.now c.args.slots.now c.put_once.new.self c.args.key c.in_ok-slot.slot c.in_ok-put_once.field-0
    c.requires.slots c.in_ok-slot.ensures c.in_ok-put_once.ensures.slots
