use Rattle.std.proofs.Common.{◌≡◌, sym, ◌∙◌, ap, [], None}
use Rattle.node_model.specs.Graph.{untouched}
use Rattle.node_model.specs.Questions.{key_reply}
use Rattle.lazy_core.specs.inner.Replies.{slot_reply_of}
use Rattle.lazy_core.proofs.DirectLemmas.{known_untouched, said_early, said_looked}
use Rattle.lazy_core.proofs.PeekLemmas.{fits_held}
use Rattle.lazy_core.proofs.direct.one_reply.Goals as goal

pub returns-in-Some : goal.returns-in-Some
returns-in-Some c = sym (said_early c.args.image.now c.args.key c.in-Some.early (sym c.in-Some.ensures))

pub read_key-requires : goal.read_key-requires
read_key-requires c =
    let early : None ≡ key_reply (untouched c.args.image.now).nodes c.args.key = cc in
    known_untouched c.args.image.now c.args.key (sym early)

pub slot_reply-requires : goal.slot_reply-requires
slot_reply-requires c = fits_held c.args.image.now [] c.args.key c.in_ok-slot.slot c.in_ok-slot.ensures

pub returns : goal.returns
returns c =
    let early : None ≡ key_reply (untouched c.args.image.now).nodes c.args.key = cc in
    c.slot_reply.ensures ∙ ap (slot_reply_of c.args.key) c.in_ok-slot.ensures
    ∙ sym (said_looked c.args.image.now c.args.key (sym early))
