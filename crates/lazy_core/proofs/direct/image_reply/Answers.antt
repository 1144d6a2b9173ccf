use Rattle.std.proofs.Common.{◌≡◌, sym, subst, IfOk}
use Rattle.lazy_core.proofs.DirectLemmas.{said_is}
use Rattle.lazy_core.proofs.direct.image_reply.Goals as goal

pub returns-in-Some : goal.returns-in-Some
returns-in-Some c =
    subst (λ reply. IfOk c.one_reply.result (λ said. said ≡ reply))
    (sym (said_is c.args.image.now c.args.query.now c.in-Some.key (sym c.in-Some.ensures))) c.one_reply.ensures
