use Rattle.std.proofs.Common.{subst}
use Rattle.cecil_inspect.specs.Steps.{Sends}
use Rattle.cecil_top.proofs.ToolLemmas.{ended_answers, ended_writes, sent_answers, sent_writes}
use Rattle.cecil_top.proofs.program.run.Goals as goal

pub returns-in-Ok-clause-cause : goal.returns-in-Ok-clause-cause
returns-in-Ok-clause-cause g c =
    let old = g.O.Outlet.written c.args.out.now in
    let new = g.O.Outlet.written c.send.new.out in
    sent_answers (g.F.Folder.files c.args.folder.now) c.args.name.now c.in-Ok.text old new c.send.result
    c.in-Ok.ensures.text (subst (λ t. Sends old new t c.send.result) c.as_slice.ensures c.send.ensures.text)

pub returns-in-Ok-clause-text : goal.returns-in-Ok-clause-text
returns-in-Ok-clause-text g c =
    let old = g.O.Outlet.written c.args.out.now in
    let new = g.O.Outlet.written c.send.new.out in
    sent_writes (g.F.Folder.files c.args.folder.now) c.args.name.now c.in-Ok.text old new c.send.result
    c.in-Ok.ensures.text (subst (λ t. Sends old new t c.send.result) c.as_slice.ensures c.send.ensures.text)

pub returns-in-Err-clause-cause : goal.returns-in-Err-clause-cause
returns-in-Err-clause-cause g c =
    ended_answers (g.F.Folder.files c.args.folder.now) c.args.name.now c.in-Err.status c.in-Err.ensures.status

pub returns-in-Err-clause-text : goal.returns-in-Err-clause-text
returns-in-Err-clause-text g c =
    ended_writes (g.F.Folder.files c.args.folder.now) c.args.name.now (g.O.Outlet.written c.args.out.now)
    c.in-Err.status c.in-Err.ensures.status
