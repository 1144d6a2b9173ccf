use denote.Param.Send.{sendable}
use Rattle.std.proofs.Common.{length, map}
use Rattle.std.proofs.Crossing.{crosses}
use Rattle.std.proofs.lemmas.List.{length-map}
use Rattle.cecil_top.specs.declared.actor.Actor.{Actor}
use Rattle.cecil_top.proofs.RunLemmas.{all_can_close, all_ready, run_ends}
use Rattle.cil_base.proofs.list.List.TheSendSync as list
use Rattle.cecil_top.proofs.SendLemmas.{module_sync}
use Rattle.cecil_top.proofs.run.run_over.Goals as goal

pub do_actors-requires-clause-ready : goal.do_actors-requires-clause-ready
do_actors-requires-clause-ready g c κs within =
    let a0 = c.args.actors.now in
    let given = map (λ (a : Actor). a.given) a0 in
    let ms = c.in_ok-modules.modules in
    all_ready c.args.cores given c.requires.runnable (length a0) (length-map a0 (λ (a : Actor). a.given)) ms c.open_all.new.actors
    c.in_ok-modules.ensures.shared (c.in_ok-modules.ensures.actors given c.requires.new)

pub close_all-requires-clause-all : goal.close_all-requires-clause-all
close_all-requires-clause-all g c =
    let a0 = c.args.actors.now in
    let given = map (λ (a : Actor). a.given) a0 in
    let ms = c.in_ok-modules.modules in
    let a1 = c.open_all.new.actors in
    let ran = c.do_actors.ensures in
    all_can_close c.args.cores given c.requires.runnable (length a0) (length-map a0 (λ (a : Actor). a.given)) ms a1 c.in_ok-modules.ensures.shared
    (c.in_ok-modules.ensures.actors given c.requires.new) c.do_actors.new.actors ran (c.any_short.ensures c.if-any_short.false)

pub returns : goal.returns
returns g c =
    let a0 = c.args.actors.now in
    let given = map (λ (a : Actor). a.given) a0 in
    let ms = c.in_ok-modules.modules in
    let a1 = c.open_all.new.actors in
    let ran = c.do_actors.ensures in
    run_ends c.args.cores given c.requires.runnable (length a0) (length-map a0 (λ (a : Actor). a.given)) ms a1 c.in_ok-modules.ensures.shared
    (c.in_ok-modules.ensures.actors given c.requires.new) c.do_actors.new.actors ran (c.any_short.ensures c.if-any_short.false)
    c.close_all.new.actors c.close_all.result c.close_all.ensures.cores c.close_all.ensures.actors

pub do_actors-requires-sync-M : goal.do_actors-requires-sync-M
do_actors-requires-sync-M g c κs within = search (module_sync, list.the_sync, crosses, sendable) depth 40 fits 20000
