use Rattle.std.proofs.Common.{◌∙◌, Some}
use Rattle.cecil_top.proofs.PassLemmas.{pass_there, passes_back, query_step}
use Rattle.cecil_top.proofs.PlaceLemmas.{read_at}
use Rattle.cecil_top.proofs.command.do_query.Goals as goal

pub take_pass-pass-requires : goal.take_pass-pass-requires
take_pass-pass-requires g c =
    pass_there c.args.modules.now c.args.actor c.args.passes.now c.requires.passes c.args.home c.requires.home

pub ask-back-requires : goal.ask-back-requires
ask-back-requires g c =
    let l = c.index-modules-home.result in
    let at = read_at c.args.modules.now c.args.home l c.requires.home c.index-modules-home.is in
    (c.requires.passes.each c.args.home l (Some c.take_pass-pass.result) at c.take_pass-pass.ensures.pass).0

pub returns-clause-passes : goal.returns-clause-passes
returns-clause-passes g c =
    let l = c.index-modules-home.result in
    let p = c.take_pass-pass.result in
    let at = read_at c.args.modules.now c.args.home l c.requires.home c.index-modules-home.is in
    let mine = c.requires.passes.each c.args.home l (Some p) at c.take_pass-pass.ensures.pass in
    passes_back c.args.modules.now c.args.actor c.args.home c.args.passes.now c.take_pass-pass.new.passes c.put_pass.new.passes p c.ask-back.result.0 l at
    c.take_pass-pass.ensures.pass c.take_pass-pass.ensures.rest c.put_pass.ensures c.requires.passes (c.ask-back.ensures.pass.0, c.ask-back.ensures.pass.1 ∙ mine.1)

pub returns-clause-step : goal.returns-clause-step
returns-clause-step g c =
    let l = c.index-modules-home.result in
    let p = c.take_pass-pass.result in
    let at = read_at c.args.modules.now c.args.home l c.requires.home c.index-modules-home.is in
    let mine = c.requires.passes.each c.args.home l (Some p) at c.take_pass-pass.ensures.pass in
    query_step c.args.modules.now c.args.actor c.args.home c.args.passes.now c.take_pass-pass.new.passes c.put_pass.new.passes p c.ask-back.result.0 l at
    c.take_pass-pass.ensures.pass c.take_pass-pass.ensures.rest c.put_pass.ensures mine.1 c.args.place c.args.step c.args.query.now c.ask-back.result.1
    c.ask-back.ensures.adds c.ask-back.ensures.answer
