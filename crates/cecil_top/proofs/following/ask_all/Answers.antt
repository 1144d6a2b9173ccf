use Rattle.std.proofs.Common.{◌∙◌, refl, sym, ap, subst, ◌<◌}
use Rattle.resolver.specs.declared.start.Start.{Start}
use Rattle.cecil_top.proofs.HomeLemmas.{question_home}
use Rattle.cecil_top.proofs.QuestionLemmas.{none_asked, one_asked}
use Rattle.cecil_top.proofs.following.ask_all.Goals as goal

pub loop-init : goal.loop-init
loop-init g c =
    none_asked c.args.modules.now c.args.actor c.args.place c.args.ask.now.start c.args.ask.now c.args.asked.now c.args.passes.now
    c.requires.passes refl c.requires.none

pub ask_one-requires-clause-home : goal.ask_one-requires-clause-home
ask_one-requires-clause-home g c =
    let same = c.loop.invariant.start_is in
    let less = subst (λ n. c.args.ask.now.start.home < n) (sym c.requires.modules) c.requires.home in
    let within = question_home c.loop.ask (subst (λ (s : Start). s.home < s.modules) (sym same) less) c.in-Question.home c.in-Question.query
    (sym c.in_ok-end.ensures ∙ c.in-Question.is) in
    subst (λ n. c.in-Question.home < n) (ap (λ (s : Start). s.modules) same ∙ c.requires.modules) within

pub loop-preserved : goal.loop-preserved
loop-preserved g c =
    one_asked c.args.modules.now c.args.actor c.args.place c.args.ask.now.start c.loop.ask c.ask_one.new.ask c.loop.asked c.ask_one.new.asked
    c.args.passes.now c.loop.passes c.ask_one.new.passes c.in-Question.home c.in-Question.query
    (subst (λ n. c.args.ask.now.start.home < n) (sym c.requires.modules) c.requires.home)
    (sym c.in_ok-end.ensures ∙ c.in-Question.is) c.loop.invariant c.ask_one.ensures.passes c.in_ok-ask_one-in-Question.ensures.more
