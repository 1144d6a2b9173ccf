use Rattle.std.proofs.Common.{◌≡◌, sym, subst, rules, IfOk, length}
use Rattle.job_text.specs.declared.command.Command.TheVariants as commands
use Rattle.resolver.specs.declared.start.Sought.TheVariants as soughts
use Rattle.cecil_top.specs.Acts.{asked_acts, single_act}
use Rattle.cecil_top.specs.Following.{IsFollowed}
use Rattle.cecil_top.specs.declared.said.Said.TheVariants as saids
use Rattle.cecil_top.specs.inner.Passes.{AddsActs, IsPassStep, IsSaidStep, IsToldAnswer, IsToldEdit, IsToldResolution}
use Rattle.cecil_top.proofs.ActorLemmas.{said_answer, said_attribute, said_edit, said_resolved, then_ok}
use Rattle.cecil_top.proofs.QuestionLemmas.{begins_at}
use Rattle.cecil_top.proofs.command.do_command.Goals as goal

pub returns-in-Query-clause-said : goal.returns-in-Query-clause-said
returns-in-Query-clause-said g c =
    let ms = c.args.modules.now in
    let k = c.args.actor in
    let said = c.args.said.now in
    let more = c.tell_answer.new.said in
    let old = c.args.passes.now in
    let new = c.do_query-answer.new.passes in
    let m = c.in-Query.module in
    let q = c.in-Query.query in
    let r = c.do_query-answer.result in
    let step = subst (λ n. IfOk r (λ a. IsPassStep ms k (single_act n (commands.Query m q) (saids.Query a)) old new)) c.requires.next c.do_query-answer.ensures.step in
    then_ok (IsToldAnswer r said more) (IsSaidStep ms k c.args.command.now said more old new) c.tell_answer.result
    (λ told. subst (λ x. IsSaidStep ms k x said more old new) (sym c.in-Query.is) (said_answer ms k m said more old new c.requires.passes q r told step))
    c.tell_answer.ensures

pub returns-in-Edit-clause-said : goal.returns-in-Edit-clause-said
returns-in-Edit-clause-said g c =
    let ms = c.args.modules.now in
    let k = c.args.actor in
    let said = c.args.said.now in
    let more = c.tell_edit.new.said in
    let old = c.args.passes.now in
    let new = c.do_edit-edited.new.passes in
    let m = c.in-Edit.module in
    let e = c.in-Edit.edit in
    let r = c.do_edit-edited.result in
    let step = subst (λ n. IfOk r (λ x. IsPassStep ms k (single_act n (commands.Edit m e) (saids.Edit x)) old new)) c.requires.next c.do_edit-edited.ensures.step in
    then_ok (IsToldEdit r said more) (IsSaidStep ms k c.args.command.now said more old new) c.tell_edit.result
    (λ told. subst (λ x. IsSaidStep ms k x said more old new) (sym c.in-Edit.is) (said_edit ms k m said more old new c.requires.passes e r told step))
    c.tell_edit.ensures

pub returns-in-Resolve-clause-said : goal.returns-in-Resolve-clause-said
returns-in-Resolve-clause-said g c =
    let ms = c.args.modules.now in
    let k = c.args.actor in
    let said = c.args.said.now in
    let more = c.tell_resolution.new.said in
    let old = c.args.passes.now in
    let new = c.follow-resolution.new.passes in
    let m = c.in-Resolve.module in
    let t = c.in-Resolve.token in
    let r = c.follow-resolution.result in
    let all : c.resolve-ask.result.start.modules ≡ length ms = search rules in
    let start = begins_at _ (length ms) m soughts.Reference t c.resolve-ask.result c.resolve-ask.ensures all in
    let followed = subst (λ s. IfOk r (IsFollowed s)) start c.follow-resolution.ensures.followed in
    let acts = subst (λ n. IfOk r (λ x. AddsActs ms k (asked_acts n 0 x.asked) old new)) c.requires.next c.follow-resolution.ensures.acts in
    then_ok (IsToldResolution r said more) (IsSaidStep ms k c.args.command.now said more old new) c.tell_resolution.result
    (λ told. subst (λ x. IsSaidStep ms k x said more old new) (sym c.in-Resolve.is) (said_resolved ms k m said more old new t r told followed acts))
    c.tell_resolution.ensures

pub returns-in-Attribute-clause-said : goal.returns-in-Attribute-clause-said
returns-in-Attribute-clause-said g c =
    let ms = c.args.modules.now in
    let k = c.args.actor in
    let said = c.args.said.now in
    let more = c.tell_resolution-in-Attribute.new.said in
    let old = c.args.passes.now in
    let new = c.follow-resolution-in-Attribute.new.passes in
    let m = c.in-Attribute.module in
    let t = c.in-Attribute.token in
    let r = c.follow-resolution-in-Attribute.result in
    let all : c.attribute-ask.result.start.modules ≡ length ms = search rules in
    let start = begins_at _ (length ms) m soughts.Attribute t c.attribute-ask.result c.attribute-ask.ensures all in
    let followed = subst (λ s. IfOk r (IsFollowed s)) start c.follow-resolution-in-Attribute.ensures.followed in
    let acts = subst (λ n. IfOk r (λ x. AddsActs ms k (asked_acts n 0 x.asked) old new)) c.requires.next c.follow-resolution-in-Attribute.ensures.acts in
    then_ok (IsToldResolution r said more) (IsSaidStep ms k c.args.command.now said more old new) c.tell_resolution-in-Attribute.result
    (λ told. subst (λ x. IsSaidStep ms k x said more old new) (sym c.in-Attribute.is) (said_attribute ms k m said more old new t r told followed acts))
    c.tell_resolution-in-Attribute.ensures
