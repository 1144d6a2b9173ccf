use Rattle.std.proofs.Common.{rules, ◌≡◌, ap, ◌∙◌}
use Rattle.turn_lock.proofs.Passes.{end_has, end_settled, all_seen, all_own, all_callers, all_made}
use Rattle.turn_lock.proofs.lock.TurnLock.close.Goals as goal

pub take_state-requires-clause-all : goal.take_state-requires-clause-all
take_state-requires-clause-all g c = let ch = g.S.Chronicle in let n = c.into_seat-maker.result.me.0.next in
    let is : n ≡ c.args.self.callers = ap (λ s. s.me.0.next) c.into_seat-maker.ensures ∙ ap (λ l. l.callers) c.self.view_is in
    end_has ch.base ch.entries ch.caller c.args.self c.args.passes c.join_all.new.maker.me n c.join_all.ensures.maker.0 is c.requires

pub returns : goal.returns
returns g c = let ch = g.S.Chronicle in let l = c.args.self in let ps = c.args.passes in let x = c.take_state.result in let n = c.into_seat-maker.result.me.0.next in
    let is : n ≡ l.callers = ap (λ s. s.me.0.next) c.into_seat-maker.ensures ∙ ap (λ l. l.callers) c.self.view_is in
    let r = end_settled ch.base ch.entries ch.caller l ps c.join_all.new.maker.me n c.join_all.ensures.maker.0 _ x c.take_state.ensures in
    record {
      base = search rules;
      seen = all_seen ch.base ch.entries ch.caller l ps c.requires x _ n is r;
      own = all_own ch.base ch.entries ch.caller l ps c.requires x _ n is r;
      callers = all_callers ch.base ch.entries ch.caller l ps c.requires x _ n is r;
      made = all_made ch.base ch.entries ch.caller l ps c.requires x _ n is r;
    }
