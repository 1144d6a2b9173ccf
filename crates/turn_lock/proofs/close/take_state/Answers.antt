use Rattle.std.proofs.Common.{rules, ◌≡◌, ap, subst}
use Rattle.turn_lock.specs.Joined.{Settled}
use Rattle.turn_lock.proofs.AllJoined.{settles_at}
use Rattle.turn_lock.proofs.close.take_state.Goals as goal

pub unwrap-requires : goal.unwrap-requires
unwrap-requires g c = let ch = g.S.Chronicle in
    let h = settles_at ch.base ch.entries ch.caller _ _ c.args.maker.me.0 _ _ c.take-state.result (ap (λ m. m.0) c.requires.maker) c.requires.all c.close_with-closed.ensures.values.2 c.take-state.ensures.value in
    let e = h.1 in search rules

pub returns : goal.returns
returns g c = let ch = g.S.Chronicle in
    let h = settles_at ch.base ch.entries ch.caller _ _ c.args.maker.me.0 _ _ c.take-state.result (ap (λ m. m.0) c.requires.maker) c.requires.all c.close_with-closed.ensures.values.2 c.take-state.ensures.value in
    let e = h.1 in let same : h.0 ≡ c.unwrap.result = search rules in
    subst (Settled ch.base ch.entries ch.caller _ c.args.maker.me.0.next c.args.maker.me.0.joined) same h.2
