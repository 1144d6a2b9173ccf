use Rattle.std.proofs.Common.{rules}
use Rattle.turn_lock.proofs.Opening.{opens}
use Rattle.turn_lock.proofs.open.new_table.Goals as goal

pub new-requires : goal.new-requires
new-requires g c = let ch = g.S.Chronicle in
    opens ch.base ch.entries ch.caller _ c.args.state _ (search rules) c.requires (search rules)
