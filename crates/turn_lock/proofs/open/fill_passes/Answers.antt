use Rattle.std.proofs.Common.{rules, ◌∙◌, ap}
use Rattle.turn_lock.specs.Passes.{new_pass}
use Rattle.turn_lock.proofs.Passes.{passes_more}
use Rattle.turn_lock.proofs.open.fill_passes.Goals as goal

pub loop-number-preserved : goal.loop-number-preserved
loop-number-preserved g c = let n = c.loop-number.number in let l = c.loop-number.invariant in let id = c.args.board.now.table_id in
    record {
      board = search rules;
      given = c.draw_pass.ensures.maker.0;
      base = c.draw_pass.ensures.maker.1 ∙ l.base;
      passes = c.push_reserved.ensures.items ∙ passes_more id c.args.maker.now.me.0.base n c.loop-number.passes.items c.draw_pass.result l.passes (c.draw_pass.ensures.pass ∙ ap (λ o. new_pass id o n) l.base);
      length = search rules;
      room = search rules;
    }
