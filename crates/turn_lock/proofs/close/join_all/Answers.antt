use Rattle.std.proofs.Common.{◌≡◌, ◌++◌, ◌∷◌, [], ◌∙◌, ap, sym, subst, All}
use Rattle.turn_lock.specs.Passes.{PassValue}
use Rattle.turn_lock.specs.Joined.{marks}
use Rattle.turn_lock.proofs.AtSeats.{joined_more}
use Rattle.turn_lock.proofs.Passes.{all_front, marks_moved}
use Rattle.turn_lock.proofs.close.join_all.Goals as goal

pub loop-pass-preserved : goal.loop-pass-preserved
loop-pass-preserved g c = let l = c.loop-pass.invariant in let pass = c.in-Some.pass in let left = c.pop.new.self in
    let more = joined_more c.loop-pass.maker.me c.join_pass.new.maker.me _ (pass.number, pass.seen) l.joined c.join_pass.ensures.maker.0 in
    record {
      board = c.join_pass.ensures.board ∙ l.board;
      joined = more.0;
      marked = ap (λ js. marks left ++ js) more.1 ∙ (marks_moved left pass c.loop-pass.maker.me.0.joined ∙ (ap (λ ps. marks ps ++ c.loop-pass.maker.me.0.joined) (sym c.in-Some.ensures) ∙ l.marked));
      base = c.join_pass.ensures.maker.1 ∙ l.base;
      passes = all_front {A = PassValue g.row.S-Base.Denot g.row.S-Entry.Denot} (λ p. p.lock ≡ c.args.board.now.table_id) left (pass ∷ []) (subst (All (λ p. p.lock ≡ c.args.board.now.table_id)) c.in-Some.ensures l.passes);
    }
