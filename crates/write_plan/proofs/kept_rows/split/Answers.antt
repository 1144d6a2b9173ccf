use Rattle.std.proofs.Common.{rules, subst, sym}
use Rattle.write_plan.specs.inner.Tables.{IsSplit}
use Rattle.write_plan.proofs.KeptLemmas.{front_more}
use Rattle.write_plan.proofs.TablesLemmas.{split_next, split_none}
use Rattle.write_plan.proofs.kept_rows.split.Goals as goal

pub loop-token-init : goal.loop-token-init
loop-token-init c = split_none c.in_ok-tables.tables.items c.in_ok-tables.ensures

pub push_to-requires : goal.push_to-requires
push_to-requires c = c.loop-token.invariant.count

pub loop-token-preserved : goal.loop-token-preserved
loop-token-preserved c =
    subst (λ front. IsSplit front c.push_to.new.tables.items) (sym (front_more c.args.all.now c.loop-token.token-index c.token-item.result (search rules) c.token-item.is))
    (split_next _ c.loop-token.tables.items c.push_to.new.tables.items c.token-item.result c.loop-token.invariant c.in_ok-push_to.ensures.small c.in_ok-push_to.ensures.rows)
