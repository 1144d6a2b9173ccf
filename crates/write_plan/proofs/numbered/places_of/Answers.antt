use Rattle.std.proofs.Common.{◌∙◌, [], ◌∷◌, ◌++◌, ap, cond, rules, sym, take}
use Rattle.std.specs.List.{list_any}
use Rattle.node_model.specs.Keys.{same_token}
use Rattle.write_plan.proofs.KeptLemmas.{front_more}
use Rattle.write_plan.proofs.DistinctLemmas.{fresh_at}
use Rattle.write_plan.proofs.numbered.places_of.Goals as goal

pub loop-row-preserved : goal.loop-row-preserved
loop-row-preserved c =
    let rows = c.args.rows.now in
    let i = c.loop-row.row-index in
    let row = c.row-item.result in
    c.in_ok-insert.ensures.keys ∙ ap (λ keys. cond (list_any (same_token row) keys) keys (keys ++ row ∷ [])) c.loop-row.invariant
    ∙ ap (λ b. cond b (take i rows) (take i rows ++ row ∷ [])) (fresh_at rows i row c.requires (search rules) c.row-item.is)
    ∙ sym (front_more rows i row (search rules) c.row-item.is)
