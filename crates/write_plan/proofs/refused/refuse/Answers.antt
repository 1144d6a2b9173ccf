use Rattle.std.proofs.Common.{◌≡◌, List, None, subst}
use Rattle.std.specs.List.{range_with_len}
use Rattle.std.specs.Option.{option_map}
use Rattle.cil_base.specs.Token.{Token}
use Rattle.node_model.specs.EditRefusals.{first_made}
use Rattle.write_plan.specs.Refusals.{Refused, Refuses, too_many}
use Rattle.write_plan.specs.Unfit.{unfit}
use Rattle.write_plan.specs.declared.refusal.WriteRefusal.TheVariants.{Unfit}
use Rattle.write_plan.specs.inner.Taken.{value_kept, walked_so}
use Rattle.write_plan.proofs.PlanLemmas.{last_refused, many_refused}
use Rattle.write_plan.proofs.refused.refuse.Goals as goal

pub returns-in-Err-refuse_too_many : goal.returns-in-Err-refuse_too_many
returns-in-Err-refuse_too_many c =
    let value = value_kept c.args.kept.now in
    let e = c.in-Err-refuse_too_many.refusal in
    many_refused value (walked_so c.args.kept.now c.args.met.now) c.in_default.ensures c.in_default-refuse_twice.ensures c.in_default-refuse_dangling.ensures e
    (subst (λ (rows : List Token). Refused (first_made (too_many value rows) (range_with_len 0 64)) e) c.requires.rows c.in-Err-refuse_too_many.ensures)

pub returns : goal.returns
returns c =
    let value = value_kept c.args.kept.now in
    let r = c.refuse_unfit.result in
    last_refused value (walked_so c.args.kept.now c.args.met.now) c.in_default.ensures c.in_default-refuse_twice.ensures c.in_default-refuse_dangling.ensures r
    (subst (λ (rows : List Token). first_made (too_many value rows) (range_with_len 0 64) ≡ None) c.requires.rows c.in_default-refuse_too_many.ensures)
    (subst (λ (rows : List Token). Refuses (option_map Unfit (unfit value rows)) r) c.requires.rows c.refuse_unfit.ensures)
