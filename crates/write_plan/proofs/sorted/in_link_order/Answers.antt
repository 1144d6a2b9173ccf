use Rattle.std.proofs.Common.{◌≡◌, ◌∙◌, ap, map, refl, sym, ℕ}
use Rattle.std.specs.Option.{option_map_or}
use Rattle.std.proofs.lemmas.Result.{IfOk-weaker}
use Rattle.cil_base.specs.Token.{Token}
use Rattle.md_schema.specs.declared.link.Link.{Link}
use Rattle.write_plan.specs.Written.{link_number, sorted_by}
use Rattle.write_plan.specs.declared.sorted.LinkedRow.{LinkedRow}
use Rattle.write_plan.specs.inner.Taken.{value_kept}
use Rattle.write_plan.proofs.SortLemmas.{back_made, sorted_made}
use Rattle.write_plan.proofs.sorted.in_link_order.Goals as goal

pub returns-in_ok-sort-in-Some : goal.returns-in_ok-sort-in-Some
returns-in_ok-sort-in-Some c =
    let rows = c.args.rows.now in
    let number : Link → Token → ℕ = link_number (value_kept c.args.kept.now) c.args.lists.now in
    let f : Token → ℕ = number c.in-Some.link in
    let make : Token → LinkedRow = λ t. record { number = f t; token = t } in
    let back : LinkedRow → Token = λ r. r.token in
    let sorted = c.as_slice-in-Some.ensures.value ∙ c.in_ok-sort-in-Some.ensures
    ∙ ap (sorted_by (λ (r : LinkedRow). r.number)) (c.in_ok-linked-in-Some.ensures ∙ ap (map make) c.as_slice.ensures) in
    let written : map back c.as_slice-in-Some.result.now ≡ sorted_by f rows =
    ap (map back) (sorted ∙ sorted_made f (λ (r : LinkedRow). r.number) make (λ t. refl) rows) ∙ back_made make back (λ t. refl) (sorted_by f rows) in
    IfOk-weaker c.tokens_of.result _ _
    (λ tokens is. is ∙ written ∙ ap (λ o. option_map_or (λ link. sorted_by (number link) rows) o rows) (sym c.in-Some.is ∙ c.sort_link.ensures))
    c.tokens_of.ensures
