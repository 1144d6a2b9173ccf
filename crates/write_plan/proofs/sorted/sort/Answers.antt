use Rattle.std.proofs.Common.{refl, rules}
use Rattle.std.proofs.lemmas.List.Sorted.{IsNonDecreasingBy-from_sort_by_key, answers_always}
use Rattle.cil_base.specs.Token.{root}
use Rattle.write_plan.specs.declared.sorted.LinkedRow.{LinkedRow}
use Rattle.write_plan.proofs.SortLemmas.{sort_is}
use Rattle.write_plan.proofs.sorted.sort.Goals as goal

pub returns : goal.returns
returns c =
    let rising = IsNonDecreasingBy-from_sort_by_key (λ (r : LinkedRow). r.number) c.sort_by_key.new.self.items c.in_ok-sort_by_key.ensures.sorted (λ a r q k. search rules) in
    let stable = c.sort_by_key.ensures.stable (λ (r : LinkedRow). r.number) (answers_always _ _ _ (λ f a r g h. search rules)) in
    sort_is (λ (r : LinkedRow). r.number) (λ k. record { number = k; token = root }) (λ k. refl) c.args.rows.now.items c.sort_by_key.new.self.items rising stable
