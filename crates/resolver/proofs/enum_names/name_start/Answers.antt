use Rattle.std.proofs.Common.{◌≡◌, ◌-◌, false, get_or, not, arith, rules}
use Rattle.std.proofs.lemmas.List.Sums.{suffix_len_is}
use Rattle.resolver.specs.EnumNames.{is_dot}
use Rattle.resolver.proofs.enum_names.name_start.Goals as goal

pub returns-else-text-start-ne46-clause-start : goal.returns-else-text-start-ne46-clause-start
returns-else-text-start-ne46-clause-start c =
    let n = c.loop-start.start in
    let inv = c.loop-start.invariant in
    let here : not (is_dot (get_or c.args.text.now (n - 1) 0)) ≡ false = search rules in
    omega (arith, suffix_len_is (λ x. not (is_dot x)) c.args.text.now n 0 inv.0 inv.1 (λ _. here), inv.0)

pub returns-after-loop-start-clause-start : goal.returns-after-loop-start-clause-start
returns-after-loop-start-clause-start c =
    let n = c.loop-start.start in
    let inv = c.loop-start.invariant in
    omega (arith, suffix_len_is (λ x. not (is_dot x)) c.args.text.now n 0 inv.0 inv.1 (λ some. absurd (omega arith)), inv.0)
