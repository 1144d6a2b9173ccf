use Rattle.std.proofs.Common.{◌≡◌, ◌∙◌, ℕ, ◌+◌, ◌∷◌, [], ◌++◌, List, ap, arith, length, map, rules, sym, take, zero-add}
use Rattle.std.specs.List.{range_with_len, sum_by}
use Rattle.std.proofs.lemmas.List.FromFn.{map-range_with_len_more}
use Rattle.std.proofs.lemmas.List.Sums.{sum_by_more}
use Rattle.cil_base.specs.Token.{Token}
use Rattle.write_tables.specs.WrittenRows.{run_length}
use Rattle.write_tables.proofs.starts.run_starts.Goals as goal

pub loop-owner-preserved : goal.loop-owner-preserved
loop-owner-preserved c =
    let f = run_length c.args.plan.now c.args.owned in
    let owners = c.as_slice-owners.result.now in
    let i = c.loop-owner.owner-index in
    let x = c.owner-item.result in
    let start_of = λ (place : ℕ). 1 + sum_by f (take place owners) in
    let more : sum_by f (take (i + 1) owners) ≡ sum_by f (take i owners) + f x =
    sum_by_more f owners i x (search rules) ∙ ap (λ y. sum_by f (take i owners) + f y) (sym c.owner-item.is) in
    record {
      starts =
          c.in_ok-push.ensures.ok ∙ ap (λ ss. ss ++ c.loop-owner.start ∷ []) c.loop-owner.invariant.starts
          ∙ ap (λ s. map start_of (range_with_len 0 i) ++ s ∷ []) c.loop-owner.invariant.start
          ∙ sym (map-range_with_len_more start_of 0 i i (zero-add i));
      start = omega (arith, c.in_ok-next.ensures, c.run_length.ensures, c.loop-owner.invariant.start, more);
    }

pub returns : goal.returns
returns c =
    let f = run_length c.args.plan.now c.args.owned in
    let owners = c.as_slice-owners.result.now in
    let all : c.loop-owner.owner-index ≡ length owners = omega arith in
    c.loop-owner.invariant.starts
    ∙ ap (λ n. map (λ place. 1 + sum_by f (take place owners)) (range_with_len 0 n)) all
    ∙ ap (λ (os : List Token). map (λ place. 1 + sum_by f (take place os)) (range_with_len 0 (length os))) (c.as_slice-owners.ensures ∙ c.kept-rows.ensures)
