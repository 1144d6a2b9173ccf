use Rattle.std.proofs.Common.{◌≡◌, ◌≤◌, ◌∙◌, ℕ, ap, refl, length, cond, ltb, Bool, true, false, eqb, rules, tests, arith}
use Rattle.std.specs.Prelude.{Some, None, unwrap_or, not}
use Rattle.std.specs.List.{position_or_len}
use Rattle.std.proofs.lemmas.Bool.Decides.{nat_tests}
use Rattle.std.proofs.lemmas.Iterator.{YieldsList-from_slice}
use Rattle.std.proofs.lemmas.Iterator.Search.{position_from_yields_List}
use Rattle.std.proofs.lemmas.List.Sums.{prefix_len-le-length}
use Rattle.pe_image.proofs.number.zero_place.Goals as goal

kept_by : (n k : ℕ) (b : Bool) → ltb n k ≡ b → n ≤ k → unwrap_or (cond b (Some n) None) k ≡ n
kept_by n k true e h = refl
kept_by n k false e h = grind (arith, nat_tests)

pub returns-clause-value : goal.returns-clause-value
returns-clause-value c =
    let xs = c.args.bytes.now in
    let n : ℕ = position_or_len (λ b. eqb b 0) xs in
    let found : c.position.result ≡ cond (ltb (position_or_len (λ b. eqb b 0) xs) (length xs)) (Some (position_or_len (λ b. eqb b 0) xs)) None = position_from_yields_List (λ b. eqb b 0) _ _ c.position.result c.position.ensures.ran (YieldsList-from_slice xs cc) (λ x b q k. search (rules, tests)) in
    c.unwrap_or.ensures ∙ ap (λ r. unwrap_or r (length xs)) found ∙ kept_by (position_or_len (λ b. eqb b 0) xs) (length xs) (ltb (position_or_len (λ b. eqb b 0) xs) (length xs)) refl (prefix_len-le-length (λ b. not (eqb b 0)) xs)
