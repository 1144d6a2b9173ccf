-- The front of what a reader has left, up to a byte past a limit: all of it, or it passes the limit.
use Rattle.std.proofs.Common.{◌≡◌, ◌∙◌, ap, ℕ, ◌<◌, List, [], ◌++◌, Option, Some, None, IfSome, length, take, take_all, arith}
use Rattle.std.specs.Option.{option_map}
use Rattle.std.proofs.lemmas.List.{length-take}

-- fewer bytes than the front may have are all
pub found_all : (left : Option (List ℕ)) (old bytes : List ℕ) (limit : ℕ) → old ≡ [] → IfSome (option_map (take limit) left) (λ front. bytes ≡ old ++ front)
    → length bytes < limit → IfSome left (λ all. bytes ≡ all)
found_all None old bytes limit empty front short = tt
found_all (Some all) old bytes limit empty front short =
    let is : bytes ≡ take limit all = front ∙ ap (λ l. l ++ take limit all) empty in
    let long = ap length is ∙ length-take limit all in
    is ∙ take_all limit all (omega (arith, long, short))
