-- A token and its number: each gives the other.
use Rattle.std.proofs.Common.{◌≡◌, ℕ, ◌+◌, ◌*◌, ◌/◌, ◌%◌, ◌^◌, ◌<◌, ap, ◌∙◌, arith}
use Rattle.cil_base.specs.Token.{Token, token_number, token_from}

abbrev token_with : ℕ → ℕ → Token
token_with table rid = record { table = table; rid = rid }

-- a token whose row is below 2^24 is the one that its number holds
pub token-back : (t : Token) → t.rid < 2 ^ 24 → token_from (token_number t) ≡ t
unfolding token_from
token-back t small =
    let table : (t.table * 2 ^ 24 + t.rid) / 2 ^ 24 ≡ t.table = omega arith in
    let rid : (t.table * 2 ^ 24 + t.rid) % 2 ^ 24 ≡ t.rid = omega arith in
    ap (λ a. token_with a ((t.table * 2 ^ 24 + t.rid) % 2 ^ 24)) table ∙ ap (λ r. token_with t.table r) rid

-- a number is that of the token that it holds
pub token-there : (number : ℕ) → token_number (token_from number) ≡ number
unfolding token_from
token-there number = omega arith

-- four bytes hold the number
pub token-small : (t : Token) → t.table < 256 → t.rid < 2 ^ 24 → token_number t < 2 ^ 32
token-small t table rid = omega arith
