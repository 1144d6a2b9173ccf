-- What stands at the front of bytes, one value after another: each gives the value and the bytes after it.
use Rattle.std.specs.Prelude.{ℕ, zero, suc, ◌/◌, ◌%◌, ◌^◌, ◌==◌, List, [], ◌∷◌, Option, Some, None}
use Rattle.std.specs.Prelude.{nat_lt, option_map, option_and_then, if◌then◌else◌}
use Rattle.cil_base.specs.Token.{Token}
use Rattle.cil_base.specs.inner.Reading.{compressed_at}

-- then: what a value and the bytes after it give
abbrev pub after_value : {A B : Type 0} → Option (A × List ℕ) → (A → List ℕ → Option B) → Option B
after_value {A} {B} found next = option_and_then {T = A × List ℕ} {U = B} (λ x. next x.0 x.1) found

-- the same with the value changed
abbrev pub wrap : {A B : Type 0} → (A → B) → Option (A × List ℕ) → Option (B × List ℕ)
wrap {A} {B} f found = option_map {T = A × List ℕ} {U = B × List ℕ} (λ x. (f x.0, x.1)) found

-- so many items, one after the other
abbrev pub many_at : {A : Type 0} → (List ℕ → Option (A × List ℕ)) → ℕ → List ℕ → Option (List A × List ℕ)
many_at item zero s = Some ([], s)
many_at item (suc n) s = after_value (item s) (λ x r. wrap (λ xs. x ∷ xs) (many_at item n r))

-- a count, and so many items
abbrev pub counted_at : {A : Type 0} → (List ℕ → Option (A × List ℕ)) → List ℕ → Option (List A × List ℕ)
counted_at item s = after_value (compressed_at s) (λ n r. many_at item n r)

-- the table of a tag
abbrev pub table_of_tag : ℕ → Option ℕ
table_of_tag tag =
    if tag == 0 then Some 0x02 else (if tag == 1 then Some 0x01 else (if tag == 2 then Some 0x1b else None))

abbrev pub token_of_number : ℕ → Option Token
token_of_number n =
    if nat_lt (n / 4) (2 ^ 24) then option_map (λ table. record { table = table; rid = n / 4 }) (table_of_tag (n % 4))
    else None

abbrev pub type_token_at : List ℕ → Option (Token × List ℕ)
type_token_at s = after_value (compressed_at s) (λ n r. option_map (λ t. (t, r)) (token_of_number n))
