-- A text of 36 characters parses in no other form than the hyphenated one.
use Rattle.std.proofs.Common.{◌≡◌, ◌∙◌, ℕ, List, length, true, false, Option, Some, None, refl, ap, arith}
use Rattle.std.proofs.lemmas.Bool.Decides.{nat_tests}
use Rattle.std.specs.Prelude.{option_map}
use Rattle.uuid.specs.Parts.{swap_fields}
use Rattle.uuid.specs.Text.{parsed, parsed_hyphenated}
use Rattle.job_text.specs.Hex.{guid_of}
use Rattle.job_text.proofs.digits.guid_of.Goals as goal

nothing : (o : Option (List ℕ)) → ((u : List ℕ) × (o ≡ Some u) → false ≡ true) → None ≡ o
nothing None h = refl
nothing (Some u) h = let e : false ≡ true = h (u, refl) in absurd (cc)

hyphenated : (text : List ℕ) → length text ≡ 36 → parsed text ≡ parsed_hyphenated text
hyphenated text h = grind (arith, nat_tests)

pub returns-in-Err : goal.returns-in-Err
unfolding guid_of
returns-in-Err c =
    let none = nothing (parsed c.args.text.now) (λ u. c.in-Err.ensures.ok.1 u) in
    ap (option_map swap_fields) (none ∙ hyphenated c.args.text.now (omega arith))
