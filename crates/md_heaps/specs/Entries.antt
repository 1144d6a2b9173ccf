-- What stands at an index of a heap: ECMA-335 II.24.2.3 to II.24.2.5.
use Rattle.std.specs.Prelude.{ℕ, ◌-◌, ◌*◌, List, [], ◌∷◌, length, take, drop, Option, Some, None, nat_le, ◌==◌}
use Rattle.std.specs.Prelude.{if◌then◌else◌}
use Rattle.std.specs.Option.{option_map}
use Rattle.cil_base.specs.Heaps.{entry}
use Rattle.md_heaps.specs.declared.guid.GuidAt.{GuidAt}
use Rattle.md_heaps.specs.declared.guid.GuidAt.TheVariants.{Null, Is, Missing}

-- the bytes before the first zero byte, where there is one
abbrev pub before_zero : List ℕ → Option (List ℕ)
before_zero [] = None
before_zero (b ∷ s) = if b == 0 then Some [] else option_map (λ rest. b ∷ rest) (before_zero s)

-- the text at an index of #Strings: index 0 is the empty text
unfoldable pub text : List ℕ → ℕ → Option (List ℕ)
text heap index = if index == 0 then Some [] else before_zero (drop index heap)

-- the blob at an index of #Blob: index 0 is the empty blob
unfoldable pub blob : List ℕ → ℕ → Option (List ℕ)
blob heap index = if index == 0 then Some [] else entry (drop index heap)

-- the GUID of a number, counted from 1: number 0 is the null GUID
unfoldable pub guid : List ℕ → ℕ → GuidAt
guid heap number =
    if number == 0 then Null
    else if nat_le (16 * number) (length heap) then Is (take 16 (drop (16 * number - 16) heap))
    else Missing
