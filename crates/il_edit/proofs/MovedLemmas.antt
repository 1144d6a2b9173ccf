-- Items that are changed one by one.
use Rattle.std.proofs.Common.{◌≡◌, ◌+◌, ◌<◌, ℕ, List, [], ◌∷◌, map, get_or, set, Option, Some, refl, sym, ap, ◌∙◌}
use Rattle.std.specs.Prelude.{option_map}
use Rattle.std.specs.List.{slice_get}
use Rattle.std.proofs.lemmas.List.{set-get_or}
use Rattle.il_code.specs.declared.handler.Handler.{Handler}
use Rattle.il_code.specs.declared.handler.HandlerKind.TheVariants.{Finally}
use Rattle.il_code.specs.Numbering.{each}
use Rattle.il_code.proofs.NumberingLemmas.{Replaced, replaced-more}

-- a function that makes something of each item
abbrev pub always : {A : Type 0} → (A → A) → A → Option A
always f x = Some (f x)

pub each-always : {A : Type 0} (f : A → A) (xs : List A) → each (always f) xs ≡ Some (map f xs)
unfolding each
each-always f [] = refl
each-always f (x ∷ xs) = ap (option_map (λ ys. f x ∷ ys)) (each-always f xs)

pub same_some : {A : Type 0} (x y : A) → Some x ≡ Some y → x ≡ y
same_some x y h = cc

pub all-moved : {A : Type 0} (f : A → A) (before now : List A) → each (always f) before ≡ Some now → now ≡ map f before
all-moved f before now h = same_some now (map f before) (sym h ∙ each-always f before)

-- an item is changed where it stands
pub replaced-one : {A : Type 0} (f : A → Option A) (before now later : List A) (i n : ℕ) (x y : A) → i < n → Replaced f before now i n → slice_get now i ≡ Some x → f x ≡ Some y → later ≡ set now i y → Replaced f before later (i + 1) n
replaced-one f before now later i n x y h r got made put = replaced-more f before now now later i n x (get_or now i x) y h r got made (sym (set-get_or now i x)) put

-- any handler
abbrev pub nobody : Handler
nobody = record { kind = Finally; try_start = 0; try_end = 0; start = 0; end = 0 }
