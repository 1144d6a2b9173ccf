-- Bytes within the limit are not refused for their length.
use Rattle.std.proofs.Common.{◌≡◌, ◌≢◌, refl, subst, ℕ, ◌^◌, Bool, true, false, cond, List, [], ◌∷◌, drop, length}
use Rattle.std.proofs.Common.{nat_lt}
use Rattle.std.specs.Prelude.{Result, Err, ◌&&◌}
use Rattle.std.specs.List.{list_all}
use Rattle.pe_image.specs.Headers.{header_conditions, magic_conditions, room_conditions, signature_conditions}
use Rattle.pe_image.specs.Layout.{laid_pe, pe_conditions, pe_layout}
use Rattle.pe_image.specs.Metadata.{root_conditions}
use Rattle.pe_image.specs.Places.{first_refusal}
use Rattle.pe_image.specs.Streams.{stream_conditions}
use Rattle.pe_image.specs.declared.refusal.PeRefusal.{PeRefusal}
use Rattle.pe_image.specs.declared.refusal.PeRefusal.TheVariants.{TooLarge, NoDos, NoPe, BadMagic, BadSections}
use Rattle.pe_image.specs.declared.refusal.PeRefusal.TheVariants.{NoCli, BadCli, BadRoot, BadStreams, NoTables}
use Rattle.node_read.specs.Image.{RefusesImage}
use Rattle.node_read.specs.declared.image.OpenRefusal.{OpenRefusal}
use Rattle.node_read.specs.declared.image.OpenRefusal.TheVariants as opens
use Rattle.cecil_inspect.specs.Inspect.{IsToldRefusal}

abbrev is_other : PeRefusal → Bool
is_other TooLarge = false
is_other _ = true

other_is : (e : PeRefusal) → is_other e ≡ true → e ≢ TooLarge
other_is e is same = let clash : is_other TooLarge ≡ true = subst (λ x. is_other x ≡ true) same is in absurd cc

-- conditions for other refusals do not refuse so
others_step : {A : Type 0} (t : Bool) (e : PeRefusal) (x all : Bool) (r : Result A PeRefusal)
    → (x ≡ true → e ≢ TooLarge) → (x && all) ≡ true → (all ≡ true → r ≢ Err TooLarge) → cond t (Err e) r ≢ Err TooLarge
others_step true e true all r other both rest is = let same : e ≡ TooLarge = cc in other refl same
others_step false e true all r other both rest is = rest both is
others_step t e false all r other both rest is = absurd cc

others : {A : Type 0} (cs : List (Bool × PeRefusal)) (a : A) → list_all (λ c. is_other c.1) cs ≡ true
    → first_refusal cs a ≢ Err TooLarge
others [] a all is = absurd cc
others (c ∷ cs) a all is =
    others_step c.0 c.1 (is_other c.1) (list_all (λ d. is_other d.1) cs) (first_refusal cs a)
    (other_is c.1) all (others cs a) is

past : {A : Type 0} (t : Bool) (r : Result A PeRefusal) → t ≡ false → cond t (Err TooLarge) r ≡ Err TooLarge
    → r ≡ Err TooLarge
past true r short is = absurd cc
past false r short is = is

pub is_within : (b : List ℕ) → nat_lt (2 ^ 26) (length b) ≡ false → pe_layout b ≢ Err TooLarge
unfolding pe_layout pe_conditions header_conditions signature_conditions magic_conditions room_conditions root_conditions stream_conditions
is_within b short is =
    others (drop 1 (pe_conditions b)) (laid_pe b) refl
    (past (nat_lt (2 ^ 26) (length b)) (first_refusal (drop 1 (pe_conditions b)) (laid_pe b)) short is)

-- a refusal of such bytes is one that a run tells
pub told : (b : List ℕ) (r : OpenRefusal) → nat_lt (2 ^ 26) (length b) ≡ false → r ≢ opens.NoMemory
    → RefusesImage b r → IsToldRefusal r
told b opens.NoMemory short some is = absurd (some refl)
told b (opens.Tables r) short some is = tt
told b (opens.Pe TooLarge) short some is = is_within b short is
told b (opens.Pe NoDos) short some is = tt
told b (opens.Pe NoPe) short some is = tt
told b (opens.Pe (BadMagic n)) short some is = tt
told b (opens.Pe BadSections) short some is = tt
told b (opens.Pe NoCli) short some is = tt
told b (opens.Pe BadCli) short some is = tt
told b (opens.Pe BadRoot) short some is = tt
told b (opens.Pe BadStreams) short some is = tt
told b (opens.Pe NoTables) short some is = tt
