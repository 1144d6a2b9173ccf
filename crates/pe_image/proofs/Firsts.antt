-- What the first refusal of joined lists is.
use Rattle.std.proofs.Common.{◌≡◌, ◌∙◌, Bool, true, false, cond, List, [], ◌∷◌, ◌++◌, refl, ap}
use Rattle.std.specs.Prelude.{Result, Ok, Err}
use Rattle.pe_image.specs.Places.{first_refusal}

past_by : {A E : Type 0} (b : Bool) (e : E) (r : Result A E) (x : A) → cond b (Err e) r ≡ Ok x → (b ≡ false) × (r ≡ Ok x)
past_by true e r x h = cc
past_by false e r x h = (refl, h)

pub first-ok : {A E : Type 0} (cs : List (Bool × E)) (a x : A) → first_refusal cs a ≡ Ok x → x ≡ a
first-ok [] a x h = cc
first-ok (c ∷ cs) a x h = first-ok cs a x (past_by c.0 c.1 (first_refusal cs a) x h).1

pub first-past : {A B E : Type 0} (cs ds : List (Bool × E)) (a x : A) (y : B) → first_refusal cs a ≡ Ok x → first_refusal (cs ++ ds) y ≡ first_refusal ds y
first-past [] ds a x y h = refl
first-past (c ∷ cs) ds a x y h =
    let parts = past_by c.0 c.1 (first_refusal cs a) x h in
    ap (λ b. cond b (Err c.1) (first_refusal (cs ++ ds) y)) parts.0 ∙ first-past cs ds a x y parts.1

stops_by : {A B E : Type 0} (b : Bool) (e f : E) (r : Result A E) (s : Result B E) → cond b (Err e) r ≡ Err f → (r ≡ Err f → s ≡ Err f) → cond b (Err e) s ≡ Err f
stops_by true e f r s h k = let same : e ≡ f = cc in ap Err same
stops_by false e f r s h k = k h

pub first-stops : {A B E : Type 0} (cs ds : List (Bool × E)) (a : A) (f : E) (y : B) → first_refusal cs a ≡ Err f → first_refusal (cs ++ ds) y ≡ Err f
first-stops [] ds a f y h = cc
first-stops (c ∷ cs) ds a f y h = stops_by c.0 c.1 f (first_refusal cs a) (first_refusal (cs ++ ds) y) h (first-stops cs ds a f y)

pub first-front : {A B E : Type 0} (cs ds : List (Bool × E)) (a x : A) (y : B) → first_refusal (cs ++ ds) a ≡ Ok x → first_refusal cs y ≡ Ok y
first-front [] ds a x y h = refl
first-front (c ∷ cs) ds a x y h =
    let parts = past_by c.0 c.1 (first_refusal (cs ++ ds) a) x h in
    ap (λ b. cond b (Err c.1) (first_refusal cs y)) parts.0 ∙ first-front cs ds a x y parts.1

pub first-back : {A E : Type 0} (cs ds : List (Bool × E)) (a x : A) → first_refusal (cs ++ ds) a ≡ Ok x → first_refusal ds a ≡ Ok x
first-back [] ds a x h = h
first-back (c ∷ cs) ds a x h = first-back cs ds a x (past_by c.0 c.1 (first_refusal (cs ++ ds) a) x h).1

pub first-head : {A E : Type 0} (c : Bool × E) (cs : List (Bool × E)) (a x : A) → first_refusal (c ∷ cs) a ≡ Ok x → (c.0 ≡ false) × (first_refusal cs a ≡ Ok x)
first-head c cs a x h = past_by c.0 c.1 (first_refusal cs a) x h

pub first-any : {A B E : Type 0} (cs : List (Bool × E)) (a x : A) (y : B) → first_refusal cs a ≡ Ok x → first_refusal cs y ≡ Ok y
first-any [] a x y h = refl
first-any (c ∷ cs) a x y h =
    let parts = past_by c.0 c.1 (first_refusal cs a) x h in
    ap (λ b. cond b (Err c.1) (first_refusal cs y)) parts.0 ∙ first-any cs a x y parts.1

pub first-fails : {A B E : Type 0} (cs : List (Bool × E)) (a : A) (f : E) (y : B) → first_refusal cs a ≡ Err f → first_refusal cs y ≡ Err f
first-fails [] a f y h = cc
first-fails (c ∷ cs) a f y h = stops_by c.0 c.1 f (first_refusal cs a) (first_refusal cs y) h (first-fails cs a f y)
