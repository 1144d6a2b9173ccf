-- What a writer holds after all bytes or a part of them were written.
use Rattle.std.proofs.Common.{◌≡◌, sym, ◌∙◌, ap, subst, ℕ, ◌+◌, ◌-◌, List, ◌++◌, Option, Result, Ok, Err, OnOk, OnErr, length, take, drop, length-append, take_all, take-append-drop, append_assoc, arith, le_refl}
use Rattle.std.proofs.lemmas.List.{take-append-le, take_rest}
use Rattle.std.specs.Io.KnownBytes.{Appends}
use Rattle.cecil.specs.Writes.{AppendsPart}

-- the bytes at the front are a part
pub part_of : (a b : Option (List ℕ)) (done rest all : List ℕ) → all ≡ done ++ rest → Appends a b done → AppendsPart a b all
part_of a b done rest all split added =
    let long : length all ≡ length done + length rest = ap length split ∙ length-append done rest in
    let front : take (length done) all ≡ done =
    ap (take (length done)) split ∙ take-append-le (length done) done rest (le_refl (length done)) ∙ take_all (length done) done (le_refl (length done)) in
    (length done, omega (arith, long), subst (Appends a b) (sym front) added)

-- more of the rest goes to the front
pub moves_front : (all done rest : List ℕ) (n : ℕ) → all ≡ done ++ rest → all ≡ (done ++ take n rest) ++ take (length rest - n) (drop n rest)
moves_front all done rest n e =
    e ∙ ap (λ l. done ++ l) (sym (take-append-drop n rest)) ∙ sym (append_assoc done (take n rest) (drop n rest)) ∙ ap (λ l. (done ++ take n rest) ++ l) (sym (take_rest rest n))

pub on_err : {A E : Type 0} (r : Result A E) (P : Type 0) → P → OnErr r P
on_err (Ok x) P p = tt
on_err (Err e) P p = p

pub on_ok : {A E : Type 0} (r : Result A E) (P Q : Type 0) → (P → Q) → OnOk r P → OnOk r Q
on_ok (Ok x) P Q f p = f p
on_ok (Err e) P Q f p = tt
