-- Texts of items with their numbers: one more item.
use Rattle.std.proofs.Common.{◌≡◌, sym, ◌∙◌, ap, subst, ℕ, ◌+◌, ◌<◌, ◌++◌, ◌∷◌, [], List, length, take, get_or}
use Rattle.std.proofs.Common.{zero-add, append-nil, append_assoc, arith}
use Rattle.std.specs.List.{flat_map, enumerate_from}
use Rattle.std.proofs.lemmas.Grind.{flat_map-append}
use Rattle.std.proofs.lemmas.List.{take_all, take_more}
use Rattle.std.proofs.lemmas.List.FromFn.{length-enumerate_from, get_or-enumerate_from}

-- a text of the first k items, with the next one behind it
pub numbered_more : {A : Type 0} (f : ℕ × A → List ℕ) (all : List A) (k : ℕ) (x : A) (start before after : List ℕ)
    → k < length all → x ≡ get_or all k x
    → before ≡ start ++ flat_map f (take k (enumerate_from 0 all)) → after ≡ before ++ f (k, x)
    → after ≡ start ++ flat_map f (take (k + 1) (enumerate_from 0 all))
numbered_more {A} f all k x start before after below item was is =
    let e : List (ℕ × A) = enumerate_from 0 all in
    let long : k < length e = subst (λ n. k < n) (sym (length-enumerate_from 0 all)) below in
    let last : get_or e k (0, x) ≡ (k, x) =
    get_or-enumerate_from 0 all k (0, x) below ∙ ap (λ n. (n, get_or all k x)) (zero-add k)
    ∙ ap (λ y. (k, y)) (sym item) in
    let more : take (k + 1) e ≡ take k e ++ (k, x) ∷ [] =
    take_more e k (0, x) long ∙ ap (λ y. take k e ++ y ∷ []) last in
    is ∙ ap (λ y. y ++ f (k, x)) was
    ∙ append_assoc start (flat_map f (take k e)) (f (k, x))
    ∙ ap (λ y. start ++ y)
    (sym (ap (λ ys. flat_map f ys) more ∙ flat_map-append f (take k e) ((k, x) ∷ [])
    ∙ ap (λ y. flat_map f (take k e) ++ y) (append-nil (f (k, x)))))

pub all_numbered : {A : Type 0} (all : List A) → take (length all) (enumerate_from 0 all) ≡ enumerate_from 0 all
all_numbered all =
    ap (λ n. take n (enumerate_from 0 all)) (sym (length-enumerate_from 0 all))
    ∙ take_all (length (enumerate_from 0 all)) (enumerate_from 0 all) (omega arith)
