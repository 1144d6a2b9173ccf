-- Equality of places, by which a place can be a key.
use Rattle.std.proofs.Common.{◌≡◌, sym, ◌∙◌, subst, true, Some, arith}
use Rattle.std.proofs.lemmas.Bool.Decides.{nat_tests}
use Rattle.slot_store.specs.contracts.place.PlacePartialEq.TheImpl.{eq-value}
use Rattle.slot_store.specs.declared.place.Place.{Place}

pub same_place : (p q : Place) → p.table ≡ q.table → p.rid ≡ q.rid → p.kind ≡ q.kind → p ≡ q
same_place p q table rid kind = λ i. record { table = table i; rid = rid i; kind = kind i }

pub same_item : {A : Type 0} {x y : A} → Some x ≡ Some y → x ≡ y
same_item is = cc

pub equal_is_same : (p q : Place) → (eq-value).it p q ≡ true → p ≡ q
equal_is_same p q equal =
    same_place p q (grind (arith, nat_tests)) (grind (arith, nat_tests)) (grind (arith, nat_tests))

equal_to_itself : (p : Place) → (eq-value).it p p ≡ true
equal_to_itself p = grind (arith, nat_tests)

pub same_is_equal : (p q r : Place) → Some p ≡ Some r → Some q ≡ Some r → (eq-value).it p q ≡ true
same_is_equal p q r of_p of_q = subst (λ x. (eq-value).it p x ≡ true) (same_item (of_p ∙ sym of_q)) (equal_to_itself p)
