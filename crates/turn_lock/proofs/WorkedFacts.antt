-- Small cases of the definitions: the entries 0, 1, 1 of two callers, and the passes of a new lock.
use Rattle.std.specs.Prelude.{◌≡◌, ℕ, [], ◌∷◌, map, refl}
use Rattle.atomic_table.specs.Seated.{TableId}
use Rattle.turn_lock.specs.Views.{own, times}
use Rattle.turn_lock.specs.Steps.{longer}
use Rattle.turn_lock.specs.Passes.{PassValue, fresh_passes}

pub first_caller-has_one : own (λ (e : ℕ). e) 0 (0 ∷ 1 ∷ 1 ∷ []) ≡ 0 ∷ []
first_caller-has_one = refl

pub second_caller-has_two : own (λ (e : ℕ). e) 1 (0 ∷ 1 ∷ 1 ∷ []) ≡ 1 ∷ 1 ∷ []
second_caller-has_two = refl

pub third_caller-has_none : own (λ (e : ℕ). e) 2 (0 ∷ 1 ∷ 1 ∷ []) ≡ []
third_caller-has_none = refl

pub one_stands_twice : times 1 (0 ∷ 1 ∷ 1 ∷ []) ≡ 2
one_stands_twice = refl

pub longer-keeps_the_longer : longer {E = ℕ} (0 ∷ []) (0 ∷ 1 ∷ []) ≡ 0 ∷ 1 ∷ []
longer-keeps_the_longer = refl

pub two_new_passes : {B : Type 0} (E : Type 0) (id : TableId) (b : B) → map (λ (p : PassValue B E). p.number) (fresh_passes (record { id = id; callers = 2; base = b })) ≡ 0 ∷ 1 ∷ []
two_new_passes E id b = refl
