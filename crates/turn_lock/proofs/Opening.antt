-- The rule holds of a new table.
use Rattle.std.proofs.Common.{◌≡◌, ℕ, zero, suc, List, [], ◌∷◌, map, refl, sym, ap, subst, arith, inl, Option, Some}
use mathlib.Core.Option.{some, some-injective, some-ne-none}
use Rattle.atomic_table.specs.Table.{opening}
use Rattle.turn_lock.specs.declared.view.View.{View}
use Rattle.turn_lock.specs.Views.{Each, maker_seat}
use Rattle.turn_lock.specs.Rule.{Kept}

each_one : {V : Type 0} (P : V → Type 0) (v : V) → P v → Each (v ∷ []) P
each_one P v p zero u e = subst P (some-injective v u e) p
each_one P v p (suc j) u e = absurd (some-ne-none u (sym e))

module _ {S B E : Type 0} (base : S → B) (entries : S → List E) (caller : E → ℕ) (b : B) where
  -- the state is home, no number is drawn and nothing has been seen
  pub opens : (x : S) (slots : List (Option S)) → base x ≡ b → entries x ≡ [] → slots ≡ Some x ∷ []
      → Kept base entries caller b (opening (0 ∷ 0 ∷ 0 ∷ 0 ∷ []) slots (maker_seat (Some b) 0 [] [] []))
  opens x slots same empty is =
      let v : View B E = maker_seat (Some b) 0 [] [] [] in
      record {
        served = 0;
        drawn = 0;
        next = 0;
        history = [];
        slot = some (Some x);
        words = refl;
        homes = ap (map some) is;
        maker = record { one = refl; small = omega arith; knows = each_one _ v (λ _. (refl, refl, refl, refl, omega arith)); below = λ k l. absurd (omega arith); beyond = λ k l. refl; all = refl };
        tickets = record { held = λ t l h. absurd (omega arith); past = λ t l. absurd (omega arith); later = λ t l. refl; count = refl; each = each_one _ v (omega arith) };
        turn = each_one _ v (λ e. cc);
        based = each_one _ v (λ _. refl);
        home = inl record { state = x; here = refl; same = same; whole = empty; free = each_one _ v refl };
        told = record { seen = each_one _ v ([], refl); owns = each_one _ v (λ k e. cc); to_give = each_one _ v (λ k e. cc); joined = each_one _ v (λ i k l e. absurd (some-ne-none (k, l) (sym e))); none_beyond = λ k l. refl };
      }
