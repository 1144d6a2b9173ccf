-- The parameters of a method that was read can be counted by a spelled number.
use Rattle.std.proofs.Common.{◌≡◌, ℕ, ◌^◌, ◌<◌, List, true, false, cond, ◌&&◌, ltb, Option, Some, None, is_some, length, refl, sym, ◌∙◌}
use Rattle.std.specs.List.{list_all}
use Rattle.cil_base.specs.Number.{spelled_number}
use Rattle.cil_base.proofs.NumberLemmas.{below}
use Rattle.sig_tree.specs.declared.symbol.Symbol.TheVariants.{Number}
use Rattle.sig_tree.specs.Symbols.{can_be_spelled}
use Rattle.sig_tree.specs.Spelling.{arity_symbols, type_symbols, method_symbols, all_symbols}
use Rattle.sig_tree.specs.Bounds.{depth_limit}
use Rattle.sig_tree.specs.Parsing.{method_at, type_sig_at}
use Rattle.sig_tree.specs.declared.tree.MethodSig.{MethodSig}
use Rattle.sig_tree.proofs.Strips.{both}
use Rattle.sig_tree.proofs.Rows.{method_spellable}
use Rattle.sig_tree.proofs.Methods.{method_sound}
use Rattle.sig_tree.proofs.Levels.{type_exact}
use Rattle.sig_tree.proofs.Spellable.{strips_spellable}

row_count : (m : MethodSig) → list_all can_be_spelled (method_symbols m) ≡ true → can_be_spelled (Number (length m.params)) ≡ true
row_count m h =
    let p = both (list_all can_be_spelled (arity_symbols m.arity)) (can_be_spelled (Number (length m.params)) && (list_all can_be_spelled (type_symbols m.ret) && list_all can_be_spelled (all_symbols m.params))) (sym (method_spellable m) ∙ h) in
    (both (can_be_spelled (Number (length m.params))) (list_all can_be_spelled (type_symbols m.ret) && list_all can_be_spelled (all_symbols m.params)) p.1).0

spelled_small : (n : ℕ) → can_be_spelled (Number n) ≡ true → n < 2 ^ 29
spelled_small n h = elim (ltb n (2 ^ 29)) as (λ v. ltb n (2 ^ 29) ≡ v → is_some (cond {A = Option (List ℕ)} v (Some (spelled_number n)) None) ≡ true → n < 2 ^ 29) [
  | true ↦ λ e k. below n (2 ^ 29) e
  | false ↦ λ e k. absurd cc
] refl h

-- the parameters of a method that was read are fewer than 2^29
pub method_short : (m : MethodSig) (s r : List ℕ) → method_at (type_sig_at 64) s ≡ Some (m, r) → length m.params < 2 ^ 29
method_short m s r h =
    let p = method_sound (type_sig_at depth_limit) depth_limit (type_exact depth_limit) m s r h in
    spelled_small (length m.params) (row_count m (strips_spellable (method_symbols m) s r p.strips))
