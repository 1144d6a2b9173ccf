-- The folds over a type, at one level of it.
use Rattle.std.proofs.Common.{◌≡◌, ℕ, suc, ◌-◌, List, ◌∷◌, Bool, true, false, cond, ◌&&◌, leb, length, map, sym, ap, ◌∙◌, arith}
use Rattle.std.specs.List.{list_all}
use Rattle.std.proofs.lemmas.Bool.Decides.{nat_tests}
use Rattle.std.proofs.lemmas.List.Folds.{list_all-map}
use Rattle.cil_base.specs.Token.{Token}
use Rattle.sig_tree.specs.declared.symbol.Symbol.{Symbol}
use Rattle.sig_tree.specs.declared.symbol.Symbol.TheVariants.{Byte, Number, TypeToken}
use Rattle.sig_tree.specs.Spelling.{in_order, type_level, method_level, method_symbols, type_symbols}
use Rattle.sig_tree.specs.Bounds.{inside, within_level, method_within, type_fits, method_fits}
use Rattle.sig_tree.specs.declared.tree.TypeSig.{TypeSig}
use Rattle.sig_tree.specs.declared.tree.TypeSig.TheVariants.{Inst}
use Rattle.sig_tree.specs.declared.tree.TypeSig.TheOpen.{TypeSig-F}
use Rattle.sig_tree.specs.declared.tree.TypeSig.TheViews.{roll-TypeSig, rolls-Inst}
use Rattle.sig_tree.specs.declared.tree.TypeSig.TheFolds.{fold-roll-TypeSig, fold_out-TypeSig, map-TypeSig}
use Rattle.sig_tree.specs.declared.tree.MethodSig.{MethodSig}
use Rattle.sig_tree.proofs.Rows.{map_length}

row-roll : (x : TypeSig-F TypeSig MethodSig) → type_symbols (roll-TypeSig x) ≡ type_level (map-TypeSig TypeSig MethodSig (List Symbol) (List Symbol) type_symbols method_symbols x)
row-roll x = fold-roll-TypeSig (List Symbol) (List Symbol) type_level method_level x

within-suc : (x : TypeSig-F (ℕ → Bool) (Bool → ℕ → Bool)) (d : ℕ) → within_level x (suc d) ≡ inside x d
within-suc x d =
    let positive : leb 1 (suc d) ≡ true = grind (arith, nat_tests) in
    let before : suc d - 1 ≡ d = omega arith in
    ap (λ (b : Bool). b && inside x (suc d - 1)) positive ∙ ap (inside x) before

fit-roll : (x : TypeSig-F TypeSig MethodSig) (d : ℕ) → type_fits (roll-TypeSig x) (suc d) ≡ inside (map-TypeSig TypeSig MethodSig (ℕ → Bool) (Bool → ℕ → Bool) type_fits method_fits x) d
fit-roll x d =
    ap (λ (f : ℕ → Bool). f (suc d)) (fold-roll-TypeSig (ℕ → Bool) (Bool → ℕ → Bool) within_level method_within x)
    ∙ within-suc (map-TypeSig TypeSig MethodSig (ℕ → Bool) (Bool → ℕ → Bool) type_fits method_fits x) d

pub fits_zero : (t : TypeSig) → type_fits t 0 ≡ false
fits_zero t = ap (λ (f : ℕ → Bool). f 0) (fold_out-TypeSig (ℕ → Bool) (Bool → ℕ → Bool) within_level method_within t)

pub row-of : (x : TypeSig-F TypeSig MethodSig) (t : TypeSig) → roll-TypeSig x ≡ t → type_symbols t ≡ type_level (map-TypeSig TypeSig MethodSig (List Symbol) (List Symbol) type_symbols method_symbols x)
row-of x t h = ap type_symbols (sym h) ∙ row-roll x

pub fit-of : (x : TypeSig-F TypeSig MethodSig) (t : TypeSig) (d : ℕ) → roll-TypeSig x ≡ t → type_fits t (suc d) ≡ inside (map-TypeSig TypeSig MethodSig (ℕ → Bool) (Bool → ℕ → Bool) type_fits method_fits x) d
fit-of x t d h = ap (λ t. type_fits t (suc d)) (sym h) ∙ fit-roll x d

pub row-Inst : (value : Bool) (of : Token) (args : List TypeSig) → type_symbols (Inst value of args) ≡ Byte 0x15 ∷ Byte (cond value 0x11 0x12) ∷ TypeToken of ∷ Number (length args) ∷ in_order (map type_symbols args)
row-Inst value of args = row-of (TypeSig-F.Inst value of args) (Inst value of args) (rolls-Inst value of args)
    ∙ ap (λ n. Byte 0x15 ∷ Byte (cond value 0x11 0x12) ∷ TypeToken of ∷ Number n ∷ in_order (map type_symbols args)) (map_length type_symbols args)

pub fit-Inst : (value : Bool) (of : Token) (args : List TypeSig) (d : ℕ) → type_fits (Inst value of args) (suc d) ≡ list_all (λ t. type_fits t d) args
fit-Inst value of args d = fit-of (TypeSig-F.Inst value of args) (Inst value of args) d (rolls-Inst value of args) ∙ list_all-map (λ (t : ℕ → Bool). t d) type_fits args
