-- The bounds and the numbers of a type and of a method, part by part.
use Rattle.std.proofs.Common.{◌≡◌, ℕ, zero, suc, ◌-◌, ◌<◌, List, Bool, ◌&&◌, ℤ, length, sym, ap, ◌∙◌, arith}
use Rattle.std.specs.List.{list_all}
use Rattle.std.proofs.lemmas.Bool.Decides.{nat_tests}
use Rattle.std.proofs.lemmas.List.Folds.{list_all-map}
use Rattle.sig_tree.specs.declared.symbol.Symbol.TheVariants.{Number}
use Rattle.sig_tree.specs.Symbols.{can_be_spelled}
use Rattle.sig_tree.specs.Spelling.{type_symbols, method_symbols, all_symbols, arity_symbols}
use Rattle.sig_tree.specs.Bounds.{is_kind, has_place, type_fits, method_fits, all_fit}
use Rattle.sig_tree.specs.declared.tree.TypeSig.{TypeSig}
use Rattle.sig_tree.specs.declared.tree.TypeSig.TheVariants.{Array, Inst}
use Rattle.sig_tree.specs.declared.tree.TypeSig.TheOpen.{TypeSig-F}
use Rattle.sig_tree.specs.declared.tree.TypeSig.TheViews.{rolls-Array}
use Rattle.sig_tree.specs.declared.tree.MethodSig.{MethodSig}
use Rattle.cil_base.specs.Token.{Token}
use Rattle.sig_tree.specs.Replaced.{names_type}
use Rattle.sig_tree.proofs.Rolls.{fit-of, fit-Inst}
use Rattle.sig_tree.proofs.Kept.{shape, spelled-Array, spelled-Inst}
use Rattle.sig_tree.proofs.Rows.{method_spellable, token_spelled}
use Rattle.sig_tree.proofs.Methods.{fits-is}

crossed : (k r p h a c s q : Bool) → (((k && r && p) && h) && (a && (c && (s && q)))) ≡ (k && (h && (a && ((r && s) && (c && (p && q))))))
crossed k r p h a c s q = grind (arith, nat_tests)

abbrev spells : MethodSig → Bool
spells m = list_all can_be_spelled (method_symbols m)

abbrev kept : MethodSig → Bool → ℕ → Bool → Bool
kept m pointer d p =
    is_kind m.kind && (has_place pointer (length m.params) m.sentinel && (list_all can_be_spelled (arity_symbols m.arity) && ((type_fits m.ret d && list_all can_be_spelled (type_symbols m.ret))
    && (can_be_spelled (Number (length m.params)) && (p && list_all can_be_spelled (all_symbols m.params))))))

pub method_keeps : (m : MethodSig) (pointer : Bool) (d : ℕ) → (method_fits m pointer d && spells m) ≡ kept m pointer d (all_fit m.params d)
method_keeps m pointer d =
    ap (λ (b : Bool). b && spells m) (fits-is m pointer d)
    ∙ ap (λ (b : Bool). ((is_kind m.kind && type_fits m.ret d && list_all (λ t. type_fits t d) m.params) && has_place pointer (length m.params) m.sentinel) && b) (method_spellable m)
    ∙ crossed (is_kind m.kind) (type_fits m.ret d) (list_all (λ t. type_fits t d) m.params) (has_place pointer (length m.params) m.sentinel) (list_all can_be_spelled (arity_symbols m.arity))
    (can_be_spelled (Number (length m.params))) (list_all can_be_spelled (type_symbols m.ret)) (list_all can_be_spelled (all_symbols m.params))
    ∙ ap (kept m pointer d) (sym (list_all-map (λ (t : ℕ → Bool). t d) type_fits m.params))

-- a type in its bounds, whose numbers and tokens can be spelled
abbrev keeps : TypeSig → ℕ → Bool
keeps t d = type_fits t d && list_all can_be_spelled (type_symbols t)

together : (f s p : Bool) → (f && (s && p)) ≡ ((f && s) && p)
together f s p = grind (arith, nat_tests)

array_parts : (elem : TypeSig) (rank : ℕ) (sizes : List ℕ) (lows : List ℤ) (d : ℕ) → keeps (Array elem rank sizes lows) (suc d) ≡ (keeps elem d && list_all can_be_spelled (shape rank sizes lows))
array_parts elem rank sizes lows d =
    let array = Array elem rank sizes lows in
    ap (λ (b : Bool). b && list_all can_be_spelled (type_symbols array)) (fit-of (TypeSig-F.Array elem rank sizes lows) array d (rolls-Array elem rank sizes lows))
    ∙ ap (λ (b : Bool). type_fits elem d && b) (spelled-Array elem rank sizes lows)
    ∙ together (type_fits elem d) (list_all can_be_spelled (type_symbols elem)) (list_all can_be_spelled (shape rank sizes lows))

moved : (f t c s : Bool) → (f && (t && (c && s))) ≡ (t && (c && (f && s)))
moved f t c s = grind (arith, nat_tests)

inst_parts : (value : Bool) (of : Token) (args : List TypeSig) (d : ℕ)
    → keeps (Inst value of args) (suc d) ≡ (names_type of && (can_be_spelled (Number (length args)) && (all_fit args d && list_all can_be_spelled (all_symbols args))))
inst_parts value of args d =
    let inst = Inst value of args in
    let count = can_be_spelled (Number (length args)) in
    let row = list_all can_be_spelled (all_symbols args) in
    ap (λ (b : Bool). b && list_all can_be_spelled (type_symbols inst)) (fit-Inst value of args d ∙ sym (list_all-map (λ (t : ℕ → Bool). t d) type_fits args))
    ∙ ap (λ (b : Bool). all_fit args d && b) (spelled-Inst value of args)
    ∙ ap (λ (b : Bool). all_fit args d && (b && (count && row))) (token_spelled of)
    ∙ moved (all_fit args d) (names_type of) count row

-- the same below a depth that is not 0
pub array_keeps : (t elem : TypeSig) (rank : ℕ) (sizes : List ℕ) (lows : List ℤ) (d : ℕ) → t ≡ Array elem rank sizes lows → 0 < d → keeps t d ≡ (keeps elem (d - 1) && list_all can_be_spelled (shape rank sizes lows))
array_keeps t elem rank sizes lows zero is h = absurd (omega arith)
array_keeps t elem rank sizes lows (suc d) is h =
    let e : suc d - 1 ≡ d = omega arith in
    rw e (ap (λ (t : TypeSig). keeps t (suc d)) is ∙ array_parts elem rank sizes lows d)

pub inst_keeps : (t : TypeSig) (value : Bool) (of : Token) (args : List TypeSig) (d : ℕ) → t ≡ Inst value of args → 0 < d
    → keeps t d ≡ (names_type of && (can_be_spelled (Number (length args)) && (all_fit args (d - 1) && list_all can_be_spelled (all_symbols args))))
inst_keeps t value of args zero is h = absurd (omega arith)
inst_keeps t value of args (suc d) is h =
    let e : suc d - 1 ≡ d = omega arith in
    rw e (ap (λ (t : TypeSig). keeps t (suc d)) is ∙ inst_parts value of args d)
