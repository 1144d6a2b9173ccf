-- The signatures of the new rows can be spelled, and name no types.
use Rattle.std.proofs.Common.{◌≡◌, refl, ap, sym, ◌∙◌, ℕ, Bool, false, [], ◌++◌, List, codes}
use Rattle.sig_tree.proofs.Methods.{fits-is, row-is}
use Rattle.sig_tree.proofs.TokenRows.{behind, method_row, tokens-Prim}
use Rattle.sig_tree.specs.Bounds.{IsBoundedSig, method_within, type_fits, within_level}
use Rattle.sig_tree.specs.Printed.{tokens, type_pieces}
use Rattle.sig_tree.specs.Spelling.{method_level, type_level, type_symbols}
use Rattle.sig_tree.specs.declared.symbol.Symbol.{Symbol}
use Rattle.sig_tree.specs.declared.tree.TypeSig.TheFolds.{fold-roll-TypeSig}
use Rattle.sig_tree.specs.declared.tree.TypeSig.TheOpen.{TypeSig-F}
use Rattle.sig_tree.specs.declared.tree.TypeSig.TheVariants.{Prim}
use Rattle.sig_tree.specs.declared.tree.TypeSig.TheViews.{rolls-Prim}
use Rattle.cil_gen.specs.GenEdits.{field_sig, int_method, method_sig}

-- a type of one byte, by its level
prim_fits : (code depth : ℕ) → type_fits (Prim code) depth ≡ within_level (TypeSig-F.Prim code) depth
prim_fits code depth =
    ap (λ t. type_fits t depth) (sym (rolls-Prim code))
    ∙ ap (λ (f : ℕ → Bool). f depth) (fold-roll-TypeSig (ℕ → Bool) (Bool → ℕ → Bool) within_level method_within (TypeSig-F.Prim code))

prim_symbols : (code : ℕ) → type_symbols (Prim code) ≡ type_level (TypeSig-F.Prim code)
prim_symbols code =
    ap type_symbols (sym (rolls-Prim code)) ∙ fold-roll-TypeSig (List Symbol) (List Symbol) type_level method_level (TypeSig-F.Prim code)

pub field_is_bounded : IsBoundedSig field_sig
field_is_bounded = record { fitting = rw (prim_fits 0x08 64) refl; spellable = rw (prim_symbols 0x08) refl }

pub method_is_bounded : IsBoundedSig method_sig
method_is_bounded = record {
  fitting = rw (fits-is int_method false 64, prim_fits 0x08 64) refl;
  spellable = rw (row-is int_method, prim_symbols 0x08) refl;
}

pub field_tokens : tokens field_sig ≡ []
field_tokens = behind (codes "field ") (type_pieces (Prim 0x08)) ∙ tokens-Prim 0x08

pub method_tokens : tokens method_sig ≡ []
method_tokens = method_row int_method ∙ ap (λ ts. ts ++ []) (tokens-Prim 0x08)
