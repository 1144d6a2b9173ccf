use Rattle.std.proofs.Common.{◌≡◌, ◌++◌, ◌∷◌, [], map, drop}
use Rattle.sig_tree.specs.declared.symbol.Symbol.TheVariants.{Byte}
use Rattle.sig_tree.specs.Spelling.{with_sentinel, in_order, type_symbols, all_symbols}
use Rattle.sig_text.proofs.symbols.+symbols.Given as goal

abbrev pub invariant-add_types-loop-ty : goal.invariant-add_types-loop-ty
invariant-add_types-loop-ty l = l.initial.out ++ all_symbols l.types ≡ l.out ++ all_symbols (drop l.ty-index l.types)

abbrev pub invariant-add_params-loop-number : goal.invariant-add_params-loop-number
invariant-add_params-loop-number l =
    l.initial.out ++ in_order (with_sentinel l.sentinel (Byte 0x41 ∷ []) 0 (map type_symbols l.params))
    ≡ l.out ++ in_order (with_sentinel l.sentinel (Byte 0x41 ∷ []) l.number (map type_symbols (drop l.number l.params)))
