-- Facts about rows of symbols.
use Rattle.std.proofs.Common.{◌≡◌, ℕ, suc, ◌+◌, List, [], ◌∷◌, ◌++◌, Bool, true, false, ◌&&◌, refl, ap, sym, ◌∙◌, if◌then◌else◌, length, map, Option, Some, None, is_some}
use Rattle.std.specs.List.{list_all}
use Rattle.std.specs.Option.{option_map}
use Rattle.cil_base.specs.Token.{Token}
use Rattle.cil_base.specs.Number.{spelled_number}
use Rattle.sig_tree.specs.Replaced.{names_type}
use Rattle.std.proofs.lemmas.List.Folds.{list_all-append}
use Rattle.sig_tree.specs.declared.tree.TypeSig.TheOpen.{MethodSig-F}
use Rattle.sig_tree.specs.declared.symbol.Symbol.{Symbol}
use Rattle.sig_tree.specs.declared.symbol.Symbol.TheVariants.{Byte, Number, TypeToken}
use Rattle.sig_tree.specs.Symbols.{can_be_spelled, coded_token}
use Rattle.sig_tree.specs.Spelling.{with_sentinel, sentinel_at, sentinel_stands, in_order, arity_symbols, convention_byte, type_symbols, method_symbols, all_symbols, type_level, method_level}
use Rattle.sig_tree.specs.declared.tree.TypeSig.TheFolds.{fold_out-MethodSig}
use Rattle.sig_tree.specs.declared.tree.MethodSig.{MethodSig}
use Rattle.sig_tree.specs.declared.tree.Sentinel.{Sentinel}

pub list_all_append : {X : Type 0} (p : X → Bool) (xs ys : List X) → list_all p (xs ++ ys) ≡ (list_all p xs && list_all p ys)
list_all_append p xs ys = list_all-append p xs ys

mapped_some : {A B : Type 0} (f : A → B) (o : Option A) → is_some (option_map f o) ≡ is_some o
mapped_some f None = refl
mapped_some f (Some x) = refl

-- a token can be spelled where a signature can name it
pub token_spelled : (t : Token) → can_be_spelled (TypeToken t) ≡ names_type t
token_spelled t = mapped_some spelled_number (coded_token t)

-- whether each symbol of rows can be spelled
abbrev pub all_spelled : List (List Symbol) → Bool
all_spelled rows = list_all can_be_spelled (in_order rows)

cond_same : (b : Bool) (rows : List (List Symbol)) → all_spelled ((if b then (Byte 0x41 ∷ []) ∷ [] else []) ++ rows) ≡ all_spelled rows
cond_same true rows = refl
cond_same false rows = refl

at_same : (sentinel : Sentinel) (at : ℕ) (rows : List (List Symbol)) → all_spelled (sentinel_at sentinel at (Byte 0x41 ∷ []) ++ rows) ≡ all_spelled rows
at_same sentinel at rows = cond_same (sentinel_stands sentinel at) rows

nil_right : {X : Type 0} (xs : List X) → xs ++ [] ≡ xs
nil_right [] = refl
nil_right (x ∷ xs) = ap (λ t. x ∷ t) (nil_right xs)

-- a sentinel can always be spelled
pub sentinel_spellable : (sentinel : Sentinel) (at : ℕ) (rows : List (List Symbol)) → list_all can_be_spelled (in_order (with_sentinel sentinel (Byte 0x41 ∷ []) at rows)) ≡ list_all can_be_spelled (in_order rows)
sentinel_spellable sentinel at [] = rw (← nil_right (sentinel_at sentinel at (Byte 0x41 ∷ []))) (at_same sentinel at [])
sentinel_spellable sentinel at (row ∷ rows) =
    at_same sentinel at (row ∷ with_sentinel sentinel (Byte 0x41 ∷ []) (at + 1) rows)
    ∙ list_all-append can_be_spelled row (in_order (with_sentinel sentinel (Byte 0x41 ∷ []) (at + 1) rows))
    ∙ ap (λ b. list_all can_be_spelled row && b) (sentinel_spellable sentinel (at + 1) rows)
    ∙ sym (list_all-append can_be_spelled row (in_order rows))

pub map_length : {X Y : Type 0} (f : X → Y) (xs : List X) → length (map f xs) ≡ length xs
map_length f [] = refl
map_length f (x ∷ xs) = ap suc (map_length f xs)

-- the level of a method, by its fields
pub method_symbols-is : (m : MethodSig) → method_symbols m ≡ method_level (record { kind = m.kind; this = m.this; explicit = m.explicit; arity = m.arity; ret = type_symbols m.ret; params = map type_symbols m.params; sentinel = m.sentinel })
method_symbols-is m = fold_out-MethodSig (List Symbol) (List Symbol) type_level method_level m

level_spellable : (m : MethodSig-F (List Symbol) (List Symbol)) → list_all can_be_spelled (method_level m)
    ≡ (list_all can_be_spelled (arity_symbols m.arity) && (can_be_spelled (Number (length m.params)) && (list_all can_be_spelled m.ret && list_all can_be_spelled (in_order m.params))))
level_spellable m =
    list_all-append can_be_spelled (arity_symbols m.arity) (Number (length m.params) ∷ (m.ret ++ in_order (with_sentinel m.sentinel (Byte 0x41 ∷ []) 0 m.params)))
    ∙ ap (λ b. list_all can_be_spelled (arity_symbols m.arity) && (can_be_spelled (Number (length m.params)) && b))
    (list_all-append can_be_spelled m.ret (in_order (with_sentinel m.sentinel (Byte 0x41 ∷ []) 0 m.params))
    ∙ ap (λ b. list_all can_be_spelled m.ret && b) (sentinel_spellable m.sentinel 0 m.params))

-- which parts of a method decide whether its symbols can be spelled
pub method_spellable : (m : MethodSig) → list_all can_be_spelled (method_symbols m)
    ≡ (list_all can_be_spelled (arity_symbols m.arity) && (can_be_spelled (Number (length m.params)) && (list_all can_be_spelled (type_symbols m.ret) && list_all can_be_spelled (all_symbols m.params))))
method_spellable m =
    ap (list_all can_be_spelled) (method_symbols-is m)
    ∙ level_spellable (record { kind = m.kind; this = m.this; explicit = m.explicit; arity = m.arity; ret = type_symbols m.ret; params = map type_symbols m.params; sentinel = m.sentinel })
    ∙ ap (λ n. list_all can_be_spelled (arity_symbols m.arity) && (can_be_spelled (Number n) && (list_all can_be_spelled (type_symbols m.ret) && list_all can_be_spelled (all_symbols m.params)))) (map_length type_symbols m.params)

-- the symbols of a method, part by part
pub method_row : (m : MethodSig) → method_symbols m
    ≡ Byte (convention_byte m.kind m.arity m.this m.explicit) ∷ (arity_symbols m.arity ++ (Number (length m.params) ∷ (type_symbols m.ret ++ in_order (with_sentinel m.sentinel (Byte 0x41 ∷ []) 0 (map type_symbols m.params)))))
method_row m = method_symbols-is m
    ∙ ap (λ (n : ℕ). Byte (convention_byte m.kind m.arity m.this m.explicit) ∷ (arity_symbols m.arity ++ (Number n ∷ (type_symbols m.ret ++ in_order (with_sentinel m.sentinel (Byte 0x41 ∷ []) 0 (map type_symbols m.params)))))) (map_length type_symbols m.params)
