-- The tokens of a signature in its bounds can stand in signatures, and so can other rows of their tables.
use Rattle.std.proofs.Common.{◌≡◌, ◌∙◌, sym, ap, subst, refl, ℕ, zero, suc, ◌<◌, ◌+◌, ◌^◌, Bool, true, false, cond, List, [], ◌∷◌, ◌++◌, length, is_some, Option, Some, None, ◌*◌, arith}
use Rattle.std.specs.Prelude.{◌&&◌, nat_lt, unwrap_or}
use Rattle.std.specs.List.{list_all, position}
use Rattle.std.specs.Option.{option_map}
use Rattle.std.proofs.lemmas.Bool.Decides.{nat_tests}
use Rattle.std.proofs.lemmas.List.Folds.{list_all-map, list_all-append}
use Rattle.cil_base.specs.Token.{Token}
use Rattle.sig_tree.specs.Bounds.{all_fit, depth_limit, has_place, is_kind, IsBoundedSig, method_fits, type_fits}
use Rattle.sig_tree.specs.Printed.{tokens}
use Rattle.sig_tree.specs.Replaced.{names_type}
use Rattle.sig_tree.specs.Spelling.{all_symbols, arity_symbols, method_symbols, type_symbols}
use Rattle.sig_tree.specs.Symbols.{can_be_spelled, tag_of}
use Rattle.sig_tree.specs.inner.OwnTokens.{method_tokens, type_tokens, types_tokens}
use Rattle.sig_tree.specs.declared.symbol.Symbol.TheVariants.{Number, TypeToken}
use Rattle.sig_tree.specs.declared.tree.TypeSig.{TypeSig}
use Rattle.sig_tree.specs.declared.tree.TypeSig.TheVariants.{Prim, Ptr, ByRef, Value, Class, Var, MVar, SzArray, Array, Inst, FnPtr, Mod, Pinned}
use Rattle.sig_tree.specs.declared.tree.TypeSig.TheOpen.{TypeSig-F}
use Rattle.sig_tree.specs.declared.tree.TypeSig.TheViews.{roll-TypeSig, out-TypeSig, roll-out-TypeSig, rolls-Prim, rolls-Ptr, rolls-ByRef, rolls-Value, rolls-Class, rolls-Var, rolls-MVar, rolls-SzArray, rolls-Array, rolls-Inst, rolls-FnPtr, rolls-Mod, rolls-Pinned}
use Rattle.sig_tree.specs.declared.tree.MethodSig.{MethodSig}
use Rattle.sig_tree.specs.declared.tree.SigTree.{SigTree}
use Rattle.sig_tree.specs.declared.tree.SigTree.TheVariants.{Method, Field, Locals, Property, Inst as MethodInst, Plain}
use Rattle.sig_tree.proofs.Kept.{shape, spelled-Array, spelled-Inst}
use Rattle.sig_tree.proofs.Methods.{fits-is}
use Rattle.sig_tree.proofs.Rolls.{fit-of, fits_zero, row-of}
use Rattle.sig_tree.proofs.Rows.{method_spellable, token_spelled}
use Rattle.sig_tree.proofs.Strips.{both, and}
use Rattle.node_model.specs.Keys.{same_token}
use Rattle.write_plan.specs.Written.{new_token, rows_in}
use Rattle.sig_tree.proofs.TokenRows.{method_row, tokens-Array, tokens-ByRef, tokens-Class, tokens-FnPtr, tokens-Inst, tokens-Mod, tokens-MVar, tokens-Pinned, tokens-Prim, tokens-Ptr, tokens-SzArray, tokens-Value, tokens-Var}
use Rattle.sig_tree.proofs.TokenSteps.{field, locals, method_inst, property}

abbrev Named : ℕ → TypeSig → Type 0
Named d t = type_fits t d ≡ true → list_all can_be_spelled (type_symbols t) ≡ true → list_all names_type (type_tokens t) ≡ true

without : (d : ℕ) (t : TypeSig) → type_tokens t ≡ [] → Named d t
without d t none = λ fits spelled. ap (list_all names_type) none

of_token : (d : ℕ) (t : TypeSig) (of : Token) → type_tokens t ≡ of ∷ [] → list_all can_be_spelled (type_symbols t) ≡ (can_be_spelled (TypeToken of) && true) → Named d t
of_token d t of own row = λ fits spelled.
    ap (list_all names_type) own ∙ and (names_type of) true (sym (token_spelled of) ∙ (both (can_be_spelled (TypeToken of)) true (sym row ∙ spelled)).0) refl

of_type : (d : ℕ) (t u : TypeSig) → type_tokens t ≡ type_tokens u → type_fits t (suc d) ≡ type_fits u d → list_all can_be_spelled (type_symbols t) ≡ list_all can_be_spelled (type_symbols u) → Named d u → Named (suc d) t
of_type d t u own fit row named = λ fits spelled. ap (list_all names_type) own ∙ named (sym fit ∙ fits) (sym row ∙ spelled)

of_types : (d : ℕ) → ((t : TypeSig) → Named d t) → (types : List TypeSig) → all_fit types d ≡ true → list_all can_be_spelled (all_symbols types) ≡ true → list_all names_type (types_tokens types) ≡ true
of_types d named [] fits spelled = refl
of_types d named (t ∷ types) fits spelled =
    let f = both (type_fits t d) (all_fit types d) fits in
    let s = both (list_all can_be_spelled (type_symbols t)) (list_all can_be_spelled (all_symbols types)) (sym (list_all-append can_be_spelled (type_symbols t) (all_symbols types)) ∙ spelled) in
    list_all-append names_type (type_tokens t) (types_tokens types)
    ∙ and (list_all names_type (type_tokens t)) (list_all names_type (types_tokens types)) (named t f.0 s.0) (of_types d named types f.1 s.1)

of_method : (d : ℕ) → ((t : TypeSig) → Named d t) → (pointer : Bool) (m : MethodSig) → method_fits m pointer d ≡ true → list_all can_be_spelled (method_symbols m) ≡ true → list_all names_type (method_tokens m) ≡ true
of_method d named pointer m fits spelled =
    let f = both (is_kind m.kind && type_fits m.ret d && list_all (λ t. type_fits t d) m.params) (has_place pointer (length m.params) m.sentinel) (sym (fits-is m pointer d) ∙ fits) in
    let g = both (is_kind m.kind && type_fits m.ret d) (list_all (λ t. type_fits t d) m.params) f.0 in
    let e = both (is_kind m.kind) (type_fits m.ret d) g.0 in
    let s = both (list_all can_be_spelled (arity_symbols m.arity)) (can_be_spelled (Number (length m.params)) && (list_all can_be_spelled (type_symbols m.ret) && list_all can_be_spelled (all_symbols m.params))) (sym (method_spellable m) ∙ spelled) in
    let c = both (can_be_spelled (Number (length m.params))) (list_all can_be_spelled (type_symbols m.ret) && list_all can_be_spelled (all_symbols m.params)) s.1 in
    let r = both (list_all can_be_spelled (type_symbols m.ret)) (list_all can_be_spelled (all_symbols m.params)) c.1 in
    ap (list_all names_type) (method_row m) ∙ list_all-append names_type (type_tokens m.ret) (types_tokens m.params)
    ∙ and (list_all names_type (type_tokens m.ret)) (list_all names_type (types_tokens m.params)) (named m.ret e.1 r.0)
    (of_types d named m.params (list_all-map (λ (t : ℕ → Bool). t d) type_fits m.params ∙ g.1) r.1)

level_named : (d : ℕ) → ((t : TypeSig) → Named d t) → (x : TypeSig-F TypeSig MethodSig) → Named (suc d) (roll-TypeSig x)
level_named d named (TypeSig-F.Prim code) = subst (Named (suc d)) (sym (rolls-Prim code)) (without (suc d) (Prim code) (tokens-Prim code))
level_named d named (TypeSig-F.Var n) = subst (Named (suc d)) (sym (rolls-Var n)) (without (suc d) (Var n) (tokens-Var n))
level_named d named (TypeSig-F.MVar n) = subst (Named (suc d)) (sym (rolls-MVar n)) (without (suc d) (MVar n) (tokens-MVar n))
level_named d named (TypeSig-F.Value of) = subst (Named (suc d)) (sym (rolls-Value of)) (of_token (suc d) (Value of) of (tokens-Value of) (ap (list_all can_be_spelled) (row-of (TypeSig-F.Value of) (Value of) (rolls-Value of))))
level_named d named (TypeSig-F.Class of) = subst (Named (suc d)) (sym (rolls-Class of)) (of_token (suc d) (Class of) of (tokens-Class of) (ap (list_all can_be_spelled) (row-of (TypeSig-F.Class of) (Class of) (rolls-Class of))))
level_named d named (TypeSig-F.Ptr u) = subst (Named (suc d)) (sym (rolls-Ptr u)) (of_type d (Ptr u) u (tokens-Ptr u) (fit-of (TypeSig-F.Ptr u) (Ptr u) d (rolls-Ptr u)) (ap (list_all can_be_spelled) (row-of (TypeSig-F.Ptr u) (Ptr u) (rolls-Ptr u))) (named u))
level_named d named (TypeSig-F.ByRef u) = subst (Named (suc d)) (sym (rolls-ByRef u)) (of_type d (ByRef u) u (tokens-ByRef u) (fit-of (TypeSig-F.ByRef u) (ByRef u) d (rolls-ByRef u)) (ap (list_all can_be_spelled) (row-of (TypeSig-F.ByRef u) (ByRef u) (rolls-ByRef u))) (named u))
level_named d named (TypeSig-F.SzArray u) = subst (Named (suc d)) (sym (rolls-SzArray u)) (of_type d (SzArray u) u (tokens-SzArray u) (fit-of (TypeSig-F.SzArray u) (SzArray u) d (rolls-SzArray u)) (ap (list_all can_be_spelled) (row-of (TypeSig-F.SzArray u) (SzArray u) (rolls-SzArray u))) (named u))
level_named d named (TypeSig-F.Pinned u) = subst (Named (suc d)) (sym (rolls-Pinned u)) (of_type d (Pinned u) u (tokens-Pinned u) (fit-of (TypeSig-F.Pinned u) (Pinned u) d (rolls-Pinned u)) (ap (list_all can_be_spelled) (row-of (TypeSig-F.Pinned u) (Pinned u) (rolls-Pinned u))) (named u))
level_named d named (TypeSig-F.Array elem rank sizes lows) = subst (Named (suc d)) (sym (rolls-Array elem rank sizes lows)) (λ fits spelled.
    ap (list_all names_type) (tokens-Array elem rank sizes lows)
    ∙ named elem (sym (fit-of (TypeSig-F.Array elem rank sizes lows) (Array elem rank sizes lows) d (rolls-Array elem rank sizes lows)) ∙ fits)
    (both (list_all can_be_spelled (type_symbols elem)) (list_all can_be_spelled (shape rank sizes lows)) (sym (spelled-Array elem rank sizes lows) ∙ spelled)).0)
level_named d named (TypeSig-F.Inst value of args) = subst (Named (suc d)) (sym (rolls-Inst value of args)) (λ fits spelled.
    let s = both (can_be_spelled (TypeToken of)) (can_be_spelled (Number (length args)) && list_all can_be_spelled (all_symbols args)) (sym (spelled-Inst value of args) ∙ spelled) in
    let c = both (can_be_spelled (Number (length args))) (list_all can_be_spelled (all_symbols args)) s.1 in
    ap (list_all names_type) (tokens-Inst value of args)
    ∙ and (names_type of) (list_all names_type (types_tokens args)) (sym (token_spelled of) ∙ s.0)
    (of_types d named args (sym (fit-of (TypeSig-F.Inst value of args) (Inst value of args) d (rolls-Inst value of args)) ∙ fits) c.1))
level_named d named (TypeSig-F.FnPtr m) = subst (Named (suc d)) (sym (rolls-FnPtr m)) (λ fits spelled.
    ap (list_all names_type) (tokens-FnPtr m)
    ∙ of_method d named true m (sym (fit-of (TypeSig-F.FnPtr m) (FnPtr m) d (rolls-FnPtr m)) ∙ fits) (sym (ap (list_all can_be_spelled) (row-of (TypeSig-F.FnPtr m) (FnPtr m) (rolls-FnPtr m))) ∙ spelled))
level_named d named (TypeSig-F.Mod required of u) = subst (Named (suc d)) (sym (rolls-Mod required of u)) (λ fits spelled.
    let row : list_all can_be_spelled (type_symbols (Mod required of u)) ≡ (can_be_spelled (TypeToken of) && list_all can_be_spelled (type_symbols u)) =
    ap (list_all can_be_spelled) (row-of (TypeSig-F.Mod required of u) (Mod required of u) (rolls-Mod required of u)) in
    let s = both (can_be_spelled (TypeToken of)) (list_all can_be_spelled (type_symbols u)) (sym row ∙ spelled) in
    ap (list_all names_type) (tokens-Mod required of u)
    ∙ and (names_type of) (list_all names_type (type_tokens u)) (sym (token_spelled of) ∙ s.0)
    (named u (sym (fit-of (TypeSig-F.Mod required of u) (Mod required of u) d (rolls-Mod required of u)) ∙ fits) s.1))

type_named : (d : ℕ) (t : TypeSig) → Named d t
type_named zero t = λ fits spelled. let e = fits_zero t in absurd cc
type_named (suc d) t = subst (Named (suc d)) (roll-out-TypeSig t) (level_named d (type_named d) (out-TypeSig t))

list_named : (types : List TypeSig) → all_fit types depth_limit ≡ true → (can_be_spelled (Number (length types)) && list_all can_be_spelled (all_symbols types)) ≡ true → list_all names_type (types_tokens types) ≡ true
list_named types fits spelled =
    of_types depth_limit (type_named depth_limit) types fits (both (can_be_spelled (Number (length types))) (list_all can_be_spelled (all_symbols types)) spelled).1

pub sig_named : (sig : SigTree) → IsBoundedSig sig → list_all names_type (tokens sig) ≡ true
sig_named (Method m) k = of_method depth_limit (type_named depth_limit) false m k.fitting k.spellable
sig_named (Field t) k = ap (list_all names_type) (field (Field t) t refl) ∙ type_named depth_limit t k.fitting k.spellable
sig_named (Locals types) k = ap (list_all names_type) (locals (Locals types) types refl) ∙ list_named types k.fitting k.spellable
sig_named (MethodInst args) k = ap (list_all names_type) (method_inst (MethodInst args) args refl) ∙ list_named args k.fitting k.spellable
sig_named (Plain t) k = type_named depth_limit t k.fitting k.spellable
sig_named (Property this t params) k =
    let f = both (type_fits t depth_limit) (all_fit params depth_limit) k.fitting in
    let s = both (can_be_spelled (Number (length params))) (list_all can_be_spelled (type_symbols t ++ all_symbols params)) k.spellable in
    let r = both (list_all can_be_spelled (type_symbols t)) (list_all can_be_spelled (all_symbols params)) (sym (list_all-append can_be_spelled (type_symbols t) (all_symbols params)) ∙ s.1) in
    ap (list_all names_type) (property (Property this t params) this t params refl) ∙ list_all-append names_type (type_tokens t) (types_tokens params)
    ∙ and (list_all names_type (type_tokens t)) (list_all names_type (types_tokens params)) (type_named depth_limit t f.0 r.0)
    (of_types depth_limit (type_named depth_limit) params f.1 r.1)

-- another row of the same table can stand there too

is_tagged : (b : Bool) (tag : Option ℕ) (f : ℕ → ℕ) → is_some (cond b (option_map f tag) None) ≡ true → is_some tag ≡ true
is_tagged true (Some n) f e = refl
is_tagged true None f e = e
is_tagged false (Some n) f e = refl
is_tagged false None f e = e

tagged : (b : Bool) (tag : Option ℕ) (f : ℕ → ℕ) → is_some tag ≡ true → b ≡ true → is_some (cond b (option_map f tag) None) ≡ true
tagged b (Some n) f e small = ap (λ c. is_some (cond c (Some (f n)) None)) small
tagged b None f e small = absurd (cc)

pub new_named : (lists : List (List Token)) (t : Token) → (new_token lists t).rid < 2 ^ 24 → names_type t ≡ true → names_type (new_token lists t) ≡ true
new_named lists t = by (position (same_token t) (rows_in lists t.table))
  where
    by : (o : Option ℕ) → (unwrap_or (option_map (λ (place : ℕ). record { table = t.table; rid = suc place }) o) t).rid < 2 ^ 24 → names_type t ≡ true
        → names_type (unwrap_or (option_map (λ (place : ℕ). record { table = t.table; rid = suc place }) o) t) ≡ true
    by None small e = e
    by (Some place) small e =
        tagged (nat_lt (suc place) (2 ^ 24)) (tag_of t.table) (λ tag. suc place * 4 + tag) (is_tagged (nat_lt t.rid (2 ^ 24)) (tag_of t.table) (λ tag. t.rid * 4 + tag) e)
        (grind (arith, nat_tests))
