-- Types: what is read is what is stripped, level by level.
use Rattle.std.proofs.Common.{◌≡◌, ℕ, suc, zero, List, [], ◌∷◌, Bool, true, false, cond, eqb, Option, Some, None, refl, sym, ap, subst, ◌∙◌}
use Rattle.cil_base.specs.Token.{Token}
use Rattle.cil_base.specs.inner.Reading.{compressed_at}
use Rattle.sig_tree.specs.declared.symbol.Symbol.TheVariants.{Byte}
use Rattle.sig_tree.specs.Symbols.{strip_symbols}
use Rattle.sig_tree.specs.Spelling.{type_symbols}
use Rattle.sig_tree.specs.Bounds.{is_prim, type_fits}
use Rattle.sig_tree.specs.Fronts.{wrap, type_token_at}
use Rattle.sig_tree.specs.Parsing.{method_at, array_at, inst_at, mod_at, wrapped_at, level_at, type_sig_at}
use Rattle.sig_tree.specs.declared.tree.TypeSig.{TypeSig}
use Rattle.sig_tree.specs.declared.tree.TypeSig.TheVariants.{Prim, Ptr, ByRef, Value, Class, Var, MVar, SzArray, Array, Inst, FnPtr, Mod, Pinned}
use Rattle.sig_tree.specs.declared.tree.TypeSig.TheOpen.{TypeSig-F}
use Rattle.sig_tree.specs.declared.tree.TypeSig.TheViews.{roll-TypeSig, out-TypeSig, roll-out-TypeSig, rolls-Prim, rolls-Ptr, rolls-ByRef, rolls-Value, rolls-Class, rolls-Var, rolls-MVar, rolls-SzArray, rolls-Array, rolls-Inst, rolls-FnPtr, rolls-Mod, rolls-Pinned}
use Rattle.sig_tree.specs.declared.tree.MethodSig.{MethodSig}
use Rattle.sig_tree.proofs.Strips.{Exact, split, same_some, none_some, begin, begins_with}
use Rattle.sig_tree.proofs.Rolls.{row-of, fit-of, fits_zero}
use Rattle.sig_tree.proofs.Variants.{Exactly, TypeFound, Reached, at_byte, full-Array, full-ByRef, full-Class, full-FnPtr, full-Inst, full-MVar, full-Mod, full-Pinned, full-Ptr, full-SzArray, full-Value, full-Var, sound-Array, sound-ByRef, sound-Class, sound-FnPtr, sound-Inst, sound-MVar, sound-Mod, sound-Pinned, sound-Ptr, sound-SzArray, sound-Value, sound-Var}

row-Prim : (code : ℕ) → type_symbols (Prim code) ≡ Byte code ∷ []
row-Prim code = row-of (TypeSig-F.Prim code) (Prim code) (rolls-Prim code)

fit-Prim : (code d : ℕ) → type_fits (Prim code) (suc d) ≡ is_prim code
fit-Prim code d = fit-of (TypeSig-F.Prim code) (Prim code) d (rolls-Prim code)

-- each sort of type after its first byte
level_sound : (d : ℕ) → Exactly d → ((s : List ℕ) → type_sig_at d (0x41 ∷ s) ≡ None) → (b : ℕ) (t : TypeSig) (s r : List ℕ) → level_at (type_sig_at d) b s ≡ Some (t, r) → TypeFound d t (b ∷ s) r
unfolding level_at
level_sound d exact free b t s r h =
    let P = TypeFound d t (b ∷ s) r in
    let none : Option (TypeSig × List ℕ) = None in
    let w4 = cond (eqb b 0x45) (wrap Pinned (type_sig_at d s)) none in
    let w3 = cond (eqb b 0x1d) (wrap SzArray (type_sig_at d s)) w4 in
    let w2 = cond (eqb b 0x10) (wrap ByRef (type_sig_at d s)) w3 in
    let w1 = cond (eqb b 0x0f) (wrap Ptr (type_sig_at d s)) w2 in
    let l9 = cond (eqb b 0x20) (mod_at (type_sig_at d) false s) w1 in
    let l8 = cond (eqb b 0x1f) (mod_at (type_sig_at d) true s) l9 in
    let l7 = cond (eqb b 0x1b) (wrap FnPtr (method_at (type_sig_at d) s)) l8 in
    let l6 = cond (eqb b 0x15) (inst_at (type_sig_at d) s) l7 in
    let l5 = cond (eqb b 0x14) (array_at (type_sig_at d) s) l6 in
    let l4 = cond (eqb b 0x1e) (wrap MVar (compressed_at s)) l5 in
    let l3 = cond (eqb b 0x13) (wrap Var (compressed_at s)) l4 in
    let l2 = cond (eqb b 0x12) (wrap Class (type_token_at s)) l3 in
    let l1 = cond (eqb b 0x11) (wrap Value (type_token_at s)) l2 in
    split {P = TypeFound d t (b ∷ s) r} (is_prim b) (Some (Prim b, s)) l1 (Some (t, r)) h
    (λ e f. subst (λ (x : TypeSig × List ℕ). TypeFound d x.0 (b ∷ s) x.1) (same_some (Prim b, s) (t, r) f) (record {
      strips = ap (λ ys. strip_symbols ys (b ∷ s)) (row-Prim b) ∙ begin b [] s s refl;
      fits = fit-Prim b d ∙ e;
    }))
    (λ e f. split {P = TypeFound d t (b ∷ s) r} (eqb b 0x11) (wrap Value (type_token_at s)) l2 (Some (t, r)) f (λ e f. at_byte d b 0x11 t s r e (sound-Value d t s r f))
    (λ e f. split {P = TypeFound d t (b ∷ s) r} (eqb b 0x12) (wrap Class (type_token_at s)) l3 (Some (t, r)) f (λ e f. at_byte d b 0x12 t s r e (sound-Class d t s r f))
    (λ e f. split {P = TypeFound d t (b ∷ s) r} (eqb b 0x13) (wrap Var (compressed_at s)) l4 (Some (t, r)) f (λ e f. at_byte d b 0x13 t s r e (sound-Var d t s r f))
    (λ e f. split {P = TypeFound d t (b ∷ s) r} (eqb b 0x1e) (wrap MVar (compressed_at s)) l5 (Some (t, r)) f (λ e f. at_byte d b 0x1e t s r e (sound-MVar d t s r f))
    (λ e f. split {P = TypeFound d t (b ∷ s) r} (eqb b 0x14) (array_at (type_sig_at d) s) l6 (Some (t, r)) f (λ e f. at_byte d b 0x14 t s r e (sound-Array d exact t s r f))
    (λ e f. split {P = TypeFound d t (b ∷ s) r} (eqb b 0x15) (inst_at (type_sig_at d) s) l7 (Some (t, r)) f (λ e f. at_byte d b 0x15 t s r e (sound-Inst d exact t s r f))
    (λ e f. split {P = TypeFound d t (b ∷ s) r} (eqb b 0x1b) (wrap FnPtr (method_at (type_sig_at d) s)) l8 (Some (t, r)) f (λ e f. at_byte d b 0x1b t s r e (sound-FnPtr d exact free t s r f))
    (λ e f. split {P = TypeFound d t (b ∷ s) r} (eqb b 0x1f) (mod_at (type_sig_at d) true s) l9 (Some (t, r)) f (λ e f. at_byte d b 0x1f t s r e (sound-Mod d exact true t s r f))
    (λ e f. split {P = TypeFound d t (b ∷ s) r} (eqb b 0x20) (mod_at (type_sig_at d) false s) w1 (Some (t, r)) f (λ e f. at_byte d b 0x20 t s r e (sound-Mod d exact false t s r f))
    (λ e f. split {P = TypeFound d t (b ∷ s) r} (eqb b 0x0f) (wrap Ptr (type_sig_at d s)) w2 (Some (t, r)) f (λ e f. at_byte d b 0x0f t s r e (sound-Ptr d exact t s r f))
    (λ e f. split {P = TypeFound d t (b ∷ s) r} (eqb b 0x10) (wrap ByRef (type_sig_at d s)) w3 (Some (t, r)) f (λ e f. at_byte d b 0x10 t s r e (sound-ByRef d exact t s r f))
    (λ e f. split {P = TypeFound d t (b ∷ s) r} (eqb b 0x1d) (wrap SzArray (type_sig_at d s)) w4 (Some (t, r)) f (λ e f. at_byte d b 0x1d t s r e (sound-SzArray d exact t s r f))
    (λ e f. split {P = TypeFound d t (b ∷ s) r} (eqb b 0x45) (wrap Pinned (type_sig_at d s)) none (Some (t, r)) f (λ e f. at_byte d b 0x45 t s r e (sound-Pinned d exact t s r f))
    (λ e f. none_some {A = TypeSig × List ℕ} {P = TypeFound d t (b ∷ s) r} (t, r) f))))))))))))))

Full : ℕ → TypeSig → Type 0
Full d t = (s r : List ℕ) → strip_symbols (type_symbols t) s ≡ Some r → type_fits t (suc d) ≡ true → type_sig_at (suc d) s ≡ Some (t, r)

reach : (d b : ℕ) (at : List ℕ → Option (TypeSig × List ℕ)) (t : TypeSig) (s r : List ℕ) → ((s : List ℕ) → type_sig_at (suc d) (b ∷ s) ≡ at s) → Reached b at t s r → type_sig_at (suc d) s ≡ Some (t, r)
reach d b at t s r step p = ap (type_sig_at (suc d)) p.front ∙ step p.rest ∙ p.found

mod_full : (d : ℕ) → Exactly d → (required : Bool) (of : Token) (u : TypeSig) → ((b : Bool) (s : List ℕ) → type_sig_at (suc d) (cond b 0x1f 0x20 ∷ s) ≡ mod_at (type_sig_at d) b s) → Full d (Mod required of u)
unfolding Full
mod_full d exact required of u step = λ s r h k. reach d (cond required 0x1f 0x20) (mod_at (type_sig_at d) required) (Mod required of u) s r (step required) (full-Mod d exact required of u s r h k)

mod_step : (d : ℕ) (b : Bool) (s : List ℕ) → type_sig_at (suc d) (cond b 0x1f 0x20 ∷ s) ≡ mod_at (type_sig_at d) b s
unfolding type_sig_at level_at
mod_step d true s = refl
mod_step d false s = refl

prim_full : (d code : ℕ) → Full d (Prim code)
unfolding Full type_sig_at level_at
prim_full d code = λ s r h k.
    let b = begins_with code [] s r (sym (ap (λ ys. strip_symbols ys s) (row-Prim code)) ∙ h) in
    ap (type_sig_at (suc d)) b.front
    ∙ ap (λ (v : Bool). cond {A = Option (TypeSig × List ℕ)} v (Some (Prim code, b.rest)) ((cond (eqb code 0x11) (wrap Value (type_token_at b.rest)) (cond (eqb code 0x12) (wrap Class (type_token_at b.rest)) (cond (eqb code 0x13) (wrap Var (compressed_at b.rest)) (cond (eqb code 0x1e) (wrap MVar (compressed_at b.rest)) (cond (eqb code 0x14) (array_at (type_sig_at d) b.rest) (cond (eqb code 0x15) (inst_at (type_sig_at d) b.rest) (cond (eqb code 0x1b) (wrap FnPtr (method_at (type_sig_at d) b.rest)) (cond (eqb code 0x1f) (mod_at (type_sig_at d) true b.rest) (cond (eqb code 0x20) (mod_at (type_sig_at d) false b.rest) (wrapped_at (type_sig_at d) code b.rest)))))))))))) (sym (fit-Prim code d) ∙ k)
    ∙ ap (λ r. Some (Prim code, r)) (same_some b.rest r b.then)

open_full : (d : ℕ) → Exactly d → ((s : List ℕ) → type_sig_at d (0x41 ∷ s) ≡ None) → (x : TypeSig-F TypeSig MethodSig) → Full d (roll-TypeSig x)
unfolding Full type_sig_at level_at
open_full d exact free (TypeSig-F.Prim code) = subst (Full d) (sym (rolls-Prim code)) (prim_full d code)
open_full d exact free (TypeSig-F.Ptr u) = subst (Full d) (sym (rolls-Ptr u)) (λ s r h k. reach d 0x0f (λ s. wrap Ptr (type_sig_at d s)) (Ptr u) s r (λ s. refl) (full-Ptr d exact u s r h k))
open_full d exact free (TypeSig-F.ByRef u) = subst (Full d) (sym (rolls-ByRef u)) (λ s r h k. reach d 0x10 (λ s. wrap ByRef (type_sig_at d s)) (ByRef u) s r (λ s. refl) (full-ByRef d exact u s r h k))
open_full d exact free (TypeSig-F.Value of) = subst (Full d) (sym (rolls-Value of)) (λ s r h k. reach d 0x11 (λ s. wrap Value (type_token_at s)) (Value of) s r (λ s. refl) (full-Value d of s r h k))
open_full d exact free (TypeSig-F.Class of) = subst (Full d) (sym (rolls-Class of)) (λ s r h k. reach d 0x12 (λ s. wrap Class (type_token_at s)) (Class of) s r (λ s. refl) (full-Class d of s r h k))
open_full d exact free (TypeSig-F.Var n) = subst (Full d) (sym (rolls-Var n)) (λ s r h k. reach d 0x13 (λ s. wrap Var (compressed_at s)) (Var n) s r (λ s. refl) (full-Var d n s r h k))
open_full d exact free (TypeSig-F.MVar n) = subst (Full d) (sym (rolls-MVar n)) (λ s r h k. reach d 0x1e (λ s. wrap MVar (compressed_at s)) (MVar n) s r (λ s. refl) (full-MVar d n s r h k))
open_full d exact free (TypeSig-F.SzArray u) = subst (Full d) (sym (rolls-SzArray u)) (λ s r h k. reach d 0x1d (λ s. wrap SzArray (type_sig_at d s)) (SzArray u) s r (λ s. refl) (full-SzArray d exact u s r h k))
open_full d exact free (TypeSig-F.Array elem rank sizes lows) = subst (Full d) (sym (rolls-Array elem rank sizes lows)) (λ s r h k. reach d 0x14 (array_at (type_sig_at d)) (Array elem rank sizes lows) s r (λ s. refl) (full-Array d exact elem rank sizes lows s r h k))
open_full d exact free (TypeSig-F.Inst value of args) = subst (Full d) (sym (rolls-Inst value of args)) (λ s r h k. reach d 0x15 (inst_at (type_sig_at d)) (Inst value of args) s r (λ s. refl) (full-Inst d exact value of args s r h k))
open_full d exact free (TypeSig-F.FnPtr m) = subst (Full d) (sym (rolls-FnPtr m)) (λ s r h k. reach d 0x1b (λ s. wrap FnPtr (method_at (type_sig_at d) s)) (FnPtr m) s r (λ s. refl) (full-FnPtr d exact free m s r h k))
open_full d exact free (TypeSig-F.Mod required of u) = subst (Full d) (sym (rolls-Mod required of u)) (mod_full d exact required of u (mod_step d))
open_full d exact free (TypeSig-F.Pinned u) = subst (Full d) (sym (rolls-Pinned u)) (λ s r h k. reach d 0x45 (λ s. wrap Pinned (type_sig_at d s)) (Pinned u) s r (λ s. refl) (full-Pinned d exact u s r h k))

-- no type begins with a sentinel
pub sentinel_none : (d : ℕ) (s : List ℕ) → type_sig_at d (0x41 ∷ s) ≡ None
unfolding type_sig_at level_at
sentinel_none zero s = refl
sentinel_none (suc d) s = refl

step_sound : (d : ℕ) → Exactly d → (t : TypeSig) (s r : List ℕ) → type_sig_at (suc d) s ≡ Some (t, r) → TypeFound d t s r
unfolding type_sig_at
step_sound d exact t [] r h = none_some {A = TypeSig × List ℕ} {P = TypeFound d t [] r} (t, r) h
step_sound d exact t (b ∷ s) r h = level_sound d exact (sentinel_none d) b t s r h

-- what is read as a type of at most a depth is what such a type strips
pub type_exact : (d : ℕ) → Exact TypeSig (type_sig_at d) type_symbols (λ t. type_fits t d)
unfolding Full type_sig_at
type_exact zero = record {
  sound = λ t s r h. none_some {A = TypeSig × List ℕ} {P = (strip_symbols (type_symbols t) s ≡ Some r) × (type_fits t 0 ≡ true)} (t, r) h;
  full = λ t s r h k. let e = fits_zero t in absurd cc;
}
type_exact (suc d) = record {
  sound = λ t s r h. let p = step_sound d (type_exact d) t s r h in (p.strips, p.fits);
  full = λ t s r h k. (let full : Full d t = subst (Full d) (roll-out-TypeSig t) (open_full d (type_exact d) (sentinel_none d) (out-TypeSig t)) in full) s r h k;
}
