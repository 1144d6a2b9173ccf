-- The variants of a type: what is read after the first byte is what is stripped.
use Rattle.std.proofs.Common.{◌≡◌, ℕ, suc, List, [], ◌∷◌, ◌++◌, Bool, true, false, cond, eqb, ℤ, Option, Some, None, length, map, refl, sym, ap, subst, ◌∙◌}
use Rattle.std.proofs.lemmas.Bool.{eqb-true}
use Rattle.cil_base.specs.Token.{Token}
use Rattle.cil_base.specs.inner.Reading.{compressed_at, signed_at}
use Rattle.sig_tree.specs.declared.symbol.Symbol.{Symbol}
use Rattle.sig_tree.specs.declared.symbol.Symbol.TheVariants.{Byte, Number, Signed, TypeToken}
use Rattle.sig_tree.specs.Symbols.{strip_symbols}
use Rattle.sig_tree.specs.Spelling.{in_order, counted, method_symbols, type_symbols}
use Rattle.sig_tree.specs.Bounds.{type_fits, method_fits}
use Rattle.sig_tree.specs.Fronts.{after_value, wrap, counted_at, type_token_at}
use Rattle.sig_tree.specs.Parsing.{method_at, array_at, kind_at, inst_at, mod_at, type_sig_at}
use Rattle.sig_tree.specs.declared.tree.TypeSig.{TypeSig}
use Rattle.sig_tree.specs.declared.tree.TypeSig.TheVariants.{Ptr, ByRef, Value, Class, Var, MVar, SzArray, Array, Inst, FnPtr, Mod, Pinned}
use Rattle.sig_tree.specs.declared.tree.TypeSig.TheOpen.{TypeSig-F}
use Rattle.sig_tree.specs.declared.tree.TypeSig.TheViews.{rolls-Ptr, rolls-ByRef, rolls-Value, rolls-Class, rolls-Var, rolls-MVar, rolls-SzArray, rolls-Array, rolls-FnPtr, rolls-Mod, rolls-Pinned}
use Rattle.sig_tree.specs.declared.tree.MethodSig.{MethodSig}
use Rattle.sig_tree.proofs.Strips.{Exact, split, same_some, none_some, came, wrapped, goes, wraps, parts, follows, begin, begins_with}
use Rattle.sig_tree.proofs.Leaves.{number_exact, signed_exact, token_exact}
use Rattle.sig_tree.proofs.Methods.{method_sound, method_full}
use Rattle.sig_tree.proofs.Rolls.{row-of, fit-of, row-Inst, fit-Inst}
use Rattle.sig_tree.proofs.Counts.{counted_exact, types_exact}

-- a type that was read
pub record TypeFound (d : ℕ) (t : TypeSig) (s r : List ℕ) : Type 0 where
  pub strips : strip_symbols (type_symbols t) s ≡ Some r
  pub fits : type_fits t (suc d) ≡ true

-- a type that can be read after its first byte
pub record Reached (b : ℕ) (at : List ℕ → Option (TypeSig × List ℕ)) (t : TypeSig) (s r : List ℕ) : Type 0 where
  pub rest : List ℕ
  pub front : s ≡ b ∷ rest
  pub found : at rest ≡ Some (t, r)

-- a type of one part after its first byte
unary_sound : {A : Type 0} (d b : ℕ) (f : A → TypeSig) (at : List ℕ → Option (A × List ℕ)) (row : A → List Symbol) (test : A → Bool) → Exact A at row test
    → ((a : A) → type_symbols (f a) ≡ Byte b ∷ row a) → ((a : A) → type_fits (f a) (suc d) ≡ test a)
    → (t : TypeSig) (s r : List ℕ) → wrap f (at s) ≡ Some (t, r) → TypeFound d t (b ∷ s) r
unary_sound d b f at row test exact row_is fit_is t s r h =
    let w = wrapped f (at s) t r h in
    let p = exact.sound w.value s r w.first in
    subst (λ t. TypeFound d t (b ∷ s) r) w.same (record {
      strips = ap (λ ys. strip_symbols ys (b ∷ s)) (row_is w.value) ∙ begin b (row w.value) s r p.0;
      fits = fit_is w.value ∙ p.1;
    })

unary_full : {A : Type 0} (d b : ℕ) (f : A → TypeSig) (at : List ℕ → Option (A × List ℕ)) (row : A → List Symbol) (test : A → Bool) → Exact A at row test
    → ((a : A) → type_symbols (f a) ≡ Byte b ∷ row a) → ((a : A) → type_fits (f a) (suc d) ≡ test a)
    → (a : A) (s r : List ℕ) → strip_symbols (type_symbols (f a)) s ≡ Some r → type_fits (f a) (suc d) ≡ true → Reached b (λ s. wrap f (at s)) (f a) s r
unary_full d b f at row test exact row_is fit_is a s r h k =
    let p = begins_with b (row a) s r (sym (ap (λ ys. strip_symbols ys s) (row_is a)) ∙ h) in
    record { rest = p.rest; front = p.front; found = wraps f (at p.rest) a r (exact.full a p.rest r p.then (sym (fit_is a) ∙ k)) }

abbrev pub Exactly : ℕ → Type 0
Exactly d = Exact TypeSig (type_sig_at d) type_symbols (λ t. type_fits t d)

-- the same at another name of the byte
pub at_byte : (d b n : ℕ) (t : TypeSig) (s r : List ℕ) → eqb b n ≡ true → TypeFound d t (n ∷ s) r → TypeFound d t (b ∷ s) r
at_byte d b n t s r e h = subst (λ k. TypeFound d t (k ∷ s) r) (sym (eqb-true b n e)) h

-- methods
method_exact : (d : ℕ) → Exactly d → ((s : List ℕ) → type_sig_at d (0x41 ∷ s) ≡ None) → Exact MethodSig (method_at (type_sig_at d)) method_symbols (λ m. method_fits m true d)
method_exact d exact free = record {
  sound = λ m s r h. let p = method_sound (type_sig_at d) d exact m s r h in (p.strips, p.fits);
  full = λ m s r h k. method_full (type_sig_at d) d exact free m s r h k;
}

pub sound-Value : (d : ℕ) (t : TypeSig) (s r : List ℕ) → wrap Value (type_token_at s) ≡ Some (t, r) → TypeFound d t (0x11 ∷ s) r
sound-Value d = unary_sound d 0x11 Value type_token_at (λ t. TypeToken t ∷ []) (λ t. true) token_exact (λ a. row-of (TypeSig-F.Value a) (Value a) (rolls-Value a)) (λ a. fit-of (TypeSig-F.Value a) (Value a) d (rolls-Value a))

pub full-Value : (d : ℕ) (a : Token) (s r : List ℕ) → strip_symbols (type_symbols (Value a)) s ≡ Some r → type_fits (Value a) (suc d) ≡ true → Reached 0x11 (λ s. wrap Value (type_token_at s)) (Value a) s r
full-Value d = unary_full d 0x11 Value type_token_at (λ t. TypeToken t ∷ []) (λ t. true) token_exact (λ a. row-of (TypeSig-F.Value a) (Value a) (rolls-Value a)) (λ a. fit-of (TypeSig-F.Value a) (Value a) d (rolls-Value a))

pub sound-Class : (d : ℕ) (t : TypeSig) (s r : List ℕ) → wrap Class (type_token_at s) ≡ Some (t, r) → TypeFound d t (0x12 ∷ s) r
sound-Class d = unary_sound d 0x12 Class type_token_at (λ t. TypeToken t ∷ []) (λ t. true) token_exact (λ a. row-of (TypeSig-F.Class a) (Class a) (rolls-Class a)) (λ a. fit-of (TypeSig-F.Class a) (Class a) d (rolls-Class a))

pub full-Class : (d : ℕ) (a : Token) (s r : List ℕ) → strip_symbols (type_symbols (Class a)) s ≡ Some r → type_fits (Class a) (suc d) ≡ true → Reached 0x12 (λ s. wrap Class (type_token_at s)) (Class a) s r
full-Class d = unary_full d 0x12 Class type_token_at (λ t. TypeToken t ∷ []) (λ t. true) token_exact (λ a. row-of (TypeSig-F.Class a) (Class a) (rolls-Class a)) (λ a. fit-of (TypeSig-F.Class a) (Class a) d (rolls-Class a))

pub sound-Var : (d : ℕ) (t : TypeSig) (s r : List ℕ) → wrap Var (compressed_at s) ≡ Some (t, r) → TypeFound d t (0x13 ∷ s) r
sound-Var d = unary_sound d 0x13 Var compressed_at (λ n. Number n ∷ []) (λ n. true) number_exact (λ a. row-of (TypeSig-F.Var a) (Var a) (rolls-Var a)) (λ a. fit-of (TypeSig-F.Var a) (Var a) d (rolls-Var a))

pub full-Var : (d : ℕ) (a : ℕ) (s r : List ℕ) → strip_symbols (type_symbols (Var a)) s ≡ Some r → type_fits (Var a) (suc d) ≡ true → Reached 0x13 (λ s. wrap Var (compressed_at s)) (Var a) s r
full-Var d = unary_full d 0x13 Var compressed_at (λ n. Number n ∷ []) (λ n. true) number_exact (λ a. row-of (TypeSig-F.Var a) (Var a) (rolls-Var a)) (λ a. fit-of (TypeSig-F.Var a) (Var a) d (rolls-Var a))

pub sound-MVar : (d : ℕ) (t : TypeSig) (s r : List ℕ) → wrap MVar (compressed_at s) ≡ Some (t, r) → TypeFound d t (0x1e ∷ s) r
sound-MVar d = unary_sound d 0x1e MVar compressed_at (λ n. Number n ∷ []) (λ n. true) number_exact (λ a. row-of (TypeSig-F.MVar a) (MVar a) (rolls-MVar a)) (λ a. fit-of (TypeSig-F.MVar a) (MVar a) d (rolls-MVar a))

pub full-MVar : (d : ℕ) (a : ℕ) (s r : List ℕ) → strip_symbols (type_symbols (MVar a)) s ≡ Some r → type_fits (MVar a) (suc d) ≡ true → Reached 0x1e (λ s. wrap MVar (compressed_at s)) (MVar a) s r
full-MVar d = unary_full d 0x1e MVar compressed_at (λ n. Number n ∷ []) (λ n. true) number_exact (λ a. row-of (TypeSig-F.MVar a) (MVar a) (rolls-MVar a)) (λ a. fit-of (TypeSig-F.MVar a) (MVar a) d (rolls-MVar a))

pub sound-Ptr : (d : ℕ) → Exactly d → (t : TypeSig) (s r : List ℕ) → wrap Ptr (type_sig_at d s) ≡ Some (t, r) → TypeFound d t (0x0f ∷ s) r
sound-Ptr d exact = unary_sound d 0x0f Ptr (type_sig_at d) type_symbols (λ t. type_fits t d) exact (λ u. row-of (TypeSig-F.Ptr u) (Ptr u) (rolls-Ptr u)) (λ u. fit-of (TypeSig-F.Ptr u) (Ptr u) d (rolls-Ptr u))

pub full-Ptr : (d : ℕ) → Exactly d → (u : TypeSig) (s r : List ℕ) → strip_symbols (type_symbols (Ptr u)) s ≡ Some r → type_fits (Ptr u) (suc d) ≡ true → Reached 0x0f (λ s. wrap Ptr (type_sig_at d s)) (Ptr u) s r
full-Ptr d exact = unary_full d 0x0f Ptr (type_sig_at d) type_symbols (λ t. type_fits t d) exact (λ u. row-of (TypeSig-F.Ptr u) (Ptr u) (rolls-Ptr u)) (λ u. fit-of (TypeSig-F.Ptr u) (Ptr u) d (rolls-Ptr u))

pub sound-ByRef : (d : ℕ) → Exactly d → (t : TypeSig) (s r : List ℕ) → wrap ByRef (type_sig_at d s) ≡ Some (t, r) → TypeFound d t (0x10 ∷ s) r
sound-ByRef d exact = unary_sound d 0x10 ByRef (type_sig_at d) type_symbols (λ t. type_fits t d) exact (λ u. row-of (TypeSig-F.ByRef u) (ByRef u) (rolls-ByRef u)) (λ u. fit-of (TypeSig-F.ByRef u) (ByRef u) d (rolls-ByRef u))

pub full-ByRef : (d : ℕ) → Exactly d → (u : TypeSig) (s r : List ℕ) → strip_symbols (type_symbols (ByRef u)) s ≡ Some r → type_fits (ByRef u) (suc d) ≡ true → Reached 0x10 (λ s. wrap ByRef (type_sig_at d s)) (ByRef u) s r
full-ByRef d exact = unary_full d 0x10 ByRef (type_sig_at d) type_symbols (λ t. type_fits t d) exact (λ u. row-of (TypeSig-F.ByRef u) (ByRef u) (rolls-ByRef u)) (λ u. fit-of (TypeSig-F.ByRef u) (ByRef u) d (rolls-ByRef u))

pub sound-SzArray : (d : ℕ) → Exactly d → (t : TypeSig) (s r : List ℕ) → wrap SzArray (type_sig_at d s) ≡ Some (t, r) → TypeFound d t (0x1d ∷ s) r
sound-SzArray d exact = unary_sound d 0x1d SzArray (type_sig_at d) type_symbols (λ t. type_fits t d) exact (λ u. row-of (TypeSig-F.SzArray u) (SzArray u) (rolls-SzArray u)) (λ u. fit-of (TypeSig-F.SzArray u) (SzArray u) d (rolls-SzArray u))

pub full-SzArray : (d : ℕ) → Exactly d → (u : TypeSig) (s r : List ℕ) → strip_symbols (type_symbols (SzArray u)) s ≡ Some r → type_fits (SzArray u) (suc d) ≡ true → Reached 0x1d (λ s. wrap SzArray (type_sig_at d s)) (SzArray u) s r
full-SzArray d exact = unary_full d 0x1d SzArray (type_sig_at d) type_symbols (λ t. type_fits t d) exact (λ u. row-of (TypeSig-F.SzArray u) (SzArray u) (rolls-SzArray u)) (λ u. fit-of (TypeSig-F.SzArray u) (SzArray u) d (rolls-SzArray u))

pub sound-Pinned : (d : ℕ) → Exactly d → (t : TypeSig) (s r : List ℕ) → wrap Pinned (type_sig_at d s) ≡ Some (t, r) → TypeFound d t (0x45 ∷ s) r
sound-Pinned d exact = unary_sound d 0x45 Pinned (type_sig_at d) type_symbols (λ t. type_fits t d) exact (λ u. row-of (TypeSig-F.Pinned u) (Pinned u) (rolls-Pinned u)) (λ u. fit-of (TypeSig-F.Pinned u) (Pinned u) d (rolls-Pinned u))

pub full-Pinned : (d : ℕ) → Exactly d → (u : TypeSig) (s r : List ℕ) → strip_symbols (type_symbols (Pinned u)) s ≡ Some r → type_fits (Pinned u) (suc d) ≡ true → Reached 0x45 (λ s. wrap Pinned (type_sig_at d s)) (Pinned u) s r
full-Pinned d exact = unary_full d 0x45 Pinned (type_sig_at d) type_symbols (λ t. type_fits t d) exact (λ u. row-of (TypeSig-F.Pinned u) (Pinned u) (rolls-Pinned u)) (λ u. fit-of (TypeSig-F.Pinned u) (Pinned u) d (rolls-Pinned u))

pub sound-FnPtr : (d : ℕ) → Exactly d → ((s : List ℕ) → type_sig_at d (0x41 ∷ s) ≡ None) → (t : TypeSig) (s r : List ℕ) → wrap FnPtr (method_at (type_sig_at d) s) ≡ Some (t, r) → TypeFound d t (0x1b ∷ s) r
sound-FnPtr d exact free = unary_sound d 0x1b FnPtr (method_at (type_sig_at d)) method_symbols (λ m. method_fits m true d) (method_exact d exact free) (λ m. row-of (TypeSig-F.FnPtr m) (FnPtr m) (rolls-FnPtr m)) (λ m. fit-of (TypeSig-F.FnPtr m) (FnPtr m) d (rolls-FnPtr m))

pub full-FnPtr : (d : ℕ) → Exactly d → ((s : List ℕ) → type_sig_at d (0x41 ∷ s) ≡ None) → (m : MethodSig) (s r : List ℕ) → strip_symbols (type_symbols (FnPtr m)) s ≡ Some r → type_fits (FnPtr m) (suc d) ≡ true → Reached 0x1b (λ s. wrap FnPtr (method_at (type_sig_at d) s)) (FnPtr m) s r
full-FnPtr d exact free = unary_full d 0x1b FnPtr (method_at (type_sig_at d)) method_symbols (λ m. method_fits m true d) (method_exact d exact free) (λ m. row-of (TypeSig-F.FnPtr m) (FnPtr m) (rolls-FnPtr m)) (λ m. fit-of (TypeSig-F.FnPtr m) (FnPtr m) d (rolls-FnPtr m))

pub sound-Mod : (d : ℕ) → Exactly d → (required : Bool) (t : TypeSig) (s r : List ℕ) → mod_at (type_sig_at d) required s ≡ Some (t, r) → TypeFound d t (cond required 0x1f 0x20 ∷ s) r
sound-Mod d exact required t s r h =
    let c = came (type_token_at s) (λ of r. wrap (λ inner. Mod required of inner) (type_sig_at d r)) (t, r) h in
    let w = wrapped (λ inner. Mod required c.value inner) (type_sig_at d c.rest) t r c.then in
    let p = token_exact.sound c.value s c.rest c.first in
    let q = exact.sound w.value c.rest r w.first in
    subst (λ t. TypeFound d t (cond required 0x1f 0x20 ∷ s) r) w.same (record {
      strips = ap (λ ys. strip_symbols ys (cond required 0x1f 0x20 ∷ s)) (row-of (TypeSig-F.Mod required c.value w.value) (Mod required c.value w.value) (rolls-Mod required c.value w.value))
          ∙ begin (cond required 0x1f 0x20) (TypeToken c.value ∷ type_symbols w.value) s r (follows (TypeToken c.value ∷ []) (type_symbols w.value) s c.rest r p.0 q.0);
      fits = fit-of (TypeSig-F.Mod required c.value w.value) (Mod required c.value w.value) d (rolls-Mod required c.value w.value) ∙ q.1;
    })

pub full-Mod : (d : ℕ) → Exactly d → (required : Bool) (of : Token) (u : TypeSig) (s r : List ℕ) → strip_symbols (type_symbols (Mod required of u)) s ≡ Some r → type_fits (Mod required of u) (suc d) ≡ true → Reached (cond required 0x1f 0x20) (mod_at (type_sig_at d) required) (Mod required of u) s r
full-Mod d exact required of u s r h k =
    let b = begins_with (cond required 0x1f 0x20) (TypeToken of ∷ type_symbols u) s r (sym (ap (λ ys. strip_symbols ys s) (row-of (TypeSig-F.Mod required of u) (Mod required of u) (rolls-Mod required of u))) ∙ h) in
    let p = parts (TypeToken of ∷ []) (type_symbols u) b.rest r b.then in
    let q = sym (fit-of (TypeSig-F.Mod required of u) (Mod required of u) d (rolls-Mod required of u)) ∙ k in
    record {
      rest = b.rest;
      front = b.front;
      found = goes (type_token_at b.rest) (λ of r. wrap (λ inner. Mod required of inner) (type_sig_at d r)) of p.rest (token_exact.full of b.rest p.rest p.before refl)
          ∙ wraps (λ inner. Mod required of inner) (type_sig_at d p.rest) u r (exact.full u p.rest r p.then q);
    }

kind_sound : (value : Bool) (s r : List ℕ) → kind_at s ≡ Some (value, r) → (strip_symbols (Byte (cond value 0x11 0x12) ∷ []) s ≡ Some r) × (true ≡ true)
kind_sound value [] r h = none_some {A = Bool × List ℕ} {P = (strip_symbols (Byte (cond value 0x11 0x12) ∷ []) [] ≡ Some r) × (true ≡ true)} (value, r) h
kind_sound value (b ∷ s) r h =
    let P : Type 0 = (strip_symbols (Byte (cond value 0x11 0x12) ∷ []) (b ∷ s) ≡ Some r) × (true ≡ true) in
    split {P = P} (eqb b 0x11) (Some (true, s)) (cond (eqb b 0x12) (Some (false, s)) None) (Some (value, r)) h
    (λ e f. subst (λ (x : Bool × List ℕ). (strip_symbols (Byte (cond x.0 0x11 0x12) ∷ []) (b ∷ s) ≡ Some x.1) × (true ≡ true)) (same_some (true, s) (value, r) f)
    (ap (λ k. strip_symbols (Byte 0x11 ∷ []) (k ∷ s)) (eqb-true b 0x11 e) ∙ begin 0x11 [] s s refl, refl))
    (λ e f. split {P = P} (eqb b 0x12) (Some (false, s)) None (Some (value, r)) f
    (λ e f. subst (λ (x : Bool × List ℕ). (strip_symbols (Byte (cond x.0 0x11 0x12) ∷ []) (b ∷ s) ≡ Some x.1) × (true ≡ true)) (same_some (false, s) (value, r) f)
    (ap (λ k. strip_symbols (Byte 0x12 ∷ []) (k ∷ s)) (eqb-true b 0x12 e) ∙ begin 0x12 [] s s refl, refl))
    (λ e f. none_some {A = Bool × List ℕ} {P = P} (value, r) f))

kind_full : (value : Bool) (s r : List ℕ) → strip_symbols (Byte (cond value 0x11 0x12) ∷ []) s ≡ Some r → true ≡ true → kind_at s ≡ Some (value, r)
kind_full true s r h k = let b = begins_with 0x11 [] s r h in ap kind_at b.front ∙ ap (λ r. Some (true, r)) (same_some b.rest r b.then)
kind_full false s r h k = let b = begins_with 0x12 [] s r h in ap kind_at b.front ∙ ap (λ r. Some (false, r)) (same_some b.rest r b.then)

kind_exact : Exact Bool kind_at (λ value. Byte (cond value 0x11 0x12) ∷ []) (λ value. true)
kind_exact = record { sound = kind_sound; full = kind_full }

pub sound-Inst : (d : ℕ) → Exactly d → (t : TypeSig) (s r : List ℕ) → inst_at (type_sig_at d) s ≡ Some (t, r) → TypeFound d t (0x15 ∷ s) r
sound-Inst d exact t s r h =
    let a = came (kind_at s) (λ value r. after_value (type_token_at r) (λ of r. wrap (λ args. Inst value of args) (counted_at (type_sig_at d) r))) (t, r) h in
    let b = came (type_token_at a.rest) (λ of r. wrap (λ args. Inst a.value of args) (counted_at (type_sig_at d) r)) (t, r) a.then in
    let w = wrapped (λ args. Inst a.value b.value args) (counted_at (type_sig_at d) b.rest) t r b.then in
    let p = kind_exact.sound a.value s a.rest a.first in
    let q = token_exact.sound b.value a.rest b.rest b.first in
    let m = (types_exact (type_sig_at d) (λ t. type_fits t d) exact).sound w.value b.rest r w.first in
    let types = Number (length w.value) ∷ in_order (map type_symbols w.value) in
    subst (λ t. TypeFound d t (0x15 ∷ s) r) w.same (record {
      strips = ap (λ ys. strip_symbols ys (0x15 ∷ s)) (row-Inst a.value b.value w.value)
          ∙ begin 0x15 (Byte (cond a.value 0x11 0x12) ∷ TypeToken b.value ∷ types) s r
          (follows (Byte (cond a.value 0x11 0x12) ∷ []) (TypeToken b.value ∷ types) s a.rest r p.0 (follows (TypeToken b.value ∷ []) types a.rest b.rest r q.0 m.0));
      fits = fit-Inst a.value b.value w.value d ∙ m.1;
    })

pub full-Inst : (d : ℕ) → Exactly d → (value : Bool) (of : Token) (args : List TypeSig) (s r : List ℕ) → strip_symbols (type_symbols (Inst value of args)) s ≡ Some r → type_fits (Inst value of args) (suc d) ≡ true → Reached 0x15 (inst_at (type_sig_at d)) (Inst value of args) s r
full-Inst d exact value of args s r h k =
    let types = Number (length args) ∷ in_order (map type_symbols args) in
    let b = begins_with 0x15 (Byte (cond value 0x11 0x12) ∷ TypeToken of ∷ types) s r (sym (ap (λ ys. strip_symbols ys s) (row-Inst value of args)) ∙ h) in
    let p = parts (Byte (cond value 0x11 0x12) ∷ []) (TypeToken of ∷ types) b.rest r b.then in
    let q = parts (TypeToken of ∷ []) types p.rest r p.then in
    record {
      rest = b.rest;
      front = b.front;
      found = goes (kind_at b.rest) (λ value r. after_value (type_token_at r) (λ of r. wrap (λ args. Inst value of args) (counted_at (type_sig_at d) r))) value p.rest (kind_exact.full value b.rest p.rest p.before refl)
          ∙ goes (type_token_at p.rest) (λ of r. wrap (λ args. Inst value of args) (counted_at (type_sig_at d) r)) of q.rest (token_exact.full of p.rest q.rest q.before refl)
          ∙ wraps (λ args. Inst value of args) (counted_at (type_sig_at d) q.rest) args r ((types_exact (type_sig_at d) (λ t. type_fits t d) exact).full args q.rest r q.then (sym (fit-Inst value of args d) ∙ k));
    }

abbrev array_symbols : TypeSig → ℕ → List ℕ → List ℤ → List Symbol
array_symbols elem rank sizes lows = type_symbols elem ++ (Number rank ∷ (counted (map Number sizes) ++ counted (map Signed lows)))

sizes_exact : Exact (List ℕ) (counted_at compressed_at) (λ xs. counted (map Number xs)) (λ xs. true)
sizes_exact = counted_exact compressed_at Number number_exact

lows_exact : Exact (List ℤ) (counted_at signed_at) (λ xs. counted (map Signed xs)) (λ xs. true)
lows_exact = counted_exact signed_at Signed signed_exact

pub sound-Array : (d : ℕ) → Exactly d → (t : TypeSig) (s r : List ℕ) → array_at (type_sig_at d) s ≡ Some (t, r) → TypeFound d t (0x14 ∷ s) r
sound-Array d exact t s r h =
    let a = came (type_sig_at d s) (λ elem r. after_value (compressed_at r) (λ rank r. after_value (counted_at compressed_at r) (λ sizes r. wrap (λ lows. Array elem rank sizes lows) (counted_at signed_at r)))) (t, r) h in
    let b = came (compressed_at a.rest) (λ rank r. after_value (counted_at compressed_at r) (λ sizes r. wrap (λ lows. Array a.value rank sizes lows) (counted_at signed_at r))) (t, r) a.then in
    let c = came (counted_at compressed_at b.rest) (λ sizes r. wrap (λ lows. Array a.value b.value sizes lows) (counted_at signed_at r)) (t, r) b.then in
    let w = wrapped (λ lows. Array a.value b.value c.value lows) (counted_at signed_at c.rest) t r c.then in
    let p = exact.sound a.value s a.rest a.first in
    let q = number_exact.sound b.value a.rest b.rest b.first in
    let m = sizes_exact.sound c.value b.rest c.rest c.first in
    let n = lows_exact.sound w.value c.rest r w.first in
    let last = follows (counted (map Number c.value)) (counted (map Signed w.value)) b.rest c.rest r m.0 n.0 in
    let middle = follows (Number b.value ∷ []) (counted (map Number c.value) ++ counted (map Signed w.value)) a.rest b.rest r q.0 last in
    subst (λ t. TypeFound d t (0x14 ∷ s) r) w.same (record {
      strips = ap (λ ys. strip_symbols ys (0x14 ∷ s)) (row-of (TypeSig-F.Array a.value b.value c.value w.value) (Array a.value b.value c.value w.value) (rolls-Array a.value b.value c.value w.value))
          ∙ begin 0x14 (array_symbols a.value b.value c.value w.value) s r (follows (type_symbols a.value) (Number b.value ∷ (counted (map Number c.value) ++ counted (map Signed w.value))) s a.rest r p.0 middle);
      fits = fit-of (TypeSig-F.Array a.value b.value c.value w.value) (Array a.value b.value c.value w.value) d (rolls-Array a.value b.value c.value w.value) ∙ p.1;
    })

pub full-Array : (d : ℕ) → Exactly d → (elem : TypeSig) (rank : ℕ) (sizes : List ℕ) (lows : List ℤ) (s r : List ℕ) → strip_symbols (type_symbols (Array elem rank sizes lows)) s ≡ Some r → type_fits (Array elem rank sizes lows) (suc d) ≡ true → Reached 0x14 (array_at (type_sig_at d)) (Array elem rank sizes lows) s r
full-Array d exact elem rank sizes lows s r h k =
    let b = begins_with 0x14 (array_symbols elem rank sizes lows) s r (sym (ap (λ ys. strip_symbols ys s) (row-of (TypeSig-F.Array elem rank sizes lows) (Array elem rank sizes lows) (rolls-Array elem rank sizes lows))) ∙ h) in
    let p = parts (type_symbols elem) (Number rank ∷ (counted (map Number sizes) ++ counted (map Signed lows))) b.rest r b.then in
    let q = parts (Number rank ∷ []) (counted (map Number sizes) ++ counted (map Signed lows)) p.rest r p.then in
    let m = parts (counted (map Number sizes)) (counted (map Signed lows)) q.rest r q.then in
    let fit = sym (fit-of (TypeSig-F.Array elem rank sizes lows) (Array elem rank sizes lows) d (rolls-Array elem rank sizes lows)) ∙ k in
    record {
      rest = b.rest;
      front = b.front;
      found = goes (type_sig_at d b.rest) (λ elem r. after_value (compressed_at r) (λ rank r. after_value (counted_at compressed_at r) (λ sizes r. wrap (λ lows. Array elem rank sizes lows) (counted_at signed_at r)))) elem p.rest (exact.full elem b.rest p.rest p.before fit)
          ∙ goes (compressed_at p.rest) (λ rank r. after_value (counted_at compressed_at r) (λ sizes r. wrap (λ lows. Array elem rank sizes lows) (counted_at signed_at r))) rank q.rest (number_exact.full rank p.rest q.rest q.before refl)
          ∙ goes (counted_at compressed_at q.rest) (λ sizes r. wrap (λ lows. Array elem rank sizes lows) (counted_at signed_at r)) sizes m.rest (sizes_exact.full sizes q.rest m.rest m.before refl)
          ∙ wraps (λ lows. Array elem rank sizes lows) (counted_at signed_at m.rest) lows r (lows_exact.full lows m.rest r m.then refl);
    }
