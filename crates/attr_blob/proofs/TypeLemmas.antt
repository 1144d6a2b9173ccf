-- Types: what is read is what is stripped.
use Rattle.std.proofs.Common.{◌≡◌, ℕ, List, [], ◌∷◌, Bool, true, false, cond, eqb, Option, Some, None, refl, sym, ap, subst, ◌∙◌, arith}
use Rattle.std.proofs.lemmas.Bool.Decides.{nat_tests}
use Rattle.std.proofs.lemmas.Option.{none-some}
use Rattle.cil_base.specs.Number.{strip_bytes}
use Rattle.cil_base.specs.Steps.{◌>>=◌}
use Rattle.cil_base.proofs.StepLemmas.{split, came, mapped}
use Rattle.attr_blob.specs.Fronts.{strip_text}
use Rattle.attr_blob.specs.Types.{is_numeric, simple_fits, fits_level, arg_type_fits, strip_simple, strip_type_level, strip_type}
use Rattle.attr_blob.specs.inner.Steps.{changed}
use Rattle.attr_blob.specs.inner.Reading.{text_at, simple_at, element_at, arg_type_at}
use Rattle.attr_blob.specs.declared.value.ArgType.{ArgType}
use Rattle.attr_blob.specs.declared.value.ArgType.TheVariants as types
use Rattle.attr_blob.specs.declared.value.ArgType.TheOpen.{ArgType-F}
use Rattle.attr_blob.specs.declared.value.ArgType.TheViews.{out-ArgType, roll-ArgType, roll-out-ArgType, rolls-Prim, rolls-Text, rolls-SystemType, rolls-Boxed, rolls-Enum, rolls-Array, outs-Prim, outs-Text, outs-SystemType, outs-Boxed, outs-Enum, outs-Array}
use Rattle.attr_blob.proofs.Leaves.{along, byte_strips, byte_stood, text_sound, text_full}

-- a type that is no array stands at the front
abbrev SimpleStands : ArgType → List ℕ → List ℕ → Type 0
SimpleStands t s r = (strip_simple (out-ArgType t) s ≡ Some r) × (simple_fits (out-ArgType t) ≡ true)

-- the byte stands under its other name
byte_is : (b n : ℕ) (s : List ℕ) → eqb b n ≡ true → strip_bytes (n ∷ []) (b ∷ s) ≡ Some s
byte_is b n s e = ap (λ (v : Bool). cond {A = Option (List ℕ)} v (Some s) None) e

enum_stands : (b : ℕ) (s name r : List ℕ) → eqb b 0x55 ≡ true → text_at s ≡ Some (name, r) → SimpleStands (types.Enum name) (b ∷ s) r
enum_stands b s name r e h =
    let p = text_sound s name r h in
    subst (λ y. (strip_simple y (b ∷ s) ≡ Some r) × (simple_fits y ≡ true)) (sym (outs-Enum name)) (ap (λ (o : Option (List ℕ)). o >>= strip_text name) (byte_is b 0x55 s e) ∙ p.0, p.1)

simple_sound : (b : ℕ) (s : List ℕ) (t : ArgType) (r : List ℕ) → simple_at b s ≡ Some (t, r) → SimpleStands t (b ∷ s) r
simple_sound b s t r h =
    let none : Option (ArgType × List ℕ) = None in
    let c4 = cond (eqb b 0x55) (changed types.Enum (text_at s)) none in
    let c3 = cond (eqb b 0x51) (Some (types.Boxed, s)) c4 in
    let c2 = cond (eqb b 0x50) (Some (types.SystemType, s)) c3 in
    let c1 = cond (eqb b 0x0e) (Some (types.Text, s)) c2 in
    split {P = SimpleStands t (b ∷ s) r} (is_numeric b) (Some (types.Prim b, s)) c1 (Some (t, r)) h
    (λ e f. along (λ t r. SimpleStands t (b ∷ s) r) (types.Prim b) t s r f (subst (λ y. (strip_simple y (b ∷ s) ≡ Some s) × (simple_fits y ≡ true)) (sym (outs-Prim b)) (byte_strips b s, e)))
    (λ e f. split {P = SimpleStands t (b ∷ s) r} (eqb b 0x0e) (Some (types.Text, s)) c2 (Some (t, r)) f
    (λ e f. along (λ t r. SimpleStands t (b ∷ s) r) types.Text t s r f (subst (λ y. (strip_simple y (b ∷ s) ≡ Some s) × (simple_fits y ≡ true)) (sym outs-Text) (byte_is b 0x0e s e, refl)))
    (λ e f. split {P = SimpleStands t (b ∷ s) r} (eqb b 0x50) (Some (types.SystemType, s)) c3 (Some (t, r)) f
    (λ e f. along (λ t r. SimpleStands t (b ∷ s) r) types.SystemType t s r f (subst (λ y. (strip_simple y (b ∷ s) ≡ Some s) × (simple_fits y ≡ true)) (sym outs-SystemType) (byte_is b 0x50 s e, refl)))
    (λ e f. split {P = SimpleStands t (b ∷ s) r} (eqb b 0x51) (Some (types.Boxed, s)) c4 (Some (t, r)) f
    (λ e f. along (λ t r. SimpleStands t (b ∷ s) r) types.Boxed t s r f (subst (λ y. (strip_simple y (b ∷ s) ≡ Some s) × (simple_fits y ≡ true)) (sym outs-Boxed) (byte_is b 0x51 s e, refl)))
    (λ e f. split {P = SimpleStands t (b ∷ s) r} (eqb b 0x55) (changed types.Enum (text_at s)) none (Some (t, r)) f
    (λ e f.
    let m = mapped {A = List ℕ × List ℕ} {B = ArgType × List ℕ} (λ p. (types.Enum p.0, p.1)) (text_at s) (t, r) f in
    subst (λ (y : ArgType × List ℕ). SimpleStands y.0 (b ∷ s) y.1) m.is (enum_stands b s m.by.0 m.by.1 e m.first))
    (λ e f. absurd (none-some (t, r) f))))))

-- what is no array is spelled as it is, alone and as an element
simple_level : (x : ArgType-F ArgType) (s : List ℕ) → simple_fits x ≡ true → (strip_type_level x s ≡ strip_simple x s) × (fits_level x ≡ true)
simple_level (ArgType-F.Prim elem) s h = (refl, h)
simple_level ArgType-F.Text s h = (refl, refl)
simple_level ArgType-F.SystemType s h = (refl, refl)
simple_level ArgType-F.Boxed s h = (refl, refl)
simple_level (ArgType-F.Enum name) s h = (refl, h)
simple_level (ArgType-F.Array elem) s h = absurd cc

-- a type stands at the front
pub record TypeStands (t : ArgType) (s r : List ℕ) : Type 0 where
  pub strips : strip_type t s ≡ Some r
  pub fits : arg_type_fits t ≡ true

element_sound : (s : List ℕ) (t : ArgType) (r : List ℕ) → element_at s ≡ Some (t, r) → SimpleStands t s r
element_sound [] t r h = absurd (none-some (t, r) h)
element_sound (b ∷ s) t r h = simple_sound b s t r h

array_stands : (b : ℕ) (s : List ℕ) (t : ArgType) (r : List ℕ) → eqb b 0x1d ≡ true → element_at s ≡ Some (t, r) → TypeStands (types.Array t) (b ∷ s) r
unfolding strip_type arg_type_fits
array_stands b s t r e h =
    let p = element_sound s t r h in
    record {
      strips = ap (λ y. strip_type_level y (b ∷ s)) (outs-Array t) ∙ ap (λ (o : Option (List ℕ)). o >>= strip_simple (out-ArgType t)) (byte_is b 0x1d s e) ∙ p.0;
      fits = ap fits_level (outs-Array t) ∙ p.1;
    }

simple_stands : (s : List ℕ) (t : ArgType) (r : List ℕ) → SimpleStands t s r → TypeStands t s r
unfolding strip_type arg_type_fits
simple_stands s t r p = let level = simple_level (out-ArgType t) s p.1 in record { strips = level.0 ∙ p.0; fits = level.1 }

pub type_sound : (s : List ℕ) (t : ArgType) (r : List ℕ) → arg_type_at s ≡ Some (t, r) → TypeStands t s r
unfolding arg_type_at
type_sound [] t r h = absurd (none-some (t, r) h)
type_sound (b ∷ s) t r h =
    split {P = TypeStands t (b ∷ s) r} (eqb b 0x1d) (changed types.Array (element_at s)) (simple_at b s) (Some (t, r)) h
    (λ e f.
    let m = mapped {A = ArgType × List ℕ} {B = ArgType × List ℕ} (λ p. (types.Array p.0, p.1)) (element_at s) (t, r) f in
    subst (λ (y : ArgType × List ℕ). TypeStands y.0 (b ∷ s) y.1) m.is (array_stands b s m.by.0 m.by.1 e m.first))
    (λ e f. simple_stands (b ∷ s) t r (simple_sound b s t r f))

-- a type that can be read by its first byte
record SimpleFront (t : ArgType) (s r : List ℕ) : Type 0 where
  head : ℕ
  rest : List ℕ
  front : s ≡ head ∷ rest
  other : eqb head 0x1d ≡ false
  found : simple_at head rest ≡ Some (t, r)

no_array : (b : ℕ) → is_numeric b ≡ true → eqb b 0x1d ≡ false
no_array b h = grind (arith, nat_tests)

numeric_front : (b : ℕ) (s r : List ℕ) → is_numeric b ≡ true → strip_bytes (b ∷ []) s ≡ Some r → SimpleFront (types.Prim b) s r
numeric_front b s r h k = record {
  head = b;
  rest = r;
  front = byte_stood b s r k;
  other = no_array b h;
  found = ap (λ (v : Bool). cond {A = Option (ArgType × List ℕ)} v (Some (types.Prim b, r))
      (cond (eqb b 0x0e) (Some (types.Text, r)) (cond (eqb b 0x50) (Some (types.SystemType, r)) (cond (eqb b 0x51) (Some (types.Boxed, r)) (cond (eqb b 0x55) (changed types.Enum (text_at r)) None))))) h;
}

simple_full : (x : ArgType-F ArgType) (s r : List ℕ) → simple_fits x ≡ true → strip_simple x s ≡ Some r → SimpleFront (roll-ArgType x) s r
simple_full (ArgType-F.Prim elem) s r h k = subst (λ t. SimpleFront t s r) (sym (rolls-Prim elem)) (numeric_front elem s r h k)
simple_full ArgType-F.Text s r h k = subst (λ t. SimpleFront t s r) (sym rolls-Text) (record { head = 0x0e; rest = r; front = byte_stood 0x0e s r k; other = refl; found = refl })
simple_full ArgType-F.SystemType s r h k = subst (λ t. SimpleFront t s r) (sym rolls-SystemType) (record { head = 0x50; rest = r; front = byte_stood 0x50 s r k; other = refl; found = refl })
simple_full ArgType-F.Boxed s r h k = subst (λ t. SimpleFront t s r) (sym rolls-Boxed) (record { head = 0x51; rest = r; front = byte_stood 0x51 s r k; other = refl; found = refl })
simple_full (ArgType-F.Enum name) s r h k =
    let c = came (strip_bytes (0x55 ∷ []) s) (strip_text name) r k in
    subst (λ t. SimpleFront t s r) (sym (rolls-Enum name)) (record {
      head = 0x55;
      rest = c.by;
      front = byte_stood 0x55 s c.by c.first;
      other = refl;
      found = ap (changed types.Enum) (text_full c.by name r c.after);
    })
simple_full (ArgType-F.Array elem) s r h k = absurd cc

element_front : (t : ArgType) (s r : List ℕ) → SimpleFront t s r → element_at s ≡ Some (t, r)
element_front t s r p = ap element_at p.front ∙ p.found

type_front : (t : ArgType) (s r : List ℕ) → SimpleFront t s r → arg_type_at s ≡ Some (t, r)
unfolding arg_type_at
type_front t s r p =
    ap arg_type_at p.front ∙ ap (λ (v : Bool). cond {A = Option (ArgType × List ℕ)} v (changed types.Array (element_at p.rest)) (simple_at p.head p.rest)) p.other ∙ p.found

array_front : (elem : ArgType) (s r : List ℕ) → simple_fits (out-ArgType elem) ≡ true → (strip_bytes (0x1d ∷ []) s >>= strip_simple (out-ArgType elem)) ≡ Some r → arg_type_at s ≡ Some (types.Array elem, r)
unfolding arg_type_at
array_front elem s r h k =
    let c = came (strip_bytes (0x1d ∷ []) s) (strip_simple (out-ArgType elem)) r k in
    let p = subst (λ t. SimpleFront t c.by r) (roll-out-ArgType elem) (simple_full (out-ArgType elem) c.by r h c.after) in
    ap arg_type_at (byte_stood 0x1d s c.by c.first) ∙ ap (changed types.Array) (element_front elem c.by r p)

level_full : (x : ArgType-F ArgType) (s r : List ℕ) → fits_level x ≡ true → strip_type_level x s ≡ Some r → arg_type_at s ≡ Some (roll-ArgType x, r)
level_full (ArgType-F.Array elem) s r h k = array_front elem s r h k ∙ ap (λ t. Some (t, r)) (sym (rolls-Array elem))
level_full (ArgType-F.Prim elem) s r h k = type_front (roll-ArgType (ArgType-F.Prim elem)) s r (simple_full (ArgType-F.Prim elem) s r h k)
level_full ArgType-F.Text s r h k = type_front (roll-ArgType ArgType-F.Text) s r (simple_full ArgType-F.Text s r refl k)
level_full ArgType-F.SystemType s r h k = type_front (roll-ArgType ArgType-F.SystemType) s r (simple_full ArgType-F.SystemType s r refl k)
level_full ArgType-F.Boxed s r h k = type_front (roll-ArgType ArgType-F.Boxed) s r (simple_full ArgType-F.Boxed s r refl k)
level_full (ArgType-F.Enum name) s r h k = type_front (roll-ArgType (ArgType-F.Enum name)) s r (simple_full (ArgType-F.Enum name) s r h k)

pub type_full : (s : List ℕ) (t : ArgType) (r : List ℕ) → strip_type t s ≡ Some r → arg_type_fits t ≡ true → arg_type_at s ≡ Some (t, r)
unfolding strip_type arg_type_fits
type_full s t r h k = level_full (out-ArgType t) s r k h ∙ ap (λ u. Some (u, r)) (roll-out-ArgType t)
