-- Arguments that need a width: reading stops at them, and at no others.
use Rattle.std.proofs.Common.{◌≡◌, ℕ, zero, suc, inl, inr, List, Bool, true, cond, eqb, Option, Some, None, Ok, Err, refl, sym, ap, ◌∙◌}
use Rattle.cil_base.proofs.StepLemmas.{split}
use Rattle.attr_blob.specs.Types.{is_numeric, number_width, arg_type_fits, enum_width}
use Rattle.attr_blob.specs.Args.{strip_arg, has_type_level, HasType, StandsArg}
use Rattle.attr_blob.specs.Needs.{needs_level, NeedsWidth}
use Rattle.attr_blob.specs.inner.Steps.{Found, behind, onward}
use Rattle.attr_blob.specs.inner.Reading.{little_at, nullable_at, arg_type_at, number_arg, text_or, enum_of, many_items_at, items_arg, arg_level_at, arg_at}
use Rattle.attr_blob.specs.declared.stop.Stop.TheVariants.{Lacks, Fails}
use Rattle.attr_blob.specs.declared.value.EnumWidth.{EnumWidth}
use Rattle.attr_blob.specs.declared.value.ArgType.{ArgType}
use Rattle.attr_blob.specs.declared.value.ArgType.TheOpen.{ArgType-F}
use Rattle.attr_blob.specs.declared.value.ArgType.TheViews.{out-ArgType, roll-out-ArgType}
use Rattle.attr_blob.specs.declared.value.Arg.{Arg}
use Rattle.attr_blob.specs.declared.value.Arg.TheVariants as args
use Rattle.attr_blob.specs.declared.value.Arg.TheViews.{out-Arg, roll-out-Arg}
use Rattle.attr_blob.proofs.Leaves.{little_sound, little_full}
use Rattle.attr_blob.proofs.TypeLemmas.{type_sound, type_full}
use Rattle.attr_blob.proofs.Depth.{at_suc}
use Rattle.attr_blob.proofs.StepLemmas.{same_lack, ok_lacks, err_ok, fails_lacks, behind_lacks, onward_lacks, goes_behind, stops_onward, many_lacks, many_needs}
use Rattle.attr_blob.proofs.ArgLemmas.{ArgExact, item_exact, counted, few, level_sound, level_full, strip-of}

number_lacks : (P : Type 0) (make : ℕ → Arg) (elem : ℕ) (n s : List ℕ) → number_arg make elem s ≡ Err (Lacks n) → P
number_lacks P make elem n s h =
    let c = behind_lacks (little_at (number_width elem) s) (λ bits rest. Ok (make bits, rest)) n h in
    ok_lacks {A = Arg} {P = P} (make c.value, c.rest) (Lacks n) c.then

text_lacks : (P : Type 0) (make : List ℕ → Arg) (null : Arg) (n s : List ℕ) → behind (nullable_at s) (λ text rest. Ok (text_or make null text, rest)) ≡ Err (Lacks n) → P
text_lacks P make null n s h =
    let c = behind_lacks (nullable_at s) (λ text rest. Ok (text_or make null text, rest)) n h in
    ok_lacks {A = Arg} {P = P} (text_or make null c.value, c.rest) (Lacks n) c.then

enum_lacks : (name : List ℕ) (width : Option ℕ) (n s : List ℕ) → enum_of name width s ≡ Err (Lacks n) → (width ≡ None) × (name ≡ n)
enum_lacks name None n s h = (refl, same_lack {A = Arg} name n h)
enum_lacks name (Some elem) n s h =
    split {P = ((Some elem) ≡ None) × (name ≡ n)} (is_numeric elem) (number_arg (args.Enum name elem) elem s) (Err Fails) (Err (Lacks n)) h
    (λ e f. number_lacks (((Some elem) ≡ None) × (name ≡ n)) (args.Enum name elem) elem n s f)
    (λ e f. fails_lacks {A = Arg} {P = ((Some elem) ≡ None) × (name ≡ n)} n f)

level_lacks : (w : List EnumWidth) (d : ℕ) → ArgExact w d → (x : ArgType-F ArgType) (n s : List ℕ) → arg_level_at w (arg_at w d) x s ≡ Err (Lacks n) → needs_level w d (NeedsWidth w d n) x n s
unfolding arg_level_at
level_lacks w d exact (ArgType-F.Prim elem) n s h = number_lacks ⊥ (args.Num elem) elem n s h
level_lacks w d exact ArgType-F.Text n s h = text_lacks ⊥ args.Text args.NullText n s h
level_lacks w d exact ArgType-F.SystemType n s h = text_lacks ⊥ args.TypeName args.NullType n s h
level_lacks w d exact ArgType-F.Boxed n s h =
    let P = needs_level w d (NeedsWidth w d n) ArgType-F.Boxed n s in
    let c = behind_lacks (arg_type_at s) (λ ty rest. onward (arg_at w d ty rest) (λ arg after. Ok (args.Boxed ty arg, after))) n h in
    let p = type_sound s c.value c.rest c.first in
    elim (onward_lacks (arg_at w d c.value c.rest) (λ arg after. Ok (args.Boxed c.value arg, after)) n c.then) [
      | inl m ↦ (c.value, c.rest, p.strips, p.fits, exact.lacks c.value n c.rest m)
      | inr o ↦ ok_lacks {A = Arg} {P = P} (args.Boxed c.value o.value, o.rest) (Lacks n) o.then
    ]
level_lacks w d exact (ArgType-F.Enum name) n s h = enum_lacks name (enum_width w name) n s h
level_lacks w d exact (ArgType-F.Array elem) n s h =
    let P = needs_level w d (NeedsWidth w d n) (ArgType-F.Array elem) n s in
    let c = behind_lacks (little_at 4 s) (λ count rest. items_arg elem (arg_at w d elem) count rest) n h in
    let p = little_sound 4 c.value s c.rest c.first in
    split {P = needs_level w d (NeedsWidth w d n) (ArgType-F.Array elem) n s} (eqb c.value 0xffffffff) (Ok (args.NullArray elem, c.rest)) (onward (many_items_at (arg_at w d elem) c.value c.rest) (λ items after. Ok (args.Array elem items, after))) (Err (Lacks n)) c.then
    (λ e f. ok_lacks {A = Arg} {P = P} (args.NullArray elem, c.rest) (Lacks n) f)
    (λ e f. elim (onward_lacks (many_items_at (arg_at w d elem) c.value c.rest) (λ items after. Ok (args.Array elem items, after)) n f) [
      | inl m ↦ (c.value, c.rest, p.0, counted c.value p.1 e, many_lacks (arg_at w d elem) (StandsArg w d elem) strip_arg (HasType w d elem) (λ n s. NeedsWidth w d n elem s) (item_exact w d exact elem) c.value n c.rest m)
      | inr o ↦ ok_lacks {A = Arg} {P = P} (args.Array elem o.value, o.rest) (Lacks n) o.then
    ])

level_needs : (w : List EnumWidth) (d : ℕ) → ArgExact w d → (x : ArgType-F ArgType) (n s : List ℕ) → needs_level w d (NeedsWidth w d n) x n s → arg_level_at w (arg_at w d) x s ≡ Err (Lacks n)
unfolding arg_level_at
level_needs w d exact (ArgType-F.Prim elem) n s h = absurd h
level_needs w d exact ArgType-F.Text n s h = absurd h
level_needs w d exact ArgType-F.SystemType n s h = absurd h
level_needs w d exact ArgType-F.Boxed n s h =
    goes_behind (arg_type_at s) (λ ty rest. onward (arg_at w d ty rest) (λ arg after. Ok (args.Boxed ty arg, after))) h.0 h.1 (type_full s h.0 h.1 h.2 h.3)
    ∙ stops_onward (arg_at w d h.0 h.1) (λ arg after. Ok (args.Boxed h.0 arg, after)) (Lacks n) (exact.needed h.0 n h.1 h.4)
level_needs w d exact (ArgType-F.Enum name) n s h = ap (λ (o : Option ℕ). enum_of name o s) h.0 ∙ ap (λ m. Err (Lacks m)) h.1
level_needs w d exact (ArgType-F.Array elem) n s h =
    let f = few h.0 h.3 in
    goes_behind (little_at 4 s) (λ count rest. items_arg elem (arg_at w d elem) count rest) h.0 h.1 (little_full 4 h.0 s h.1 h.2 f.0)
    ∙ ap (λ (b : Bool). cond {A = Found Arg} b (Ok (args.NullArray elem, h.1)) (onward (many_items_at (arg_at w d elem) h.0 h.1) (λ items after. Ok (args.Array elem items, after)))) f.1
    ∙ stops_onward (many_items_at (arg_at w d elem) h.0 h.1) (λ items after. Ok (args.Array elem items, after)) (Lacks n)
    (many_needs (arg_at w d elem) (StandsArg w d elem) strip_arg (HasType w d elem) (λ n s. NeedsWidth w d n elem s) (item_exact w d exact elem) h.0 n h.1 h.4)

-- one level of depth more
suc_sound : (w : List EnumWidth) (d : ℕ) → ArgExact w d → (t : ArgType) (a : Arg) (s r : List ℕ) → arg_at w (suc d) t s ≡ Ok (a, r) → StandsArg w (suc d) t a s r
unfolding arg_at HasType
suc_sound w d exact t a s r h =
    split {P = StandsArg w (suc d) t a s r} (arg_type_fits t) (arg_level_at w (arg_at w d) (out-ArgType t) s) (Err Fails) (Ok (a, r)) h
    (λ e f. let p = level_sound w d exact t (out-ArgType t) a s r (sym (roll-out-ArgType t)) f in record { strips = p.strips; typed = (e, p.typed) })
    (λ e f. err_ok {A = Arg} {P = StandsArg w (suc d) t a s r} (a, r) Fails f)

pub parts_of : (w : List EnumWidth) (d : ℕ) (t : ArgType) (a : Arg) → HasType w (suc d) t a → (arg_type_fits t ≡ true) × has_type_level w (HasType w d) t (out-Arg a)
unfolding HasType
parts_of w d t a h = h

suc_full : (w : List EnumWidth) (d : ℕ) → ArgExact w d → (t : ArgType) (a : Arg) (s r : List ℕ) → StandsArg w (suc d) t a s r → arg_at w (suc d) t s ≡ Ok (a, r)
suc_full w d exact t a s r h =
    let p = parts_of w d t a h.typed in
    at_suc w d t s p.0
    ∙ level_full w d exact t (out-Arg a) s r p.1 (sym (strip-of (out-Arg a) a (roll-out-Arg a) s) ∙ h.strips)
    ∙ ap (λ a. Ok (a, r)) (roll-out-Arg a)

suc_lacks : (w : List EnumWidth) (d : ℕ) → ArgExact w d → (t : ArgType) (n s : List ℕ) → arg_at w (suc d) t s ≡ Err (Lacks n) → NeedsWidth w (suc d) n t s
unfolding arg_at NeedsWidth
suc_lacks w d exact t n s h =
    split {P = NeedsWidth w (suc d) n t s} (arg_type_fits t) (arg_level_at w (arg_at w d) (out-ArgType t) s) (Err Fails) (Err (Lacks n)) h
    (λ e f. (e, level_lacks w d exact (out-ArgType t) n s f))
    (λ e f. fails_lacks {A = Arg} {P = NeedsWidth w (suc d) n t s} n f)

suc_needed : (w : List EnumWidth) (d : ℕ) → ArgExact w d → (t : ArgType) (n s : List ℕ) → NeedsWidth w (suc d) n t s → arg_at w (suc d) t s ≡ Err (Lacks n)
unfolding NeedsWidth
suc_needed w d exact t n s h = at_suc w d t s h.0 ∙ level_needs w d exact (out-ArgType t) n s h.1

pub arg_exact : (w : List EnumWidth) (d : ℕ) → ArgExact w d
unfolding arg_at HasType NeedsWidth
arg_exact w zero = record {
  sound = λ t a s r h. err_ok {A = Arg} {P = StandsArg w 0 t a s r} (a, r) Fails h;
  full = λ t a s r h. absurd h.typed;
  lacks = λ t n s h. fails_lacks {A = Arg} {P = NeedsWidth w 0 n t s} n h;
  needed = λ t n s h. absurd h;
}
arg_exact w (suc d) = record {
  sound = λ t a s r h. suc_sound w d (arg_exact w d) t a s r h;
  full = λ t a s r h. suc_full w d (arg_exact w d) t a s r h;
  lacks = λ t n s h. suc_lacks w d (arg_exact w d) t n s h;
  needed = λ t n s h. suc_needed w d (arg_exact w d) t n s h;
}
