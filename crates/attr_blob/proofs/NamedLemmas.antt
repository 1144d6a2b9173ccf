-- Named arguments: what is read is what stands there, and nothing else.
use Rattle.std.proofs.Common.{◌≡◌, ℕ, zero, suc, ◌⊎◌, inl, inr, List, [], ◌∷◌, Bool, true, false, cond, eqb, Option, Some, None, Ok, Err, refl, sym, ap, ◌∙◌}
use Rattle.std.proofs.lemmas.Option.{none-some, same_Some}
use Rattle.cil_base.specs.Number.{strip_bytes}
use Rattle.cil_base.specs.Steps.{◌>>=◌}
use Rattle.cil_base.proofs.StepLemmas.{split, came}
use Rattle.attr_blob.specs.Fronts.{strip_text}
use Rattle.attr_blob.specs.Types.{arg_type_fits, strip_type, enum_width}
use Rattle.attr_blob.specs.Args.{strip_arg, has_type_level, HasType}
use Rattle.attr_blob.specs.Attrs.{arg_depth_limit, named_mark, strip_named, HasNamedType}
use Rattle.attr_blob.specs.Needs.{needs_level, NeedsWidth, StandsNamed, lacks_level, NamedNeeds}
use Rattle.attr_blob.specs.inner.Steps.{Found, behind, onward}
use Rattle.attr_blob.specs.inner.Reading.{text_at, arg_type_at, arg_at, mark_at, without_width, lacking_level, lacking, named_value, named_typed, named_at}
use Rattle.attr_blob.specs.declared.stop.Stop.TheVariants.{Lacks}
use Rattle.attr_blob.specs.declared.value.EnumWidth.{EnumWidth}
use Rattle.attr_blob.specs.declared.value.ArgType.{ArgType}
use Rattle.attr_blob.specs.declared.value.ArgType.TheVariants as types
use Rattle.attr_blob.specs.declared.value.ArgType.TheOpen.{ArgType-F}
use Rattle.attr_blob.specs.declared.value.ArgType.TheViews.{out-ArgType, outs-Prim, outs-Text, outs-SystemType, outs-Boxed, outs-Enum, outs-Array}
use Rattle.attr_blob.specs.declared.value.Arg.{Arg}
use Rattle.attr_blob.specs.declared.value.Arg.TheOpen.{Arg-F}
use Rattle.attr_blob.specs.declared.value.Arg.TheViews.{out-Arg}
use Rattle.attr_blob.specs.declared.value.NamedArg.{NamedArg}
use Rattle.attr_blob.proofs.Leaves.{along, byte_stood, text_sound, text_full}
use Rattle.attr_blob.proofs.TypeLemmas.{type_sound, type_full}
use Rattle.attr_blob.proofs.StepLemmas.{along_ok, same_lack, ok_lacks, err_ok, behind_ok, behind_lacks, onward_ok, onward_lacks, goes_behind, goes_onward, stops_onward, ItemExact}
use Rattle.attr_blob.proofs.ArgLemmas.{typed_fits}
use Rattle.attr_blob.proofs.NeedLemmas.{arg_exact}

mark_sound : (s : List ℕ) (property : Bool) (r : List ℕ) → mark_at s ≡ Some (property, r) → strip_bytes (named_mark property ∷ []) s ≡ Some r
mark_sound [] property r h = absurd (none-some (property, r) h)
mark_sound (b ∷ s) property r h =
    split {P = strip_bytes (named_mark property ∷ []) (b ∷ s) ≡ Some r} (eqb b 0x53) (Some (false, s)) (cond (eqb b 0x54) (Some (true, s)) None) (Some (property, r)) h
    (λ e f. along (λ p q. strip_bytes (named_mark p ∷ []) (b ∷ s) ≡ Some q) false property s r f (ap (λ (v : Bool). cond {A = Option (List ℕ)} v (Some s) None) e))
    (λ e f. split {P = strip_bytes (named_mark property ∷ []) (b ∷ s) ≡ Some r} (eqb b 0x54) (Some (true, s)) None (Some (property, r)) f
    (λ e f. along (λ p q. strip_bytes (named_mark p ∷ []) (b ∷ s) ≡ Some q) true property s r f (ap (λ (v : Bool). cond {A = Option (List ℕ)} v (Some s) None) e))
    (λ e f. absurd (none-some (property, r) f)))

mark_full : (property : Bool) (s r : List ℕ) → strip_bytes (named_mark property ∷ []) s ≡ Some r → mark_at s ≡ Some (property, r)
mark_full true s r h = ap mark_at (byte_stood 0x54 s r h)
mark_full false s r h = ap mark_at (byte_stood 0x53 s r h)

-- an enum without a width
width_lacks : (w : List EnumWidth) (name n : List ℕ) (o : Option ℕ) → enum_width w name ≡ o → without_width name o ≡ Some n → (enum_width w name ≡ None) × (name ≡ n)
width_lacks w name n None is h = (is, same_Some name n h)
width_lacks w name n (Some elem) is h = absurd (none-some n h)

lacking_some : (w : List EnumWidth) (n : List ℕ) (x : ArgType-F ArgType) → lacking_level w x ≡ Some n → lacks_level w n x
lacking_some w n (ArgType-F.Enum name) h = width_lacks w name n (enum_width w name) refl h
lacking_some w n (ArgType-F.Prim elem) h = none-some n h
lacking_some w n ArgType-F.Text h = none-some n h
lacking_some w n ArgType-F.SystemType h = none-some n h
lacking_some w n ArgType-F.Boxed h = none-some n h
lacking_some w n (ArgType-F.Array elem) h = none-some n h

some_lacking : (w : List EnumWidth) (n : List ℕ) (x : ArgType-F ArgType) → lacks_level w n x → lacking_level w x ≡ Some n
some_lacking w n (ArgType-F.Enum name) h = ap (without_width name) h.0 ∙ ap (λ m. Some m) h.1
some_lacking w n (ArgType-F.Prim elem) h = absurd h
some_lacking w n ArgType-F.Text h = absurd h
some_lacking w n ArgType-F.SystemType h = absurd h
some_lacking w n ArgType-F.Boxed h = absurd h
some_lacking w n (ArgType-F.Array elem) h = absurd h

-- a value of an enum has a width
of_type : (w : List EnumWidth) (t u : ArgType) (x : ArgType-F ArgType) → t ≡ u → out-ArgType u ≡ x → lacking_level w x ≡ None → lacking w t ≡ None
unfolding lacking
of_type w t u x is out h = ap (λ y. lacking_level w (out-ArgType y)) is ∙ ap (lacking_level w) out ∙ h

level_known : (w : List EnumWidth) (part : ArgType → Arg → Type 0) (t : ArgType) (y : Arg-F Arg) → has_type_level w part t y → lacking w t ≡ None
level_known w part t (Arg-F.Num elem bits) h = of_type w t (types.Prim elem) (ArgType-F.Prim elem) h.0 (outs-Prim elem) refl
level_known w part t (Arg-F.Text text) h = of_type w t types.Text ArgType-F.Text h.0 outs-Text refl
level_known w part t Arg-F.NullText h = of_type w t types.Text ArgType-F.Text h outs-Text refl
level_known w part t (Arg-F.TypeName name) h = of_type w t types.SystemType ArgType-F.SystemType h.0 outs-SystemType refl
level_known w part t Arg-F.NullType h = of_type w t types.SystemType ArgType-F.SystemType h outs-SystemType refl
level_known w part t (Arg-F.Boxed inner value) h = of_type w t types.Boxed ArgType-F.Boxed h.0 outs-Boxed refl
level_known w part t (Arg-F.Enum name elem bits) h = of_type w t (types.Enum name) (ArgType-F.Enum name) h.0 (outs-Enum name) (ap (without_width name) h.1)
level_known w part t (Arg-F.Array elem items) h = of_type w t (types.Array elem) (ArgType-F.Array elem) h.0 (outs-Array elem) refl
level_known w part t (Arg-F.NullArray elem) h = of_type w t (types.Array elem) (ArgType-F.Array elem) h (outs-Array elem) refl

known : (w : List EnumWidth) (d : ℕ) (t : ArgType) (a : Arg) → HasType w d t a → lacking w t ≡ None
unfolding HasType
known w zero t a h = absurd h
known w (suc d) t a h = level_known w (HasType w d) t (out-Arg a) h.1

-- the enum that a value needs is its own type's, where that has no width
level_own : (w : List EnumWidth) (d : ℕ) (needs : ArgType → List ℕ → Type 0) (x : ArgType-F ArgType) (n m s : List ℕ) → needs_level w d needs x n s → lacking_level w x ≡ Some m → m ≡ n
level_own w d needs (ArgType-F.Enum name) n m s h k = same_Some m name (sym k ∙ ap (without_width name) h.0) ∙ h.1
level_own w d needs (ArgType-F.Prim elem) n m s h k = absurd h
level_own w d needs ArgType-F.Text n m s h k = absurd h
level_own w d needs ArgType-F.SystemType n m s h k = absurd h
level_own w d needs ArgType-F.Boxed n m s h k = absurd (none-some m k)
level_own w d needs (ArgType-F.Array elem) n m s h k = absurd (none-some m k)

own : (w : List EnumWidth) (d : ℕ) (n m : List ℕ) (t : ArgType) (s : List ℕ) → NeedsWidth w d n t s → lacking w t ≡ Some m → m ≡ n
unfolding NeedsWidth lacking
own w zero n m t s h k = absurd h
own w (suc d) n m t s h k = level_own w d (NeedsWidth w d n) (out-ArgType t) n m s h.1 k

needs_fits : (w : List EnumWidth) (d : ℕ) (n : List ℕ) (t : ArgType) (s : List ℕ) → NeedsWidth w d n t s → arg_type_fits t ≡ true
unfolding NeedsWidth
needs_fits w zero n t s h = absurd h
needs_fits w (suc d) n t s h = h.0

abbrev value_next : List EnumWidth → Bool → ArgType → List ℕ → List ℕ → Found NamedArg
value_next w property ty name rest = onward (arg_at w arg_depth_limit ty rest) (λ value after. Ok (record { property = property; ty = ty; name = name; value = value }, after))

abbrev type_next : List EnumWidth → Bool → ArgType → List ℕ → Found NamedArg
type_next w property ty after = named_typed w property ty (lacking w ty) after

abbrev mark_next : List EnumWidth → Bool → List ℕ → Found NamedArg
mark_next w property rest = behind (arg_type_at rest) (type_next w property)

abbrev named_of : Bool → ArgType → List ℕ → Arg → NamedArg
named_of property ty name value = record { property = property; ty = ty; name = name; value = value }

typed_ok : (w : List EnumWidth) (property : Bool) (ty : ArgType) (o : Option (List ℕ)) (q : List ℕ) (a : NamedArg) (r : List ℕ) → named_typed w property ty o q ≡ Ok (a, r) → named_value w property ty q ≡ Ok (a, r)
typed_ok w property ty (Some name) q a r h = err_ok {A = NamedArg} {P = named_value w property ty q ≡ Ok (a, r)} (a, r) (Lacks name) h
typed_ok w property ty None q a r h = h

named_sound : (w : List EnumWidth) (a : NamedArg) (s r : List ℕ) → named_at w s ≡ Ok (a, r) → StandsNamed w a s r
unfolding named_at
named_sound w a s r h =
    let c = behind_ok (mark_at s) (mark_next w) (a, r) h in
    let d = behind_ok (arg_type_at c.rest) (type_next w c.value) (a, r) c.then in
    let e = behind_ok (text_at d.rest) (value_next w c.value d.value) (a, r) (typed_ok w c.value d.value (lacking w d.value) d.rest a r d.then) in
    let f = onward_ok (arg_at w arg_depth_limit d.value e.rest) (λ value after. Ok (named_of c.value d.value e.value value, after)) (a, r) e.then in
    let mark = mark_sound s c.value c.rest c.first in
    let type = type_sound c.rest d.value d.rest d.first in
    let name = text_sound d.rest e.value e.rest e.first in
    let value = (arg_exact w arg_depth_limit).sound d.value f.value e.rest f.rest f.first in
    along_ok (λ a r. StandsNamed w a s r) (named_of c.value d.value e.value f.value) a f.rest r f.then (record {
      strips = ap (λ (o : Option (List ℕ)). o >>= strip_type d.value >>= strip_text e.value >>= strip_arg f.value) mark
          ∙ ap (λ (o : Option (List ℕ)). o >>= strip_text e.value >>= strip_arg f.value) type.strips
          ∙ ap (λ (o : Option (List ℕ)). o >>= strip_arg f.value) name.0
          ∙ value.strips;
      typed = record { name = name.1; value = value.typed };
    })

named_full : (w : List EnumWidth) (a : NamedArg) (s r : List ℕ) → StandsNamed w a s r → named_at w s ≡ Ok (a, r)
unfolding named_at
named_full w a s r h =
    let z = came (strip_bytes (named_mark a.property ∷ []) s >>= strip_type a.ty >>= strip_text a.name) (strip_arg a.value) r h.strips in
    let y = came (strip_bytes (named_mark a.property ∷ []) s >>= strip_type a.ty) (strip_text a.name) z.by z.first in
    let x = came (strip_bytes (named_mark a.property ∷ []) s) (strip_type a.ty) y.by y.first in
    let typed = h.typed.value in
    goes_behind (mark_at s) (mark_next w) a.property x.by (mark_full a.property s x.by x.first)
    ∙ goes_behind (arg_type_at x.by) (type_next w a.property) a.ty y.by (type_full x.by a.ty y.by x.after (typed_fits w arg_depth_limit a.ty a.value typed))
    ∙ ap (λ (o : Option (List ℕ)). named_typed w a.property a.ty o y.by) (known w arg_depth_limit a.ty a.value typed)
    ∙ goes_behind (text_at y.by) (value_next w a.property a.ty) a.name z.by (text_full y.by a.name z.by y.after)
    ∙ goes_onward (arg_at w arg_depth_limit a.ty z.by) (λ value after. Ok (named_of a.property a.ty a.name value, after)) a.value r
    ((arg_exact w arg_depth_limit).full a.ty a.value z.by r (record { strips = z.after; typed = typed }))

abbrev ValueNeeds : List EnumWidth → List ℕ → ArgType → List ℕ → Type 0
ValueNeeds w n ty q = lacks_level w n (out-ArgType ty) ⊎ ((own : List ℕ) × (rest : List ℕ) × (strip_text own q ≡ Some rest) × NeedsWidth w arg_depth_limit n ty rest)

typed_lacks : (w : List EnumWidth) (property : Bool) (ty : ArgType) (o : Option (List ℕ)) (n q : List ℕ) → lacking w ty ≡ o → named_typed w property ty o q ≡ Err (Lacks n) → ValueNeeds w n ty q
unfolding lacking
typed_lacks w property ty (Some m) n q is h = inl (lacking_some w n (out-ArgType ty) (is ∙ ap (λ m. Some m) (same_lack {A = NamedArg} m n h)))
typed_lacks w property ty None n q is h =
    let e = behind_lacks (text_at q) (value_next w property ty) n h in
    let name = text_sound q e.value e.rest e.first in
    elim (onward_lacks (arg_at w arg_depth_limit ty e.rest) (λ value after. Ok (named_of property ty e.value value, after)) n e.then) [
      | inl m ↦ inr (e.value, e.rest, name.0, (arg_exact w arg_depth_limit).lacks ty n e.rest m)
      | inr f ↦ ok_lacks {A = NamedArg} {P = ValueNeeds w n ty q} (named_of property ty e.value f.value, f.rest) (Lacks n) f.then
    ]

named_lacks : (w : List EnumWidth) (n s : List ℕ) → named_at w s ≡ Err (Lacks n) → NamedNeeds w n s
unfolding named_at
named_lacks w n s h =
    let c = behind_lacks (mark_at s) (mark_next w) n h in
    let d = behind_lacks (arg_type_at c.rest) (type_next w c.value) n c.then in
    let type = type_sound c.rest d.value d.rest d.first in
    record {
      property = c.value;
      ty = d.value;
      at_type = c.rest;
      at_name = d.rest;
      mark = mark_sound s c.value c.rest c.first;
      type = type.strips;
      fits = type.fits;
      needs = typed_lacks w c.value d.value (lacking w d.value) n d.rest refl d.then;
    }

later_needed : (w : List EnumWidth) (property : Bool) (ty : ArgType) (o : Option (List ℕ)) (n name q rest : List ℕ) → lacking w ty ≡ o → strip_text name q ≡ Some rest → NeedsWidth w arg_depth_limit n ty rest → named_typed w property ty o q ≡ Err (Lacks n)
later_needed w property ty (Some m) n name q rest is h k = ap (λ m. Err (Lacks m)) (own w arg_depth_limit n m ty rest k is)
later_needed w property ty None n name q rest is h k =
    goes_behind (text_at q) (value_next w property ty) name rest (text_full q name rest h)
    ∙ stops_onward (arg_at w arg_depth_limit ty rest) (λ value after. Ok (named_of property ty name value, after)) (Lacks n) ((arg_exact w arg_depth_limit).needed ty n rest k)

typed_needed : (w : List EnumWidth) (property : Bool) (ty : ArgType) (n q : List ℕ) → ValueNeeds w n ty q → named_typed w property ty (lacking w ty) q ≡ Err (Lacks n)
unfolding lacking
typed_needed w property ty n q (inl h) = ap (λ (o : Option (List ℕ)). named_typed w property ty o q) (some_lacking w n (out-ArgType ty) h)
typed_needed w property ty n q (inr h) = later_needed w property ty (lacking w ty) n h.0 q h.1 refl h.2 h.3

named_needed : (w : List EnumWidth) (n s : List ℕ) → NamedNeeds w n s → named_at w s ≡ Err (Lacks n)
unfolding named_at
named_needed w n s h =
    goes_behind (mark_at s) (mark_next w) h.property h.at_type (mark_full h.property s h.at_type h.mark)
    ∙ goes_behind (arg_type_at h.at_type) (type_next w h.property) h.ty h.at_name (type_full h.at_type h.ty h.at_name h.type h.fits)
    ∙ typed_needed w h.property h.ty n h.at_name h.needs

pub named_exact : (w : List EnumWidth) → ItemExact NamedArg (named_at w) (StandsNamed w) strip_named (HasNamedType w) (λ n s. NamedNeeds w n s)
named_exact w = record {
  sound = named_sound w;
  full = named_full w;
  lacks = named_lacks w;
  needed = named_needed w;
  parts = λ a s r h. (h.strips, h.typed);
  whole = λ a s r h k. record { strips = h; typed = k };
}
