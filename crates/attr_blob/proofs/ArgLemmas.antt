-- Arguments: what is read is what stands there, and nothing else.
use Rattle.std.proofs.Common.{◌≡◌, ℕ, zero, suc, ◌-◌, ◌^◌, ◌<◌, List, Bool, true, false, cond, eqb, Option, Some, None, Ok, Err, length, map, refl, sym, ap, subst, ◌∙◌, arith}
use Rattle.std.proofs.lemmas.Bool.{eqb-true}
use Rattle.std.proofs.lemmas.Bool.Decides.{nat_tests}
use Rattle.std.proofs.lemmas.List.{length-map}
use Rattle.cil_base.specs.Steps.{◌>>=◌}
use Rattle.cil_base.proofs.StepLemmas.{split, came}
use Rattle.attr_blob.specs.Fronts.{strip_little, strip_row, fits_in}
use Rattle.attr_blob.specs.Types.{is_numeric, number_width, arg_type_fits, strip_type, enum_width}
use Rattle.attr_blob.specs.Args.{strip_arg_level, strip_arg, EachItem, has_type_level, HasType, StandsArg}
use Rattle.attr_blob.specs.Needs.{NeedsWidth}
use Rattle.attr_blob.specs.inner.Steps.{Found, onward}
use Rattle.attr_blob.specs.inner.Reading.{little_at, nullable_at, arg_type_at, number_arg, text_or, enum_of, boxed_arg, many_items_at, items_arg, array_arg, arg_level_at, arg_at}
use Rattle.attr_blob.specs.declared.stop.Stop.TheVariants.{Lacks, Fails}
use Rattle.attr_blob.specs.declared.value.EnumWidth.{EnumWidth}
use Rattle.attr_blob.specs.declared.value.ArgType.{ArgType}
use Rattle.attr_blob.specs.declared.value.ArgType.TheVariants as types
use Rattle.attr_blob.specs.declared.value.ArgType.TheOpen.{ArgType-F}
use Rattle.attr_blob.specs.declared.value.ArgType.TheViews as type_views
use Rattle.attr_blob.specs.declared.value.ArgType.TheViews.{out-ArgType, roll-ArgType, roll-out-ArgType}
use Rattle.attr_blob.specs.declared.value.Arg.{Arg}
use Rattle.attr_blob.specs.declared.value.Arg.TheVariants as args
use Rattle.attr_blob.specs.declared.value.Arg.TheOpen.{Arg-F}
use Rattle.attr_blob.specs.declared.value.Arg.TheViews as arg_views
use Rattle.attr_blob.specs.declared.value.Arg.TheViews.{out-Arg, roll-Arg, roll-out-Arg}
use Rattle.attr_blob.specs.declared.value.Arg.TheFolds.{map-Arg, fold-roll-Arg}
use Rattle.attr_blob.proofs.Leaves.{NullableStands, little_sound, little_full, nullable_sound, nullable_null, nullable_text}
use Rattle.attr_blob.proofs.TypeLemmas.{type_sound, type_full}
use Rattle.attr_blob.proofs.StepLemmas.{along_ok, err_ok, behind_ok, onward_ok, goes_behind, goes_onward, ItemExact, many_sound, many_full}

abbrev pub Strip : Type 0
Strip = List ℕ → Option (List ℕ)

-- what an argument strips, of what its parts strip
pub strip-of : (x : Arg-F Arg) (a : Arg) → roll-Arg x ≡ a → (s : List ℕ) → strip_arg a s ≡ strip_arg_level (map-Arg Arg Strip strip_arg x) s
strip-of x a is s = ap (λ a. strip_arg a s) (sym is) ∙ ap (λ (f : Strip). f s) (fold-roll-Arg Strip strip_arg_level x)

-- an argument of that depth is read exactly where it stands
pub record ArgExact (w : List EnumWidth) (d : ℕ) : Type 0 where
  pub sound : (t : ArgType) (a : Arg) (s r : List ℕ) → arg_at w d t s ≡ Ok (a, r) → StandsArg w d t a s r
  pub full : (t : ArgType) (a : Arg) (s r : List ℕ) → StandsArg w d t a s r → arg_at w d t s ≡ Ok (a, r)
  pub lacks : (t : ArgType) (n s : List ℕ) → arg_at w d t s ≡ Err (Lacks n) → NeedsWidth w d n t s
  pub needed : (t : ArgType) (n s : List ℕ) → NeedsWidth w d n t s → arg_at w d t s ≡ Err (Lacks n)

pub item_exact : (w : List EnumWidth) (d : ℕ) → ArgExact w d → (t : ArgType) → ItemExact Arg (arg_at w d t) (StandsArg w d t) strip_arg (HasType w d t) (λ n s. NeedsWidth w d n t s)
item_exact w d exact t = record {
  sound = λ a s r h. exact.sound t a s r h;
  full = λ a s r h. exact.full t a s r h;
  lacks = λ n s h. exact.lacks t n s h;
  needed = λ n s h. exact.needed t n s h;
  parts = λ a s r h. (h.strips, h.typed);
  whole = λ a s r h k. record { strips = h; typed = k };
}

-- an argument whose parts have at most that depth
pub record ArgStands (w : List EnumWidth) (d : ℕ) (t : ArgType) (a : Arg) (s r : List ℕ) : Type 0 where
  pub strips : strip_arg a s ≡ Some r
  pub typed : has_type_level w (HasType w d) t (out-Arg a)

stands-of : (w : List EnumWidth) (d : ℕ) (t : ArgType) (x : Arg-F Arg) (a : Arg) (s r : List ℕ) → roll-Arg x ≡ a → out-Arg a ≡ x → strip_arg_level (map-Arg Arg Strip strip_arg x) s ≡ Some r → has_type_level w (HasType w d) t x → ArgStands w d t a s r
stands-of w d t x a s r is out h k = record { strips = strip-of x a is s ∙ h; typed = subst (has_type_level w (HasType w d) t) (sym out) k }

-- a number
num_sound : (w : List EnumWidth) (d : ℕ) (t : ArgType) (elem : ℕ) (a : Arg) (s r : List ℕ) → t ≡ types.Prim elem → number_arg (args.Num elem) elem s ≡ Ok (a, r) → ArgStands w d t a s r
num_sound w d t elem a s r is h =
    let c = behind_ok (little_at (number_width elem) s) (λ bits rest. Ok (args.Num elem bits, rest)) (a, r) h in
    let p = little_sound (number_width elem) c.value s c.rest c.first in
    along_ok (λ a r. ArgStands w d t a s r) (args.Num elem c.value) a c.rest r c.then
    (stands-of w d t (Arg-F.Num elem c.value) (args.Num elem c.value) s c.rest (arg_views.rolls-Num elem c.value) (arg_views.outs-Num elem c.value) p.0 (is, p.1))

text_stands : (w : List EnumWidth) (d : ℕ) (t : ArgType) (x : Option (List ℕ)) (s r : List ℕ) → t ≡ types.Text → NullableStands x s r → ArgStands w d t (text_or args.Text args.NullText x) s r
text_stands w d t None s r is h = stands-of w d t Arg-F.NullText args.NullText s r arg_views.rolls-NullText arg_views.outs-NullText h is
text_stands w d t (Some text) s r is h = stands-of w d t (Arg-F.Text text) (args.Text text) s r (arg_views.rolls-Text text) (arg_views.outs-Text text) h.0 (is, h.1)

name_stands : (w : List EnumWidth) (d : ℕ) (t : ArgType) (x : Option (List ℕ)) (s r : List ℕ) → t ≡ types.SystemType → NullableStands x s r → ArgStands w d t (text_or args.TypeName args.NullType x) s r
name_stands w d t None s r is h = stands-of w d t Arg-F.NullType args.NullType s r arg_views.rolls-NullType arg_views.outs-NullType h is
name_stands w d t (Some text) s r is h = stands-of w d t (Arg-F.TypeName text) (args.TypeName text) s r (arg_views.rolls-TypeName text) (arg_views.outs-TypeName text) h.0 (is, h.1)

boxed_sound : (w : List EnumWidth) (d : ℕ) → ArgExact w d → (t : ArgType) (a : Arg) (s r : List ℕ) → t ≡ types.Boxed → boxed_arg (arg_at w d) s ≡ Ok (a, r) → ArgStands w d t a s r
boxed_sound w d exact t a s r is h =
    let c = behind_ok (arg_type_at s) (λ ty rest. onward (arg_at w d ty rest) (λ arg after. Ok (args.Boxed ty arg, after))) (a, r) h in
    let o = onward_ok (arg_at w d c.value c.rest) (λ arg after. Ok (args.Boxed c.value arg, after)) (a, r) c.then in
    let p = type_sound s c.value c.rest c.first in
    let q = exact.sound c.value o.value c.rest o.rest o.first in
    along_ok (λ a r. ArgStands w d t a s r) (args.Boxed c.value o.value) a o.rest r o.then
    (stands-of w d t (Arg-F.Boxed c.value o.value) (args.Boxed c.value o.value) s o.rest (arg_views.rolls-Boxed c.value o.value) (arg_views.outs-Boxed c.value o.value)
    (ap (λ (found : Option (List ℕ)). found >>= strip_arg o.value) p.strips ∙ q.strips) (is, q.typed))

enum_sound : (w : List EnumWidth) (d : ℕ) (t : ArgType) (name : List ℕ) (width : Option ℕ) (a : Arg) (s r : List ℕ) → t ≡ types.Enum name → enum_width w name ≡ width → enum_of name width s ≡ Ok (a, r) → ArgStands w d t a s r
enum_sound w d t name None a s r is known h = err_ok {A = Arg} {P = ArgStands w d t a s r} (a, r) (Lacks name) h
enum_sound w d t name (Some elem) a s r is known h =
    split {P = ArgStands w d t a s r} (is_numeric elem) (number_arg (args.Enum name elem) elem s) (Err Fails) (Ok (a, r)) h
    (λ e f.
    let c = behind_ok (little_at (number_width elem) s) (λ bits rest. Ok (args.Enum name elem bits, rest)) (a, r) f in
    let p = little_sound (number_width elem) c.value s c.rest c.first in
    along_ok (λ a r. ArgStands w d t a s r) (args.Enum name elem c.value) a c.rest r c.then
    (stands-of w d t (Arg-F.Enum name elem c.value) (args.Enum name elem c.value) s c.rest (arg_views.rolls-Enum name elem c.value) (arg_views.outs-Enum name elem c.value) p.0 (is, known, e, p.1)))
    (λ e f. err_ok {A = Arg} {P = ArgStands w d t a s r} (a, r) Fails f)

pub counted : (count : ℕ) → fits_in 4 count ≡ true → eqb count 0xffffffff ≡ false → count < 2 ^ 32 - 1
counted count h k = grind (arith, nat_tests)

pub few : (count : ℕ) → count < 2 ^ 32 - 1 → (fits_in 4 count ≡ true) × (eqb count 0xffffffff ≡ false)
few count h = (grind (arith, nat_tests), grind (arith, nat_tests))

items_sound : (w : List EnumWidth) (d : ℕ) → ArgExact w d → (t elem : ArgType) (count : ℕ) (a : Arg) (s m r : List ℕ) → t ≡ types.Array elem → strip_little 4 count s ≡ Some m → fits_in 4 count ≡ true → items_arg elem (arg_at w d elem) count m ≡ Ok (a, r) → ArgStands w d t a s r
items_sound w d exact t elem count a s m r is stood fits h =
    split {P = ArgStands w d t a s r} (eqb count 0xffffffff) (Ok (args.NullArray elem, m)) (onward (many_items_at (arg_at w d elem) count m) (λ items after. Ok (args.Array elem items, after))) (Ok (a, r)) h
    (λ e f. along_ok (λ a r. ArgStands w d t a s r) (args.NullArray elem) a m r f
    (stands-of w d t (Arg-F.NullArray elem) (args.NullArray elem) s m (arg_views.rolls-NullArray elem) (arg_views.outs-NullArray elem)
    (ap (λ n. strip_little 4 n s) (sym (eqb-true count 0xffffffff e)) ∙ stood) is))
    (λ e f.
    let o = onward_ok (many_items_at (arg_at w d elem) count m) (λ items after. Ok (args.Array elem items, after)) (a, r) f in
    let p = many_sound (arg_at w d elem) (StandsArg w d elem) strip_arg (HasType w d elem) (λ n s. NeedsWidth w d n elem s) (item_exact w d exact elem) count o.value m o.rest o.first in
    along_ok (λ a r. ArgStands w d t a s r) (args.Array elem o.value) a o.rest r o.then
    (stands-of w d t (Arg-F.Array elem o.value) (args.Array elem o.value) s o.rest (arg_views.rolls-Array elem o.value) (arg_views.outs-Array elem o.value)
    (ap (λ n. strip_little 4 n s >>= strip_row (map strip_arg o.value)) (length-map o.value strip_arg ∙ p.count)
    ∙ ap (λ (found : Option (List ℕ)). found >>= strip_row (map strip_arg o.value)) stood ∙ p.strips)
    (is, subst (λ n. n < 2 ^ 32 - 1) (sym p.count) (counted count fits e), p.each)))

pub level_sound : (w : List EnumWidth) (d : ℕ) → ArgExact w d → (t : ArgType) (x : ArgType-F ArgType) (a : Arg) (s r : List ℕ) → t ≡ roll-ArgType x → arg_level_at w (arg_at w d) x s ≡ Ok (a, r) → ArgStands w d t a s r
unfolding arg_level_at
level_sound w d exact t (ArgType-F.Prim elem) a s r is h = num_sound w d t elem a s r (is ∙ type_views.rolls-Prim elem) h
level_sound w d exact t ArgType-F.Text a s r is h =
    let c = behind_ok (nullable_at s) (λ text rest. Ok (text_or args.Text args.NullText text, rest)) (a, r) h in
    along_ok (λ a r. ArgStands w d t a s r) (text_or args.Text args.NullText c.value) a c.rest r c.then
    (text_stands w d t c.value s c.rest (is ∙ type_views.rolls-Text) (nullable_sound s c.value c.rest c.first))
level_sound w d exact t ArgType-F.SystemType a s r is h =
    let c = behind_ok (nullable_at s) (λ text rest. Ok (text_or args.TypeName args.NullType text, rest)) (a, r) h in
    along_ok (λ a r. ArgStands w d t a s r) (text_or args.TypeName args.NullType c.value) a c.rest r c.then
    (name_stands w d t c.value s c.rest (is ∙ type_views.rolls-SystemType) (nullable_sound s c.value c.rest c.first))
level_sound w d exact t ArgType-F.Boxed a s r is h = boxed_sound w d exact t a s r (is ∙ type_views.rolls-Boxed) h
level_sound w d exact t (ArgType-F.Enum name) a s r is h = enum_sound w d t name (enum_width w name) a s r (is ∙ type_views.rolls-Enum name) refl h
level_sound w d exact t (ArgType-F.Array elem) a s r is h =
    let c = behind_ok (little_at 4 s) (λ count rest. items_arg elem (arg_at w d elem) count rest) (a, r) h in
    let p = little_sound 4 c.value s c.rest c.first in
    items_sound w d exact t elem c.value a s c.rest r (is ∙ type_views.rolls-Array elem) p.0 p.1 c.then

-- what is read of a type, by the type's own form
at_type : (w : List EnumWidth) (d : ℕ) (t u : ArgType) (x : ArgType-F ArgType) (s : List ℕ) → t ≡ u → out-ArgType u ≡ x → arg_level_at w (arg_at w d) (out-ArgType t) s ≡ arg_level_at w (arg_at w d) x s
at_type w d t u x s is out = ap (λ y. arg_level_at w (arg_at w d) y s) (ap out-ArgType is ∙ out)

array_full : (w : List EnumWidth) (d : ℕ) → ArgExact w d → (elem : ArgType) (items : List Arg) (s r : List ℕ) → length items < 2 ^ 32 - 1 → EachItem (HasType w d elem) items
    → (strip_little 4 (length (map strip_arg items)) s >>= strip_row (map strip_arg items)) ≡ Some r → array_arg elem (arg_at w d elem) s ≡ Ok (args.Array elem items, r)
array_full w d exact elem items s r small each h =
    let c = came (strip_little 4 (length (map strip_arg items)) s) (strip_row (map strip_arg items)) r h in
    let f = few (length items) small in
    let stood : strip_little 4 (length items) s ≡ Some c.by = ap (λ n. strip_little 4 n s) (sym (length-map items strip_arg)) ∙ c.first in
    goes_behind (little_at 4 s) (λ count rest. items_arg elem (arg_at w d elem) count rest) (length items) c.by (little_full 4 (length items) s c.by stood f.0)
    ∙ ap (λ (b : Bool). cond {A = Found Arg} b (Ok (args.NullArray elem, c.by)) (onward (many_items_at (arg_at w d elem) (length items) c.by) (λ items after. Ok (args.Array elem items, after)))) f.1
    ∙ goes_onward (many_items_at (arg_at w d elem) (length items) c.by) (λ items after. Ok (args.Array elem items, after)) items r
    (many_full (arg_at w d elem) (StandsArg w d elem) strip_arg (HasType w d elem) (λ n s. NeedsWidth w d n elem s) (item_exact w d exact elem) items c.by r c.after each)

boxed_full : (w : List EnumWidth) (d : ℕ) → ArgExact w d → (inner : ArgType) (value : Arg) (s r : List ℕ) → HasType w d inner value → arg_type_fits inner ≡ true → (strip_type inner s >>= strip_arg value) ≡ Some r → boxed_arg (arg_at w d) s ≡ Ok (args.Boxed inner value, r)
boxed_full w d exact inner value s r typed fits h =
    let c = came (strip_type inner s) (strip_arg value) r h in
    goes_behind (arg_type_at s) (λ ty rest. onward (arg_at w d ty rest) (λ arg after. Ok (args.Boxed ty arg, after))) inner c.by (type_full s inner c.by c.first fits)
    ∙ goes_onward (arg_at w d inner c.by) (λ arg after. Ok (args.Boxed inner arg, after)) value r (exact.full inner value c.by r (record { strips = c.after; typed = typed }))

-- what has a type has one that can be spelled
pub typed_fits : (w : List EnumWidth) (d : ℕ) (t : ArgType) (a : Arg) → HasType w d t a → arg_type_fits t ≡ true
unfolding HasType
typed_fits w zero t a h = absurd h
typed_fits w (suc d) t a h = h.0

enum_full : (w : List EnumWidth) (name : List ℕ) (elem bits : ℕ) (s r : List ℕ) → enum_width w name ≡ Some elem → is_numeric elem ≡ true → fits_in (number_width elem) bits ≡ true → strip_little (number_width elem) bits s ≡ Some r
    → enum_of name (enum_width w name) s ≡ Ok (args.Enum name elem bits, r)
enum_full w name elem bits s r known numeric fits h =
    ap (λ (o : Option ℕ). enum_of name o s) known
    ∙ ap (λ (b : Bool). cond {A = Found Arg} b (number_arg (args.Enum name elem) elem s) (Err Fails)) numeric
    ∙ goes_behind (little_at (number_width elem) s) (λ bits rest. Ok (args.Enum name elem bits, rest)) bits r (little_full (number_width elem) bits s r h fits)

pub level_full : (w : List EnumWidth) (d : ℕ) → ArgExact w d → (t : ArgType) (y : Arg-F Arg) (s r : List ℕ) → has_type_level w (HasType w d) t y → strip_arg_level (map-Arg Arg Strip strip_arg y) s ≡ Some r
    → arg_level_at w (arg_at w d) (out-ArgType t) s ≡ Ok (roll-Arg y, r)
unfolding arg_level_at
level_full w d exact t (Arg-F.Num elem bits) s r is h =
    at_type w d t (types.Prim elem) (ArgType-F.Prim elem) s is.0 (type_views.outs-Prim elem)
    ∙ goes_behind (little_at (number_width elem) s) (λ bits rest. Ok (args.Num elem bits, rest)) bits r (little_full (number_width elem) bits s r h is.1)
    ∙ ap (λ a. Ok (a, r)) (sym (arg_views.rolls-Num elem bits))
level_full w d exact t (Arg-F.Text text) s r is h =
    at_type w d t types.Text ArgType-F.Text s is.0 type_views.outs-Text
    ∙ goes_behind (nullable_at s) (λ text rest. Ok (text_or args.Text args.NullText text, rest)) (Some text) r (nullable_text s text r h)
    ∙ ap (λ a. Ok (a, r)) (sym (arg_views.rolls-Text text))
level_full w d exact t Arg-F.NullText s r is h =
    at_type w d t types.Text ArgType-F.Text s is type_views.outs-Text
    ∙ goes_behind (nullable_at s) (λ text rest. Ok (text_or args.Text args.NullText text, rest)) None r (nullable_null s r h)
    ∙ ap (λ a. Ok (a, r)) (sym arg_views.rolls-NullText)
level_full w d exact t (Arg-F.TypeName text) s r is h =
    at_type w d t types.SystemType ArgType-F.SystemType s is.0 type_views.outs-SystemType
    ∙ goes_behind (nullable_at s) (λ text rest. Ok (text_or args.TypeName args.NullType text, rest)) (Some text) r (nullable_text s text r h)
    ∙ ap (λ a. Ok (a, r)) (sym (arg_views.rolls-TypeName text))
level_full w d exact t Arg-F.NullType s r is h =
    at_type w d t types.SystemType ArgType-F.SystemType s is type_views.outs-SystemType
    ∙ goes_behind (nullable_at s) (λ text rest. Ok (text_or args.TypeName args.NullType text, rest)) None r (nullable_null s r h)
    ∙ ap (λ a. Ok (a, r)) (sym arg_views.rolls-NullType)
level_full w d exact t (Arg-F.Boxed inner value) s r is h =
    at_type w d t types.Boxed ArgType-F.Boxed s is.0 type_views.outs-Boxed
    ∙ boxed_full w d exact inner value s r is.1 (typed_fits w d inner value is.1) h
    ∙ ap (λ a. Ok (a, r)) (sym (arg_views.rolls-Boxed inner value))
level_full w d exact t (Arg-F.Enum name elem bits) s r is h =
    at_type w d t (types.Enum name) (ArgType-F.Enum name) s is.0 (type_views.outs-Enum name)
    ∙ enum_full w name elem bits s r is.1 is.2 is.3 h
    ∙ ap (λ a. Ok (a, r)) (sym (arg_views.rolls-Enum name elem bits))
level_full w d exact t (Arg-F.Array elem items) s r is h =
    at_type w d t (types.Array elem) (ArgType-F.Array elem) s is.0 (type_views.outs-Array elem)
    ∙ array_full w d exact elem items s r is.1 is.2 h
    ∙ ap (λ a. Ok (a, r)) (sym (arg_views.rolls-Array elem items))
level_full w d exact t (Arg-F.NullArray elem) s r is h =
    at_type w d t (types.Array elem) (ArgType-F.Array elem) s is (type_views.outs-Array elem)
    ∙ goes_behind (little_at 4 s) (λ count rest. items_arg elem (arg_at w d elem) count rest) 0xffffffff r (little_full 4 0xffffffff s r h refl)
    ∙ ap (λ a. Ok (a, r)) (sym (arg_views.rolls-NullArray elem))
