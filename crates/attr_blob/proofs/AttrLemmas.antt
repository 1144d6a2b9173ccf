-- Whole values: what is read is what stands there, and nothing else.
use Rattle.std.proofs.Common.{◌≡◌, ℕ, ◌^◌, ◌<◌, ◌⊎◌, inl, inr, List, [], ◌∷◌, true, cond, eqb, Option, Some, Ok, Err, length, map, refl, sym, ap, subst, ◌∙◌, arith}
use Rattle.std.proofs.lemmas.Bool.{eqb-true}
use Rattle.std.proofs.lemmas.Bool.Decides.{nat_tests}
use Rattle.std.proofs.lemmas.Option.{same_Some}
use Rattle.cil_base.specs.Steps.{◌>>=◌}
use Rattle.cil_base.proofs.StepLemmas.{split, came}
use Rattle.attr_blob.specs.Fronts.{strip_little, strip_row, fits_in}
use Rattle.attr_blob.specs.Args.{strip_arg}
use Rattle.attr_blob.specs.Attrs.{arg_depth_limit, strip_named, strip_attr, HasNamedType, HasTypes, HasAttrType, ReadsAttr}
use Rattle.attr_blob.specs.Needs.{FixedNeeds, StandsNamed, NamedNeeds, LaterNamedNeeds, AttrNeeds}
use Rattle.attr_blob.specs.Decoded.{whole_blob, answer_of, attr_at, ValueExactly, UnknownExactly}
use Rattle.attr_blob.specs.inner.Steps.{Found, onward}
use Rattle.attr_blob.specs.inner.Reading.{little_at, many_items_at, arg_at, named_at, fixed_at, after_fixed, value_at}
use Rattle.attr_blob.specs.declared.stop.Stop.TheVariants.{Lacks, Fails}
use Rattle.attr_blob.specs.declared.value.EnumWidth.{EnumWidth}
use Rattle.attr_blob.specs.declared.value.ArgType.{ArgType}
use Rattle.attr_blob.specs.declared.value.Arg.{Arg}
use Rattle.attr_blob.specs.declared.value.NamedArg.{NamedArg}
use Rattle.attr_blob.specs.declared.value.AttrValue.{AttrValue}
use Rattle.attr_blob.specs.declared.value.AttrRead.TheVariants.{Value, Unknown}
use Rattle.attr_blob.proofs.Leaves.{little_sound, little_full}
use Rattle.attr_blob.proofs.StepLemmas.{along_ok, ok_lacks, err_ok, fails_lacks, behind_ok, behind_lacks, onward_ok, onward_lacks, goes_behind, goes_onward, stops_onward, many_sound, many_full, many_lacks, many_needs}
use Rattle.attr_blob.proofs.NeedLemmas.{arg_exact}
use Rattle.attr_blob.proofs.NamedLemmas.{named_exact}

-- the fixed arguments
record FixedStand (w : List EnumWidth) (ts : List ArgType) (xs : List Arg) (s r : List ℕ) : Type 0 where
  strips : strip_row (map strip_arg xs) s ≡ Some r
  typed : HasTypes w ts xs

fixed_sound : (w : List EnumWidth) (ts : List ArgType) (xs : List Arg) (s r : List ℕ) → fixed_at w ts s ≡ Ok (xs, r) → FixedStand w ts xs s r
fixed_sound w [] xs s r h = along_ok (λ (xs : List Arg) r. FixedStand w [] xs s r) [] xs s r h (record { strips = refl; typed = tt })
fixed_sound w (t ∷ ts) xs s r h =
    let c = onward_ok (arg_at w arg_depth_limit t s) (λ arg rest. onward (fixed_at w ts rest) (λ args after. Ok (arg ∷ args, after))) (xs, r) h in
    let d = onward_ok (fixed_at w ts c.rest) (λ args after. Ok (c.value ∷ args, after)) (xs, r) c.then in
    let p = (arg_exact w arg_depth_limit).sound t c.value s c.rest c.first in
    let q = fixed_sound w ts d.value c.rest d.rest d.first in
    along_ok (λ (xs : List Arg) r. FixedStand w (t ∷ ts) xs s r) (c.value ∷ d.value) xs d.rest r d.then (record {
      strips = ap (λ (o : Option (List ℕ)). o >>= strip_row (map strip_arg d.value)) p.strips ∙ q.strips;
      typed = (p.typed, q.typed);
    })

fixed_full : (w : List EnumWidth) (ts : List ArgType) (xs : List Arg) (s r : List ℕ) → strip_row (map strip_arg xs) s ≡ Some r → HasTypes w ts xs → fixed_at w ts s ≡ Ok (xs, r)
fixed_full w [] [] s r h typed = ap (λ r. Ok ([], r)) (same_Some s r h)
fixed_full w [] (x ∷ xs) s r h typed = absurd typed
fixed_full w (t ∷ ts) [] s r h typed = absurd typed
fixed_full w (t ∷ ts) (x ∷ xs) s r h typed =
    let c = came (strip_arg x s) (strip_row (map strip_arg xs)) r h in
    goes_onward (arg_at w arg_depth_limit t s) (λ arg rest. onward (fixed_at w ts rest) (λ args after. Ok (arg ∷ args, after))) x c.by ((arg_exact w arg_depth_limit).full t x s c.by (record { strips = c.first; typed = typed.0 }))
    ∙ goes_onward (fixed_at w ts c.by) (λ args after. Ok (x ∷ args, after)) xs r (fixed_full w ts xs c.by r c.after typed.1)

fixed_lacks : (w : List EnumWidth) (ts : List ArgType) (n s : List ℕ) → fixed_at w ts s ≡ Err (Lacks n) → FixedNeeds w n ts s
fixed_lacks w [] n s h = ok_lacks {A = List Arg} {P = ⊥} ([], s) (Lacks n) h
fixed_lacks w (t ∷ ts) n s h =
    elim (onward_lacks (arg_at w arg_depth_limit t s) (λ arg rest. onward (fixed_at w ts rest) (λ args after. Ok (arg ∷ args, after))) n h) [
      | inl first ↦ inl ((arg_exact w arg_depth_limit).lacks t n s first)
      | inr c ↦ elim (onward_lacks (fixed_at w ts c.rest) (λ args after. Ok (c.value ∷ args, after)) n c.then) [
        | inl later ↦ inr (c.value, c.rest, (arg_exact w arg_depth_limit).sound t c.value s c.rest c.first, fixed_lacks w ts n c.rest later)
        | inr d ↦ ok_lacks {A = List Arg} {P = FixedNeeds w n (t ∷ ts) s} (c.value ∷ d.value, d.rest) (Lacks n) d.then
      ]
    ]

fixed_needs : (w : List EnumWidth) (ts : List ArgType) (n s : List ℕ) → FixedNeeds w n ts s → fixed_at w ts s ≡ Err (Lacks n)
fixed_needs w [] n s h = absurd h
fixed_needs w (t ∷ ts) n s (inl first) = stops_onward (arg_at w arg_depth_limit t s) (λ arg rest. onward (fixed_at w ts rest) (λ args after. Ok (arg ∷ args, after))) (Lacks n) ((arg_exact w arg_depth_limit).needed t n s first)
fixed_needs w (t ∷ ts) n s (inr later) =
    goes_onward (arg_at w arg_depth_limit t s) (λ arg rest. onward (fixed_at w ts rest) (λ args after. Ok (arg ∷ args, after))) later.0 later.1 ((arg_exact w arg_depth_limit).full t later.0 s later.1 later.2)
    ∙ stops_onward (fixed_at w ts later.1) (λ args after. Ok (later.0 ∷ args, after)) (Lacks n) (fixed_needs w ts n later.1 later.3)

-- whole values
abbrev attr_of : List Arg → List NamedArg → AttrValue
attr_of fixed named = record { fixed = fixed; named = named }

abbrev count_next : List EnumWidth → List Arg → ℕ → List ℕ → Found AttrValue
count_next w fixed count rest = onward (many_items_at (named_at w) count rest) (λ named after. Ok (attr_of fixed named, after))

abbrev prolog_next : List ArgType → List EnumWidth → ℕ → List ℕ → Found AttrValue
prolog_next params w prolog rest = cond (eqb prolog 1) (onward (fixed_at w params rest) (after_fixed w)) (Err Fails)

record AttrStands (params : List ArgType) (w : List EnumWidth) (v : AttrValue) (s r : List ℕ) : Type 0 where
  strips : strip_attr v s ≡ Some r
  typed : HasAttrType params w v

small_count : (n : ℕ) → fits_in 2 n ≡ true → n < 2 ^ 16
small_count n h = grind (arith, nat_tests)

pub fits_count : (n : ℕ) → n < 2 ^ 16 → fits_in 2 n ≡ true
fits_count n h = grind (arith, nat_tests)

fixed_then : (params : List ArgType) (w : List EnumWidth) (v : AttrValue) (s q r : List ℕ) → strip_little 2 1 s ≡ Some q → onward (fixed_at w params q) (after_fixed w) ≡ Ok (v, r) → AttrStands params w v s r
fixed_then params w v s q r prolog h =
    let c = onward_ok (fixed_at w params q) (after_fixed w) (v, r) h in
    let d = behind_ok (little_at 2 c.rest) (count_next w c.value) (v, r) c.then in
    let e = onward_ok (many_items_at (named_at w) d.value d.rest) (λ named after. Ok (attr_of c.value named, after)) (v, r) d.then in
    let fixed = fixed_sound w params c.value q c.rest c.first in
    let count = little_sound 2 d.value c.rest d.rest d.first in
    let named = many_sound (named_at w) (StandsNamed w) strip_named (HasNamedType w) (λ n s. NamedNeeds w n s) (named_exact w) d.value e.value d.rest e.rest e.first in
    along_ok (λ v r. AttrStands params w v s r) (attr_of c.value e.value) v e.rest r e.then (record {
      strips = ap (λ (o : Option (List ℕ)). o >>= strip_row (map strip_arg c.value) >>= strip_little 2 (length e.value) >>= strip_row (map strip_named e.value)) prolog
          ∙ ap (λ (o : Option (List ℕ)). o >>= strip_little 2 (length e.value) >>= strip_row (map strip_named e.value)) fixed.strips
          ∙ ap (λ n. strip_little 2 n c.rest >>= strip_row (map strip_named e.value)) named.count
          ∙ ap (λ (o : Option (List ℕ)). o >>= strip_row (map strip_named e.value)) count.0
          ∙ named.strips;
      typed = record { fixed = fixed.typed; count = subst (λ n. n < 2 ^ 16) (sym named.count) (small_count d.value count.1); named = named.each };
    })

value_sound : (params : List ArgType) (w : List EnumWidth) (v : AttrValue) (s r : List ℕ) → value_at params w s ≡ Ok (v, r) → AttrStands params w v s r
unfolding value_at
value_sound params w v s r h =
    let c = behind_ok (little_at 2 s) (prolog_next params w) (v, r) h in
    let p = little_sound 2 c.value s c.rest c.first in
    split {P = AttrStands params w v s r} (eqb c.value 1) (onward (fixed_at w params c.rest) (after_fixed w)) (Err Fails) (Ok (v, r)) c.then
    (λ e f. fixed_then params w v s c.rest r (ap (λ n. strip_little 2 n s) (sym (eqb-true c.value 1 e)) ∙ p.0) f)
    (λ e f. err_ok {A = AttrValue} {P = AttrStands params w v s r} (v, r) Fails f)

value_full : (params : List ArgType) (w : List EnumWidth) (v : AttrValue) (s r : List ℕ) → strip_attr v s ≡ Some r → HasAttrType params w v → value_at params w s ≡ Ok (v, r)
unfolding value_at
value_full params w v s r h typed =
    let z = came (strip_little 2 1 s >>= strip_row (map strip_arg v.fixed) >>= strip_little 2 (length v.named)) (strip_row (map strip_named v.named)) r h in
    let y = came (strip_little 2 1 s >>= strip_row (map strip_arg v.fixed)) (strip_little 2 (length v.named)) z.by z.first in
    let x = came (strip_little 2 1 s) (strip_row (map strip_arg v.fixed)) y.by y.first in
    goes_behind (little_at 2 s) (prolog_next params w) 1 x.by (little_full 2 1 s x.by x.first refl)
    ∙ goes_onward (fixed_at w params x.by) (after_fixed w) v.fixed y.by (fixed_full w params v.fixed x.by y.by x.after typed.fixed)
    ∙ goes_behind (little_at 2 y.by) (count_next w v.fixed) (length v.named) z.by (little_full 2 (length v.named) y.by z.by y.after (fits_count (length v.named) typed.count))
    ∙ goes_onward (many_items_at (named_at w) (length v.named) z.by) (λ named after. Ok (attr_of v.fixed named, after)) v.named r
    (many_full (named_at w) (StandsNamed w) strip_named (HasNamedType w) (λ n s. NamedNeeds w n s) (named_exact w) v.named z.by r z.after typed.named)

after_lacks : (params : List ArgType) (w : List EnumWidth) (fixed : List Arg) (n s q : List ℕ) → strip_row (map strip_arg fixed) s ≡ Some q → HasTypes w params fixed → after_fixed w fixed q ≡ Err (Lacks n) → LaterNamedNeeds w params n s
after_lacks params w fixed n s q stood typed h =
    let d = behind_lacks (little_at 2 q) (count_next w fixed) n h in
    let count = little_sound 2 d.value q d.rest d.first in
    elim (onward_lacks (many_items_at (named_at w) d.value d.rest) (λ named after. Ok (attr_of fixed named, after)) n d.then) [
      | inl later ↦ (
        fixed,
        q,
        d.value,
        d.rest,
        stood,
        typed,
        count.0,
        small_count d.value count.1,
        many_lacks (named_at w) (StandsNamed w) strip_named (HasNamedType w) (λ n s. NamedNeeds w n s) (named_exact w) d.value n d.rest later,
      )
      | inr e ↦ ok_lacks {A = AttrValue} {P = LaterNamedNeeds w params n s} (attr_of fixed e.value, e.rest) (Lacks n) e.then
    ]

fixed_or_named : (params : List ArgType) (w : List EnumWidth) (n s : List ℕ) → onward (fixed_at w params s) (after_fixed w) ≡ Err (Lacks n) → FixedNeeds w n params s ⊎ LaterNamedNeeds w params n s
fixed_or_named params w n s h =
    elim (onward_lacks (fixed_at w params s) (after_fixed w) n h) [
      | inl first ↦ inl (fixed_lacks w params n s first)
      | inr c ↦
          let fixed = fixed_sound w params c.value s c.rest c.first in
          inr (after_lacks params w c.value n s c.rest fixed.strips fixed.typed c.then)
    ]

value_lacks : (params : List ArgType) (w : List EnumWidth) (n s : List ℕ) → value_at params w s ≡ Err (Lacks n) → AttrNeeds params w n s
unfolding value_at
value_lacks params w n s h =
    let c = behind_lacks (little_at 2 s) (prolog_next params w) n h in
    let p = little_sound 2 c.value s c.rest c.first in
    split {P = AttrNeeds params w n s} (eqb c.value 1) (onward (fixed_at w params c.rest) (after_fixed w)) (Err Fails) (Err (Lacks n)) c.then
    (λ e f. record { rest = c.rest; prolog = ap (λ n. strip_little 2 n s) (sym (eqb-true c.value 1 e)) ∙ p.0; needs = fixed_or_named params w n c.rest f })
    (λ e f. fails_lacks {A = AttrValue} {P = AttrNeeds params w n s} n f)

needed_then : (params : List ArgType) (w : List EnumWidth) (n s : List ℕ) → FixedNeeds w n params s ⊎ LaterNamedNeeds w params n s → onward (fixed_at w params s) (after_fixed w) ≡ Err (Lacks n)
needed_then params w n s (inl first) = stops_onward (fixed_at w params s) (after_fixed w) (Lacks n) (fixed_needs w params n s first)
needed_then params w n s (inr h) =
    goes_onward (fixed_at w params s) (after_fixed w) h.0 h.1 (fixed_full w params h.0 s h.1 h.4 h.5)
    ∙ goes_behind (little_at 2 h.1) (count_next w h.0) h.2 h.3 (little_full 2 h.2 h.1 h.3 h.6 (fits_count h.2 h.7))
    ∙ stops_onward (many_items_at (named_at w) h.2 h.3) (λ named after. Ok (attr_of h.0 named, after)) (Lacks n)
    (many_needs (named_at w) (StandsNamed w) strip_named (HasNamedType w) (λ n s. NamedNeeds w n s) (named_exact w) h.2 n h.3 h.8)

value_needs : (params : List ArgType) (w : List EnumWidth) (n s : List ℕ) → AttrNeeds params w n s → value_at params w s ≡ Err (Lacks n)
unfolding value_at
value_needs params w n s h =
    goes_behind (little_at 2 s) (prolog_next params w) 1 h.rest (little_full 2 1 s h.rest h.prolog refl)
    ∙ needed_then params w n h.rest h.needs

same_value : (u v : AttrValue) → Value u ≡ Value v → u ≡ v
same_value u v h = cc

same_unknown : (m n : List ℕ) → Unknown m ≡ Unknown n → m ≡ n
same_unknown m n h = cc

whole_is : (u v : AttrValue) (r : List ℕ) → whole_blob u r ≡ Value v → ◌≡◌ {A = Found AttrValue} (Ok (u, r)) (Ok (v, []))
whole_is u v [] h = ap (λ u. Ok (u, [])) (same_value u v h)
whole_is u v (b ∷ r) h = absurd cc

value_is : (found : Found AttrValue) (v : AttrValue) → answer_of found ≡ Value v → found ≡ Ok (v, [])
value_is (Ok x) v h = whole_is x.0 v x.1 h
value_is (Err (Lacks n)) v h = absurd cc
value_is (Err Fails) v h = absurd cc

whole_unknown : (u : AttrValue) (r n : List ℕ) → whole_blob u r ≡ Unknown n → ⊥
whole_unknown u [] n h = cc
whole_unknown u (b ∷ r) n h = cc

unknown_is : (found : Found AttrValue) (n : List ℕ) → answer_of found ≡ Unknown n → found ≡ Err (Lacks n)
unknown_is (Ok x) n h = absurd (whole_unknown x.0 x.1 n h)
unknown_is (Err (Lacks m)) n h = ap (λ m. Err (Lacks m)) (same_unknown m n h)
unknown_is (Err Fails) n h = absurd cc

pub value_exactly : ValueExactly
unfolding attr_at
value_exactly = λ params w s v. (
  λ h. let p = value_sound params w v s [] (value_is (value_at params w s) v h) in record { whole = p.strips; typed = p.typed },
  λ h. ap answer_of (value_full params w v s [] h.whole h.typed),
)

pub unknown_exactly : UnknownExactly
unfolding attr_at
unknown_exactly = λ params w s n. (
  λ h. value_lacks params w n s (unknown_is (value_at params w s) n h),
  λ h. ap answer_of (value_needs params w n s h),
)

pub one_reading : (params : List ArgType) (w : List EnumWidth) (s : List ℕ) (a b : AttrValue) → ReadsAttr params w a s → ReadsAttr params w b s → a ≡ b
one_reading params w s a b h k = same_value a b (sym ((value_exactly params w s a).1 h) ∙ (value_exactly params w s b).1 k)
