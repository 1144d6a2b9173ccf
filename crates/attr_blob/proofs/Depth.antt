-- One step of the depth that is left, and one item more.
use Rattle.std.proofs.Common.{◌≡◌, ℕ, zero, suc, ◌-◌, ◌<◌, List, [], ◌∷◌, ◌++◌, Bool, true, false, cond, Ok, Err, refl, sym, ap, ◌∙◌, append_assoc, arith}
use Rattle.attr_blob.specs.Types.{arg_type_fits}
use Rattle.attr_blob.specs.Attrs.{arg_depth_limit}
use Rattle.attr_blob.specs.inner.Steps.{Found, onward}
use Rattle.attr_blob.specs.inner.Reading.{arg_at, arg_level_at, many_items_at, fixed_at, with_before}
use Rattle.attr_blob.specs.declared.stop.Stop.{Stop}
use Rattle.attr_blob.specs.declared.stop.Stop.TheVariants.{Fails}
use Rattle.attr_blob.specs.declared.value.EnumWidth.{EnumWidth}
use Rattle.attr_blob.specs.declared.value.ArgType.{ArgType}
use Rattle.attr_blob.specs.declared.value.ArgType.TheViews.{out-ArgType}
use Rattle.attr_blob.specs.declared.value.Arg.{Arg}

pub at_zero : (w : List EnumWidth) (d : ℕ) (t : ArgType) (s : List ℕ) → d ≡ 0 → arg_at w d t s ≡ Err Fails
unfolding arg_at
at_zero w zero t s h = refl
at_zero w (suc d) t s h = absurd (omega arith)

pub at_unfit : (w : List EnumWidth) (d : ℕ) (t : ArgType) (s : List ℕ) → arg_type_fits t ≡ false → arg_at w d t s ≡ Err Fails
unfolding arg_at
at_unfit w zero t s h = refl
at_unfit w (suc d) t s h = ap (λ (b : Bool). cond {A = Found Arg} b (arg_level_at w (arg_at w d) (out-ArgType t) s) (Err Fails)) h

pub at_suc : (w : List EnumWidth) (d : ℕ) (t : ArgType) (s : List ℕ) → arg_type_fits t ≡ true → arg_at w (suc d) t s ≡ arg_level_at w (arg_at w d) (out-ArgType t) s
unfolding arg_at
at_suc w d t s h = ap (λ (b : Bool). cond {A = Found Arg} b (arg_level_at w (arg_at w d) (out-ArgType t) s) (Err Fails)) h

pub at_level : (w : List EnumWidth) (d : ℕ) (t : ArgType) (s : List ℕ) → 0 < d → arg_type_fits t ≡ true → arg_at w d t s ≡ arg_level_at w (arg_at w (d - 1)) (out-ArgType t) s
at_level w zero t s h k = absurd (omega arith)
at_level w (suc d) t s h k = let before : suc d - 1 ≡ d = omega arith in at_suc w d t s k ∙ ap (λ e. arg_level_at w (arg_at w e) (out-ArgType t) s) (sym before)

-- nothing before
pub none_before : {A : Type 0} (found : Found (List A)) → with_before [] found ≡ found
none_before (Err e) = refl
none_before (Ok x) = refl

shifted : {A : Type 0} (before : List A) (x : A) (found : Found (List A)) → with_before before (onward found (λ xs after. Ok (x ∷ xs, after))) ≡ with_before (before ++ x ∷ []) found
shifted before x (Err e) = refl
shifted before x (Ok y) = ap (λ xs. Ok (xs, y.1)) (sym (append_assoc before (x ∷ []) y.0))

pub one_more : {A : Type 0} (before : List A) (item : List ℕ → Found A) (n m : ℕ) (x : A) (s r : List ℕ) → item s ≡ Ok (x, r) → n ≡ suc m → with_before before (many_items_at item n s) ≡ with_before (before ++ x ∷ []) (many_items_at item m r)
one_more {A} before item n m x s r h e =
    ap (λ k. with_before before (many_items_at item k s)) e
    ∙ ap (λ (o : Found A). with_before before (onward {A = A} {B = List A} o (λ x r. onward (many_items_at item m r) (λ xs after. Ok (x ∷ xs, after))))) h
    ∙ shifted before x (many_items_at item m r)

pub no_more : {A : Type 0} (before : List A) (item : List ℕ → Found A) (n m : ℕ) (stop : Stop) (s : List ℕ) → item s ≡ Err stop → n ≡ suc m → with_before before (many_items_at item n s) ≡ Err stop
no_more {A} before item n m stop s h e =
    ap (λ k. with_before before (many_items_at item k s)) e
    ∙ ap (λ (o : Found A). with_before before (onward {A = A} {B = List A} o (λ x r. onward (many_items_at item m r) (λ xs after. Ok (x ∷ xs, after))))) h

pub one_more_fixed : (w : List EnumWidth) (before : List Arg) (all ts : List ArgType) (t : ArgType) (x : Arg) (s r : List ℕ) → arg_at w arg_depth_limit t s ≡ Ok (x, r) → all ≡ t ∷ ts → with_before before (fixed_at w all s) ≡ with_before (before ++ x ∷ []) (fixed_at w ts r)
one_more_fixed w before all ts t x s r h e =
    ap (λ k. with_before before (fixed_at w k s)) e
    ∙ ap (λ (o : Found Arg). with_before before (onward {A = Arg} {B = List Arg} o (λ x r. onward (fixed_at w ts r) (λ xs after. Ok (x ∷ xs, after))))) h
    ∙ shifted before x (fixed_at w ts r)

pub no_more_fixed : (w : List EnumWidth) (before : List Arg) (all ts : List ArgType) (t : ArgType) (stop : Stop) (s : List ℕ) → arg_at w arg_depth_limit t s ≡ Err stop → all ≡ t ∷ ts → with_before before (fixed_at w all s) ≡ Err stop
no_more_fixed w before all ts t stop s h e =
    ap (λ k. with_before before (fixed_at w k s)) e
    ∙ ap (λ (o : Found Arg). with_before before (onward {A = Arg} {B = List Arg} o (λ x r. onward (fixed_at w ts r) (λ xs after. Ok (x ∷ xs, after))))) h
