-- What is spelled is stripped off again.
use Rattle.std.proofs.Common.{◌≡◌, ℕ, zero, suc, ◌-◌, ◌^◌, ◌<◌, List, [], ◌∷◌, ◌++◌, Bool, true, cond, eqb, leb, Option, Some, None, length, map, drop, refl, sym, ap, ◌∙◌, append_assoc, arith}
use Rattle.std.specs.List.{flat_map}
use Rattle.std.proofs.Math.Seq.{drop-append_seam}
use Rattle.std.proofs.lemmas.Bool.{eq-eqb}
use Rattle.std.proofs.lemmas.Bool.Decides.{nat_tests}
use Rattle.std.proofs.lemmas.List.{length-append, length-map, append-nil}
use Rattle.byteorder.specs.Endian.{little_bytes}
use Rattle.byteorder.specs.Numbers.{length-bytes_low_first}
use Rattle.cil_base.specs.Number.{spelled_number, strip_bytes}
use Rattle.cil_base.specs.Place.{number_at}
use Rattle.cil_base.specs.Steps.{◌>>=◌}
use Rattle.cil_base.proofs.NumberLemmas.{strip-spelled_number, strip-bytes, below}
use Rattle.cil_base.proofs.PlaceLemmas.{number-written}
use Rattle.attr_blob.specs.Fronts.{strip_little, strip_text, strip_row, fits_in, is_short_text, spelled_text}
use Rattle.attr_blob.specs.Types.{number_width, simple_fits, fits_level, arg_type_fits, strip_simple, strip_type_level, strip_type, spelled_simple, spelled_type_level, spelled_type}
use Rattle.attr_blob.specs.Args.{strip_arg_level, strip_arg, EachItem, has_type_level, HasType}
use Rattle.attr_blob.specs.Attrs.{arg_depth_limit, named_mark, strip_named, strip_attr, HasNamedType, HasTypes, HasAttrType}
use Rattle.attr_blob.specs.Decoded.{attr_at}
use Rattle.attr_blob.specs.Spelled.{spelled_arg_level, spelled_arg, spelled_args, spelled_named, spelled_all_named, spelled_attr}
use Rattle.attr_blob.specs.declared.value.EnumWidth.{EnumWidth}
use Rattle.attr_blob.specs.declared.value.ArgType.{ArgType}
use Rattle.attr_blob.specs.declared.value.ArgType.TheOpen.{ArgType-F}
use Rattle.attr_blob.specs.declared.value.ArgType.TheViews.{out-ArgType}
use Rattle.attr_blob.specs.declared.value.Arg.{Arg}
use Rattle.attr_blob.specs.declared.value.Arg.TheOpen.{Arg-F}
use Rattle.attr_blob.specs.declared.value.Arg.TheViews.{out-Arg, roll-Arg, roll-out-Arg}
use Rattle.attr_blob.specs.declared.value.Arg.TheFolds.{map-Arg, fold-roll-Arg}
use Rattle.attr_blob.specs.declared.value.NamedArg.{NamedArg}
use Rattle.attr_blob.specs.declared.value.AttrValue.{AttrValue}
use Rattle.attr_blob.specs.declared.value.AttrRead.TheVariants.{Value}
use Rattle.attr_blob.proofs.Leaves.{and, byte_strips}
use Rattle.attr_blob.proofs.ArgLemmas.{Strip, strip-of, typed_fits}
use Rattle.attr_blob.proofs.NeedLemmas.{parts_of}
use Rattle.attr_blob.proofs.AttrLemmas.{fits_count, value_exactly}

there : (width : ℕ) (front r : List ℕ) → length front ≡ width → leb width (length (front ++ r)) ≡ true
there width front r h = let long = length-append front r in grind (arith, nat_tests)

dropped : (width : ℕ) (front r : List ℕ) → length front ≡ width → drop width (front ++ r) ≡ r
dropped width front r h = ap (λ n. drop n (front ++ r)) (sym h) ∙ drop-append_seam front r

little_back : (width n : ℕ) (r : List ℕ) → fits_in width n ≡ true → strip_little width n (little_bytes width n ++ r) ≡ Some r
little_back width n r h =
    let bytes = little_bytes width n in
    let long : length (little_bytes width n) ≡ width = length-bytes_low_first 0 width n in
    let read : number_at (little_bytes width n ++ r) 0 width ≡ n = number-written width n r (below n (256 ^ width) h) in
    ap (λ (b : Bool). cond {A = Option (List ℕ)} b (Some (drop width (bytes ++ r))) None) (and (leb width (length (bytes ++ r))) (eqb (number_at (bytes ++ r) 0 width) n) (there width bytes r long) (eq-eqb (number_at (bytes ++ r) 0 width) n read))
    ∙ ap (λ q. Some q) (dropped width bytes r long)

text_back : (t r : List ℕ) → is_short_text t ≡ true → strip_text t (spelled_text t ++ r) ≡ Some r
text_back t r h =
    ap (λ (b : Bool). strip_text t (cond {A = List ℕ} b (spelled_number (length t) ++ t) [] ++ r)) h
    ∙ ap (strip_text t) (append_assoc (spelled_number (length t)) t r)
    ∙ ap (λ (o : Option (List ℕ)). o >>= strip_bytes t) (strip-spelled_number (length t) (t ++ r) (below (length t) (2 ^ 29) h))
    ∙ strip-bytes t r

simple_back : (x : ArgType-F ArgType) (r : List ℕ) → simple_fits x ≡ true → strip_simple x (spelled_simple x ++ r) ≡ Some r
simple_back (ArgType-F.Prim elem) r h = byte_strips elem r
simple_back ArgType-F.Text r h = refl
simple_back ArgType-F.SystemType r h = refl
simple_back ArgType-F.Boxed r h = refl
simple_back (ArgType-F.Enum name) r h = text_back name r h
simple_back (ArgType-F.Array elem) r h = absurd cc

level_type_back : (x : ArgType-F ArgType) (r : List ℕ) → fits_level x ≡ true → strip_type_level x (spelled_type_level x ++ r) ≡ Some r
level_type_back (ArgType-F.Prim elem) r h = byte_strips elem r
level_type_back ArgType-F.Text r h = refl
level_type_back ArgType-F.SystemType r h = refl
level_type_back ArgType-F.Boxed r h = refl
level_type_back (ArgType-F.Enum name) r h = text_back name r h
level_type_back (ArgType-F.Array elem) r h = simple_back (out-ArgType elem) r h

type_back : (t : ArgType) (r : List ℕ) → arg_type_fits t ≡ true → strip_type t (spelled_type t ++ r) ≡ Some r
unfolding strip_type spelled_type arg_type_fits
type_back t r h = level_type_back (out-ArgType t) r h

-- one after the other
row_back : {A : Type 0} (strip : A → List ℕ → Option (List ℕ)) (spelled : A → List ℕ) (typed : A → Type 0) → ((a : A) (r : List ℕ) → typed a → strip a (spelled a ++ r) ≡ Some r)
    → (xs : List A) (r : List ℕ) → EachItem typed xs → strip_row (map strip xs) (flat_map (λ item. item) (map spelled xs) ++ r) ≡ Some r
row_back strip spelled typed back [] r each = refl
row_back strip spelled typed back (x ∷ xs) r each =
    let rest = flat_map (λ item. item) (map spelled xs) in
    ap (λ s. strip x s >>= strip_row (map strip xs)) (append_assoc (spelled x) rest r)
    ∙ ap (λ (o : Option (List ℕ)). o >>= strip_row (map strip xs)) (back x (rest ++ r) each.0)
    ∙ row_back strip spelled typed back xs r each.1

spelled-of : (x : Arg-F Arg) (a : Arg) → roll-Arg x ≡ a → spelled_arg a ≡ spelled_arg_level (map-Arg Arg (List ℕ) spelled_arg x)
spelled-of x a is = ap spelled_arg (sym is) ∙ fold-roll-Arg (List ℕ) spelled_arg_level x

Back : List EnumWidth → ℕ → Type 0
Back w d = (t : ArgType) (a : Arg) (r : List ℕ) → HasType w d t a → strip_arg a (spelled_arg a ++ r) ≡ Some r

boxed_back : (w : List EnumWidth) (d : ℕ) → Back w d → (inner : ArgType) (value : Arg) (r : List ℕ) → HasType w d inner value → (strip_type inner ((spelled_type inner ++ spelled_arg value) ++ r) >>= strip_arg value) ≡ Some r
unfolding Back
boxed_back w d back inner value r h =
    ap (λ s. strip_type inner s >>= strip_arg value) (append_assoc (spelled_type inner) (spelled_arg value) r)
    ∙ ap (λ (o : Option (List ℕ)). o >>= strip_arg value) (type_back inner (spelled_arg value ++ r) (typed_fits w d inner value h))
    ∙ back inner value r h

short_count : (n : ℕ) → n < 2 ^ 32 - 1 → fits_in 4 n ≡ true
short_count n h = grind (arith, nat_tests)

array_back : (w : List EnumWidth) (d : ℕ) → Back w d → (elem : ArgType) (items : List Arg) (r : List ℕ) → length items < 2 ^ 32 - 1 → EachItem (HasType w d elem) items
    → (strip_little 4 (length (map strip_arg items)) ((little_bytes 4 (length (map spelled_arg items)) ++ flat_map (λ item. item) (map spelled_arg items)) ++ r) >>= strip_row (map strip_arg items)) ≡ Some r
unfolding Back
array_back w d back elem items r small each =
    let n = length items in
    let rest = flat_map (λ item. item) (map spelled_arg items) in
    ap (λ m. strip_little 4 m ((little_bytes 4 (length (map spelled_arg items)) ++ rest) ++ r) >>= strip_row (map strip_arg items)) (length-map items strip_arg)
    ∙ ap (λ m. strip_little 4 n ((little_bytes 4 m ++ rest) ++ r) >>= strip_row (map strip_arg items)) (length-map items spelled_arg)
    ∙ ap (λ s. strip_little 4 n s >>= strip_row (map strip_arg items)) (append_assoc (little_bytes 4 n) rest r)
    ∙ ap (λ (o : Option (List ℕ)). o >>= strip_row (map strip_arg items)) (little_back 4 n (rest ++ r) (short_count n small))
    ∙ row_back strip_arg spelled_arg (HasType w d elem) (λ a r h. back elem a r h) items r each

level_back : (w : List EnumWidth) (d : ℕ) → Back w d → (t : ArgType) (y : Arg-F Arg) (r : List ℕ) → has_type_level w (HasType w d) t y
    → strip_arg_level (map-Arg Arg Strip strip_arg y) (spelled_arg_level (map-Arg Arg (List ℕ) spelled_arg y) ++ r) ≡ Some r
level_back w d back t (Arg-F.Num elem bits) r h = little_back (number_width elem) bits r h.1
level_back w d back t (Arg-F.Text text) r h = text_back text r h.1
level_back w d back t Arg-F.NullText r h = refl
level_back w d back t (Arg-F.TypeName name) r h = text_back name r h.1
level_back w d back t Arg-F.NullType r h = refl
level_back w d back t (Arg-F.Boxed inner value) r h = boxed_back w d back inner value r h.1
level_back w d back t (Arg-F.Enum name elem bits) r h = little_back (number_width elem) bits r h.3
level_back w d back t (Arg-F.Array elem items) r h = array_back w d back elem items r h.1 h.2
level_back w d back t (Arg-F.NullArray elem) r h = little_back 4 0xffffffff r refl

suc_back : (w : List EnumWidth) (d : ℕ) → Back w d → (t : ArgType) (a : Arg) (r : List ℕ) → HasType w (suc d) t a → strip_arg a (spelled_arg a ++ r) ≡ Some r
suc_back w d back t a r h =
    let y = out-Arg a in
    strip-of y a (roll-out-Arg a) (spelled_arg a ++ r)
    ∙ ap (λ front. strip_arg_level (map-Arg Arg Strip strip_arg y) (front ++ r)) (spelled-of y a (roll-out-Arg a))
    ∙ level_back w d back t y r (parts_of w d t a h).1

arg_back : (w : List EnumWidth) (d : ℕ) → Back w d
unfolding Back HasType
arg_back w zero = λ t a r h. absurd h
arg_back w (suc d) = λ t a r h. suc_back w d (arg_back w d) t a r h

has_back : (w : List EnumWidth) (d : ℕ) (t : ArgType) (a : Arg) (r : List ℕ) → HasType w d t a → strip_arg a (spelled_arg a ++ r) ≡ Some r
unfolding Back
has_back w d t a r h = arg_back w d t a r h

named_back : (w : List EnumWidth) (a : NamedArg) (r : List ℕ) → HasNamedType w a → strip_named a (spelled_named a ++ r) ≡ Some r
named_back w a r h =
    let mark = named_mark a.property in
    let type = spelled_type a.ty in
    let name = spelled_text a.name in
    let value = spelled_arg a.value in
    let order : (((mark ∷ type) ++ name) ++ value) ++ r ≡ mark ∷ (type ++ (name ++ (value ++ r))) =
    append_assoc ((mark ∷ type) ++ name) value r ∙ append_assoc (mark ∷ type) name (value ++ r) in
    ap (strip_named a) order
    ∙ ap (λ (o : Option (List ℕ)). o >>= strip_type a.ty >>= strip_text a.name >>= strip_arg a.value) (byte_strips mark (type ++ (name ++ (value ++ r))))
    ∙ ap (λ (o : Option (List ℕ)). o >>= strip_text a.name >>= strip_arg a.value) (type_back a.ty (name ++ (value ++ r)) (typed_fits w arg_depth_limit a.ty a.value h.value))
    ∙ ap (λ (o : Option (List ℕ)). o >>= strip_arg a.value) (text_back a.name (value ++ r) h.name)
    ∙ has_back w arg_depth_limit a.ty a.value r h.value

fixed_back : (w : List EnumWidth) (ts : List ArgType) (xs : List Arg) (r : List ℕ) → HasTypes w ts xs → strip_row (map strip_arg xs) (spelled_args xs ++ r) ≡ Some r
fixed_back w [] [] r h = refl
fixed_back w [] (x ∷ xs) r h = absurd h
fixed_back w (t ∷ ts) [] r h = absurd h
fixed_back w (t ∷ ts) (x ∷ xs) r h =
    ap (λ s. strip_arg x s >>= strip_row (map strip_arg xs)) (append_assoc (spelled_arg x) (spelled_args xs) r)
    ∙ ap (λ (o : Option (List ℕ)). o >>= strip_row (map strip_arg xs)) (has_back w arg_depth_limit t x (spelled_args xs ++ r) h.0)
    ∙ fixed_back w ts xs r h.1

attr_strips : (params : List ArgType) (w : List EnumWidth) (v : AttrValue) → HasAttrType params w v → strip_attr v (spelled_attr v) ≡ Some []
attr_strips params w v h =
    let fixed = spelled_args v.fixed in
    let n = length v.named in
    let count = little_bytes 2 n in
    let named = spelled_all_named v.named in
    let order : ((1 ∷ 0 ∷ fixed) ++ count) ++ named ≡ 1 ∷ 0 ∷ (fixed ++ (count ++ (named ++ []))) =
    append_assoc (1 ∷ 0 ∷ fixed) count named ∙ ap (λ s. 1 ∷ 0 ∷ (fixed ++ (count ++ s))) (sym (append-nil named)) in
    ap (strip_attr v) order
    ∙ ap (λ (o : Option (List ℕ)). o >>= strip_row (map strip_arg v.fixed) >>= strip_little 2 n >>= strip_row (map strip_named v.named)) (little_back 2 1 (fixed ++ (count ++ (named ++ []))) refl)
    ∙ ap (λ (o : Option (List ℕ)). o >>= strip_little 2 n >>= strip_row (map strip_named v.named)) (fixed_back w params v.fixed (count ++ (named ++ [])) h.fixed)
    ∙ ap (λ (o : Option (List ℕ)). o >>= strip_row (map strip_named v.named)) (little_back 2 n (named ++ []) (fits_count n h.count))
    ∙ row_back strip_named spelled_named (HasNamedType w) (λ a r k. named_back w a r k) v.named [] h.named

-- what is spelled is read back
pub spelled_read : (params : List ArgType) (w : List EnumWidth) (v : AttrValue) → HasAttrType params w v → attr_at params w (spelled_attr v) ≡ Value v
spelled_read params w v h = (value_exactly params w (spelled_attr v) v).1 (record { whole = attr_strips params w v h; typed = h })
