-- What each edit makes, and why it is refused, in parts.
use Rattle.std.proofs.Common.{◌≡◌, ◌==◌, ◌||◌, ◌+◌, ◌-◌, ◌<◌, ◌≤◌, ◌^◌, ◌++◌, ℕ, zero, suc, List, [], ◌∷◌, length, map, take, drop, set, Bool, true, false, cond, Option, Some, None, refl, sym, ap, ◌∙◌, arith, nat_lt, nat_le}
use Rattle.std.specs.Prelude.{insert, remove, slice_set}
use Rattle.std.specs.Option.{option_or}
use Rattle.std.proofs.lemmas.List.{drop-map, length-map, set_split, take-map}
use Rattle.std.proofs.lemmas.List.Edits.{length-insert, length-remove}
use Rattle.std.proofs.lemmas.Bool.Decides.{nat_tests}
use Rattle.il_code.specs.declared.instr.Instr.{Instr}
use Rattle.il_code.specs.declared.handler.Handler.{Handler}
use Rattle.il_code.specs.declared.il_refusal.IlRefusal.{IlRefusal}
use Rattle.il_code.specs.declared.il_refusal.IlRefusal.TheVariants.{PlaceBeyond}
use Rattle.il_code.specs.declared.operand.Operand.TheVariants as of
use Rattle.il_code.specs.Body.{Body}
use Rattle.il_code.specs.Code.{instr_of, placed}
use Rattle.il_code.specs.Edited.{bad_code, bad_handler, body_of_parts, first_failing, lowered, raised}
use Rattle.il_code.specs.Edited.{with_instr, without_instr, with_instr_for, with_handler, without_handler}
use Rattle.il_code.specs.Edited.{insert_refusal, remove_refusal, replace_refusal, add_handler_refusal, remove_handler_refusal}
use Rattle.il_code.specs.Sound.{is_sound_handler, is_sound_instr}
use Rattle.il_code.specs.Spelling.{placed_handler}
use Rattle.il_edit.specs.declared.shift.Shift.TheVariants.{PutIn, TakenOut}
use Rattle.il_edit.specs.inner.Failing.{failing_from, refusal_told}
use Rattle.il_edit.specs.inner.Shifted.{kept_number}
use Rattle.il_edit.proofs.FailingLemmas.{failing-is, none-joined, passes}
use Rattle.il_edit.proofs.KeptLemmas.{code-kept, handlers-kept}
use Rattle.il_edit.proofs.ShiftLemmas.{all-stay, stay-handler, stay-instr}

-- the first bad instruction and the first bad handler of code and handlers among n instructions
abbrev pub bad_of : ℕ → List Instr → List Handler → Option IlRefusal
bad_of n code handlers = refusal_told (failing_from (is_sound_instr n) 0 code) (failing_from (is_sound_handler n) 0 handlers)

found-bad : (code : List Instr) (handlers : List Handler) → refusal_told (first_failing (is_sound_instr (length code)) code) (first_failing (is_sound_handler (length code)) handlers) ≡ bad_of (length code) code handlers
found-bad code handlers =
    ap (λ c. refusal_told c (first_failing (is_sound_handler (length code)) handlers)) (failing-is (is_sound_instr (length code)) code)
    ∙ ap (λ h. refusal_told (failing_from (is_sound_instr (length code)) 0 code) h) (failing-is (is_sound_handler (length code)) handlers)

-- the code of each edit in parts

pub put_in-parts : (f : Instr → Instr) (xs : List Instr) (at : ℕ) (x : Instr) → insert (map f xs) at x ≡ map f (take at xs) ++ x ∷ map f (drop at xs)
put_in-parts f xs at x = ap (λ z. z ++ x ∷ drop at (map f xs)) (take-map f at xs) ∙ ap (λ z. map f (take at xs) ++ x ∷ z) (drop-map f at xs)

pub taken_out-parts : (f : Instr → Instr) (xs : List Instr) (at : ℕ) → remove (map f xs) at ≡ map f (take at xs) ++ map f (drop (at + 1) xs)
taken_out-parts f xs at =
    ap (λ z. z ++ drop (suc at) (map f xs)) (take-map f at xs) ∙ ap (λ z. map f (take at xs) ++ z) (drop-map f (suc at) xs)
    ∙ ap (λ n. map f (take at xs) ++ map f (drop n xs)) (next at)
  where
    next : (n : ℕ) → suc n ≡ n + 1
    next n = omega arith

pub removed-parts : {A : Type 0} (xs : List A) (at : ℕ) → remove xs at ≡ take at xs ++ drop (at + 1) xs
removed-parts xs at = ap (λ n. take at xs ++ drop n xs) (next at)
  where
    next : (n : ℕ) → suc n ≡ n + 1
    next n = omega arith

pub exchanged-parts : (xs : List Instr) (at : ℕ) (x : Instr) → at < length xs → slice_set xs at x ≡ take at xs ++ x ∷ drop (at + 1) xs
exchanged-parts xs at x h = set_split xs at x h ∙ ap (λ n. take at xs ++ x ∷ drop n xs) (next at)
  where
    next : (n : ℕ) → suc n ≡ n + 1
    next n = omega arith

-- refusals of places

insert-beyond : (n at : ℕ) → n < at → (nat_lt n at || (n == 2 ^ 32 - 1)) ≡ true
insert-beyond n at h = grind (arith, nat_tests)

insert-full : (n at : ℕ) → n ≡ 2 ^ 32 - 1 → (nat_lt n at || (n == 2 ^ 32 - 1)) ≡ true
insert-full n at h = grind (arith, nat_tests)

insert-within : (n at : ℕ) → at ≤ n → n < 2 ^ 32 - 1 → (nat_lt n at || (n == 2 ^ 32 - 1)) ≡ false
insert-within n at h k = grind (arith, nat_tests)

past : (n at : ℕ) → n ≤ at → nat_le n at ≡ true
past n at h = grind (arith, nat_tests)

within : (n at : ℕ) → at < n → nat_le n at ≡ false
within n at h = grind (arith, nat_tests)

full : (n : ℕ) → n ≡ 2 ^ 32 - 1 → (n == 2 ^ 32 - 1) ≡ true
full n h = grind (arith, nat_tests)

room : (n : ℕ) → n < 2 ^ 32 - 1 → (n == 2 ^ 32 - 1) ≡ false
room n h = grind (arith, nat_tests)

-- a place first, and then what is bad
placed-first : (t b : Bool) (at n : ℕ) (rest : Option IlRefusal) → t ≡ b → option_or (cond t (Some (PlaceBeyond at n)) None) rest ≡ cond b (Some (PlaceBeyond at n)) rest
placed-first t true at n rest e = ap (λ t. option_or (cond t (Some (PlaceBeyond at n)) None) rest) e
placed-first t false at n rest e = ap (λ t. option_or (cond t (Some (PlaceBeyond at n)) None) rest) e

-- an instruction is put in

pub insert-is_beyond : (at : ℕ) (x : Instr) (v : Body) → length v.code < at → Some (PlaceBeyond at (length v.code)) ≡ insert_refusal at x v
unfolding insert_refusal
insert-is_beyond at x v h = sym (placed-first _ true at (length v.code) _ (insert-beyond (length v.code) at h))

pub insert-is_full : (at : ℕ) (x : Instr) (v : Body) → length v.code ≡ 2 ^ 32 - 1 → Some (PlaceBeyond at (2 ^ 32 - 1)) ≡ insert_refusal at x v
unfolding insert_refusal
insert-is_full at x v h = ap (λ n. Some (PlaceBeyond at n)) (sym h) ∙ sym (placed-first _ true at (length v.code) _ (insert-full (length v.code) at h))

pub insert-is : (at : ℕ) (x : Instr) (v : Body) → at ≤ length v.code → length v.code < 2 ^ 32 - 1
    → insert_refusal at x v ≡ bad_of (length v.code + 1) (map (placed (raised at)) (take at v.code) ++ x ∷ map (placed (raised at)) (drop at v.code)) (map (placed_handler (raised at)) v.handlers)
unfolding insert_refusal with_instr
insert-is at x v h k =
    let code : List Instr = insert (map (placed (raised at)) v.code) at x in
    let hs : List Handler = map (placed_handler (raised at)) v.handlers in
    let mapped = length-map v.code (placed (raised at)) in
    let len : length code ≡ length v.code + 1 = length-insert (map (placed (raised at)) v.code) at x (omega (arith, mapped, h)) ∙ ap (λ n. n + 1) mapped in
    placed-first _ false at (length v.code) _ (insert-within (length v.code) at h k) ∙ found-bad code hs
    ∙ ap (λ n. bad_of n code hs) len ∙ ap (λ c. bad_of (length v.code + 1) c hs) (put_in-parts (placed (raised at)) v.code at x)

-- an instruction is taken out

pub remove-is_beyond : (at : ℕ) (v : Body) → length v.code ≤ at → Some (PlaceBeyond at (length v.code)) ≡ remove_refusal at v
unfolding remove_refusal
remove-is_beyond at v h = sym (placed-first _ true at (length v.code) _ (past (length v.code) at h))

pub remove-is : (at : ℕ) (v : Body) → at < length v.code
    → remove_refusal at v ≡ bad_of (length v.code - 1) (map (placed (lowered at)) (take at v.code) ++ map (placed (lowered at)) (drop (at + 1) v.code)) (map (placed_handler (lowered at)) v.handlers)
unfolding remove_refusal without_instr
remove-is at v h =
    let code : List Instr = remove (map (placed (lowered at)) v.code) at in
    let hs : List Handler = map (placed_handler (lowered at)) v.handlers in
    let mapped = length-map v.code (placed (lowered at)) in
    let less = length-remove (map (placed (lowered at)) v.code) at (omega (arith, mapped, h)) in
    let len : length code ≡ length v.code - 1 = omega (arith, less, mapped) in
    placed-first _ false at (length v.code) _ (within (length v.code) at h) ∙ found-bad code hs
    ∙ ap (λ n. bad_of n code hs) len ∙ ap (λ c. bad_of (length v.code - 1) c hs) (taken_out-parts (placed (lowered at)) v.code at)

-- an instruction is exchanged

pub length-set : {A : Type 0} (xs : List A) (i : ℕ) (x : A) → length (set xs i x) ≡ length xs
length-set [] i x = refl
length-set (y ∷ xs) zero x = refl
length-set (y ∷ xs) (suc i) x = ap suc (length-set xs i x)

pub replace-is_beyond : (at : ℕ) (x : Instr) (v : Body) → length v.code ≤ at → Some (PlaceBeyond at (length v.code)) ≡ replace_refusal at x v
unfolding replace_refusal
replace-is_beyond at x v h = sym (placed-first _ true at (length v.code) _ (past (length v.code) at h))

pub replace-is : (at : ℕ) (x : Instr) (v : Body) → at < length v.code → replace_refusal at x v ≡ bad_of (length v.code) (take at v.code ++ x ∷ drop (at + 1) v.code) v.handlers
unfolding replace_refusal with_instr_for
replace-is at x v h =
    let code : List Instr = slice_set v.code at x in
    placed-first _ false at (length v.code) _ (within (length v.code) at h) ∙ found-bad code v.handlers
    ∙ ap (λ n. bad_of n code v.handlers) (length-set v.code at x) ∙ ap (λ c. bad_of (length v.code) c v.handlers) (exchanged-parts v.code at x h)

-- a handler more, or less

pub add_handler-is_full : (h : Handler) (v : Body) → length v.handlers ≡ 2 ^ 32 - 1 → Some (PlaceBeyond (2 ^ 32 - 1) (2 ^ 32 - 1)) ≡ add_handler_refusal h v
unfolding add_handler_refusal
add_handler-is_full h v e = ap (λ n. Some (PlaceBeyond n n)) (sym e) ∙ sym (placed-first _ true (length v.handlers) (length v.handlers) _ (full (length v.handlers) e))

pub add_handler-is : (h : Handler) (v : Body) → length v.handlers < 2 ^ 32 - 1 → add_handler_refusal h v ≡ bad_of (length v.code) v.code (v.handlers ++ h ∷ [])
unfolding add_handler_refusal with_handler
add_handler-is h v k = placed-first _ false (length v.handlers) (length v.handlers) _ (room (length v.handlers) k) ∙ found-bad v.code (v.handlers ++ h ∷ [])

pub remove_handler-is_beyond : (at : ℕ) (v : Body) → length v.handlers ≤ at → Some (PlaceBeyond at (length v.handlers)) ≡ remove_handler_refusal at v
unfolding remove_handler_refusal
remove_handler-is_beyond at v h = sym (placed-first _ true at (length v.handlers) _ (past (length v.handlers) at h))

pub remove_handler-is : (at : ℕ) (v : Body) → at < length v.handlers → remove_handler_refusal at v ≡ bad_of (length v.code) v.code (take at v.handlers ++ drop (at + 1) v.handlers)
unfolding remove_handler_refusal without_handler
remove_handler-is at v h =
    placed-first _ false at (length v.handlers) _ (within (length v.handlers) at h) ∙ found-bad v.code (remove v.handlers at)
    ∙ ap (λ hs. bad_of (length v.code) v.code hs) (removed-parts v.handlers at)

-- what the code changes is what the edit makes

none-told : (c h : Option ℕ) → refusal_told c h ≡ None → (c ≡ None) × (h ≡ None)
none-told None None e = (refl, refl)
none-told None (Some i) e = cc
none-told (Some i) h e = cc

set-insert : {A : Type 0} (xs : List A) (at : ℕ) (z x : A) → at ≤ length xs → set (insert xs at z) at x ≡ insert xs at x
set-insert xs zero z x h = refl
set-insert [] (suc at) z x h = absurd (omega (arith, h))
set-insert (y ∷ xs) (suc at) z x h = ap (λ r. y ∷ r) (set-insert xs at z x (omega (arith, h)))

map-insert : {A B : Type 0} (f : A → B) (xs : List A) (at : ℕ) (z : A) → at ≤ length xs → map f (insert xs at z) ≡ insert (map f xs) at (f z)
map-insert f xs zero z h = refl
map-insert f [] (suc at) z h = absurd (omega (arith, h))
map-insert f (y ∷ xs) (suc at) z h = ap (λ r. f y ∷ r) (map-insert f xs at z (omega (arith, h)))

map-remove : {A B : Type 0} (f : A → B) (xs : List A) (at : ℕ) → map f (remove xs at) ≡ remove (map f xs) at
map-remove f [] zero = refl
map-remove f [] (suc at) = refl
map-remove f (y ∷ xs) zero = refl
map-remove f (y ∷ xs) (suc at) = ap (λ r. f y ∷ r) (map-remove f xs at)

-- an instruction without an operand
abbrev pub plain : Instr
plain = instr_of 0 of.None

pub insert-done : (at : ℕ) (x : Instr) (v : Body) (z : Instr) → at ≤ length v.code → length v.code < 2 ^ 32 - 1 → insert_refusal at x v ≡ None
    → body_of_parts v (slice_set (map (placed (kept_number (PutIn at))) (insert v.code at z)) at x) (map (placed_handler (kept_number (PutIn at))) v.handlers) ≡ with_instr at x v
unfolding with_instr
insert-done at x v z h k none =
    let f : Instr → Instr = placed (raised at) in
    let g : Instr → Instr = placed (kept_number (PutIn at)) in
    let n : ℕ = length v.code + 1 in
    let small : n < 2 ^ 32 = omega (arith, k) in
    let bad = none-told (failing_from (is_sound_instr n) 0 (map f (take at v.code) ++ x ∷ map f (drop at v.code))) (failing_from (is_sound_handler n) 0 (map (placed_handler (raised at)) v.handlers)) (sym (insert-is at x v h k) ∙ none) in
    let parts = none-joined (is_sound_instr n) (map f (take at v.code)) (x ∷ map f (drop at v.code)) bad.0 in
    let behind = passes (is_sound_instr n) (0 + length (map f (take at v.code))) x (map f (drop at v.code)) parts.1 in
    let front = code-kept (PutIn at) n 0 (take at v.code) small parts.0 in
    let back = code-kept (PutIn at) n (0 + length (map f (take at v.code)) + 1) (drop at v.code) small behind.others in
    let hs = handlers-kept (PutIn at) n 0 v.handlers small bad.1 in
    let mapped = length-map v.code g in
    let code : slice_set (map g (insert v.code at z)) at x ≡ insert (map f v.code) at x =
    ap (λ c. set c at x) (map-insert g v.code at z h) ∙ set-insert (map g v.code) at (g z) x (omega (arith, mapped, h))
    ∙ put_in-parts g v.code at x ∙ ap (λ c. c ++ x ∷ map g (drop at v.code)) front ∙ ap (λ c. map f (take at v.code) ++ x ∷ c) back ∙ sym (put_in-parts f v.code at x) in
    ap (λ c. body_of_parts v c (map (placed_handler (kept_number (PutIn at))) v.handlers)) code ∙ ap (λ c. body_of_parts v (insert (map f v.code) at x) c) hs

pub remove-done : (at : ℕ) (v : Body) → at < length v.code → length v.code < 2 ^ 32 → remove_refusal at v ≡ None
    → body_of_parts v (map (placed (kept_number (TakenOut at))) (remove v.code at)) (map (placed_handler (kept_number (TakenOut at))) v.handlers) ≡ without_instr at v
unfolding without_instr
remove-done at v h k none =
    let f : Instr → Instr = placed (lowered at) in
    let g : Instr → Instr = placed (kept_number (TakenOut at)) in
    let n : ℕ = length v.code - 1 in
    let small : n < 2 ^ 32 = omega (arith, k) in
    let bad = none-told (failing_from (is_sound_instr n) 0 (map f (take at v.code) ++ map f (drop (at + 1) v.code))) (failing_from (is_sound_handler n) 0 (map (placed_handler (lowered at)) v.handlers)) (sym (remove-is at v h) ∙ none) in
    let parts = none-joined (is_sound_instr n) (map f (take at v.code)) (map f (drop (at + 1) v.code)) bad.0 in
    let front = code-kept (TakenOut at) n 0 (take at v.code) small parts.0 in
    let back = code-kept (TakenOut at) n (0 + length (map f (take at v.code))) (drop (at + 1) v.code) small parts.1 in
    let hs = handlers-kept (TakenOut at) n 0 v.handlers small bad.1 in
    let code : map g (remove v.code at) ≡ remove (map f v.code) at =
    map-remove g v.code at ∙ taken_out-parts g v.code at ∙ ap (λ c. c ++ map g (drop (at + 1) v.code)) front ∙ ap (λ c. map f (take at v.code) ++ c) back ∙ sym (taken_out-parts f v.code at) in
    ap (λ c. body_of_parts v c (map (placed_handler (kept_number (TakenOut at))) v.handlers)) code ∙ ap (λ c. body_of_parts v (remove (map f v.code) at) c) hs

pub replace-done : (at : ℕ) (x : Instr) (v : Body) → body_of_parts v (slice_set v.code at x) v.handlers ≡ with_instr_for at x v
unfolding with_instr_for
replace-done at x v = refl

pub add_handler-done : (h : Handler) (v : Body) → body_of_parts v v.code (v.handlers ++ h ∷ []) ≡ with_handler h v
unfolding with_handler
add_handler-done h v = refl

pub remove_handler-done : (at : ℕ) (v : Body) → body_of_parts v v.code (remove v.handlers at) ≡ without_handler at v
unfolding without_handler
remove_handler-done at v = refl

-- an unrefused edit has its place

never : (r : IlRefusal) → Some r ≡ None → ⊥
never r h = cc

pub insert-place : (at : ℕ) (x : Instr) (v : Body) → length v.code < 2 ^ 32 → insert_refusal at x v ≡ None → (at ≤ length v.code) × (length v.code < 2 ^ 32 - 1)
insert-place at x v small none = (inside (nat_lt (length v.code) at) refl, other (length v.code == 2 ^ 32 - 1) refl)
  where
    inside : (t : Bool) → nat_lt (length v.code) at ≡ t → at ≤ length v.code
    inside true e = absurd (never _ (insert-is_beyond at x v (grind (arith, nat_tests)) ∙ none))
    inside false e = grind (arith, nat_tests)

    other : (t : Bool) → (length v.code == 2 ^ 32 - 1) ≡ t → length v.code < 2 ^ 32 - 1
    other true e = absurd (never _ (insert-is_full at x v (grind (arith, nat_tests)) ∙ none))
    other false e = grind (arith, nat_tests)

pub remove-place : (at : ℕ) (v : Body) → remove_refusal at v ≡ None → at < length v.code
remove-place at v none = inside (nat_le (length v.code) at) refl
  where
    inside : (t : Bool) → nat_le (length v.code) at ≡ t → at < length v.code
    inside true e = absurd (never _ (remove-is_beyond at v (grind (arith, nat_tests)) ∙ none))
    inside false e = grind (arith, nat_tests)

pub replace-place : (at : ℕ) (x : Instr) (v : Body) → replace_refusal at x v ≡ None → at < length v.code
replace-place at x v none = inside (nat_le (length v.code) at) refl
  where
    inside : (t : Bool) → nat_le (length v.code) at ≡ t → at < length v.code
    inside true e = absurd (never _ (replace-is_beyond at x v (grind (arith, nat_tests)) ∙ none))
    inside false e = grind (arith, nat_tests)

pub add_handler-place : (h : Handler) (v : Body) → length v.handlers < 2 ^ 32 → add_handler_refusal h v ≡ None → length v.handlers < 2 ^ 32 - 1
add_handler-place h v small none = other (length v.handlers == 2 ^ 32 - 1) refl
  where
    other : (t : Bool) → (length v.handlers == 2 ^ 32 - 1) ≡ t → length v.handlers < 2 ^ 32 - 1
    other true e = absurd (never _ (add_handler-is_full h v (grind (arith, nat_tests)) ∙ none))
    other false e = grind (arith, nat_tests)

pub remove_handler-place : (at : ℕ) (v : Body) → remove_handler_refusal at v ≡ None → at < length v.handlers
remove_handler-place at v none = inside (nat_le (length v.handlers) at) refl
  where
    inside : (t : Bool) → nat_le (length v.handlers) at ≡ t → at < length v.handlers
    inside true e = absurd (never _ (remove_handler-is_beyond at v (grind (arith, nat_tests)) ∙ none))
    inside false e = grind (arith, nat_tests)

-- what the code works out part by part is the refusal

told-by : (res : Option IlRefusal) (bad badh c h : Option ℕ) → bad ≡ c → badh ≡ h → res ≡ refusal_told bad badh → res ≡ refusal_told c h
told-by res bad badh c h kc kh r = r ∙ ap (λ b. refusal_told b badh) kc ∙ ap (λ b. refusal_told c b) kh

pub insert-by : (at : ℕ) (x : Instr) (v : Body) (xs fr bk : List Instr) (hs : List Handler) (bad badh : Option ℕ) (res : Option IlRefusal) → xs ≡ v.code → hs ≡ v.handlers → fr ≡ take at xs → bk ≡ drop at xs
    → bad ≡ failing_from (is_sound_instr (length xs + 1)) 0 (map (placed (raised at)) fr ++ x ∷ map (placed (raised at)) bk) → badh ≡ failing_from (is_sound_handler (length xs + 1)) 0 (map (placed_handler (raised at)) hs)
    → at ≤ length xs → length xs < 2 ^ 32 - 1 → res ≡ refusal_told bad badh → res ≡ insert_refusal at x v
insert-by at x v xs fr bk hs bad badh res exs ehs efr ebk kc kh h k r =
    let f : List Instr → List Instr → List Instr → List Handler → Option IlRefusal = λ xs fr bk hs. bad_of (length xs + 1) (map (placed (raised at)) fr ++ x ∷ map (placed (raised at)) bk) (map (placed_handler (raised at)) hs) in
    told-by res bad badh _ _ kc kh r
    ∙ ap (λ z. f xs z bk hs) efr ∙ ap (λ z. f xs (take at xs) z hs) ebk ∙ ap (λ z. f z (take at z) (drop at z) hs) exs ∙ ap (λ z. f v.code (take at v.code) (drop at v.code) z) ehs
    ∙ sym (insert-is at x v (omega (arith, h, ap length exs)) (omega (arith, k, ap length exs)))

pub remove-by : (at : ℕ) (v : Body) (xs fr bk : List Instr) (hs : List Handler) (bad badh : Option ℕ) (res : Option IlRefusal) → xs ≡ v.code → hs ≡ v.handlers → fr ≡ take at xs → bk ≡ drop (at + 1) xs
    → bad ≡ failing_from (is_sound_instr (length xs - 1)) 0 (map (placed (lowered at)) fr ++ map (placed (lowered at)) bk) → badh ≡ failing_from (is_sound_handler (length xs - 1)) 0 (map (placed_handler (lowered at)) hs)
    → at < length xs → res ≡ refusal_told bad badh → res ≡ remove_refusal at v
remove-by at v xs fr bk hs bad badh res exs ehs efr ebk kc kh h r =
    let f : List Instr → List Instr → List Instr → List Handler → Option IlRefusal = λ xs fr bk hs. bad_of (length xs - 1) (map (placed (lowered at)) fr ++ map (placed (lowered at)) bk) (map (placed_handler (lowered at)) hs) in
    told-by res bad badh _ _ kc kh r
    ∙ ap (λ z. f xs z bk hs) efr ∙ ap (λ z. f xs (take at xs) z hs) ebk ∙ ap (λ z. f z (take at z) (drop (at + 1) z) hs) exs ∙ ap (λ z. f v.code (take at v.code) (drop (at + 1) v.code) z) ehs
    ∙ sym (remove-is at v (omega (arith, h, ap length exs)))

abbrev pub all_code : List Instr → List Instr
all_code xs = map (placed (λ n. n)) xs

abbrev pub all_handlers : List Handler → List Handler
all_handlers hs = map (placed_handler (λ n. n)) hs

pub code-stays : (xs : List Instr) → all_code xs ≡ xs
code-stays xs = all-stay (placed (λ n. n)) stay-instr xs

pub handlers-stay : (hs : List Handler) → all_handlers hs ≡ hs
handlers-stay hs = all-stay (placed_handler (λ n. n)) stay-handler hs

pub replace-by : (at : ℕ) (x : Instr) (v : Body) (xs fr bk : List Instr) (hs : List Handler) (bad badh : Option ℕ) (res : Option IlRefusal) → xs ≡ v.code → hs ≡ v.handlers → fr ≡ take at xs → bk ≡ drop (at + 1) xs
    → bad ≡ failing_from (is_sound_instr (length xs)) 0 (all_code fr ++ x ∷ all_code bk) → badh ≡ failing_from (is_sound_handler (length xs)) 0 (all_handlers hs)
    → at < length xs → res ≡ refusal_told bad badh → res ≡ replace_refusal at x v
replace-by at x v xs fr bk hs bad badh res exs ehs efr ebk kc kh h r =
    let f : List Instr → List Instr → List Instr → List Handler → Option IlRefusal = λ xs fr bk hs. bad_of (length xs) (fr ++ x ∷ bk) hs in
    told-by res bad badh _ _ kc kh r
    ∙ ap (λ z. f xs z (all_code bk) (all_handlers hs)) (code-stays fr) ∙ ap (λ z. f xs fr z (all_handlers hs)) (code-stays bk) ∙ ap (λ z. f xs fr bk z) (handlers-stay hs)
    ∙ ap (λ z. f xs z bk hs) efr ∙ ap (λ z. f xs (take at xs) z hs) ebk ∙ ap (λ z. f z (take at z) (drop (at + 1) z) hs) exs ∙ ap (λ z. f v.code (take at v.code) (drop (at + 1) v.code) z) ehs
    ∙ sym (replace-is at x v (omega (arith, h, ap length exs)))

pub add_handler-by : (h : Handler) (v : Body) (xs : List Instr) (hs : List Handler) (n : ℕ) (bad badh : Option ℕ) (res : Option IlRefusal) → xs ≡ v.code → hs ≡ v.handlers → n ≡ length v.code
    → bad ≡ failing_from (is_sound_instr n) 0 (all_code xs) → badh ≡ failing_from (is_sound_handler n) 0 (hs ++ h ∷ [])
    → length hs < 2 ^ 32 - 1 → res ≡ refusal_told bad badh → res ≡ add_handler_refusal h v
add_handler-by h v xs hs n bad badh res exs ehs en kc kh k r =
    told-by res bad badh _ _ kc kh r
    ∙ ap (λ z. bad_of n z (hs ++ h ∷ [])) (code-stays xs ∙ exs) ∙ ap (λ z. bad_of z v.code (hs ++ h ∷ [])) en ∙ ap (λ z. bad_of (length v.code) v.code (z ++ h ∷ [])) ehs
    ∙ sym (add_handler-is h v (omega (arith, k, ap length ehs)))

pub remove_handler-by : (at : ℕ) (v : Body) (xs : List Instr) (hs fr bk : List Handler) (n : ℕ) (bad badh : Option ℕ) (res : Option IlRefusal) → xs ≡ v.code → hs ≡ v.handlers → n ≡ length v.code → fr ≡ take at hs → bk ≡ drop (at + 1) hs
    → bad ≡ failing_from (is_sound_instr n) 0 (all_code xs) → badh ≡ failing_from (is_sound_handler n) 0 (fr ++ bk)
    → at < length hs → res ≡ refusal_told bad badh → res ≡ remove_handler_refusal at v
remove_handler-by at v xs hs fr bk n bad badh res exs ehs en efr ebk kc kh h r =
    told-by res bad badh _ _ kc kh r
    ∙ ap (λ z. bad_of n z (fr ++ bk)) (code-stays xs ∙ exs) ∙ ap (λ z. bad_of z v.code (fr ++ bk)) en
    ∙ ap (λ z. bad_of (length v.code) v.code (z ++ bk)) efr ∙ ap (λ z. bad_of (length v.code) v.code (take at hs ++ z)) ebk
    ∙ ap (λ z. bad_of (length v.code) v.code (take at z ++ drop (at + 1) z)) ehs
    ∙ sym (remove_handler-is at v (omega (arith, h, ap length ehs)))

-- a body as it stands
pub body-by : (v : Body) (xs : List Instr) (hs : List Handler) (n : ℕ) (bad badh : Option ℕ) (res : Option IlRefusal) → xs ≡ v.code → hs ≡ v.handlers → n ≡ length v.code
    → bad ≡ failing_from (is_sound_instr n) 0 (all_code xs) → badh ≡ failing_from (is_sound_handler n) 0 (all_handlers hs)
    → res ≡ refusal_told bad badh → res ≡ option_or (bad_code v) (bad_handler v)
body-by v xs hs n bad badh res exs ehs en kc kh r =
    told-by res bad badh _ _ kc kh r
    ∙ ap (λ z. bad_of n z (all_handlers hs)) (code-stays xs ∙ exs) ∙ ap (λ z. bad_of n v.code z) (handlers-stay hs ∙ ehs)
    ∙ ap (λ z. bad_of z v.code v.handlers) en ∙ sym (found-bad v.code v.handlers)
