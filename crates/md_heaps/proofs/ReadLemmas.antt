-- Each content is read back from the heap of its entry.
use Rattle.std.proofs.Common.{◌≡◌, ℕ, suc, ◌+◌, ◌-◌, ◌*◌, ◌/◌, ◌<◌, ◌≤◌, ◌^◌, List, [], ◌∷◌, ◌++◌, Bool, true, false, cond, length, take, drop, refl, sym, ap, ◌∙◌, arith, eqb, leb}
use Rattle.std.specs.Prelude.{◌||◌, ◌&&◌, Some, None, nat_eq}
use Rattle.std.proofs.lemmas.List.{append_assoc, length-append, length-drop, take_at, drop_at}
use Rattle.std.proofs.lemmas.Bool.Decides.{nat_tests}
use Rattle.std.specs.List.{list_any}
use Rattle.std.specs.Option.{option_map}
use Rattle.std.specs.Cmp.Lexicographic.{pointwise}
use Rattle.cil_base.specs.Heaps.{entry, even, units}
use Rattle.cil_base.specs.Number.{spelled_number}
use Rattle.cil_base.proofs.EntryLemmas.{entry-stripped, strip-shorter, units-of}
use Rattle.cil_base.proofs.NumberLemmas.{strip-spelled_number}
use Rattle.md_heaps.specs.declared.guid.GuidAt.TheVariants.{Null, Is, Missing}
use Rattle.md_heaps.specs.Entries.{before_zero, text, blob, guid}
use Rattle.md_heaps.specs.Pools.{entry_place, has_entry, heap_of_entries, heap_padding, joined_entries, with_entry}
use Rattle.md_heaps.specs.LaidHeaps.{IsText, blob_entry, last_byte, text_entry, unit_bytes, user_entry}
use Rattle.md_heaps.specs.ReadBack.{BlobsReadBack, GuidsReadBack, TextsReadBack, UsersReadBack}
use Rattle.md_heaps.specs.inner.PoolMap.{AreGuids, BeginsWithZero}
use Rattle.md_heaps.proofs.PoolLemmas.{same_entry}

pub begins_with : (es : List (List ℕ)) (one : List ℕ) → BeginsWithZero es → BeginsWithZero (with_entry es one)
begins_with es one begins =
    elim (has_entry es one) as (λ t. BeginsWithZero (cond t es (es ++ one ∷ []))) [
      | true ↦ begins
      | false ↦ (begins.0 ++ one ∷ [], ap (λ l. l ++ one ∷ []) begins.1)
    ]

guids-more : (es : List (List ℕ)) (one : List ℕ) → length one ≡ 16 → AreGuids es → AreGuids (es ++ one ∷ [])
guids-more [] one long are = (long, are)
guids-more (e ∷ es) one long are = (are.0, guids-more es one long are.1)

pub guids_with : (es : List (List ℕ)) (one : List ℕ) → length one ≡ 16 → AreGuids es → AreGuids (with_entry es one)
guids_with es one long are =
    elim (has_entry es one) as (λ t. AreGuids (cond t es (es ++ one ∷ []))) [
      | true ↦ are
      | false ↦ guids-more es one long are
    ]

-- an entry stands in the heap behind as many bytes as its place says
record Behind (whole : List ℕ) (place : ℕ) (part : List ℕ) : Type 0 where
  pub before : List ℕ
  pub after : List ℕ
  pub is : whole ≡ before ++ (part ++ after)
  pub at : length before ≡ place

behind-joined : (es : List (List ℕ)) (one : List ℕ) → has_entry es one ≡ true → Behind (joined_entries es) (entry_place es one) one
behind-joined [] one h = absurd (cc)
behind-joined (e ∷ es) one h =
    elim (pointwise nat_eq one e) as (λ t. pointwise nat_eq one e ≡ t → t || has_entry es one ≡ true → Behind (e ++ joined_entries es) (cond t 0 (length e + entry_place es one)) one) [
      | true ↦ λ same _. record { before = []; after = joined_entries es; is = ap (λ s. s ++ joined_entries es) (sym (same_entry one e same)); at = refl }
      | false ↦ λ _ later. let rest = behind-joined es one later in record {
        before = e ++ rest.before;
        after = rest.after;
        is = ap (λ s. e ++ s) rest.is ∙ sym (append_assoc e rest.before (one ++ rest.after));
        at = length-append e rest.before ∙ ap (λ (n : ℕ). length e + n) rest.at;
      }
    ] refl h

-- what stands in the heap from an entry's place on
heap-from : (es : List (List ℕ)) (one : List ℕ) → has_entry es one ≡ true → (more : List ℕ) × (drop (entry_place es one) (heap_of_entries es) ≡ one ++ more)
heap-from es one h =
    let part = behind-joined es one h in
    let zeros = heap_padding (length (joined_entries es)) in
    let whole : heap_of_entries es ≡ part.before ++ (one ++ (part.after ++ zeros)) =
    ap (λ s. s ++ zeros) part.is ∙ append_assoc part.before (one ++ part.after) zeros ∙ ap (λ s. part.before ++ s) (append_assoc one part.after zeros) in
    (part.after ++ zeros, ap (drop (entry_place es one)) whole ∙ drop_at part.before (one ++ (part.after ++ zeros)) (entry_place es one) part.at)

-- the first entry, and any other one
place-first : (es : List (List ℕ)) → BeginsWithZero es → entry_place es (0 ∷ []) ≡ 0
place-first es begins = ap (λ l. entry_place l (0 ∷ [])) begins.1

place-later : (es : List (List ℕ)) (one : List ℕ) → BeginsWithZero es → pointwise nat_eq one (0 ∷ []) ≡ false → eqb (entry_place es one) 0 ≡ false
place-later es one begins h =
    let e : entry_place es one ≡ 1 + entry_place begins.0 one = ap (λ l. entry_place l one) begins.1 ∙ ap (λ t. cond t 0 (1 + entry_place begins.0 one)) h in
    grind (arith, nat_tests)

-- texts
step : (b : ℕ) (rest : Bool) → eqb b 0 || rest ≡ false → (eqb b 0 ≡ false) × (rest ≡ false)
step b rest h = (grind (arith, nat_tests), grind (arith, nat_tests))

before-text : (content more : List ℕ) → IsText content → before_zero (text_entry content ++ more) ≡ Some content
before-text [] more h = refl
before-text (b ∷ content) more h =
    let (here, later) = step b (list_any (λ c. eqb c 0) content) h in
    ap (λ t. cond t (Some []) (option_map (λ (r : List ℕ). b ∷ r) (before_zero (text_entry content ++ more)))) here
    ∙ ap (option_map (λ (r : List ℕ). b ∷ r)) (before-text content more later)

text-later : (heap : List ℕ) (index : ℕ) → eqb index 0 ≡ false → text heap index ≡ before_zero (drop index heap)
unfolding text
text-later heap index h = ap (λ t. cond t (Some []) (before_zero (drop index heap))) h

text-zero : (heap : List ℕ) → text heap 0 ≡ Some []
unfolding text
text-zero heap = refl

other-text : (b : ℕ) (content : List ℕ) → IsText (b ∷ content) → pointwise nat_eq (text_entry (b ∷ content)) (0 ∷ []) ≡ false
other-text b content h =
    let (here, later) = step b (list_any (λ c. eqb c 0) content) h in
    ap (λ t. t && pointwise nat_eq (text_entry content) []) here

pub texts_back : (es : List (List ℕ)) → BeginsWithZero es → TextsReadBack es (heap_of_entries es)
texts_back es begins [] index is stands = ap (text (heap_of_entries es)) (stands.1 ∙ place-first es begins) ∙ text-zero (heap_of_entries es)
texts_back es begins (b ∷ content) index is stands =
    let one = text_entry (b ∷ content) in
    let (more, from) = heap-from es one stands.0 in
    ap (text (heap_of_entries es)) stands.1
    ∙ text-later (heap_of_entries es) (entry_place es one) (place-later es one begins (other-text b content is))
    ∙ ap before_zero from ∙ before-text (b ∷ content) more is

-- bytes behind their length
counted : (n : ℕ) (content more : List ℕ) → length content ≡ n → n < 2 ^ 29 → entry ((spelled_number n ++ content) ++ more) ≡ Some content
counted n content more long h =
    let total = length-append content more in
    let fits : leb n (length (content ++ more)) ≡ true = grind (arith, nat_tests, long, total) in
    ap entry (append_assoc (spelled_number n) content more)
    ∙ entry-stripped n (spelled_number n ++ (content ++ more)) (content ++ more) (strip-spelled_number n (content ++ more) h)
    ∙ ap (λ t. cond t (Some (take n (content ++ more))) None) fits ∙ ap Some (take_at content more n long)

blob-later : (heap : List ℕ) (index : ℕ) → eqb index 0 ≡ false → blob heap index ≡ entry (drop index heap)
unfolding blob
blob-later heap index h = ap (λ t. cond t (Some []) (entry (drop index heap))) h

blob-zero : (heap : List ℕ) → blob heap 0 ≡ Some []
unfolding blob
blob-zero heap = refl

empty-blob : blob_entry [] ≡ 0 ∷ []
unfolding blob_entry spelled_number
empty-blob = refl

longer-other : (a : List ℕ) → 1 < length a → pointwise nat_eq a (0 ∷ []) ≡ false
longer-other [] h = absurd (omega arith)
longer-other (x ∷ []) h = absurd (omega arith)
longer-other (x ∷ y ∷ a) h = elim (eqb x 0) as (λ t. t && false ≡ false) [ true ↦ refl | false ↦ refl ]

blob-long : (b : ℕ) (content : List ℕ) → length (b ∷ content) < 2 ^ 29 → 1 < length (blob_entry (b ∷ content))
unfolding blob_entry
blob-long b content h =
    let n = length (b ∷ content) in
    let shorter = strip-shorter n (spelled_number n ++ []) [] (strip-spelled_number n [] h) in
    let plain = length-append (spelled_number n) [] in
    let total = length-append (spelled_number n) (b ∷ content) in
    omega (arith, shorter, plain, total)

blob-counted : (content more : List ℕ) → length content < 2 ^ 29 → entry (blob_entry content ++ more) ≡ Some content
unfolding blob_entry
blob-counted content more h = counted (length content) content more refl h

pub blobs_back : (es : List (List ℕ)) → BeginsWithZero es → BlobsReadBack es (heap_of_entries es)
blobs_back es begins [] index is stands =
    ap (blob (heap_of_entries es)) (stands.1 ∙ ap (entry_place es) empty-blob ∙ place-first es begins) ∙ blob-zero (heap_of_entries es)
blobs_back es begins (b ∷ content) index is stands =
    let one = blob_entry (b ∷ content) in
    let (more, from) = heap-from es one stands.0 in
    ap (blob (heap_of_entries es)) stands.1
    ∙ blob-later (heap_of_entries es) (entry_place es one) (place-later es one begins (longer-other one (blob-long b content is)))
    ∙ ap entry from ∙ blob-counted (b ∷ content) more is

-- user strings
length-units : (content : List ℕ) → length (unit_bytes content) ≡ 2 * length content
length-units [] = refl
length-units (u ∷ content) = let rest = length-units content in omega (arith, rest)

length-marked : (content : List ℕ) → length (unit_bytes content ++ last_byte content ∷ []) ≡ 2 * length content + 1
length-marked content =
    let long = length-units content in
    let total = length-append (unit_bytes content) (last_byte content ∷ []) in
    omega (arith, long, total)

user-counted : (content more : List ℕ) → 2 * length content + 1 < 2 ^ 29 → entry (user_entry content ++ more) ≡ Some (unit_bytes content ++ last_byte content ∷ [])
unfolding user_entry
user-counted content more h = counted (2 * length content + 1) (unit_bytes content ++ last_byte content ∷ []) more (length-marked content) h

units-taken : (content : List ℕ) → take (even (length (unit_bytes content ++ last_byte content ∷ []))) (unit_bytes content ++ last_byte content ∷ []) ≡ unit_bytes content
units-taken content =
    let whole = length-marked content in
    let long = length-units content in
    let n : length (unit_bytes content) ≡ even (2 * length content + 1) = omega (arith, long) in
    ap (λ (k : ℕ). take (even k) (unit_bytes content ++ last_byte content ∷ [])) whole
    ∙ take_at (unit_bytes content) (last_byte content ∷ []) (even (2 * length content + 1)) n

pub users_back : (es : List (List ℕ)) → UsersReadBack es (heap_of_entries es)
users_back es content index is stands =
    let one = user_entry content in
    let (more, from) = heap-from es one stands.0 in
    ap (units (heap_of_entries es)) stands.1
    ∙ units-of (heap_of_entries es) (entry_place es one) (unit_bytes content ++ last_byte content ∷ []) (ap entry from ∙ user-counted content more is)
    ∙ ap Some (units-taken content)

-- GUIDs
place-sixteens : (es : List (List ℕ)) (one : List ℕ) → AreGuids es → (k : ℕ) × (entry_place es one ≡ 16 * k)
place-sixteens [] one are = (0, refl)
place-sixteens (e ∷ es) one are =
    let (k, rest) = place-sixteens es one are.1 in
    let long = are.0 in
    elim (pointwise nat_eq one e) as (λ t. (k : ℕ) × (cond t 0 (length e + entry_place es one) ≡ 16 * k)) [
      | true ↦ (0, refl)
      | false ↦ (suc k, let z : length e + entry_place es one ≡ 16 * suc k = omega (arith, rest, long) in z)
    ]

guid-long : (es : List (List ℕ)) (one : List ℕ) → AreGuids es → has_entry es one ≡ true → length one ≡ 16
guid-long [] one are h = absurd (cc)
guid-long (e ∷ es) one are h =
    elim (pointwise nat_eq one e) as (λ t. pointwise nat_eq one e ≡ t → t || has_entry es one ≡ true → length one ≡ 16) [
      | true ↦ λ same _. ap length (same_entry one e same) ∙ are.0
      | false ↦ λ _ later. guid-long es one are.1 later
    ] refl h

guid-at : (heap one more : List ℕ) (k : ℕ) → length one ≡ 16 → drop (16 * k) heap ≡ one ++ more → guid heap (k + 1) ≡ Is one
unfolding guid
guid-at heap one more k long from =
    let left = length-drop (16 * k) heap in
    let there = ap length from in
    let total = length-append one more in
    let enough : 16 * (k + 1) ≤ length heap = omega (arith, left, there, total, long) in
    let fits : leb (16 * (k + 1)) (length heap) ≡ true = grind (arith, nat_tests, enough) in
    let some : eqb (k + 1) 0 ≡ false = grind (arith, nat_tests) in
    let place : 16 * (k + 1) - 16 ≡ 16 * k = omega arith in
    ap (λ t. cond t Null (cond (leb (16 * (k + 1)) (length heap)) (Is (take 16 (drop (16 * (k + 1) - 16) heap))) Missing)) some
    ∙ ap (λ t. cond t (Is (take 16 (drop (16 * (k + 1) - 16) heap))) Missing) fits
    ∙ ap (λ (n : ℕ). Is (take 16 (drop n heap))) place
    ∙ ap (λ s. Is (take 16 s)) from ∙ ap Is (take_at one more 16 long)

pub guids_back : (es : List (List ℕ)) → AreGuids es → GuidsReadBack es (heap_of_entries es)
guids_back es are content number stands =
    let (more, from) = heap-from es content stands.0 in
    let (k, place) = place-sixteens es content are in
    let which : number ≡ k + 1 = stands.1 ∙ (let z : entry_place es content / 16 + 1 ≡ k + 1 = omega (arith, place) in z) in
    ap (guid (heap_of_entries es)) which
    ∙ guid-at (heap_of_entries es) content more k (guid-long es content are stands.0) (ap (λ (n : ℕ). drop n (heap_of_entries es)) (sym place) ∙ from)
