-- One header more.
use Rattle.std.proofs.Common.{◌≡◌, ◌+◌, ◌-◌, ◌<◌, ◌≤◌, ◌∙◌, ℕ, suc, Bool, true, false, List, [], ◌∷◌, ◌++◌, map, ap, sym, refl, arith, append_assoc, length, cond, subst}
use Rattle.std.specs.Prelude.{◌||◌, Option, Some}
use Rattle.std.proofs.lemmas.Bool.Decides.{nat_tests}
use Rattle.std.specs.List.{list_any}
use Rattle.pe_image.specs.Places.{u16_at, u32_at}
use Rattle.pe_image.specs.Streams.{bad_header, header_places, header_width, all_headers, stream_at, stream_list, stream_named, has_stream_name}
use Rattle.pe_image.specs.declared.stream.StreamName.{StreamName}
use Rattle.pe_image.specs.declared.stream.Stream.{Stream}

pub places-suc : (m : List ℕ) (place n : ℕ) → header_places m place (suc n) ≡ place ∷ header_places m (place + header_width m place) n
unfolding header_places
places-suc m place n = refl

pub places-zero : (m : List ℕ) (place : ℕ) → header_places m place 0 ≡ []
unfolding header_places
places-zero m place = refl

left_one : (count i : ℕ) → i < count → count - i ≡ suc (count - (i + 1))
left_one count i h = omega arith

pub places-more : (m : List ℕ) (place count i : ℕ) → i < count → header_places m place (count - i) ≡ place ∷ header_places m (place + header_width m place) (count - (i + 1))
places-more m place count i h =
    ap (header_places m place) (left_one count i h) ∙ places-suc m place (count - (i + 1))

pub places-done : (m : List ℕ) (place count i : ℕ) → count ≤ i → header_places m place (count - i) ≡ []
places-done m place count i h = let none : count - i ≡ 0 = omega arith in ap (header_places m place) none ∙ places-zero m place

-- a sound header is passed over
pub any-more : (m : List ℕ) (place count i : ℕ) → i < count → bad_header m place ≡ false → list_any (bad_header m) (header_places m place (count - i)) ≡ list_any (bad_header m) (header_places m (place + header_width m place) (count - (i + 1)))
any-more m place count i h sound =
    ap (list_any (bad_header m)) (places-more m place count i h)
    ∙ ap (λ b. b || list_any (bad_header m) (header_places m (place + header_width m place) (count - (i + 1)))) sound

-- a bad one is found
pub any-bad : (m : List ℕ) (place count i : ℕ) → i < count → bad_header m place ≡ true → list_any (bad_header m) (header_places m place (count - i)) ≡ true
any-bad m place count i h bad =
    ap (list_any (bad_header m)) (places-more m place count i h)
    ∙ ap (λ b. b || list_any (bad_header m) (header_places m (place + header_width m place) (count - (i + 1)))) bad

pub read-more : (m : List ℕ) (place count i : ℕ) (streams : List Stream) → i < count → (streams ++ stream_at m place ∷ []) ++ map (stream_at m) (header_places m (place + header_width m place) (count - (i + 1))) ≡ streams ++ map (stream_at m) (header_places m place (count - i))
read-more m place count i streams h =
    append_assoc streams (stream_at m place ∷ []) (map (stream_at m) (header_places m (place + header_width m place) (count - (i + 1))))
    ∙ ap (λ ps. streams ++ map (stream_at m) ps) (sym (places-more m place count i h))

-- before the first header
pub places-start : (m : List ℕ) (len count : ℕ) → len ≡ u32_at m 12 → count ≡ u16_at m (18 + len) → header_places m (20 + len) (count - 0) ≡ all_headers m
unfolding all_headers
places-start m len count e f =
    let all : count - 0 ≡ count = omega arith in
    ap (header_places m (20 + len)) all
    ∙ ap (header_places m (20 + len)) f
    ∙ ap (λ l. header_places m (20 + l) (u16_at m (18 + l))) e

pub read-start : (m : List ℕ) (len count : ℕ) (streams : List Stream) → streams ≡ [] → len ≡ u32_at m 12 → count ≡ u16_at m (18 + len) → streams ++ map (stream_at m) (header_places m (20 + len) (count - 0)) ≡ stream_list m
unfolding stream_list
read-start m len count streams none e f =
    ap (λ xs. xs ++ map (stream_at m) (header_places m (20 + len) (count - 0))) none ∙ ap (map (stream_at m)) (places-start m len count e f)

-- a stream that was found lies within the metadata
held : (m : List ℕ) (place : ℕ) → bad_header m place ≡ false → (stream_at m place).offset + (stream_at m place).size ≤ length m
unfolding bad_header stream_at
held m place h = grind (arith, nat_tests)

both_false : (a b : Bool) → (a || b) ≡ false → (a ≡ false) × (b ≡ false)
both_false true b h = cc
both_false false b h = (refl, h)

found_by : (m : List ℕ) (x y : Stream) (b : Bool) (rest : Option Stream) → x.offset + x.size ≤ length m → (rest ≡ Some y → y.offset + y.size ≤ length m) → cond b (Some x) rest ≡ Some y → y.offset + y.size ≤ length m
found_by m x y true rest within other h =
    let P : Stream → Type 0 = λ s. s.offset + s.size ≤ length m in
    let same : x ≡ y = cc in
    subst P same within
found_by m x y false rest within other h = other h

within_places : (m : List ℕ) (places : List ℕ) (name : StreamName) (s : Stream) → list_any (bad_header m) places ≡ false → stream_named (map (stream_at m) places) name ≡ Some s → s.offset + s.size ≤ length m
within_places m [] name s sound h = cc
within_places m (p ∷ ps) name s sound h =
    let parts = both_false (bad_header m p) (list_any (bad_header m) ps) sound in
    found_by m (stream_at m p) s (has_stream_name name (stream_at m p).name) (stream_named (map (stream_at m) ps) name) (held m p parts.0) (within_places m ps name s parts.1) h

pub found-within : (m : List ℕ) (name : StreamName) (s : Stream) → list_any (bad_header m) (all_headers m) ≡ false → stream_named (stream_list m) name ≡ Some s → s.offset + s.size ≤ length m
unfolding stream_list
found-within m name s sound h = within_places m (all_headers m) name s sound h
