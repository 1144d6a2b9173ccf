-- Headers, sections and clauses that are written are read back.
use Rattle.std.proofs.Common.{◌≡◌, ◌==◌, ◌&&◌, ◌+◌, ◌-◌, ◌*◌, ◌/◌, ◌%◌, ◌<◌, ◌≤◌, ◌^◌, ◌++◌, ℕ, List, [], ◌∷◌, length, map, replicate, Bool, true, false, not, cond, Option, Some, None, refl, sym, ap, ◌∙◌, arith, length-append, nat_lt, nat_le, eq-eqb, inl, inr}
use Rattle.std.specs.Prelude.{option_map, flat_map}
use Rattle.std.specs.List.{AllByRecursion, list_all}
use Rattle.std.proofs.lemmas.List.{append-nil, length-replicate, length-map}
use Rattle.std.proofs.lemmas.Bool.{and_parts, not-true, not-false, ltb-true, leb-true, eqb-true, cases_Bool}
use Rattle.byteorder.specs.Endian.{little_bytes}
use Rattle.cil_base.specs.Token.{Token, root}
use Rattle.il_code.specs.declared.handler.HandlerKind.{HandlerKind}
use Rattle.il_code.specs.declared.handler.HandlerKind.TheVariants.{Typed, Filter, Finally, Fault}
use Rattle.il_code.specs.declared.handler.Handler.{Handler}
use Rattle.il_code.specs.declared.header.Header.{Header}
use Rattle.il_code.specs.declared.section.Section.{Section}
use Rattle.il_code.specs.declared.clause.Clause.{Clause}
use Rattle.il_code.specs.Body.{Body}
use Rattle.cil_base.specs.Place.{number_within}
use Rattle.cil_base.specs.Steps.{◌>>=◌}
use Rattle.cil_base.specs.Token.{token_from}
use Rattle.il_code.specs.Items.{items_at}
use Rattle.il_code.specs.Sections.{tiny, fat_at, header_at, clause_size, data_section_at, handler_kind, fields_at, handler_of, clause_at, aligned, Sections}
use Rattle.il_code.specs.Spelling.{placed_kind, placed_handler}
use Rattle.cil_base.specs.Token.{token_number}
use Rattle.il_code.specs.HeaderBytes.{has_handlers, is_tiny, flags_of, header_bytes}
use Rattle.il_code.specs.SectionBytes.{kind_flags, kind_last, clause_of, fits_small, needs_fat, clause_bytes, section_number, section_bytes}
use Rattle.il_write.specs.inner.Ranges.{TokenFits, KindFits}
use Rattle.il_write.proofs.ReadBackLemmas.{Lies, lies-left, lies-right, lies-number, lies-byte}
use Rattle.il_write.proofs.ReadCodeLemmas.{length-little}
use Rattle.cil_base.proofs.TokenLemmas.{token-back, token-small}
use Rattle.il_code.proofs.SectionLemmas.{aligned-up}

-- the header of a body that is written
pub record Head (v : Body) (size : ℕ) (s : List ℕ) : Type 0 where
  pub header : Header
  pub heads : header_at s ≡ Some header
  pub start : header.start ≡ length (header_bytes v size)
  pub size_is : header.size ≡ size
  pub max_stack : v.max_stack ≡ header.max_stack
  pub init_locals : v.init_locals ≡ header.init_locals
  pub locals : v.locals ≡ header.locals
  pub sections : header.sections ≡ has_handlers v

pub record HeaderFacts (v : Body) (size : ℕ) : Type 0 where
  pub max_stack : v.max_stack < 2 ^ 16
  pub locals : TokenFits v.locals
  pub small : size ≤ 2 ^ 24

abbrev token_with : ℕ → ℕ → Token
token_with a r = record { table = a; rid = r }

is_root : (t : Token) → token_number t ≡ 0 → t ≡ root
is_root t h =
    let a : t.table ≡ 0 = omega (arith, h) in
    let r : t.rid ≡ 0 = omega (arith, h) in
    ap (λ a. token_with a t.rid) a ∙ ap (λ r. token_with 0 r) r

tiny-head : (v : Body) (size : ℕ) (s rest : List ℕ) → s ≡ header_bytes v size ++ rest → is_tiny v size ≡ true → Head v size s
unfolding header_bytes header_at tiny
tiny-head v size s rest is t =
    let a = and_parts (((v.max_stack == 8) && not v.init_locals) && (token_number v.locals == 0) && not (has_handlers v)) (nat_lt size 64) t in
    let b = and_parts (((v.max_stack == 8) && not v.init_locals) && (token_number v.locals == 0)) (not (has_handlers v)) a.0 in
    let c = and_parts ((v.max_stack == 8) && not v.init_locals) (token_number v.locals == 0) b.0 in
    let d = and_parts (v.max_stack == 8) (not v.init_locals) c.0 in
    let less = ltb-true size 64 a.1 in
    let bytes : header_bytes v size ≡ little_bytes 1 (size * 4 + 2) = ap (λ t. cond t (little_bytes 1 (size * 4 + 2)) (little_bytes 2 (flags_of v) ++ little_bytes 2 v.max_stack ++ little_bytes 4 size ++ little_bytes 4 (token_number v.locals))) t in
    let lies : Lies s 0 (little_bytes 1 (size * 4 + 2)) = record { pre = []; post = rest; is = is ∙ ap (λ z. z ++ rest) bytes; place = refl } in
    let first = lies-number s 0 1 (size * 4 + 2) lies (omega (arith, less)) in
    let form : ((size * 4 + 2) % 4 == 2) ≡ true = eq-eqb ((size * 4 + 2) % 4) 2 (omega arith) in
    record {
      header = tiny (size * 4 + 2);
      heads = ap (λ o. o >>= λ first. cond (first % 4 == 2) (Some (tiny first)) (cond (first % 4 == 3) (fat_at s) None)) first ∙ ap (λ t. cond t (Some (tiny (size * 4 + 2))) (cond ((size * 4 + 2) % 4 == 3) (fat_at s) None)) form;
      start = sym (ap length bytes);
      size_is = omega arith;
      max_stack = eqb-true v.max_stack 8 d.0;
      init_locals = not-true v.init_locals d.1;
      locals = is_root v.locals (eqb-true (token_number v.locals) 0 c.1);
      sections = sym (not-true (has_handlers v) b.1);
    }

abbrev flags_with : Bool → Bool → ℕ
flags_with a b = 3 * 2 ^ 12 + 3 + cond a 0x10 0 + cond b 8 0

record Flags (n : ℕ) (a b : Bool) : Type 0 where
  not_tiny : (n % 256 % 4 == 2) ≡ false
  form : (n % 256 % 4 == 3) ≡ true
  words : (n / 2 ^ 12 == 3) ≡ true
  init : (n / 0x10 % 2 == 1) ≡ a
  sections : (n / 8 % 2 == 1) ≡ b
  small : n < 256 ^ 2

flags-read : (a b : Bool) → Flags (flags_with a b) a b
flags-read true true = record { not_tiny = refl; form = refl; words = refl; init = refl; sections = refl; small = omega arith }
flags-read true false = record { not_tiny = refl; form = refl; words = refl; init = refl; sections = refl; small = omega arith }
flags-read false true = record { not_tiny = refl; form = refl; words = refl; init = refl; sections = refl; small = omega arith }
flags-read false false = record { not_tiny = refl; form = refl; words = refl; init = refl; sections = refl; small = omega arith }

abbrev fat_header : ℕ → ℕ → Bool → Token → Bool → Header
fat_header size max_stack init locals sections = record { start = 12; size = size; max_stack = max_stack; init_locals = init; locals = locals; sections = sections }

abbrev made : ℕ → ℕ → ℕ → ℕ → Option Header
made flags max_stack size locals = cond (flags / 2 ^ 12 == 3) (Some (fat_header size max_stack (flags / 0x10 % 2 == 1) (token_from locals) (flags / 8 % 2 == 1))) None

fat-head : (v : Body) (size : ℕ) (s rest : List ℕ) → HeaderFacts v size → s ≡ header_bytes v size ++ rest → is_tiny v size ≡ false → Head v size s
unfolding header_bytes header_at fat_at
fat-head v size s rest facts is t =
    let flags : ℕ = flags_with v.init_locals (has_handlers v) in
    let a : List ℕ = little_bytes 2 flags in
    let b : List ℕ = little_bytes 2 v.max_stack in
    let c : List ℕ = little_bytes 4 size in
    let d : List ℕ = little_bytes 4 (token_number v.locals) in
    let f = flags-read v.init_locals (has_handlers v) in
    let bytes : header_bytes v size ≡ a ++ b ++ c ++ d = ap (λ t. cond t (little_bytes 1 (size * 4 + 2)) (a ++ b ++ c ++ d)) t in
    let lies : Lies s 0 (a ++ b ++ c ++ d) = record { pre = []; post = rest; is = is ∙ ap (λ z. z ++ rest) bytes; place = refl } in
    let abc = lies-left s 0 (a ++ b ++ c) d lies in
    let ab = lies-left s 0 (a ++ b) c abc in
    let la : Lies s 0 ((flags % 256 ∷ []) ++ (flags / 256 % 256 ∷ [])) = lies-left s 0 a b ab in
    let first = lies-byte s 0 (flags % 256) (lies-left s 0 (flags % 256 ∷ []) (flags / 256 % 256 ∷ []) la) in
    let na = lies-number s 0 2 flags (lies-left s 0 a b ab) f.small in
    let nb = lies-number s 2 2 v.max_stack (lies-right s 0 2 a b ab refl) (omega (arith, facts.max_stack)) in
    let nc = lies-number s 4 4 size (lies-right s 0 4 (a ++ b) c abc refl) (omega (arith, facts.small)) in
    let nd = lies-number s 8 4 (token_number v.locals) (lies-right s 0 8 (a ++ b ++ c) d lies refl) (token-small v.locals facts.locals.table facts.locals.rid) in
    record {
      header = fat_header size v.max_stack v.init_locals v.locals (has_handlers v);
      heads =
          ap (λ o. o >>= λ first. cond (first % 4 == 2) (Some (tiny first)) (cond (first % 4 == 3) (fat_at s) None)) first
          ∙ ap (λ t. cond t (Some (tiny (flags % 256))) (cond (flags % 256 % 4 == 3) (fat_at s) None)) f.not_tiny
          ∙ ap (λ t. cond t (fat_at s) None) f.form
          ∙ ap (λ o. o >>= λ flags. number_within s 2 2 >>= λ max_stack. number_within s 4 4 >>= λ size. number_within s 8 4 >>= λ locals. made flags max_stack size locals) na
          ∙ ap (λ o. o >>= λ max_stack. number_within s 4 4 >>= λ size. number_within s 8 4 >>= λ locals. made flags max_stack size locals) nb
          ∙ ap (λ o. o >>= λ size. number_within s 8 4 >>= λ locals. made flags v.max_stack size locals) nc
          ∙ ap (λ o. o >>= λ locals. made flags v.max_stack size locals) nd
          ∙ ap (λ t. cond t (Some (fat_header size v.max_stack (flags / 0x10 % 2 == 1) (token_from (token_number v.locals)) (flags / 8 % 2 == 1))) None) f.words
          ∙ ap (λ i. Some (fat_header size v.max_stack i (token_from (token_number v.locals)) (flags / 8 % 2 == 1))) f.init
          ∙ ap (λ t. Some (fat_header size v.max_stack v.init_locals t (flags / 8 % 2 == 1))) (token-back v.locals facts.locals.rid)
          ∙ ap (λ i. Some (fat_header size v.max_stack v.init_locals v.locals i)) f.sections;
      start = sym (ap length bytes);
      size_is = refl;
      max_stack = refl;
      init_locals = refl;
      locals = refl;
      sections = refl;
    }

-- the header is read
pub head-read : (v : Body) (size : ℕ) (s rest : List ℕ) → HeaderFacts v size → s ≡ header_bytes v size ++ rest → Head v size s
head-read v size s rest facts is = elim (cases_Bool (is_tiny v size)) [ inl t ↦ tiny-head v size s rest is t | inr f ↦ fat-head v size s rest facts is f ]

-- clauses

-- what holds of a handler that is written
pub record ClauseFacts (place : ℕ → ℕ) (h : Handler) : Type 0 where
  pub kind : KindFits h.kind
  pub small : (t : ℕ) → place t ≤ 2 ^ 24
  pub range : place h.try_start ≤ place h.try_end
  pub handler : place h.start ≤ place h.end

kind-read : (place : ℕ → ℕ) (kind : HandlerKind) → KindFits kind → handler_kind (kind_flags kind) (kind_last place kind) ≡ Some (placed_kind place kind)
unfolding handler_kind
kind-read place (Typed t) fits = ap (λ t. Some (Typed t)) (token-back t fits.rid)
kind-read place (Filter start) fits = refl
kind-read place Finally fits = refl
kind-read place Fault fits = refl

last-small : (place : ℕ → ℕ) (kind : HandlerKind) → KindFits kind → ((t : ℕ) → place t ≤ 2 ^ 24) → kind_last place kind < 256 ^ 4
last-small place (Typed t) fits small = token-small t fits.table fits.rid
last-small place (Filter start) fits small = omega (arith, small start)
last-small place Finally fits small = omega arith
last-small place Fault fits small = omega arith

flags-small : (kind : HandlerKind) → kind_flags kind ≤ 4
flags-small (Typed t) = omega arith
flags-small (Filter start) = omega arith
flags-small Finally = omega arith
flags-small Fault = omega arith

abbrev handler_by : HandlerKind → ℕ → ℕ → ℕ → ℕ → Handler
handler_by kind a b c d = record { kind = kind; try_start = a; try_end = b; start = c; end = d }

handler-read : (place : ℕ → ℕ) (h : Handler) → ClauseFacts place h → handler_of (clause_of place h) ≡ Some (placed_handler place h)
unfolding handler_of
handler-read place h f =
    let range : place h.try_start + (place h.try_end - place h.try_start) ≡ place h.try_end = omega (arith, f.range) in
    let handler : place h.start + (place h.end - place h.start) ≡ place h.end = omega (arith, f.handler) in
    ap (λ o. option_map (λ kind. handler_by kind (place h.try_start) (place h.try_start + (place h.try_end - place h.try_start)) (place h.start) (place h.start + (place h.end - place h.start))) o) (kind-read place h.kind f.kind)
    ∙ ap (λ e. Some (handler_by (placed_kind place h.kind) (place h.try_start) e (place h.start) (place h.start + (place h.end - place h.start)))) range
    ∙ ap (λ e. Some (handler_by (placed_kind place h.kind) (place h.try_start) (place h.try_end) (place h.start) e)) handler

abbrev fields_with : ℕ → ℕ → ℕ → ℕ → ℕ → ℕ → Clause
fields_with a b c d e f = record { flags = a; try_offset = b; try_len = c; offset = d; len = e; last = f }

-- six numbers one after the other
six : (s : List ℕ) (wa wb wc wd we wf pa pb pc pd pe pf a b c d e f : ℕ) → number_within s pa wa ≡ Some a → number_within s pb wb ≡ Some b → number_within s pc wc ≡ Some c → number_within s pd wd ≡ Some d → number_within s pe we ≡ Some e → number_within s pf wf ≡ Some f
    → (number_within s pa wa >>= λ a. number_within s pb wb >>= λ b. number_within s pc wc >>= λ c. number_within s pd wd >>= λ d. number_within s pe we >>= λ e. number_within s pf wf >>= λ f. Some (fields_with a b c d e f)) ≡ Some (fields_with a b c d e f)
six s wa wb wc wd we wf pa pb pc pd pe pf a b c d e f ha hb hc hd he hf = rw (ha, hb, hc, hd, he, hf) refl

small-read : (s : List ℕ) (p : ℕ) (c : Clause) → c.flags ≤ 4 → c.last < 256 ^ 4 → fits_small c ≡ true → Lies s p (clause_bytes false c) → fields_at false s p ≡ Some c
unfolding fields_at clause_bytes
small-read s p c flags last fits l =
    let x = and_parts (nat_lt c.try_offset (2 ^ 16) && nat_lt c.try_len (2 ^ 8) && nat_lt c.offset (2 ^ 16)) (nat_lt c.len (2 ^ 8)) fits in
    let y = and_parts (nat_lt c.try_offset (2 ^ 16) && nat_lt c.try_len (2 ^ 8)) (nat_lt c.offset (2 ^ 16)) x.0 in
    let z = and_parts (nat_lt c.try_offset (2 ^ 16)) (nat_lt c.try_len (2 ^ 8)) y.0 in
    let ba : List ℕ = little_bytes 2 c.flags in
    let bb : List ℕ = little_bytes 2 c.try_offset in
    let bc : List ℕ = little_bytes 1 c.try_len in
    let bd : List ℕ = little_bytes 2 c.offset in
    let be : List ℕ = little_bytes 1 c.len in
    let bf : List ℕ = little_bytes 4 c.last in
    let le = lies-left s p (ba ++ bb ++ bc ++ bd ++ be) bf l in
    let ld = lies-left s p (ba ++ bb ++ bc ++ bd) be le in
    let lc = lies-left s p (ba ++ bb ++ bc) bd ld in
    let lb = lies-left s p (ba ++ bb) bc lc in
    let la = lies-left s p ba bb lb in
    six s 2 2 1 2 1 4 p (p + 2) (p + 4) (p + 5) (p + 7) (p + 8) c.flags c.try_offset c.try_len c.offset c.len c.last
    (lies-number s p 2 c.flags la (omega (arith, flags)))
    (lies-number s (p + 2) 2 c.try_offset (lies-right s p (p + 2) ba bb lb refl) (ltb-true c.try_offset (2 ^ 16) z.0))
    (lies-number s (p + 4) 1 c.try_len (lies-right s p (p + 4) (ba ++ bb) bc lc refl) (ltb-true c.try_len (2 ^ 8) z.1))
    (lies-number s (p + 5) 2 c.offset (lies-right s p (p + 5) (ba ++ bb ++ bc) bd ld refl) (ltb-true c.offset (2 ^ 16) y.1))
    (lies-number s (p + 7) 1 c.len (lies-right s p (p + 7) (ba ++ bb ++ bc ++ bd) be le refl) (ltb-true c.len (2 ^ 8) x.1))
    (lies-number s (p + 8) 4 c.last (lies-right s p (p + 8) (ba ++ bb ++ bc ++ bd ++ be) bf l refl) last)

fat-read : (s : List ℕ) (p : ℕ) (c : Clause) → c.flags ≤ 4 → c.last < 256 ^ 4 → c.try_offset < 256 ^ 4 → c.try_len < 256 ^ 4 → c.offset < 256 ^ 4 → c.len < 256 ^ 4 → Lies s p (clause_bytes true c) → fields_at true s p ≡ Some c
unfolding fields_at clause_bytes
fat-read s p c flags last hb hc hd he l =
    let ba : List ℕ = little_bytes 4 c.flags in
    let bb : List ℕ = little_bytes 4 c.try_offset in
    let bc : List ℕ = little_bytes 4 c.try_len in
    let bd : List ℕ = little_bytes 4 c.offset in
    let be : List ℕ = little_bytes 4 c.len in
    let bf : List ℕ = little_bytes 4 c.last in
    let le = lies-left s p (ba ++ bb ++ bc ++ bd ++ be) bf l in
    let ld = lies-left s p (ba ++ bb ++ bc ++ bd) be le in
    let lc = lies-left s p (ba ++ bb ++ bc) bd ld in
    let lb = lies-left s p (ba ++ bb) bc lc in
    let la = lies-left s p ba bb lb in
    six s 4 4 4 4 4 4 p (p + 4) (p + 8) (p + 12) (p + 16) (p + 20) c.flags c.try_offset c.try_len c.offset c.len c.last
    (lies-number s p 4 c.flags la (omega (arith, flags)))
    (lies-number s (p + 4) 4 c.try_offset (lies-right s p (p + 4) ba bb lb refl) hb)
    (lies-number s (p + 8) 4 c.try_len (lies-right s p (p + 8) (ba ++ bb) bc lc refl) hc)
    (lies-number s (p + 12) 4 c.offset (lies-right s p (p + 12) (ba ++ bb ++ bc) bd ld refl) hd)
    (lies-number s (p + 16) 4 c.len (lies-right s p (p + 16) (ba ++ bb ++ bc ++ bd) be le refl) he)
    (lies-number s (p + 20) 4 c.last (lies-right s p (p + 20) (ba ++ bb ++ bc ++ bd ++ be) bf l refl) last)

-- a small section's clauses fit
abbrev FormFits : Bool → Clause → Type 0
FormFits true c = Unit {0}
FormFits false c = fits_small c ≡ true

clause-read : (fat : Bool) (s : List ℕ) (p : ℕ) (place : ℕ → ℕ) (h : Handler) → ClauseFacts place h → FormFits fat (clause_of place h) → Lies s p (clause_bytes fat (clause_of place h)) → clause_at fat s p ≡ Some (placed_handler place h)
unfolding clause_at
clause-read fat s p place h f fits l = ap (λ o. o >>= handler_of) (fields fat fits l) ∙ handler-read place h f
  where
    fields : (fat : Bool) → FormFits fat (clause_of place h) → Lies s p (clause_bytes fat (clause_of place h)) → fields_at fat s p ≡ Some (clause_of place h)
    fields true fits l = fat-read s p (clause_of place h) (flags-small h.kind) (last-small place h.kind f.kind f.small) (omega (arith, f.small h.try_start)) (omega (arith, f.small h.try_end)) (omega (arith, f.small h.start)) (omega (arith, f.small h.end)) l
    fields false fits l = small-read s p (clause_of place h) (flags-small h.kind) (last-small place h.kind f.kind f.small) fits l

length-clause : (fat : Bool) (c : Clause) → length (clause_bytes fat c) ≡ clause_size fat
unfolding clause_bytes
length-clause true c = refl
length-clause false c = refl

clauses-read : (fat : Bool) (s : List ℕ) (p : ℕ) (place : ℕ → ℕ) (hs : List Handler) → AllByRecursion (ClauseFacts place) hs → AllByRecursion (FormFits fat) (map (clause_of place) hs) → Lies s p (flat_map (clause_bytes fat) (map (clause_of place) hs)) → items_at (clause_at fat s) (clause_size fat) p (length hs) ≡ Some (map (placed_handler place) hs)
unfolding items_at
clauses-read fat s p place [] all fits l = refl
clauses-read fat s p place (h ∷ hs) all fits l =
    let here : List ℕ = clause_bytes fat (clause_of place h) in
    let there : List ℕ = flat_map (clause_bytes fat) (map (clause_of place) hs) in
    let first = clause-read fat s p place h all.0 fits.0 (lies-left s p here there l) in
    let rest = clauses-read fat s (p + clause_size fat) place hs all.1 fits.1 (lies-right s p (p + clause_size fat) here there l (ap (λ n. p + n) (sym (length-clause fat (clause_of place h))))) in
    ap (λ o. o >>= λ x. option_map (λ xs. x ∷ xs) (items_at (clause_at fat s) (clause_size fat) (p + clause_size fat) (length hs))) first
    ∙ ap (option_map (λ xs. placed_handler place h ∷ xs)) rest

-- sections

abbrev section_with : Bool → Bool → ℕ → Section
section_with fat further count = record { fat = fat; further = further; count = count }

-- the section of a kind, with what stands above it
abbrev by_kind : ℕ → ℕ → Option Section
by_kind kind above = let fat = kind / 0x40 % 2 == 1 in let size = cond fat above (above % 2 ^ 8) in cond (kind % 0x40 == 1) (Some (section_with fat (kind / 0x80 == 1) (size / clause_size fat))) None

-- a section's header is read, where a small one's size fits its byte
section-read : (fat : Bool) (s : List ℕ) (p count : ℕ) → count ≤ 65535 → (fat ≡ false → count ≤ 20) → Lies s p (little_bytes 4 (section_number fat count)) → data_section_at s p ≡ Some (section_with fat false count)
unfolding data_section_at
section-read true s p count few small l =
    let n = lies-number s p 4 (section_number true count) l (omega (arith, few)) in
    let kind : section_number true count % 2 ^ 8 ≡ 0x41 = omega (arith, few) in
    let size : section_number true count / 2 ^ 8 ≡ 4 + count * 24 = omega (arith, few) in
    let many : (4 + count * 24) / 24 ≡ count = omega (arith, few) in
    ap (λ o. o >>= λ n. by_kind (n % 2 ^ 8) (n / 2 ^ 8)) n
    ∙ ap (λ k. by_kind k (section_number true count / 2 ^ 8)) kind
    ∙ ap (λ m. by_kind 0x41 m) size
    ∙ ap (λ c. Some (section_with true false c)) many
section-read false s p count few small l =
    let less = small refl in
    let n = lies-number s p 4 (section_number false count) l (omega (arith, less)) in
    let kind : section_number false count % 2 ^ 8 ≡ 1 = omega (arith, less) in
    let size : section_number false count / 2 ^ 8 ≡ 4 + count * 12 = omega (arith, less) in
    let many : (4 + count * 12) % 2 ^ 8 / 12 ≡ count = omega (arith, less) in
    ap (λ o. o >>= λ n. by_kind (n % 2 ^ 8) (n / 2 ^ 8)) n
    ∙ ap (λ k. by_kind k (section_number false count / 2 ^ 8)) kind
    ∙ ap (λ m. by_kind 1 m) size
    ∙ ap (λ c. Some (section_with false false c)) many

all-fit : (cs : List Clause) → list_all fits_small cs ≡ true → AllByRecursion (FormFits false) cs
all-fit [] h = tt
all-fit (c ∷ cs) h = let both = and_parts (fits_small c) (list_all fits_small cs) h in (both.0, all-fit cs both.1)

none-asked : (cs : List Clause) → AllByRecursion (FormFits true) cs
none-asked [] = tt
none-asked (c ∷ cs) = (tt, none-asked cs)

record Form (fat : Bool) (cs : List Clause) : Type 0 where
  few : fat ≡ false → length cs ≤ 20
  fit : AllByRecursion (FormFits fat) cs

form-of : (cs : List Clause) → (fat : Bool) → needs_fat cs ≡ fat → Form fat cs
form-of cs true h = record { few = λ e. absurd (never e); fit = none-asked cs }
  where
    never : true ≡ false → ⊥
    never e = cc
form-of cs false h =
    let both = and_parts (nat_le (length cs) 20) (list_all fits_small cs) (not-false (nat_le (length cs) 20 && list_all fits_small cs) h) in
    record { few = λ e. leb-true (length cs) 20 both.0; fit = all-fit cs both.1 }

-- the section behind the front is that of the handlers
pub sections-read : (front : List ℕ) (place : ℕ → ℕ) (hs : List Handler) → AllByRecursion (ClauseFacts place) hs → length hs ≤ 65535 → Sections (front ++ section_bytes (map (clause_of place) hs) (length front)) (length front) (map (placed_handler place) hs ∷ [])
unfolding section_bytes
sections-read front place hs all few =
    let cs : List Clause = map (clause_of place) hs in
    let fat : Bool = needs_fat cs in
    let p : ℕ = length front in
    let up = aligned-up p in
    let count : length cs ≡ length hs = length-map hs (clause_of place) in
    let pad : List ℕ = replicate (aligned p - p) 0 in
    let head : List ℕ = little_bytes 4 (section_number fat (length cs)) in
    let body : List ℕ = flat_map (clause_bytes fat) cs in
    let s : List ℕ = front ++ (pad ++ head ++ body) in
    let lies : Lies s p (pad ++ head ++ body) = record { pre = front; post = []; is = ap (λ z. front ++ z) (sym (append-nil (pad ++ head ++ body))); place = refl } in
    let padded : aligned p ≡ p + length pad = omega (arith, up, length-replicate {A = ℕ} (aligned p - p) 0) in
    let form = form-of cs fat refl in
    let lhead : Lies s (aligned p) head = lies-right s p (aligned p) pad head (lies-left s p (pad ++ head) body lies) padded in
    let lbody : Lies s (aligned p + 4) body = lies-right s p (aligned p + 4) (pad ++ head) body lies (omega (arith, padded, length-append pad head, length-little 4 (section_number fat (length cs)))) in
    let section = section-read fat s (aligned p) (length cs) (omega (arith, count, few)) form.few lhead in
    let items = clauses-read fat s (aligned p + 4) place hs all form.fit lbody in
    (section_with fat false (length cs), section, ap (λ n. items_at (clause_at fat s) (clause_size fat) (aligned p + 4) n) count ∙ items, refl)
