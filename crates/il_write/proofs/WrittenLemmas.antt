-- A body that is written is spelled by its bytes.
use Rattle.std.proofs.Common.{◌≡◌, ◌+◌, ◌<◌, ◌≤◌, ◌^◌, ◌++◌, ℕ, List, [], ◌∷◌, length, map, take, drop, get_or, Bool, true, false, cond, Option, Some, None, refl, sym, ap, ◌∙◌, subst, arith, append_assoc, length-append, nat_lt, inl, inr}
use Rattle.std.specs.List.{AllByRecursion}
use Rattle.std.proofs.lemmas.List.{append-nil, drop_at, take_at, take_all}
use Rattle.std.proofs.lemmas.Bool.{cases_lt, ltb-false}
use Rattle.std.proofs.lemmas.Bool.Decides.{nat_tests}
use Rattle.il_code.specs.declared.instr.Instr.{Instr}
use Rattle.il_code.specs.declared.handler.Handler.{Handler}
use Rattle.il_code.specs.Body.{Body}
use Rattle.il_code.specs.Instructions.{kind_of}
use Rattle.il_code.specs.Code.{at, placed, Stand}
use Rattle.il_code.specs.Spelling.{placed_handler, Handled, Spells}
use Rattle.il_code.specs.BodyBytes.{front_bytes, body_bytes_by, body_bytes}
use Rattle.il_code.specs.CodeBytes.{code_bytes}
use Rattle.il_code.specs.HeaderBytes.{has_handlers, header_bytes}
use Rattle.il_code.specs.SectionBytes.{clause_of, section_bytes}
use Rattle.il_code.specs.Refusal.{first_far, refused_by, refusal_of}
use Rattle.il_write.specs.inner.Ranges.{OperandFits, KindFits, BodyFits}
use Rattle.il_code.specs.Writable.{IsOfKind, IsSound, IsSoundHandler, Writable, NameTexts}
use Rattle.il_code.proofs.SpellingLemmas.{at-rises}
use Rattle.il_write.proofs.LayoutLemmas.{all-map, targets-of, bounds-of}
use Rattle.il_write.proofs.ReadBodyLemmas.{code-stands, length-code_bytes}
use Rattle.il_write.proofs.ReadSectionLemmas.{HeaderFacts, head-read, ClauseFacts, sections-read}

-- what is known of a body that is written
pub record BodyFacts (v : Body) (texts : List ℕ) : Type 0 where
  pub writable : Writable v
  pub header : HeaderFacts v (at v.code (length v.code))
  pub fits : AllByRecursion (λ (x : Instr). OperandFits x.operand) v.code
  pub kinds : AllByRecursion (λ (h : Handler). KindFits h.kind) v.handlers
  pub tokens : (j : ℕ) → get_or texts j 0 < 2 ^ 32
  pub near : first_far (at v.code) v.code ≡ None
  pub few : length v.handlers ≤ 65535

kinds-of : (v : Body) → Writable v → AllByRecursion (λ (x : Instr). IsOfKind (kind_of x.op) x.operand) v.code
kinds-of v w = all-map (IsSound (length v.code)) (λ (x : Instr). IsOfKind (kind_of x.op) x.operand) (λ x s. s.kind) v.code w.code

-- places do not fall

at-past : (code : List Instr) (t : ℕ) → length code ≤ t → at code t ≡ at code (length code)
unfolding at
at-past code t h = let whole : take t code ≡ take (length code) code = take_all t code h ∙ sym (take_all (length code) code (omega arith)) in rw whole refl

at-upto : (code : List Instr) (i j : ℕ) → i ≤ j → j ≤ length code → at code i ≤ at code j
at-upto code i j h l = elim (cases_lt i j) [
  | inl less ↦ let up = at-rises code i j less l in omega (arith, up)
  | inr same ↦ let e : i ≡ j = omega arith in subst (λ k. at code i ≤ at code k) e (omega arith)
]

at-most : (code : List Instr) (t : ℕ) → at code t ≤ at code (length code)
at-most code t = elim (cases_lt t (length code)) [
  | inl less ↦ at-upto code t (length code) (omega arith) (omega arith)
  | inr past ↦ let e = at-past code t past in omega (arith, e)
]

clause-facts : (code : List Instr) (hs : List Handler) → at code (length code) ≤ 2 ^ 24 → AllByRecursion (λ (h : Handler). KindFits h.kind) hs → AllByRecursion (IsSoundHandler (length code)) hs → AllByRecursion (ClauseFacts (at code)) hs
clause-facts code [] small kinds sound = tt
clause-facts code (h ∷ hs) small kinds sound = (
  record {
    kind = kinds.0;
    small = λ t. let most = at-most code t in omega (arith, most, small);
    range = at-upto code h.try_start h.try_end sound.0.range sound.0.try_end;
    handler = at-upto code h.start h.end sound.0.handler sound.0.end;
  },
  clause-facts code hs small kinds.1 sound.1,
)

no-handlers : (hs : List Handler) → nat_lt 0 (length hs) ≡ false → hs ≡ []
no-handlers [] h = refl
no-handlers (x ∷ hs) h = let none = ltb-false 0 (length (x ∷ hs)) h in absurd (omega (arith, none))

-- the bytes behind the front
record Parted (v : Body) (texts s : List ℕ) : Type 0 where
  sec : List ℕ
  is : s ≡ front_bytes (at v.code) v texts ++ sec
  handled : Handled (has_handlers v) s (length (front_bytes (at v.code) v texts)) (map (placed_handler (at v.code)) v.handlers)

parted-by : (v : Body) (texts : List ℕ) → BodyFacts v texts → (t : Bool) → has_handlers v ≡ t → Parted v texts (cond t (front_bytes (at v.code) v texts ++ section_bytes (map (clause_of (at v.code)) v.handlers) (length (front_bytes (at v.code) v texts))) (front_bytes (at v.code) v texts))
parted-by v texts f true e =
    let front : List ℕ = front_bytes (at v.code) v texts in
    let hs : List Handler = map (placed_handler (at v.code)) v.handlers in
    let s : List ℕ = front ++ section_bytes (map (clause_of (at v.code)) v.handlers) (length front) in
    let facts = clause-facts v.code v.handlers f.header.small f.kinds f.writable.handlers in
    record {
      sec = section_bytes (map (clause_of (at v.code)) v.handlers) (length front);
      is = refl;
      handled = subst (λ t. Handled t s (length front) hs) (sym e) (hs ∷ [], append-nil hs, sections-read front (at v.code) v.handlers facts f.few);
    }
parted-by v texts f false e =
    let front : List ℕ = front_bytes (at v.code) v texts in
    record {
      sec = [];
      is = sym (append-nil front);
      handled = subst (λ t. Handled t front (length front) (map (placed_handler (at v.code)) v.handlers)) (sym e) (ap (map (placed_handler (at v.code))) (no-handlers v.handlers e));
    }

parted : (v : Body) (texts : List ℕ) → BodyFacts v texts → Parted v texts (body_bytes v texts)
unfolding body_bytes body_bytes_by
parted v texts f = parted-by v texts f (has_handlers v) refl

-- what is written is read back as the body
pub written-spells : (v : Body) (texts users : List ℕ) → BodyFacts v texts → NameTexts users texts v.code → Spells v (body_bytes v texts) users
written-spells v texts users f names =
    let s : List ℕ = body_bytes v texts in
    let size : ℕ = at v.code (length v.code) in
    let head : List ℕ = header_bytes v size in
    let code : List ℕ = code_bytes (at v.code) texts v.code in
    let parts = parted v texts f in
    let cut : s ≡ head ++ (code ++ parts.sec) = parts.is ∙ append_assoc head code parts.sec in
    let len : length code ≡ size = length-code_bytes texts v.code (kinds-of v f.writable) in
    let read = head-read v size s (code ++ parts.sec) f.header cut in
    let whole = length-append head (code ++ parts.sec) in
    let rest = length-append code parts.sec in
    let both = length-append head code in
    let behind : drop read.header.start s ≡ code ++ parts.sec = ap (drop read.header.start) cut ∙ drop_at head (code ++ parts.sec) read.header.start (sym read.start) in
    let bytes : take read.header.size (drop read.header.start s) ≡ code = ap (take read.header.size) behind ∙ take_at code parts.sec read.header.size (len ∙ sym read.size_is) in
    let stand = code-stands users texts v.code (record { kinds = (kinds-of v f.writable); targets = targets-of v f.writable; fits = f.fits; names = names; tokens = f.tokens; near = f.near; small = f.header.small }) in
    let place : length (head ++ code) ≡ read.header.start + read.header.size = omega (arith, both, len, read.start, read.size_is) in
    record {
      header = read.header;
      heads = read.heads;
      max_stack = read.max_stack;
      init_locals = read.init_locals;
      locals = read.locals;
      there = omega (arith, ap length cut, whole, rest, len, read.start, read.size_is);
      code = subst (λ b. Stand users b 0 (map (placed (at v.code)) v.code)) (sym bytes) stand;
      targets = targets-of v f.writable;
      handlers = subst (λ t. Handled t s (read.header.start + read.header.size) (map (placed_handler (at v.code)) v.handlers)) (sym read.sections) (subst (λ p. Handled (has_handlers v) s p (map (placed_handler (at v.code)) v.handlers)) place parts.handled);
      bounds = bounds-of v f.writable;
      few = omega (arith, f.few);
    }

-- a body that is not refused

unrefused-parts : (o : Option ℕ) (size count : ℕ) → refused_by o size count ≡ None → (o ≡ None) × (size ≤ 2 ^ 24) × (count ≤ 65535)
unrefused-parts (Some i) size count h = cc
unrefused-parts None size count h = (refl, grind (arith, nat_tests), grind (arith, nat_tests))

unrefused-body : (v : Body) → refusal_of v ≡ None → (first_far (at v.code) v.code ≡ None) × (at v.code (length v.code) ≤ 2 ^ 24) × (length v.handlers ≤ 65535)
unfolding refusal_of
unrefused-body v h = unrefused-parts (first_far (at v.code) v.code) (at v.code (length v.code)) (length v.handlers) h

pub read-back : (v : Body) (texts bytes : List ℕ) → Writable v → refusal_of v ≡ None → BodyFits v → ((j : ℕ) → get_or texts j 0 < 2 ^ 32) → bytes ≡ body_bytes v texts → (users : List ℕ) → NameTexts users texts v.code → Spells v bytes users
read-back v texts bytes writable refused fits tokens is users names =
    let parts = unrefused-body v refused in
    subst (λ b. Spells v b users) (sym is)
    (written-spells v texts users (record {
      writable = writable;
      header = record { max_stack = fits.max_stack; locals = fits.locals; small = parts.1 };
      fits = fits.code;
      kinds = fits.handlers;
      tokens = tokens;
      near = parts.0;
      few = parts.2;
    }) names)
