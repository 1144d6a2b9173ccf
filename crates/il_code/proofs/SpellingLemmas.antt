-- What is read is spelled so, and what is spelled so is read.
use Rattle.std.proofs.Common.{◌≡◌, ◌+◌, ◌*◌, ◌<◌, ◌≤◌, ◌^◌, ℕ, zero, suc, List, [], ◌∷◌, length, map, take, drop, Bool, true, false, cond, Option, Some, None, refl, sym, ap, ◌∙◌, subst, arith}
use Rattle.std.specs.List.{AllByRecursion, flat_map, sum_by}
use Rattle.std.proofs.lemmas.List.{length-map}
use Rattle.std.proofs.lemmas.List.Sums.{sum_by-cons}
use Rattle.std.proofs.lemmas.List.FromFn.{get_or-map-range_with_len, length-map-range_with_len}
use Rattle.il_code.specs.declared.operand.Operand.{Operand}
use Rattle.il_code.specs.declared.operand.Operand.TheVariants as of
use Rattle.il_code.specs.declared.instr.Instr.{Instr}
use Rattle.il_code.specs.declared.handler.HandlerKind.{HandlerKind}
use Rattle.il_code.specs.declared.handler.HandlerKind.TheVariants.{Typed, Filter, Finally, Fault}
use Rattle.il_code.specs.declared.handler.Handler.{Handler}
use Rattle.il_code.specs.declared.header.Header.{Header}
use Rattle.il_code.specs.declared.kind.OperandKind as k
use Rattle.il_code.specs.declared.kind.OperandKind.TheVariants as kind
use Rattle.cil_base.specs.Token.{Token}
use Rattle.il_code.specs.Body.{Body}
use Rattle.il_code.specs.Instructions.{kind_of}
use Rattle.il_code.specs.Code.{at, code_size, size_of, operand_width, width_in, instr_of, placed, placed_operand, Stand, TargetsBelow}
use Rattle.il_code.specs.Sections.{header_at}
use Rattle.il_code.specs.Spelling.{placed_kind, placed_handler, FilterBelow, BoundedHandler, Handled, Spells}
use Rattle.il_code.specs.Numbering.{places, each, numbered_instr, numbered_handler, sections_in, handlers_after}
use Rattle.il_code.specs.CodePlaces.{Rising, instr_place}
use Rattle.il_code.proofs.CodeLemmas.{same_some, size_of-pos}
use Rattle.il_code.proofs.NumberingLaws.{each-found, each-only, instr-found, instr-only, handler-found, handler-only}
use Rattle.il_code.proofs.SectionLemmas.{sections-found, sections-only, sections-length}

-- places do not depend on what targets are

width-placed : (f : ℕ → ℕ) (kind : k.OperandKind) (o : Operand) → operand_width kind (placed_operand f o) ≡ operand_width kind o
width-placed f kind.NoOperand o = refl
width-placed f kind.U8 o = refl
width-placed f kind.U16 o = refl
width-placed f kind.I8 o = refl
width-placed f kind.I32 o = refl
width-placed f kind.I64 o = refl
width-placed f kind.R4 o = refl
width-placed f kind.R8 o = refl
width-placed f kind.Token o = refl
width-placed f kind.Text o = refl
width-placed f kind.ShortBranch o = refl
width-placed f kind.Branch o = refl
width-placed f kind.Switch of.None = refl
width-placed f kind.Switch (of.U8 v) = refl
width-placed f kind.Switch (of.U16 v) = refl
width-placed f kind.Switch (of.I8 v) = refl
width-placed f kind.Switch (of.I32 v) = refl
width-placed f kind.Switch (of.I64 v) = refl
width-placed f kind.Switch (of.R4 v) = refl
width-placed f kind.Switch (of.R8 v) = refl
width-placed f kind.Switch (of.Tok v) = refl
width-placed f kind.Switch (of.Text v) = refl
width-placed f kind.Switch (of.Target t) = refl
width-placed f kind.Switch (of.Switch ts) = ap (λ n. 4 + 4 * n) (length-map ts f)

pub size-placed : (f : ℕ → ℕ) (x : Instr) → size_of (placed f x) ≡ size_of x
unfolding size_of
size-placed f x = ap (λ n. code_size x.op + n) (sized (kind_of x.op))
  where
    sized : (o : Option k.OperandKind) → width_in o (placed_operand f x.operand) ≡ width_in o x.operand
    sized None = refl
    sized (Some kind) = width-placed f kind x.operand

sum-placed : (f : ℕ → ℕ) (code : List Instr) (i : ℕ) → sum_by size_of (take i (map (placed f) code)) ≡ sum_by size_of (take i code)
sum-placed f [] zero = refl
sum-placed f [] (suc i) = refl
sum-placed f (x ∷ code) zero = refl
sum-placed f (x ∷ code) (suc i) =
    sum_by-cons size_of (placed f x) (take i (map (placed f) code))
    ∙ ap (λ n. n + sum_by size_of (take i (map (placed f) code))) (size-placed f x)
    ∙ ap (λ n. size_of x + n) (sum-placed f code i)
    ∙ sym (sum_by-cons size_of x (take i code))

at-placed : (f : ℕ → ℕ) (code : List Instr) (i : ℕ) → at (map (placed f) code) i ≡ at code i
unfolding at
at-placed f code i = sum-placed f code i

-- the places rise

pub at-rises : (code : List Instr) (i j : ℕ) → i < j → j ≤ length code → at code i < at code j
unfolding at
at-rises [] i j h l = absurd (omega (arith, h, l))
at-rises (x ∷ code) i zero h l = absurd (omega (arith, h))
at-rises (x ∷ code) zero (suc j) h l = let pos = size_of-pos x in let sum = sum_by-cons size_of x (take j code) in omega (arith, pos, sum)
at-rises (x ∷ code) (suc i) (suc j) h l =
    let ih = at-rises code i j (omega (arith, h)) (omega (arith, l)) in
    let first = sum_by-cons size_of x (take i code) in
    let second = sum_by-cons size_of x (take j code) in
    omega (arith, ih, first, second)

pub places-length : (code : List Instr) → length (places code) ≡ length code + 1
unfolding places
places-length code = length-map-range_with_len (at code) 0 (length code + 1)

pub instr_place-at : (code : List Instr) (t : ℕ) → t ≤ length code → instr_place (places code) t ≡ at code t
unfolding places
instr_place-at code t h = get_or-map-range_with_len (at code) 0 (length code + 1) t t 0 (omega arith) (omega arith)

pub places-rise : (code : List Instr) → Rising (places code)
places-rise code i j h l =
    let len = places-length code in
    rw (instr_place-at code i (omega (arith, l, h, len)), instr_place-at code j (omega (arith, l, len))) (at-rises code i j h (omega (arith, l, len)))

-- places that agree where they are asked for

targets-agree : (f g : ℕ → ℕ) (n : ℕ) (ts : List ℕ) → ((t : ℕ) → t < n → f t ≡ g t) → AllByRecursion (λ t. t < n) ts → map f ts ≡ map g ts
targets-agree f g n [] same all = refl
targets-agree f g n (t ∷ ts) same all = ap (λ z. z ∷ map f ts) (same t all.0) ∙ ap (λ z. g t ∷ z) (targets-agree f g n ts same all.1)

operand-agrees : (f g : ℕ → ℕ) (n : ℕ) (o : Operand) → ((t : ℕ) → t < n → f t ≡ g t) → TargetsBelow n o → placed_operand f o ≡ placed_operand g o
operand-agrees f g n of.None same b = refl
operand-agrees f g n (of.U8 v) same b = refl
operand-agrees f g n (of.U16 v) same b = refl
operand-agrees f g n (of.I8 v) same b = refl
operand-agrees f g n (of.I32 v) same b = refl
operand-agrees f g n (of.I64 v) same b = refl
operand-agrees f g n (of.R4 v) same b = refl
operand-agrees f g n (of.R8 v) same b = refl
operand-agrees f g n (of.Tok v) same b = refl
operand-agrees f g n (of.Text v) same b = refl
operand-agrees f g n (of.Target t) same b = ap of.Target (same t b)
operand-agrees f g n (of.Switch ts) same b = ap of.Switch (targets-agree f g n ts same b)

instr_with : Instr → Operand → Instr
instr_with x o = record { op = x.op; operand = o }

code-agrees : (f g : ℕ → ℕ) (n : ℕ) (code : List Instr) → ((t : ℕ) → t < n → f t ≡ g t) → AllByRecursion (λ (x : Instr). TargetsBelow n x.operand) code → map (placed f) code ≡ map (placed g) code
code-agrees f g n [] same all = refl
code-agrees f g n (x ∷ code) same all =
    let one : placed f x ≡ placed g x = operand_in x.op _ _ (operand-agrees f g n x.operand same all.0) in
    ap (λ z. z ∷ map (placed f) code) one ∙ ap (λ z. placed g x ∷ z) (code-agrees f g n code same all.1)
  where
    operand_in : (op : ℕ) (a b : Operand) → a ≡ b → instr_of op a ≡ instr_of op b
    operand_in op a b e = ap (instr_of op) e

handler-agrees : (f g : ℕ → ℕ) (n : ℕ) (h : Handler) → ((t : ℕ) → t ≤ n → f t ≡ g t) → BoundedHandler n h → placed_handler f h ≡ placed_handler g h
handler-agrees f g n h same b = alike _ _ _ _ _ _ _ _ _ _ (kinds h.kind b.kind) (same h.try_start b.try_start) (same h.try_end b.try_end) (same h.start b.start) (same h.end b.end)
  where
    kinds : (k : HandlerKind) → FilterBelow n k → placed_kind f k ≡ placed_kind g k
    kinds (Typed t) b = refl
    kinds (Filter t) b = ap Filter (same t (omega (arith, b)))
    kinds Finally b = refl
    kinds Fault b = refl

    with_parts : HandlerKind → ℕ → ℕ → ℕ → ℕ → Handler
    with_parts k a b c d = record { kind = k; try_start = a; try_end = b; start = c; end = d }

    alike : (k k' : HandlerKind) (a a' b b' c c' d d' : ℕ) → k ≡ k' → a ≡ a' → b ≡ b' → c ≡ c' → d ≡ d' → with_parts k a b c d ≡ with_parts k' a' b' c' d'
    alike k k' a a' b b' c c' d d' ek ea eb ec ed = ap (λ k. with_parts k a b c d) ek ∙ ap (λ a. with_parts k' a b c d) ea ∙ ap (λ b. with_parts k' a' b c d) eb ∙ ap (λ c. with_parts k' a' b' c d) ec ∙ ap (λ d. with_parts k' a' b' c' d) ed

handlers-agree : (f g : ℕ → ℕ) (n : ℕ) (hs : List Handler) → ((t : ℕ) → t ≤ n → f t ≡ g t) → AllByRecursion (BoundedHandler n) hs → map (placed_handler f) hs ≡ map (placed_handler g) hs
handlers-agree f g n [] same all = refl
handlers-agree f g n (h ∷ hs) same all = ap (λ z. z ∷ map (placed_handler f) hs) (handler-agrees f g n h same all.0) ∙ ap (λ z. placed_handler g h ∷ z) (handlers-agree f g n hs same all.1)

-- numbers from places, and back

-- the code that numbering makes of the instructions with places
pub record Numbered (raw code : List Instr) : Type 0 where
  pub len : length code ≡ length raw
  pub targets : AllByRecursion (λ (x : Instr). TargetsBelow (length code) x.operand) code
  pub placed : map (placed (at code)) code ≡ raw
  pub same : (t : ℕ) → t ≤ length code → instr_place (places raw) t ≡ at code t

pub code-found : (raw code : List Instr) → each (numbered_instr (places raw) (length raw)) raw ≡ Some code → Numbered raw code
code-found raw code h =
    let is = each-found (numbered_instr (places raw) (length raw)) (placed (instr_place (places raw))) (λ (x : Instr). TargetsBelow (length raw) x.operand) (λ x y e. instr-found (places raw) (length raw) x y e) raw code h in
    let len : length code ≡ length raw = sym (length-map code (placed (instr_place (places raw)))) ∙ ap length is.1 in
    let at_same : (t : ℕ) → at raw t ≡ at code t = λ t. ap (λ z. at z t) (sym is.1) ∙ at-placed (instr_place (places raw)) code t in
    let same : (t : ℕ) → t ≤ length raw → instr_place (places raw) t ≡ at code t = λ t l. instr_place-at raw t l ∙ at_same t in
    record {
      len = len;
      targets = subst (λ n. AllByRecursion (λ (x : Instr). TargetsBelow n x.operand) code) (sym len) is.0;
      placed = sym (code-agrees (instr_place (places raw)) (at code) (length raw) code (λ t l. same t (omega (arith, l))) is.0) ∙ is.1;
      same = λ t l. same t (omega (arith, l, len));
    }

pub code-only : (raw code : List Instr) → raw ≡ map (placed (at code)) code → AllByRecursion (λ (x : Instr). TargetsBelow (length code) x.operand) code → (each (numbered_instr (places raw) (length raw)) raw ≡ Some code) × Numbered raw code
code-only raw code e targets =
    let len : length raw ≡ length code = ap length e ∙ length-map code (placed (at code)) in
    let same : (t : ℕ) → t ≤ length code → instr_place (places raw) t ≡ at code t = λ t l. instr_place-at raw t (omega (arith, l, len)) ∙ ap (λ z. at z t) e ∙ at-placed (at code) code t in
    let back : map (placed (instr_place (places raw))) code ≡ raw = code-agrees (instr_place (places raw)) (at code) (length code) code (λ t l. same t (omega (arith, l))) targets ∙ sym e in
    let made = each-only (numbered_instr (places raw) (length raw)) (placed (instr_place (places raw))) (λ (x : Instr). TargetsBelow (length code) x.operand) (λ y b. instr-only (places raw) (length raw) y (places-rise raw) (omega (arith, places-length raw)) (subst (λ n. TargetsBelow n y.operand) (sym len) b)) code targets in
    (sym (ap (each (numbered_instr (places raw) (length raw))) back) ∙ made, record { len = sym len; targets = targets; placed = sym e; same = same })

handlers-made : (raw code : List Instr) (xs hs : List Handler) → Numbered raw code → each (numbered_handler (places raw) (length raw)) xs ≡ Some hs → AllByRecursion (BoundedHandler (length code)) hs × (map (placed_handler (at code)) hs ≡ xs)
handlers-made raw code xs hs n h =
    let is = each-found (numbered_handler (places raw) (length raw)) (placed_handler (instr_place (places raw))) (BoundedHandler (length raw)) (λ x y e. handler-found (places raw) (length raw) x y (places-length raw) e) xs hs h in
    let bounds = subst (λ k. AllByRecursion (BoundedHandler k) hs) (sym n.len) is.0 in
    (bounds, sym (handlers-agree (instr_place (places raw)) (at code) (length code) hs n.same bounds) ∙ is.1)

handlers-back : (raw code : List Instr) (hs : List Handler) → Numbered raw code → AllByRecursion (BoundedHandler (length code)) hs → each (numbered_handler (places raw) (length raw)) (map (placed_handler (at code)) hs) ≡ Some hs
handlers-back raw code hs n bounds =
    ap (each (numbered_handler (places raw) (length raw))) (sym (handlers-agree (instr_place (places raw)) (at code) (length code) hs n.same bounds))
    ∙ each-only (numbered_handler (places raw) (length raw)) (placed_handler (instr_place (places raw))) (BoundedHandler (length code)) (λ y b. handler-only (places raw) (length raw) y (places-rise raw) (places-length raw) (subst (λ k. BoundedHandler k y) n.len b)) hs bounds

-- the handlers that are read are those of the header and the sections

pub handlers-found : (raw code : List Instr) (s : List ℕ) (header : Header) (hs : List Handler) → Numbered raw code → handlers_after (places raw) (length raw) s header ≡ Some hs → Handled header.sections s (header.start + header.size) (map (placed_handler (at code)) hs) × AllByRecursion (BoundedHandler (length code)) hs
handlers-found raw code s header hs n h = by_flag header.sections h
  where
    by_flag : (t : Bool) → cond t (sections_in (places raw) (length raw) s (length s) (header.start + header.size)) (Some []) ≡ Some hs → Handled t s (header.start + header.size) (map (placed_handler (at code)) hs) × AllByRecursion (BoundedHandler (length code)) hs
    by_flag true h =
        let found = sections-found (places raw) (length raw) s (length s) (header.start + header.size) hs h in
        let made = handlers-made raw code (flat_map (λ part. part) found.parts) hs n found.made in
        ((found.parts, sym made.1, found.stand), made.0)
    by_flag false h = subst (λ z. Handled false s (header.start + header.size) (map (placed_handler (at code)) z) × AllByRecursion (BoundedHandler (length code)) z) (same_some [] hs h) (refl, tt)

pub handlers-only : (raw code : List Instr) (s : List ℕ) (header : Header) (hs : List Handler) → Numbered raw code → Handled header.sections s (header.start + header.size) (map (placed_handler (at code)) hs) → AllByRecursion (BoundedHandler (length code)) hs → handlers_after (places raw) (length raw) s header ≡ Some hs
handlers-only raw code s header hs n handled bounds = by_flag header.sections handled
  where
    nil : (xs : List Handler) → map (placed_handler (at code)) xs ≡ [] → xs ≡ []
    nil [] e = refl
    nil (x ∷ xs) e = absurd (never e)
      where
        never : placed_handler (at code) x ∷ map (placed_handler (at code)) xs ≡ [] → ⊥
        never e = cc

    by_flag : (t : Bool) → Handled t s (header.start + header.size) (map (placed_handler (at code)) hs) → cond t (sections_in (places raw) (length raw) s (length s) (header.start + header.size)) (Some []) ≡ Some hs
    by_flag true h =
        let len = sections-length s (header.start + header.size) h.0 h.2 in
        sections-only (places raw) (length raw) s (length s) (header.start + header.size) h.0 hs h.2 (ap (each (numbered_handler (places raw) (length raw))) h.1 ∙ handlers-back raw code hs n bounds) (omega (arith, len))
    by_flag false h = ap Some (sym (nil hs h))

-- the body that is read

pub body-found : (s users : List ℕ) (header : Header) (raw code : List Instr) (hs : List Handler) → header_at s ≡ Some header → header.start + header.size ≤ length s → Stand users (take header.size (drop header.start s)) 0 raw
    → each (numbered_instr (places raw) (length raw)) raw ≡ Some code → handlers_after (places raw) (length raw) s header ≡ Some hs → length hs < 2 ^ 32
    → Spells (record { max_stack = header.max_stack; init_locals = header.init_locals; locals = header.locals; code = code; handlers = hs }) s users
body-found s users header raw code hs heads there stand made handled few =
    let n = code-found raw code made in
    let h = handlers-found raw code s header hs n handled in
    record {
      header = header;
      heads = heads;
      max_stack = refl;
      init_locals = refl;
      locals = refl;
      there = there;
      code = subst (Stand users (take header.size (drop header.start s)) 0) (sym n.placed) stand;
      targets = n.targets;
      handlers = h.0;
      bounds = h.1;
      few = few;
    }

-- what a body that is spelled has to do with what is read
pub record Known (v : Body) (s users : List ℕ) (header : Header) (raw : List Instr) : Type 0 where
  pub made : each (numbered_instr (places raw) (length raw)) raw ≡ Some v.code
  pub handled : handlers_after (places raw) (length raw) s header ≡ Some v.handlers

pub spelled-header : (v : Body) (s users : List ℕ) → (spelled : Spells v s users) → (header : Header) → header_at s ≡ Some header → spelled.header ≡ header
spelled-header v s users spelled header h = same_some spelled.header header (sym spelled.heads ∙ h)

pub body-known : (v : Body) (s users : List ℕ) (header : Header) (raw : List Instr) → Spells v s users → header_at s ≡ Some header → raw ≡ map (placed (at v.code)) v.code → Known v s users header raw
body-known v s users header raw spelled h e =
    let c = code-only raw v.code e spelled.targets in
    record {
      made = c.0;
      handled = handlers-only raw v.code s header v.handlers c.1 (subst (λ (z : Header). Handled z.sections s (z.start + z.size) (map (placed_handler (at v.code)) v.handlers)) (spelled-header v s users spelled header h) spelled.handlers) spelled.bounds;
    }

pub body-is : (v : Body) (s users : List ℕ) (header : Header) (code : List Instr) (hs : List Handler) → Spells v s users → header_at s ≡ Some header → v.code ≡ code → v.handlers ≡ hs → record { max_stack = header.max_stack; init_locals = header.init_locals; locals = header.locals; code = code; handlers = hs } ≡ v
body-is v s users header code hs spelled h c k =
    let same = spelled-header v s users spelled header h in
    alike _ _ _ _ _ _ _ _ _ _ (sym (spelled.max_stack ∙ ap (λ (z : Header). z.max_stack) same)) (sym (spelled.init_locals ∙ ap (λ (z : Header). z.init_locals) same)) (sym (spelled.locals ∙ ap (λ (z : Header). z.locals) same)) (sym c) (sym k)
  where
    body_of : ℕ → Bool → Token → List Instr → List Handler → Body
    body_of a b c d e = record { max_stack = a; init_locals = b; locals = c; code = d; handlers = e }

    alike : (a a' : ℕ) (b b' : Bool) (c c' : Token) (d d' : List Instr) (e e' : List Handler) → a ≡ a' → b ≡ b' → c ≡ c' → d ≡ d' → e ≡ e' → body_of a b c d e ≡ body_of a' b' c' d' e'
    alike a a' b b' c c' d d' e e' ea eb ec ed ee = ap (λ a. body_of a b c d e) ea ∙ ap (λ b. body_of a' b c d e) eb ∙ ap (λ c. body_of a' b' c d e) ec ∙ ap (λ d. body_of a' b' c' d e) ed ∙ ap (λ e. body_of a' b' c' d' e) ee
