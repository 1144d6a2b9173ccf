-- What is written, step by step, and that it does not depend on how places are told.
use Rattle.std.proofs.Common.{◌≡◌, ◌&&◌, ◌+◌, ◌-◌, ◌<◌, ◌≤◌, ◌++◌, ℕ, List, [], ◌∷◌, length, map, take, drop, get_or, Bool, true, false, cond, Option, Some, None, refl, sym, ap, ◌∙◌, arith, append_assoc, length-append}
use Rattle.std.specs.Prelude.{option_map, find, flat_map, Err}
use Rattle.std.specs.List.{AllByRecursion, enumerate_from}
use Rattle.std.proofs.lemmas.List.{append-nil, take_more, at_drop_more, drop_all}
use Rattle.std.proofs.lemmas.List.Concat.{flat_map-append}
use Rattle.std.proofs.lemmas.List.FromFn.{length-enumerate_from, get_or-enumerate_from}
use Rattle.byteorder.specs.Endian.{little_bytes}
use Rattle.il_code.specs.declared.operand.Operand.{Operand}
use Rattle.il_code.specs.declared.operand.Operand.TheVariants as of
use Rattle.il_code.specs.declared.instr.Instr.{Instr}
use Rattle.il_code.specs.declared.handler.HandlerKind.{HandlerKind}
use Rattle.il_code.specs.declared.handler.HandlerKind.TheVariants.{Typed, Filter, Finally, Fault}
use Rattle.il_code.specs.declared.handler.Handler.{Handler}
use Rattle.il_code.specs.declared.clause.Clause.{Clause}
use Rattle.il_code.specs.declared.refusal.BodyRefusal.{BodyRefusal}
use Rattle.il_code.specs.declared.refusal.BodyRefusal.TheVariants as refusal
use Rattle.il_code.specs.Body.{Body}
use Rattle.il_code.specs.Instructions.{kind_of}
use Rattle.il_code.specs.Code.{at, TargetsBelow}
use Rattle.il_code.specs.Spelling.{FilterBelow, BoundedHandler}
use Rattle.il_code.specs.Writable.{IsSound, IsSoundHandler, Writable, operand_texts, texts_of}
use Rattle.il_code.specs.Numbering.{places}
use Rattle.il_code.specs.CodePlaces.{instr_place}
use Rattle.il_code.specs.BodyBytes.{front_bytes, body_bytes_by, body_bytes}
use Rattle.il_code.specs.CodeBytes.{target_bytes, operand_bytes, op_bytes, is_short, instr_bytes, token_at, numbered_bytes, code_bytes}
use Rattle.il_code.specs.HeaderBytes.{has_handlers, header_bytes}
use Rattle.il_code.specs.SectionBytes.{kind_flags, kind_last, clause_of, section_bytes}
use Rattle.il_code.specs.Refusal.{BodyAnswers, target_is_far, is_far_branch, first_far, refused_by, refusal_of}
use Rattle.il_code.proofs.SpellingLemmas.{instr_place-at}

-- instruction number i among the numbered ones

entry : (code : List Instr) (i : ℕ) (x : Instr) → i < length code → x ≡ get_or code i x → get_or (enumerate_from 0 code) i (i, x) ≡ (i, x)
entry code i x h e =
    let z : 0 + i ≡ i = omega arith in
    get_or-enumerate_from 0 code i (i, x) h ∙ ap (λ (n : ℕ). (n, get_or code i x)) z ∙ ap (λ (y : Instr). (i, y)) (sym e)

numbered_operand-more : (code : List Instr) (i : ℕ) (x : Instr) → i < length code → x ≡ get_or code i x → take (i + 1) (enumerate_from 0 code) ≡ take i (enumerate_from 0 code) ++ (i, x) ∷ []
numbered_operand-more code i x h e =
    take_more (enumerate_from 0 code) i (i, x) (omega (arith, length-enumerate_from 0 code))
    ∙ ap (λ p. take i (enumerate_from 0 code) ++ p ∷ []) (entry code i x h e)

-- one more instruction is written
pub code-more : (f : ℕ × Instr → List ℕ) (code : List Instr) (i : ℕ) (x : Instr) (front : List ℕ) → i < length code → x ≡ get_or code i x → (front ++ flat_map f (take i (enumerate_from 0 code))) ++ f (i, x) ≡ front ++ flat_map f (take (i + 1) (enumerate_from 0 code))
code-more f code i x front h e =
    append_assoc front (flat_map f (take i (enumerate_from 0 code))) (f (i, x))
    ∙ ap (λ z. front ++ (flat_map f (take i (enumerate_from 0 code)) ++ z)) (sym (append-nil (f (i, x))))
    ∙ ap (λ z. front ++ z) (sym (flat_map-append f (take i (enumerate_from 0 code)) ((i, x) ∷ [])))
    ∙ ap (λ z. front ++ flat_map f z) (sym (numbered_operand-more code i x h e))

-- one more instruction's texts
pub texts-more : (code : List Instr) (i : ℕ) (x : Instr) → i < length code → x ≡ get_or code i x → length (texts_of (take (i + 1) code)) ≡ length (texts_of (take i code)) + length (operand_texts x.operand)
texts-more code i x h e =
    let f : Instr → List (List ℕ) = λ (y : Instr). operand_texts y.operand in
    ap (λ ys. length (flat_map f ys)) (take_more code i x h)
    ∙ ap (λ y. length (flat_map f (take i code ++ y ∷ []))) (sym e)
    ∙ ap length (flat_map-append f (take i code) (x ∷ []))
    ∙ ap (λ z. length (flat_map f (take i code) ++ z)) (append-nil (operand_texts x.operand))
    ∙ length-append (flat_map f (take i code)) (operand_texts x.operand)

-- a search among the numbered instructions

pub find-step : (test : ℕ × Instr → Bool) (code : List Instr) (i : ℕ) (x : Instr) → i < length code → x ≡ get_or code i x → find test (drop i (enumerate_from 0 code)) ≡ cond (test (i, x)) (Some (i, x)) (find test (drop (i + 1) (enumerate_from 0 code)))
find-step test code i x h e =
    at_drop_more (find test) (enumerate_from 0 code) i (i, x) (omega (arith, length-enumerate_from 0 code))
    ∙ ap (λ p. find test (p ∷ drop (i + 1) (enumerate_from 0 code))) (entry code i x h e)

pub find-found : (test : ℕ × Instr → Bool) (code : List Instr) (i : ℕ) (x : Instr) → i < length code → x ≡ get_or code i x → find test (drop i (enumerate_from 0 code)) ≡ find test (enumerate_from 0 code) → test (i, x) ≡ true → Some i ≡ option_map (λ (e : ℕ × Instr). e.0) (find test (enumerate_from 0 code))
find-found test code i x h e before t =
    let f : Option (ℕ × Instr) → Option ℕ = option_map (λ (e : ℕ × Instr). e.0) in
    sym (ap f (sym before ∙ find-step test code i x h e ∙ ap (λ t. cond t (Some (i, x)) (find test (drop (i + 1) (enumerate_from 0 code)))) t))

pub find-passed : (test : ℕ × Instr → Bool) (code : List Instr) (i : ℕ) (x : Instr) → i < length code → x ≡ get_or code i x → find test (drop i (enumerate_from 0 code)) ≡ find test (enumerate_from 0 code) → test (i, x) ≡ false → find test (drop (i + 1) (enumerate_from 0 code)) ≡ find test (enumerate_from 0 code)
find-passed test code i x h e before t =
    sym (ap (λ t. cond t (Some (i, x)) (find test (drop (i + 1) (enumerate_from 0 code)))) t) ∙ sym (find-step test code i x h e) ∙ before

pub find-over : (test : ℕ × Instr → Bool) (code : List Instr) (i : ℕ) → length code ≤ i → find test (drop i (enumerate_from 0 code)) ≡ find test (enumerate_from 0 code) → None ≡ option_map (λ (e : ℕ × Instr). e.0) (find test (enumerate_from 0 code))
find-over test code i h before =
    let f : Option (ℕ × Instr) → Option ℕ = option_map (λ (e : ℕ × Instr). e.0) in
    sym (ap f (sym before ∙ ap (find test) (drop_all i (enumerate_from 0 code) (omega (arith, h, length-enumerate_from 0 code)))))

-- places that agree where they are asked for

targets-agree : (f g : ℕ → ℕ) (n after : ℕ) (ts : List ℕ) → ((t : ℕ) → t ≤ n → f t ≡ g t) → AllByRecursion (λ t. t < n) ts → flat_map (λ t. target_bytes false after (f t)) ts ≡ flat_map (λ t. target_bytes false after (g t)) ts
targets-agree f g n after [] same all = refl
targets-agree f g n after (t ∷ ts) same all =
    let first : f t ≡ g t = same t (omega (arith, all.0)) in
    ap (λ p. target_bytes false after p ++ flat_map (λ t. target_bytes false after (f t)) ts) first
    ∙ ap (λ z. target_bytes false after (g t) ++ z) (targets-agree f g n after ts same all.1)

operand-agrees : (f g : ℕ → ℕ) (n after token : ℕ) (short : Bool) (o : Operand) → ((t : ℕ) → t ≤ n → f t ≡ g t) → TargetsBelow n o → operand_bytes f after token short o ≡ operand_bytes g after token short o
unfolding operand_bytes
operand-agrees f g n after token short of.None same b = refl
operand-agrees f g n after token short (of.U8 v) same b = refl
operand-agrees f g n after token short (of.U16 v) same b = refl
operand-agrees f g n after token short (of.I8 v) same b = refl
operand-agrees f g n after token short (of.I32 v) same b = refl
operand-agrees f g n after token short (of.I64 v) same b = refl
operand-agrees f g n after token short (of.R4 v) same b = refl
operand-agrees f g n after token short (of.R8 v) same b = refl
operand-agrees f g n after token short (of.Tok v) same b = refl
operand-agrees f g n after token short (of.Text v) same b = refl
operand-agrees f g n after token short (of.Target t) same b = ap (target_bytes short after) (same t (omega (arith, b)))
operand-agrees f g n after token short (of.Switch ts) same b = ap (λ z. little_bytes 4 (length ts) ++ z) (targets-agree f g n after ts same b)

instr-agrees : (f g : ℕ → ℕ) (n after token : ℕ) (x : Instr) → ((t : ℕ) → t ≤ n → f t ≡ g t) → TargetsBelow n x.operand → instr_bytes f after token x ≡ instr_bytes g after token x
unfolding instr_bytes
instr-agrees f g n after token x same b = ap (λ z. op_bytes x.op ++ z) (operand-agrees f g n after token (is_short (kind_of x.op)) x.operand same b)

code-agrees : (f g : ℕ → ℕ) (n : ℕ) (texts : List ℕ) (code : List Instr) (k : ℕ) (xs : List Instr) → ((t : ℕ) → t ≤ n → f t ≡ g t) → k + length xs ≤ n → AllByRecursion (λ (x : Instr). TargetsBelow n x.operand) xs → flat_map (numbered_bytes f texts code) (enumerate_from k xs) ≡ flat_map (numbered_bytes g texts code) (enumerate_from k xs)
code-agrees f g n texts code k [] same len all = refl
code-agrees f g n texts code k (x ∷ xs) same len all =
    let next : f (k + 1) ≡ g (k + 1) = same (k + 1) (omega (arith, len)) in
    ap (λ p. instr_bytes f p (token_at texts code k) x ++ flat_map (numbered_bytes f texts code) (enumerate_from (k + 1) xs)) next
    ∙ ap (λ z. z ++ flat_map (numbered_bytes f texts code) (enumerate_from (k + 1) xs)) (instr-agrees f g n (g (k + 1)) (token_at texts code k) x same all.0)
    ∙ ap (λ z. instr_bytes g (g (k + 1)) (token_at texts code k) x ++ z) (code-agrees f g n texts code (k + 1) xs same (omega (arith, len)) all.1)

far-agrees : (f g : ℕ → ℕ) (n after : ℕ) (o : Operand) → ((t : ℕ) → t ≤ n → f t ≡ g t) → TargetsBelow n o → target_is_far f after o ≡ target_is_far g after o
far-agrees f g n after of.None same b = refl
far-agrees f g n after (of.U8 v) same b = refl
far-agrees f g n after (of.U16 v) same b = refl
far-agrees f g n after (of.I8 v) same b = refl
far-agrees f g n after (of.I32 v) same b = refl
far-agrees f g n after (of.I64 v) same b = refl
far-agrees f g n after (of.R4 v) same b = refl
far-agrees f g n after (of.R8 v) same b = refl
far-agrees f g n after (of.Tok v) same b = refl
far-agrees f g n after (of.Text v) same b = refl
far-agrees f g n after (of.Target t) same b = ap (λ p. target_is_far (λ _. p) after (of.Target t)) (same t (omega (arith, b)))
far-agrees f g n after (of.Switch ts) same b = refl

abbrev pub far_test : (ℕ → ℕ) → ℕ × Instr → Bool
far_test f e = is_far_branch f (f (e.0 + 1)) e.1

find-agrees : (f g : ℕ → ℕ) (n k : ℕ) (xs : List Instr) → ((t : ℕ) → t ≤ n → f t ≡ g t) → k + length xs ≤ n → AllByRecursion (λ (x : Instr). TargetsBelow n x.operand) xs → find (far_test f) (enumerate_from k xs) ≡ find (far_test g) (enumerate_from k xs)
find-agrees f g n k [] same len all = refl
find-agrees f g n k (x ∷ xs) same len all =
    let next : f (k + 1) ≡ g (k + 1) = same (k + 1) (omega (arith, len)) in
    let one : is_far_branch f (f (k + 1)) x ≡ is_far_branch g (g (k + 1)) x = ap (λ p. is_far_branch f p x) next ∙ ap (λ t. is_short (kind_of x.op) && t) (far-agrees f g n (g (k + 1)) x.operand same all.0) in
    ap (λ t. cond t (Some (k, x)) (find (far_test f) (enumerate_from (k + 1) xs))) one
    ∙ ap (λ o. cond (is_far_branch g (g (k + 1)) x) (Some (k, x)) o) (find-agrees f g n (k + 1) xs same (omega (arith, len)) all.1)

abbrev clause_by : HandlerKind → ℕ → ℕ → ℕ → ℕ → ℕ → Clause
clause_by kind a b c d last = record { flags = kind_flags kind; try_offset = a; try_len = b - a; offset = c; len = d - c; last = last }

clause-agrees : (f g : ℕ → ℕ) (n : ℕ) (h : Handler) → ((t : ℕ) → t ≤ n → f t ≡ g t) → BoundedHandler n h → clause_of f h ≡ clause_of g h
clause-agrees f g n h same b = alike _ _ _ _ _ _ _ _ _ _ (same h.try_start b.try_start) (same h.try_end b.try_end) (same h.start b.start) (same h.end b.end) (lasts h.kind b.kind)
  where
    lasts : (kind : HandlerKind) → FilterBelow n kind → kind_last f kind ≡ kind_last g kind
    lasts (Typed t) b = refl
    lasts (Filter t) b = same t (omega (arith, b))
    lasts Finally b = refl
    lasts Fault b = refl

    alike : (a a' b b' c c' d d' l l' : ℕ) → a ≡ a' → b ≡ b' → c ≡ c' → d ≡ d' → l ≡ l' → clause_by h.kind a b c d l ≡ clause_by h.kind a' b' c' d' l'
    alike a a' b b' c c' d d' l l' ea eb ec ed el = ap (λ a. clause_by h.kind a b c d l) ea ∙ ap (λ b. clause_by h.kind a' b c d l) eb ∙ ap (λ c. clause_by h.kind a' b' c d l) ec ∙ ap (λ d. clause_by h.kind a' b' c' d l) ed ∙ ap (λ l. clause_by h.kind a' b' c' d' l) el

clauses-agree : (f g : ℕ → ℕ) (n : ℕ) (hs : List Handler) → ((t : ℕ) → t ≤ n → f t ≡ g t) → AllByRecursion (BoundedHandler n) hs → map (clause_of f) hs ≡ map (clause_of g) hs
clauses-agree f g n [] same all = refl
clauses-agree f g n (h ∷ hs) same all = ap (λ c. c ∷ map (clause_of f) hs) (clause-agrees f g n h same all.0) ∙ ap (λ cs. clause_of g h ∷ cs) (clauses-agree f g n hs same all.1)

-- what a body that can be written is like

pub all-map : {A : Type 0} (P Q : A → Type 0) → ((x : A) → P x → Q x) → (xs : List A) → AllByRecursion P xs → AllByRecursion Q xs
all-map P Q f [] all = tt
all-map P Q f (x ∷ xs) all = (f x all.0, all-map P Q f xs all.1)

pub targets-of : (v : Body) → Writable v → AllByRecursion (λ (x : Instr). TargetsBelow (length v.code) x.operand) v.code
targets-of v w = all-map (IsSound (length v.code)) (λ (x : Instr). TargetsBelow (length v.code) x.operand) (λ x s. s.targets) v.code w.code

pub bounds-of : (v : Body) → Writable v → AllByRecursion (BoundedHandler (length v.code)) v.handlers
bounds-of v w = all-map (IsSoundHandler (length v.code)) (BoundedHandler (length v.code)) (λ h s. record { kind = s.kind; try_start = omega (arith, s.range, s.try_end); try_end = s.try_end; start = omega (arith, s.handler, s.end); end = s.end }) v.handlers w.handlers

front-agrees : (f g : ℕ → ℕ) (v : Body) (texts : List ℕ) → ((t : ℕ) → t ≤ length v.code → f t ≡ g t) → Writable v → front_bytes f v texts ≡ front_bytes g v texts
unfolding code_bytes
front-agrees f g v texts same w =
    ap (λ p. header_bytes v p ++ code_bytes f texts v.code) (same (length v.code) (omega arith))
    ∙ ap (λ z. header_bytes v (g (length v.code)) ++ z) (code-agrees f g (length v.code) texts v.code 0 v.code same (omega arith) (targets-of v w))

body_bytes_by-agrees : (f g : ℕ → ℕ) (v : Body) (texts : List ℕ) → ((t : ℕ) → t ≤ length v.code → f t ≡ g t) → Writable v → body_bytes_by f v texts ≡ body_bytes_by g v texts
unfolding body_bytes_by
body_bytes_by-agrees f g v texts same w =
    ap (λ (z : List ℕ). cond (has_handlers v) (z ++ section_bytes (map (clause_of f) v.handlers) (length z)) z) (front-agrees f g v texts same w)
    ∙ ap (λ cs. cond (has_handlers v) (front_bytes g v texts ++ section_bytes cs (length (front_bytes g v texts))) (front_bytes g v texts)) (clauses-agree f g (length v.code) v.handlers same (bounds-of v w))

-- the places of the code are those of its list of places

pub body_bytes_by-is : (v : Body) (texts : List ℕ) → Writable v → body_bytes_by (instr_place (places v.code)) v texts ≡ body_bytes v texts
unfolding body_bytes
body_bytes_by-is v texts w = body_bytes_by-agrees (instr_place (places v.code)) (at v.code) v texts (λ t h. instr_place-at v.code t h) w

pub refusal-is : (v : Body) → Writable v → refused_by (first_far (instr_place (places v.code)) v.code) (instr_place (places v.code) (length v.code)) (length v.handlers) ≡ refusal_of v
unfolding first_far refusal_of
refusal-is v w =
    ap (λ o. refused_by (option_map (λ (e : ℕ × Instr). e.0) o) (instr_place (places v.code) (length v.code)) (length v.handlers)) (find-agrees (instr_place (places v.code)) (at v.code) (length v.code) 0 v.code (λ t h. instr_place-at v.code t h) (omega arith) (targets-of v w))
    ∙ ap (λ p. refused_by (option_map (λ (e : ℕ × Instr). e.0) (find (far_test (at v.code)) (enumerate_from 0 v.code))) p (length v.handlers)) (instr_place-at v.code (length v.code) (omega arith))

-- several appends in a row

pub four-put : (o o1 o2 o3 o4 a b c d : List ℕ) → o1 ≡ o ++ a → o2 ≡ o1 ++ b → o3 ≡ o2 ++ c → o4 ≡ o3 ++ d → o4 ≡ o ++ (a ++ b ++ c ++ d)
four-put o o1 o2 o3 o4 a b c d ha hb hc hd = hd ∙ ap (λ z. z ++ d) (hc ∙ ap (λ z. z ++ c) (hb ∙ ap (λ z. z ++ b) ha)) ∙ simp append_assoc

pub six-put : (o o1 o2 o3 o4 o5 o6 a b c d e f : List ℕ) → o1 ≡ o ++ a → o2 ≡ o1 ++ b → o3 ≡ o2 ++ c → o4 ≡ o3 ++ d → o5 ≡ o4 ++ e → o6 ≡ o5 ++ f → o6 ≡ o ++ (a ++ b ++ c ++ d ++ e ++ f)
six-put o o1 o2 o3 o4 o5 o6 a b c d e f ha hb hc hd he hf = hf ∙ ap (λ z. z ++ f) (he ∙ ap (λ z. z ++ e) (four-put o o1 o2 o3 o4 a b c d ha hb hc hd)) ∙ simp append_assoc

-- a refusal that was found is answered
pub answers-by : (e : BodyRefusal) (found : Option BodyRefusal) → found ≡ Some e → BodyAnswers (Err e) found
answers-by (refusal.BranchTooFar i) found h = h
answers-by (refusal.BodyTooLarge n) found h = h
answers-by refusal.NoMemory found h = tt
