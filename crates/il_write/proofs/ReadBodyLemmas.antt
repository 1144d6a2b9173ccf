-- The instructions of a body that is written stand in its bytes.
use Rattle.std.proofs.Common.{◌≡◌, ◌&&◌, ◌+◌, ◌<◌, ◌≤◌, ◌^◌, ◌++◌, ℕ, zero, suc, List, [], ◌∷◌, length, map, take, drop, get_or, Bool, true, false, cond, Option, Some, None, refl, sym, ap, ◌∙◌, subst, arith, append_assoc, length-append, inl, inr}
use Rattle.std.specs.Prelude.{option_map, flat_map, find}
use Rattle.std.specs.List.{AllByRecursion, enumerate_from}
use Rattle.std.proofs.lemmas.List.{append-nil, get_or_at, take_at, length-map, get_or-map, length_push, take-append-drop, drop_more, length-take-le}
use Rattle.std.proofs.lemmas.List.Concat.{flat_map-append}
use Rattle.il_code.specs.declared.kind.OperandKind as k
use Rattle.il_code.specs.declared.operand.Operand.{Operand}
use Rattle.il_code.specs.declared.operand.Operand.TheVariants as of
use Rattle.il_code.specs.declared.instr.Instr.{Instr}
use Rattle.il_code.specs.Instructions.{kind_of}
use Rattle.cil_base.specs.Steps.{◌>>=◌}
use Rattle.il_code.specs.Code.{operand_width, width_in, code_size, size_of, at, user_text, operand_at, instr_of, instr_at, placed, Stand, TargetsBelow}
use Rattle.il_code.specs.CodeBytes.{is_short, op_bytes, operand_bytes, instr_bytes, token_at, numbered_bytes, code_bytes}
use Rattle.il_code.specs.Refusal.{target_is_far, is_far_branch, first_far}
use Rattle.il_write.specs.inner.Ranges.{OperandFits}
use Rattle.il_code.specs.Writable.{IsOfKind, operand_texts, texts_of, NameTexts}
use Rattle.il_code.proofs.NumberingLemmas.{at-more, at-none}
use Rattle.il_code.proofs.SpellingLemmas.{size-placed, at-rises}
use Rattle.il_write.proofs.ReadBackLemmas.{Lies, lies-left, lies-right}
use Rattle.il_write.proofs.ReadCodeLemmas.{Near, TextNamed, read-op, read-operand, length-operand}

-- an operand has a kind
pub record Kinded (found : Option k.OperandKind) (o : Operand) : Type 0 where
  pub kind : k.OperandKind
  pub known : found ≡ Some kind
  pub is : IsOfKind (Some kind) o

kinded : (found : Option k.OperandKind) (o : Operand) → IsOfKind found o → Kinded found o
kinded (Some kd) o is = record { kind = kd; known = refl; is = is }
kinded None o is = absurd (never o is)
  where
    none : (kd : k.OperandKind) → None ≡ Some kd → ⊥
    none kd h = cc

    never : (o : Operand) → IsOfKind None o → ⊥
    never of.None is = none _ is
    never (of.U8 n) is = none _ is
    never (of.U16 n) is = none _ is
    never (of.I8 n) is = none _ is
    never (of.I32 n) is = none _ is
    never (of.I64 n) is = none _ is
    never (of.R4 n) is = none _ is
    never (of.R8 n) is = none _ is
    never (of.Tok n) is = none _ is
    never (of.Text n) is = none _ is
    never (of.Target n) is = elim is [ inl e ↦ none _ e | inr e ↦ none _ e ]
    never (of.Switch n) is = none _ is

-- what holds of each instruction that is written
pub record Good (users : List ℕ) (place : ℕ → ℕ) (n after token : ℕ) (x : Instr) : Type 0 where
  pub kind : IsOfKind (kind_of x.op) x.operand
  pub targets : TargetsBelow n x.operand
  pub fits : OperandFits x.operand
  pub named : TextNamed users token x.operand
  pub near : is_far_branch place after x ≡ false

pub length-instr : (place : ℕ → ℕ) (after token : ℕ) (x : Instr) (b : List ℕ) (p : ℕ) → Lies b p (instr_bytes place after token x) → IsOfKind (kind_of x.op) x.operand → length (instr_bytes place after token x) ≡ size_of x
unfolding instr_bytes size_of
length-instr place after token x b p l is =
    let known = kinded (kind_of x.op) x.operand is in
    let bytes : List ℕ = operand_bytes place after token (is_short (kind_of x.op)) x.operand in
    let op = read-op b p x.op known.kind (lies-left b p (op_bytes x.op) bytes l) known.known in
    let operand : length bytes ≡ operand_width known.kind x.operand = ap (λ f. length (operand_bytes place after token (is_short f) x.operand)) known.known ∙ length-operand place after token known.kind x.operand known.is in
    length-append (op_bytes x.op) bytes
    ∙ ap (λ n. n + length bytes) op.1
    ∙ ap (λ n. code_size x.op + n) (operand ∙ sym (ap (λ f. width_in f x.operand) known.known))

-- an instruction is read
pub read-instr : (users b : List ℕ) (place : ℕ → ℕ) (n p after token : ℕ) (x : Instr) → Near b place n after → Good users place n after token x → Lies b p (instr_bytes place after token x) → after ≡ p + size_of x → instr_at users b p ≡ Some (placed place x)
unfolding instr_bytes size_of instr_at
read-instr users b place n p after token x near good l e =
    let known = kinded (kind_of x.op) x.operand good.kind in
    let bytes : List ℕ = operand_bytes place after token (is_short (kind_of x.op)) x.operand in
    let op = read-op b p x.op known.kind (lies-left b p (op_bytes x.op) bytes l) known.known in
    let behind : Lies b (p + code_size x.op) bytes = lies-right b p (p + code_size x.op) (op_bytes x.op) bytes l (ap (λ n. p + n) (sym op.1)) in
    let width : width_in (kind_of x.op) x.operand ≡ operand_width known.kind x.operand = ap (λ f. width_in f x.operand) known.known in
    let ends : after ≡ p + code_size x.op + operand_width known.kind x.operand = omega (arith, e, width) in
    let operand = read-operand users b place n (p + code_size x.op) after token known.kind x.operand near known.is (subst (λ f. Lies b (p + code_size x.op) (operand_bytes place after token (is_short f) x.operand)) known.known behind) ends good.targets good.fits good.named (subst (λ f. (is_short f && target_is_far place after x.operand) ≡ false) known.known good.near) in
    ap (λ o. o >>= λ op. kind_of op >>= λ kind. option_map (instr_of op) (operand_at users b (p + code_size op) kind)) op.0
    ∙ ap (λ o. o >>= λ kind. option_map (instr_of x.op) (operand_at users b (p + code_size x.op) kind)) known.known
    ∙ ap (option_map (instr_of x.op)) operand

-- what holds of all instructions that are written
pub record AllGood (users texts : List ℕ) (place : ℕ → ℕ) (code : List Instr) : Type 0 where
  pub more : (i : ℕ) (x : Instr) → i < length code → x ≡ get_or code i x → place (i + 1) ≡ place i + size_of x
  pub good : (i : ℕ) (x : Instr) → i < length code → x ≡ get_or code i x → Good users place (length code) (place (i + 1)) (token_at texts code i) x

-- instructions from number i on
pub record Behind (code : List Instr) (i : ℕ) (front rest : List Instr) : Type 0 where
  pub is : code ≡ front ++ rest
  pub len : length front ≡ i

behind-next : (code : List Instr) (i : ℕ) (front rest : List Instr) (x : Instr) → Behind code i front (x ∷ rest) → Behind code (i + 1) (front ++ x ∷ []) rest
behind-next code i front rest x b = record { is = b.is ∙ sym (append_assoc front (x ∷ []) rest); len = omega (arith, length_push front x, b.len) }

behind-item : (code : List Instr) (i : ℕ) (front rest : List Instr) (x : Instr) → Behind code i front (x ∷ rest) → (x ≡ get_or code i x) × (i < length code)
behind-item code i front rest x b = (sym (ap (λ c. get_or c i x) b.is ∙ get_or_at front x rest x i b.len), omega (arith, ap length b.is, length-append front (x ∷ rest), b.len))

-- they stand where they are written
pub stand-behind : (users texts b : List ℕ) (place : ℕ → ℕ) (code : List Instr) (i : ℕ) (front rest : List Instr) → Behind code i front rest → AllGood users texts place code → ((after : ℕ) → after ≤ length b → Near b place (length code) after) → Lies b (place i) (flat_map (numbered_bytes place texts code) (enumerate_from i rest)) → place (i + length rest) ≡ length b → Stand users b (place i) (map (placed place) rest)
stand-behind users texts b place code i front [] at all near l e = let z : i + 0 ≡ i = omega arith in ap place (sym z) ∙ e
stand-behind users texts b place code i front (x ∷ rest) at all near l e =
    let item = behind-item code i front rest x at in
    let good = all.good i x item.1 item.0 in
    let more = all.more i x item.1 item.0 in
    let here : List ℕ = instr_bytes place (place (i + 1)) (token_at texts code i) x in
    let there : List ℕ = flat_map (numbered_bytes place texts code) (enumerate_from (i + 1) rest) in
    let first : Lies b (place i) here = lies-left b (place i) here there l in
    let len : length here ≡ size_of x = length-instr place (place (i + 1)) (token_at texts code i) x b (place i) first good.kind in
    let behind : Lies b (place (i + 1)) there = lies-right b (place i) (place (i + 1)) here there l (more ∙ ap (λ n. place i + n) (sym len)) in
    let next : i + suc (length rest) ≡ (i + 1) + length rest = omega arith in
    let end : place (i + 1) ≤ length b = omega (arith, ends b (place i) here first, len, more) in
    let stand = stand-behind users texts b place code (i + 1) (front ++ x ∷ []) rest (behind-next code i front rest x at) all near behind (ap place (sym next) ∙ e) in (
      read-instr users b place (length code) (place i) (place (i + 1)) (token_at texts code i) x (near (place (i + 1)) end) good first more,
      subst (λ q. Stand users b q (map (placed place) rest)) (more ∙ ap (λ n. place i + n) (sym (size-placed place x))) stand,
    )
  where
    ends : (s : List ℕ) (p : ℕ) (b : List ℕ) → Lies s p b → p + length b ≤ length s
    ends s p b l = omega (arith, ap length l.is, length-append l.pre (b ++ l.post), length-append b l.post, l.place)

length-code : (texts : List ℕ) (place : ℕ → ℕ) (code : List Instr) (i : ℕ) (front rest : List Instr) → Behind code i front rest → AllByRecursion (λ (x : Instr). IsOfKind (kind_of x.op) x.operand) rest → ((i : ℕ) (x : Instr) → i < length code → x ≡ get_or code i x → place (i + 1) ≡ place i + size_of x) → place i + length (flat_map (numbered_bytes place texts code) (enumerate_from i rest)) ≡ place (i + length rest)
length-code texts place code i front [] at kinds more = let z : i + 0 ≡ i = omega arith in let w : place i + 0 ≡ place i = omega arith in w ∙ ap place (sym z)
length-code texts place code i front (x ∷ rest) at kinds more =
    let item = behind-item code i front rest x at in
    let here : List ℕ = instr_bytes place (place (i + 1)) (token_at texts code i) x in
    let there : List ℕ = flat_map (numbered_bytes place texts code) (enumerate_from (i + 1) rest) in
    let len : length here ≡ size_of x = length-instr place (place (i + 1)) (token_at texts code i) x here 0 (record { pre = []; post = []; is = sym (append-nil here); place = refl }) kinds.0 in
    let next : (i + 1) + length rest ≡ i + suc (length rest) = omega arith in
    let ih = length-code texts place code (i + 1) (front ++ x ∷ []) rest (behind-next code i front rest x at) kinds.1 more in
    let both = length-append here there in
    let step = more i x item.1 item.0 in
    let sum : place i + length (here ++ there) ≡ place (i + 1) + length there = omega (arith, both, len, step) in
    sum ∙ ih ∙ ap place next

-- the instructions take the bytes that their sizes say
pub length-code_bytes : (texts : List ℕ) (code : List Instr) → AllByRecursion (λ (x : Instr). IsOfKind (kind_of x.op) x.operand) code → length (code_bytes (at code) texts code) ≡ at code (length code)
unfolding code_bytes
length-code_bytes texts code kinds =
    let whole = length-code texts (at code) code 0 [] code (record { is = refl; len = refl }) kinds (λ i x h e. at-more code i x h e) in
    let none = at-none code in
    let z : 0 + length code ≡ length code = omega arith in
    let end : at code 0 + length (flat_map (numbered_bytes (at code) texts code) (enumerate_from 0 code)) ≡ at code (length code) = whole ∙ ap (at code) z in
    omega (arith, end, none)

-- what is known of all instructions is known of each

pub all-at : {A : Type 0} (P : A → Type 0) (xs : List A) (i : ℕ) (x : A) → AllByRecursion P xs → i < length xs → x ≡ get_or xs i x → P x
all-at P [] i x all h e = absurd (omega (arith, h))
all-at P (y ∷ ys) zero x all h e = subst P (sym e) all.0
all-at P (y ∷ ys) (suc i) x all h e = all-at P ys i x all.1 (omega (arith, h)) e

-- no branch is too far where none is found

none-far : (test : ℕ × Instr → Bool) (k : ℕ) (xs : List Instr) (i : ℕ) (x : Instr) → find test (enumerate_from k xs) ≡ None → i < length xs → x ≡ get_or xs i x → test (k + i, x) ≡ false
none-far test k [] i x h l e = absurd (omega (arith, l))
none-far test k (y ∷ ys) zero x h l e =
    let z : k + 0 ≡ k = omega arith in
    ap (λ n. test (n, x)) z ∙ ap (λ q. test (k, q)) e ∙ passed (test (k, y)) h
  where
    passed : (t : Bool) → cond t (Some (k, y)) (find test (enumerate_from (k + 1) ys)) ≡ None → t ≡ false
    passed true h = cc
    passed false h = refl
none-far test k (y ∷ ys) (suc i) x h l e =
    let z : k + suc i ≡ (k + 1) + i = omega arith in
    ap (λ n. test (n, x)) z ∙ none-far test (k + 1) ys i x (rest (test (k, y)) h) (omega (arith, l)) e
  where
    rest : (t : Bool) → cond t (Some (k, y)) (find test (enumerate_from (k + 1) ys)) ≡ None → find test (enumerate_from (k + 1) ys) ≡ None
    rest true h = cc
    rest false h = h

unmapped : {A B : Type 0} (f : A → B) (o : Option A) → option_map f o ≡ None → o ≡ None
unmapped f None h = refl
unmapped f (Some x) h = cc

all-near : (place : ℕ → ℕ) (code : List Instr) (i : ℕ) (x : Instr) → first_far place code ≡ None → i < length code → x ≡ get_or code i x → is_far_branch place (place (i + 1)) x ≡ false
unfolding first_far
all-near place code i x h l e =
    let z : 0 + i ≡ i = omega arith in
    let none = unmapped (λ (e : ℕ × Instr). e.0) (find (λ (e : ℕ × Instr). is_far_branch place (place (e.0 + 1)) e.1) (enumerate_from 0 code)) h in
    subst (λ n. is_far_branch place (place (n + 1)) x ≡ false) z (none-far (λ (e : ℕ × Instr). is_far_branch place (place (e.0 + 1)) e.1) 0 code i x none l e)

-- the tokens name the texts

text-here : (code front rest : List Instr) (i : ℕ) (x : Instr) → Behind code i front (x ∷ rest) → (texts_of code ≡ texts_of (take i code) ++ (operand_texts x.operand ++ texts_of rest))
text-here code front rest i x b =
    let f : Instr → List (List ℕ) = λ (y : Instr). operand_texts y.operand in
    let taken : take i code ≡ front = ap (take i) b.is ∙ take_at front (x ∷ rest) i b.len in
    ap (flat_map f) b.is ∙ flat_map-append f front (x ∷ rest) ∙ ap (λ z. flat_map f z ++ (operand_texts x.operand ++ flat_map f rest)) (sym taken)

at_index : {A B : Type 0} (f : A → Option B) (xs : List A) (ys front back : List B) (y : B) (d : A) → map f xs ≡ map Some ys → ys ≡ front ++ (y ∷ back) → f (get_or xs (length front) d) ≡ Some y
at_index {B = B} f xs ys front back y d e is =
    let inside : length front < length ys = omega (arith, ap length is, length-append front (y ∷ back)) in
    let same : length xs ≡ length ys = sym (length-map xs f) ∙ ap length e ∙ length-map ys (λ (z : B). Some z) in
    sym (get_or-map f xs (length front) d None (omega (arith, inside, same)))
    ∙ ap (λ zs. get_or zs (length front) None) e
    ∙ get_or-map (λ (z : B). Some z) ys (length front) y None inside
    ∙ ap (λ zs. Some (get_or zs (length front) y)) is
    ∙ ap Some (get_or_at front y back y (length front) refl)

split-front : (code : List Instr) (i : ℕ) (x : Instr) → i < length code → x ≡ get_or code i x → Behind code i (take i code) (x ∷ drop (i + 1) code)
split-front code i x h e = record {
  is = sym (take-append-drop i code) ∙ ap (λ z. take i code ++ z) (drop_more code i x h ∙ ap (λ y. y ∷ drop (i + 1) code) (sym e));
  len = length-take-le i code (omega (arith, h));
}

text-named : (users texts : List ℕ) (code : List Instr) (i : ℕ) (x : Instr) → NameTexts users texts code → ((j : ℕ) → get_or texts j 0 < 2 ^ 32) → i < length code → x ≡ get_or code i x → TextNamed users (token_at texts code i) x.operand
text-named users texts code i x names small h e = by_operand x.operand (text-here code (take i code) (drop (i + 1) code) i x (split-front code i x h e))
  where
    by_operand : (o : Operand) → texts_of code ≡ texts_of (take i code) ++ (operand_texts o ++ texts_of (drop (i + 1) code)) → TextNamed users (token_at texts code i) o
    by_operand of.None is = tt
    by_operand (of.U8 n) is = tt
    by_operand (of.U16 n) is = tt
    by_operand (of.I8 n) is = tt
    by_operand (of.I32 n) is = tt
    by_operand (of.I64 n) is = tt
    by_operand (of.R4 n) is = tt
    by_operand (of.R8 n) is = tt
    by_operand (of.Tok n) is = tt
    by_operand (of.Text units) is = (at_index (user_text users) texts (texts_of code) (texts_of (take i code)) (texts_of (drop (i + 1) code)) units 0 names is, small (length (texts_of (take i code))))
    by_operand (of.Target n) is = tt
    by_operand (of.Switch n) is = tt

-- what the writer is given, of the instructions

pub record CodeFacts (users texts : List ℕ) (code : List Instr) : Type 0 where
  pub kinds : AllByRecursion (λ (x : Instr). IsOfKind (kind_of x.op) x.operand) code
  pub targets : AllByRecursion (λ (x : Instr). TargetsBelow (length code) x.operand) code
  pub fits : AllByRecursion (λ (x : Instr). OperandFits x.operand) code
  pub names : NameTexts users texts code
  pub tokens : (j : ℕ) → get_or texts j 0 < 2 ^ 32
  pub near : first_far (at code) code ≡ None
  pub small : at code (length code) ≤ 2 ^ 24

all-good : (users texts : List ℕ) (code : List Instr) → CodeFacts users texts code → AllGood users texts (at code) code
all-good users texts code f = record {
  more = λ i x h e. at-more code i x h e;
  good = λ i x h e. record {
    kind = all-at (λ (x : Instr). IsOfKind (kind_of x.op) x.operand) code i x f.kinds h e;
    targets = all-at (λ (x : Instr). TargetsBelow (length code) x.operand) code i x f.targets h e;
    fits = all-at (λ (x : Instr). OperandFits x.operand) code i x f.fits h e;
    named = text-named users texts code i x f.names f.tokens h e;
    near = all-near (at code) code i x f.near h e;
  };
}

-- the instructions that are written stand in their bytes
pub code-stands : (users texts : List ℕ) (code : List Instr) → CodeFacts users texts code → Stand users (code_bytes (at code) texts code) 0 (map (placed (at code)) code)
unfolding code_bytes
code-stands users texts code f =
    let b : List ℕ = flat_map (numbered_bytes (at code) texts code) (enumerate_from 0 code) in
    let len : length b ≡ at code (length code) = length-code_bytes texts code f.kinds in
    let none = at-none code in
    let z : 0 + length code ≡ length code = omega arith in
    let near : (after : ℕ) → after ≤ length b → Near b (at code) (length code) after = λ after h. record { inside = λ t l. let up = at-rises code t (length code) l (omega arith) in omega (arith, up, len); small = omega (arith, len, f.small); end = h } in
    subst (λ q. Stand users b q (map (placed (at code)) code)) none
    (stand-behind users texts b (at code) code 0 [] code (record { is = refl; len = refl }) (all-good users texts code f) near (record { pre = []; post = []; is = sym (append-nil b); place = sym none }) (ap (at code) z ∙ sym len))
