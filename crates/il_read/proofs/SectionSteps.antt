-- The reading of sections, step by step.
use Rattle.std.proofs.Common.{◌≡◌, ◌+◌, ◌-◌, ◌*◌, ◌<◌, ◌≤◌, ◌++◌, ℕ, suc, List, Bool, true, false, not, cond, Option, Some, None, refl, sym, ap, ◌∙◌, arith, append_assoc}
use Rattle.std.specs.Prelude.{option_map}
use Rattle.il_code.specs.declared.handler.Handler.{Handler}
use Rattle.il_code.specs.declared.section.Section.{Section}
use Rattle.cil_base.specs.Steps.{◌>>=◌}
use Rattle.il_code.specs.Sections.{aligned, clause_size, data_section_at}
use Rattle.il_code.specs.Numbering.{handlers_in, sections_in}
use Rattle.il_read.specs.inner.Handlers.{after_front}
use Rattle.il_code.proofs.CodeLemmas.{mapped}
use Rattle.il_code.proofs.SectionLemmas.{sections-step}

front-none : (front : List Handler) (o : Option (List Handler)) → after_front front o ≡ None → o ≡ None
front-none front None h = refl
front-none front (Some hs) h = absurd (nothing h)
  where
    nothing : {hs : List Handler} → Some hs ≡ None → ⊥
    nothing h = cc

stop : (ps : List ℕ) (n : ℕ) (s : List ℕ) (k p : ℕ) → data_section_at s (aligned p) ≡ None → sections_in ps n s (suc k) p ≡ None
unfolding sections_in
stop ps n s k p h = rw h refl

pub sections-over : (front : List Handler) (ps : List ℕ) (n : ℕ) (s : List ℕ) (fuel p : ℕ) → fuel ≡ 0 → after_front front (sections_in ps n s fuel p) ≡ None
unfolding sections_in
sections-over front ps n s fuel p e = rw e refl

pub sections-no_head : (front : List Handler) (ps : List ℕ) (n : ℕ) (s : List ℕ) (fuel p start : ℕ) → 0 < fuel → start ≡ aligned p → data_section_at s start ≡ None → after_front front (sections_in ps n s fuel p) ≡ None
sections-no_head front ps n s fuel p start pos e h =
    let f : fuel ≡ suc (fuel - 1) = omega arith in
    ap (λ k. after_front front (sections_in ps n s k p)) f ∙ ap (after_front front) (stopped (fuel - 1) (ap (data_section_at s) (sym e) ∙ h))
  where
    stopped : (k : ℕ) → data_section_at s (aligned p) ≡ None → sections_in ps n s (suc k) p ≡ None
    stopped k h = stop ps n s k p h

pub sections-no_clauses : (front : List Handler) (ps : List ℕ) (n : ℕ) (s : List ℕ) (fuel p start : ℕ) (head : Section) → 0 < fuel → start ≡ aligned p → data_section_at s start ≡ Some head → after_front front (handlers_in ps n s head (start + 4)) ≡ None → after_front front (sections_in ps n s fuel p) ≡ None
sections-no_clauses front ps n s fuel p start head pos e h k =
    let f : fuel ≡ suc (fuel - 1) = omega arith in
    let none : handlers_in ps n s head (aligned p + 4) ≡ None = ap (λ a. handlers_in ps n s head (a + 4)) (sym e) ∙ front-none front _ k in
    ap (λ k. after_front front (sections_in ps n s k p)) f
    ∙ ap (after_front front) (sections-step ps n s (fuel - 1) p head (ap (data_section_at s) (sym e) ∙ h))
    ∙ ap (λ o. after_front front (o >>= λ hs. cond head.further (option_map (λ rest. hs ++ rest) (sections_in ps n s (fuel - 1) (aligned p + 4 + head.count * clause_size head.fat))) (Some hs))) none

chain : (front hs : List Handler) (o : Option (List Handler)) → after_front front (option_map (λ rest. hs ++ rest) o) ≡ after_front (front ++ hs) o
chain front hs None = refl
chain front hs (Some rest) = ap Some (sym (append_assoc front hs rest))

found : (front more : List Handler) (ps : List ℕ) (n : ℕ) (s : List ℕ) (fuel p start : ℕ) (head : Section) → 0 < fuel → start ≡ aligned p → data_section_at s start ≡ Some head → after_front front (handlers_in ps n s head (start + 4)) ≡ Some more
    → after_front front (sections_in ps n s fuel p) ≡ cond head.further (after_front more (sections_in ps n s (fuel - 1) (start + 4 + head.count * clause_size head.fat))) (Some more)
found front more ps n s fuel p start head pos e h k =
    let f : fuel ≡ suc (fuel - 1) = omega arith in
    let hs = mapped (λ rest. front ++ rest) (handlers_in ps n s head (start + 4)) more k in
    let some : handlers_in ps n s head (aligned p + 4) ≡ Some hs.by = ap (λ a. handlers_in ps n s head (a + 4)) (sym e) ∙ hs.first in
    ap (λ k. after_front front (sections_in ps n s k p)) f
    ∙ ap (after_front front) (sections-step ps n s (fuel - 1) p head (ap (data_section_at s) (sym e) ∙ h))
    ∙ ap (λ o. after_front front (o >>= λ hs. cond head.further (option_map (λ rest. hs ++ rest) (sections_in ps n s (fuel - 1) (aligned p + 4 + head.count * clause_size head.fat))) (Some hs))) some
    ∙ by_flag head.further hs.by hs.is
    ∙ ap (λ a. cond head.further (after_front more (sections_in ps n s (fuel - 1) (a + 4 + head.count * clause_size head.fat))) (Some more)) (sym e)
  where
    by_flag : (t : Bool) (hs : List Handler) → front ++ hs ≡ more → after_front front (cond t (option_map (λ rest. hs ++ rest) (sections_in ps n s (fuel - 1) (aligned p + 4 + head.count * clause_size head.fat))) (Some hs)) ≡ cond t (after_front more (sections_in ps n s (fuel - 1) (aligned p + 4 + head.count * clause_size head.fat))) (Some more)
    by_flag true hs e = chain front hs _ ∙ ap (λ z. after_front z (sections_in ps n s (fuel - 1) (aligned p + 4 + head.count * clause_size head.fat))) e
    by_flag false hs e = ap Some e

pub sections-last : (front more : List Handler) (ps : List ℕ) (n : ℕ) (s : List ℕ) (fuel p start : ℕ) (head : Section) → 0 < fuel → start ≡ aligned p → data_section_at s start ≡ Some head → after_front front (handlers_in ps n s head (start + 4)) ≡ Some more → head.further ≡ false
    → after_front front (sections_in ps n s fuel p) ≡ Some more
sections-last front more ps n s fuel p start head pos e h k last = found front more ps n s fuel p start head pos e h k ∙ ap (λ t. cond t (after_front more (sections_in ps n s (fuel - 1) (start + 4 + head.count * clause_size head.fat))) (Some more)) last

pub sections-more : (front more : List Handler) (ps : List ℕ) (n : ℕ) (s : List ℕ) (fuel p start next : ℕ) (head : Section) → 0 < fuel → start ≡ aligned p → data_section_at s start ≡ Some head → after_front front (handlers_in ps n s head (start + 4)) ≡ Some more → head.further ≡ true → next ≡ start + 4 + head.count * clause_size head.fat
    → after_front front (sections_in ps n s fuel p) ≡ after_front more (sections_in ps n s (fuel - 1) next)
sections-more front more ps n s fuel p start next head pos e h k further is =
    found front more ps n s fuel p start head pos e h k
    ∙ ap (λ t. cond t (after_front more (sections_in ps n s (fuel - 1) (start + 4 + head.count * clause_size head.fat))) (Some more)) further
    ∙ ap (λ q. after_front more (sections_in ps n s (fuel - 1) q)) (sym is)

pub clause_size-upto : (fat : Bool) → clause_size fat ≤ 24
clause_size-upto true = omega arith
clause_size-upto false = omega arith

pub bounded : (n a b : ℕ) → a ≤ b → n * a ≤ n * b
bounded n a b h = grind arith

pub flag-off : (b : Bool) → not b ≡ true → b ≡ false
flag-off true h = absurd (never h)
  where
    never : false ≡ true → ⊥
    never h = cc
flag-off false h = refl

pub flag-on : (b : Bool) → not b ≡ false → b ≡ true
flag-on true h = refl
flag-on false h = absurd (never h)
  where
    never : true ≡ false → ⊥
    never h = cc
