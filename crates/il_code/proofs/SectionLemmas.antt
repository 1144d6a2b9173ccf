-- Sections one after the other.
use Rattle.std.proofs.Common.{◌≡◌, ◌+◌, ◌*◌, ◌≤◌, ◌++◌, ℕ, zero, suc, List, [], ◌∷◌, length, Bool, true, false, cond, Option, Some, None, refl, sym, ap, ◌∙◌, subst, arith}
use Rattle.std.specs.Prelude.{option_map}
use Rattle.std.specs.List.{flat_map}
use Rattle.std.proofs.lemmas.List.{append-nil}
use Rattle.il_code.specs.declared.handler.Handler.{Handler}
use Rattle.il_code.specs.declared.section.Section.{Section}
use Rattle.cil_base.specs.Place.{number_within}
use Rattle.cil_base.specs.Steps.{◌>>=◌}
use Rattle.il_code.specs.Items.{items_at}
use Rattle.il_code.specs.Sections.{aligned, clause_at, clause_size, data_section_at, FollowedBy, Sections}
use Rattle.il_code.specs.Numbering.{each, numbered_clause, numbered_handler, handlers_in, sections_in}
use Rattle.il_code.proofs.CodeLemmas.{came, mapped, same_some, number-ends}
use Rattle.il_code.proofs.NumberingLaws.{each-append, each-split}
use Rattle.il_code.proofs.NumberingLemmas.{each-nil}

-- a section is read, and those after it
pub sections-step : (ps : List ℕ) (n : ℕ) (s : List ℕ) (k p : ℕ) (head : Section) → data_section_at s (aligned p) ≡ Some head → sections_in ps n s (suc k) p ≡ (handlers_in ps n s head (aligned p + 4) >>= λ hs. cond head.further (option_map (λ rest. hs ++ rest) (sections_in ps n s k (aligned p + 4 + head.count * clause_size head.fat))) (Some hs))
unfolding sections_in
sections-step ps n s k p head h = rw h refl

-- the next multiple of four is no smaller
pub aligned-up : (p : ℕ) → p ≤ aligned p
unfolding aligned
aligned-up p = omega arith

head_within : (s : List ℕ) (p : ℕ) (head : Section) → data_section_at s p ≡ Some head → p + 4 ≤ length s
unfolding data_section_at
head_within s p head h =
    let n = came (number_within s p 4) _ head h in
    number-ends 4 s p n.by n.first

-- items of which something is made, and what is made of the items

pub record Items {A : Type 0} (item : ℕ → Option A) (f : A → Option A) (w p n : ℕ) (ys : List A) : Type 0 where
  pub items : List A
  pub there : items_at item w p n ≡ Some items
  pub made : each f items ≡ Some ys

pub items-found : {A : Type 0} (item : ℕ → Option A) (f : A → Option A) (w p n : ℕ) (ys : List A) → items_at (λ q. item q >>= f) w p n ≡ Some ys → Items item f w p n ys
unfolding items_at each
items-found item f w p zero ys h = record { items = []; there = refl; made = h }
items-found item f w p (suc n) ys h =
    let first = came (item p >>= f) (λ y. option_map (λ ys. y ∷ ys) (items_at (λ q. item q >>= f) w (p + w) n)) ys h in
    let x = came (item p) f first.by first.first in
    let rest = mapped (λ ys. first.by ∷ ys) (items_at (λ q. item q >>= f) w (p + w) n) ys first.after in
    let others = items-found item f w (p + w) n rest.by rest.first in
    record {
      items = x.by ∷ others.items;
      there = ap (λ o. o >>= λ x. option_map (λ xs. x ∷ xs) (items_at item w (p + w) n)) x.first ∙ ap (option_map (λ xs. x.by ∷ xs)) others.there;
      made = ap (λ o. o >>= λ y. option_map (λ ys. y ∷ ys) (each f others.items)) x.after ∙ ap (option_map (λ ys. first.by ∷ ys)) others.made ∙ ap Some rest.is;
    }

pub items-only : {A : Type 0} (item : ℕ → Option A) (f : A → Option A) (w p n : ℕ) (xs ys : List A) → items_at item w p n ≡ Some xs → each f xs ≡ Some ys → items_at (λ q. item q >>= f) w p n ≡ Some ys
unfolding items_at each
items-only item f w p zero xs ys h k = subst (λ z. each f z ≡ Some ys) (sym (same_some [] xs h)) k
items-only item f w p (suc n) xs ys h k =
    let x = came (item p) (λ x. option_map (λ xs. x ∷ xs) (items_at item w (p + w) n)) xs h in
    let rest = mapped (λ xs. x.by ∷ xs) (items_at item w (p + w) n) xs x.after in
    let k' : each f (x.by ∷ rest.by) ≡ Some ys = ap (each f) rest.is ∙ k in
    let y = came (f x.by) (λ y. option_map (λ ys. y ∷ ys) (each f rest.by)) ys k' in
    let ys' = mapped (λ ys. y.by ∷ ys) (each f rest.by) ys y.after in
    let ih = items-only item f w (p + w) n rest.by ys'.by rest.first ys'.first in
    ap (λ o. (o >>= f) >>= λ y. option_map (λ ys. y ∷ ys) (items_at (λ q. item q >>= f) w (p + w) n)) x.first
    ∙ ap (λ o. o >>= λ y. option_map (λ ys. y ∷ ys) (items_at (λ q. item q >>= f) w (p + w) n)) y.first
    ∙ ap (option_map (λ ys. y.by ∷ ys)) ih
    ∙ ap Some ys'.is

-- the sections that are read are those that stand there

pub record Found (ps : List ℕ) (n : ℕ) (s : List ℕ) (p : ℕ) (hs : List Handler) : Type 0 where
  pub parts : List (List Handler)
  pub stand : Sections s p parts
  pub made : each (numbered_handler ps n) (flat_map (λ part. part) parts) ≡ Some hs

clauses-found : (ps : List ℕ) (n : ℕ) (s : List ℕ) (head : Section) (p : ℕ) (hs : List Handler) → handlers_in ps n s head p ≡ Some hs → Items (clause_at head.fat s) (numbered_handler ps n) (clause_size head.fat) p head.count hs
unfolding handlers_in numbered_clause
clauses-found ps n s head p hs h = items-found (clause_at head.fat s) (numbered_handler ps n) (clause_size head.fat) p head.count hs h

clauses-only : (ps : List ℕ) (n : ℕ) (s : List ℕ) (head : Section) (p : ℕ) (xs hs : List Handler) → items_at (clause_at head.fat s) (clause_size head.fat) p head.count ≡ Some xs → each (numbered_handler ps n) xs ≡ Some hs → handlers_in ps n s head p ≡ Some hs
unfolding handlers_in numbered_clause
clauses-only ps n s head p xs hs h k = items-only (clause_at head.fat s) (numbered_handler ps n) (clause_size head.fat) p head.count xs hs h k

by_flag : (ps : List ℕ) (n : ℕ) (s : List ℕ) (fuel p : ℕ) → ((q : ℕ) (xs : List Handler) → sections_in ps n s fuel q ≡ Some xs → Found ps n s q xs) → (hs : List Handler) (head : Section) (first : List Handler) → data_section_at s (aligned p) ≡ Some head → Items (clause_at head.fat s) (numbered_handler ps n) (clause_size head.fat) (aligned p + 4) head.count first
    → (t : Bool) → head.further ≡ t → cond t (option_map (λ rest. first ++ rest) (sections_in ps n s fuel (aligned p + 4 + head.count * clause_size head.fat))) (Some first) ≡ Some hs → Found ps n s p hs
by_flag ps n s fuel p again hs head first h items true e k =
    let others = mapped (λ rest. first ++ rest) (sections_in ps n s fuel (aligned p + 4 + head.count * clause_size head.fat)) hs k in
    let ih = again (aligned p + 4 + head.count * clause_size head.fat) others.by others.first in
    record {
      parts = items.items ∷ ih.parts;
      stand = (head, h, items.there, subst (λ t. FollowedBy t ih.parts (Sections s (aligned p + 4 + head.count * clause_size head.fat) ih.parts)) (sym e) ih.stand);
      made = each-append (numbered_handler ps n) items.items (flat_map (λ part. part) ih.parts) first others.by items.made ih.made ∙ ap Some others.is;
    }
by_flag ps n s fuel p again hs head first h items false e k =
    record {
      parts = items.items ∷ [];
      stand = (head, h, items.there, subst (λ t. FollowedBy t [] (Sections s (aligned p + 4 + head.count * clause_size head.fat) [])) (sym e) refl);
      made = ap (each (numbered_handler ps n)) (append-nil items.items) ∙ items.made ∙ k;
    }

pub sections-found : (ps : List ℕ) (n : ℕ) (s : List ℕ) (fuel p : ℕ) (hs : List Handler) → sections_in ps n s fuel p ≡ Some hs → Found ps n s p hs
unfolding sections_in
sections-found ps n s zero p hs h = absurd (nothing h)
  where
    nothing : None ≡ Some hs → ⊥
    nothing h = cc
sections-found ps n s (suc fuel) p hs h =
    let head = came (data_section_at s (aligned p)) (λ head. handlers_in ps n s head (aligned p + 4) >>= λ hs. cond head.further (option_map (λ rest. hs ++ rest) (sections_in ps n s fuel (aligned p + 4 + head.count * clause_size head.fat))) (Some hs)) hs h in
    let first = came (handlers_in ps n s head.by (aligned p + 4)) (λ hs. cond head.by.further (option_map (λ rest. hs ++ rest) (sections_in ps n s fuel (aligned p + 4 + head.by.count * clause_size head.by.fat))) (Some hs)) hs head.after in
    let clauses = clauses-found ps n s head.by (aligned p + 4) first.by first.first in
    by_flag ps n s fuel p (λ q xs e. sections-found ps n s fuel q xs e) hs head.by first.by head.first clauses head.by.further refl first.after

rest_of : (ps : List ℕ) (n : ℕ) (s : List ℕ) (fuel p : ℕ) (head : Section) (rest : List (List Handler)) → ((q : ℕ) (xs : List Handler) → Sections s q rest → each (numbered_handler ps n) (flat_map (λ part. part) rest) ≡ Some xs → length rest ≤ fuel → sections_in ps n s fuel q ≡ Some xs) → (front back hs : List Handler) → (t : Bool) → head.further ≡ t → FollowedBy head.further rest (Sections s (aligned p + 4 + head.count * clause_size head.fat) rest) → front ++ back ≡ hs → each (numbered_handler ps n) (flat_map (λ part. part) rest) ≡ Some back → length rest ≤ fuel
    → cond t (option_map (λ rest. front ++ rest) (sections_in ps n s fuel (aligned p + 4 + head.count * clause_size head.fat))) (Some front) ≡ Some hs
rest_of ps n s fuel p head rest again front back hs true e follow is made len =
    let stand = subst (λ t. FollowedBy t rest (Sections s (aligned p + 4 + head.count * clause_size head.fat) rest)) e follow in
    ap (option_map (λ rest. front ++ rest)) (again (aligned p + 4 + head.count * clause_size head.fat) back stand made len) ∙ ap Some is
rest_of ps n s fuel p head rest again front back hs false e follow is made len =
    let none : rest ≡ [] = subst (λ t. FollowedBy t rest (Sections s (aligned p + 4 + head.count * clause_size head.fat) rest)) e follow in
    let empty : Some [] ≡ Some back = sym (ap (λ r. each (numbered_handler ps n) (flat_map (λ part. part) r)) none ∙ each-nil (numbered_handler ps n)) ∙ made in
    ap Some (sym (append-nil front) ∙ ap (λ z. front ++ z) (same_some [] back empty) ∙ is)

pub sections-only : (ps : List ℕ) (n : ℕ) (s : List ℕ) (fuel p : ℕ) (parts : List (List Handler)) (hs : List Handler) → Sections s p parts → each (numbered_handler ps n) (flat_map (λ part. part) parts) ≡ Some hs → length parts ≤ fuel → sections_in ps n s fuel p ≡ Some hs
sections-only ps n s fuel p [] hs stand made len = absurd stand
sections-only ps n s zero p (part ∷ rest) hs stand made len = absurd (omega (arith, len))
sections-only ps n s (suc fuel) p (part ∷ rest) hs stand made len =
    let cut = each-split (numbered_handler ps n) part (flat_map (λ part. part) rest) hs made in
    let first = clauses-only ps n s stand.0 (aligned p + 4) part cut.front stand.2 cut.first in
    sections-step ps n s fuel p stand.0 stand.1
    ∙ ap (λ o. o >>= λ hs. cond stand.0.further (option_map (λ rest. hs ++ rest) (sections_in ps n s fuel (aligned p + 4 + stand.0.count * clause_size stand.0.fat))) (Some hs)) first
    ∙ rest_of ps n s fuel p stand.0 rest (λ q xs st m l. sections-only ps n s fuel q rest xs st m l) cut.front cut.back hs stand.0.further refl stand.3 cut.is cut.rest (omega (arith, len))

follows : (t : Bool) (r : List Handler) (rest : List (List Handler)) (P : Type 0) → FollowedBy t (r ∷ rest) P → P
follows true r rest P f = f
follows false r rest P f = absurd (never f)
  where
    never : r ∷ rest ≡ [] → ⊥
    never f = cc

-- a section takes four bytes or more
after_head : (s : List ℕ) (p : ℕ) (head : Section) (rest : List (List Handler)) → ((q : ℕ) → Sections s q rest → q + 4 * length rest ≤ length s) → FollowedBy head.further rest (Sections s (aligned p + 4 + head.count * clause_size head.fat) rest) → aligned p + 4 ≤ length s → p ≤ aligned p → p + 4 * suc (length rest) ≤ length s
after_head s p head [] again follow within up = omega arith
after_head s p head (r ∷ rest) again follow within up =
    let ih = again (aligned p + 4 + head.count * clause_size head.fat) (follows head.further r rest _ follow) in
    omega (arith, ih, within, up)

pub sections-length : (s : List ℕ) (p : ℕ) (parts : List (List Handler)) → Sections s p parts → p + 4 * length parts ≤ length s
sections-length s p [] stand = absurd stand
sections-length s p (part ∷ rest) stand = after_head s p stand.0 rest (λ q st. sections-length s q rest st) stand.3 (head_within s (aligned p) stand.0 stand.1) (aligned-up p)
