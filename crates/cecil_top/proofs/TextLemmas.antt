-- Lines that are added one after the other, with those that are still to come.
use Rattle.std.proofs.Common.{◌≡◌, refl, sym, ◌∙◌, ap, ℕ, zero, suc, ◌+◌, ◌<◌, ◌≤◌, List, [], ◌∷◌, ◌++◌, append-nil, append_assoc, arith, ◌⊎◌, inl, inr, min, drop, get_or, length}
use mathlib.Core.Logic.{dite}
use native.Mathlib.Decide.{dec_le}
use Rattle.std.proofs.Math.Seq.{drop-cons}
use Rattle.job_text.specs.declared.command.Command.{Command}
use Rattle.lazy_core.specs.Slots.{CoreState}
use Rattle.node_model.specs.declared.entry.Entry.{Entry}
use Rattle.cecil_top.specs.RunText.{actor_lines, answer_lines, entry_line, entry_lines, history_text, history_texts, said_lines}
use Rattle.cecil_top.specs.declared.record.ActorRecord.{ActorRecord}
use Rattle.cecil_top.specs.declared.said.Said.{Said}

-- what is left from place n on begins with the item at n
left_at : {A : Type 0} (xs : List A) (n : ℕ) (x : A) → n < length xs → x ≡ get_or xs n x
    → drop n xs ≡ x ∷ drop (n + 1) xs
left_at xs n x within is =
    let next : suc n ≡ n + 1 = omega arith in
    drop-cons xs n x within ∙ ap (λ y. y ∷ drop (suc n) xs) (sym is) ∙ ap (λ k. x ∷ drop k xs) next

none_left : {A : Type 0} (xs : List A) (n : ℕ) → length xs ≤ n → drop n xs ≡ []
none_left [] zero past = refl
none_left [] (suc n) past = refl
none_left (x ∷ xs) zero past = absurd (omega arith)
none_left (x ∷ xs) (suc n) past = none_left xs n (omega arith)

-- a text that goes on by the first part of what is to come
goes_on : (text new first rest all : List ℕ) → new ≡ text ++ first → all ≡ first ++ rest → new ++ rest ≡ text ++ all
goes_on text new first rest all is parts =
    ap (λ t. t ++ rest) is ∙ append_assoc text first rest ∙ ap (λ t. text ++ t) (sym parts)

pub actors_next : (text new : List ℕ) (n : ℕ) (xs : List ActorRecord) (x : ActorRecord) → n < length xs
    → x ≡ get_or xs n x → new ≡ text ++ answer_lines n 0 x.commands x.said
    → new ++ actor_lines (n + 1) (drop (n + 1) xs) ≡ text ++ actor_lines n (drop n xs)
actors_next text new n xs x within is added =
    goes_on text new (answer_lines n 0 x.commands x.said) (actor_lines (n + 1) (drop (n + 1) xs))
    (actor_lines n (drop n xs)) added (ap (actor_lines n) (left_at xs n x within is))

pub entries_next : (text new : List ℕ) (m n : ℕ) (xs : List Entry) (x : Entry) → n < length xs → x ≡ get_or xs n x
    → new ≡ text ++ entry_line m (n + 1) x
    → new ++ entry_lines m (n + 1 + 1) (drop (n + 1) xs) ≡ text ++ entry_lines m (n + 1) (drop n xs)
entries_next text new m n xs x within is added =
    goes_on text new (entry_line m (n + 1) x) (entry_lines m (n + 1 + 1) (drop (n + 1) xs))
    (entry_lines m (n + 1) (drop n xs)) added (ap (entry_lines m (n + 1)) (left_at xs n x within is))

pub histories_next : (text new : List ℕ) (n : ℕ) (xs : List CoreState) (x : CoreState) → n < length xs
    → x ≡ get_or xs n x → new ≡ text ++ history_text n x.history
    → new ++ history_texts (n + 1) (drop (n + 1) xs) ≡ text ++ history_texts n (drop n xs)
histories_next text new n xs x within is added =
    goes_on text new (history_text n x.history) (history_texts (n + 1) (drop (n + 1) xs)) (history_texts n (drop n xs))
    added (ap (history_texts n) (left_at xs n x within is))

pub answers_next : (text new : List ℕ) (k n : ℕ) (cs : List Command) (said : List Said) (c : Command) (a : Said)
    → n < length cs → n < length said → c ≡ get_or cs n c → a ≡ get_or said n a → new ≡ text ++ said_lines k n c a
    → new ++ answer_lines k (n + 1) (drop (n + 1) cs) (drop (n + 1) said) ≡ text ++ answer_lines k n (drop n cs) (drop n said)
answers_next text new k n cs said c a in_cs in_said is-c is-a added =
    goes_on text new (said_lines k n c a) (answer_lines k (n + 1) (drop (n + 1) cs) (drop (n + 1) said))
    (answer_lines k n (drop n cs) (drop n said)) added
    (ap (λ l. answer_lines k n l (drop n said)) (left_at cs n c in_cs is-c)
    ∙ ap (λ l. answer_lines k n (c ∷ drop (n + 1) cs) l) (left_at said n a in_said is-a))

-- where nothing is to come the text is whole
whole : (text rest all : List ℕ) → rest ≡ [] → text ++ rest ≡ all → text ≡ all
whole text rest all none is = sym (append-nil text) ∙ ap (λ t. text ++ t) (sym none) ∙ is

pub actors_whole : (text all : List ℕ) (n : ℕ) (xs : List ActorRecord) → length xs ≤ n
    → text ++ actor_lines n (drop n xs) ≡ all → text ≡ all
actors_whole text all n xs past = whole text (actor_lines n (drop n xs)) all (ap (actor_lines n) (none_left xs n past))

pub entries_whole : (text all : List ℕ) (m n : ℕ) (xs : List Entry) → length xs ≤ n
    → text ++ entry_lines m (n + 1) (drop n xs) ≡ all → text ≡ all
entries_whole text all m n xs past =
    whole text (entry_lines m (n + 1) (drop n xs)) all (ap (entry_lines m (n + 1)) (none_left xs n past))

pub histories_whole : (text all : List ℕ) (n : ℕ) (xs : List CoreState) → length xs ≤ n
    → text ++ history_texts n (drop n xs) ≡ all → text ≡ all
histories_whole text all n xs past =
    whole text (history_texts n (drop n xs)) all (ap (history_texts n) (none_left xs n past))

or_end : (a b n : ℕ) → min a b ≤ n → (a ≤ n) ⊎ (b ≤ n)
or_end a b n past = dite (dec_le a n) (λ end. inl end) (λ more. inr (omega arith))

none_said : (k n : ℕ) (cs : List Command) → answer_lines k n cs [] ≡ []
none_said k n [] = refl
none_said k n (c ∷ cs) = refl

pub answers_whole : (text all : List ℕ) (k n : ℕ) (cs : List Command) (said : List Said)
    → min (length cs) (length said) ≤ n → text ++ answer_lines k n (drop n cs) (drop n said) ≡ all → text ≡ all
answers_whole text all k n cs said past is = by_end (or_end (length cs) (length said) n past)
  where
    by_end : (length cs ≤ n) ⊎ (length said ≤ n) → text ≡ all
    by_end (inl end) =
        whole text (answer_lines k n (drop n cs) (drop n said)) all
        (ap (λ l. answer_lines k n l (drop n said)) (none_left cs n end)) is
    by_end (inr end) =
        whole text (answer_lines k n (drop n cs) (drop n said)) all
        (ap (λ l. answer_lines k n (drop n cs) l) (none_left said n end) ∙ none_said k n (drop n cs)) is
