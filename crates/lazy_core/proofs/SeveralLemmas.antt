-- What is answered over some of an image's slots, which are read one after the other as they are needed.
use Rattle.std.proofs.Common.{◌≡◌, refl, sym, ◌∙◌, ap, subst, ℕ, Bool, true, false, List, [], Option, Some, None, if◌then◌else◌, find, is_some, not}
use Rattle.slot_store.specs.SlotMap.{PutsSlot, SlotMap}
use Rattle.node_model.specs.Graph.{untouched}
use Rattle.node_model.specs.Immediate.{read}
use Rattle.node_model.specs.Keys.{is_key, same_key}
use Rattle.node_model.specs.Places.{key_place, slot_at}
use Rattle.node_model.specs.Replies.{reach, reply}
use Rattle.node_model.specs.contracts.key.KeyPartialEq.TheImpl.{eq-value}
use Rattle.node_model.specs.declared.key.Key.{Key}
use Rattle.node_model.specs.declared.query.Query.{Query}
use Rattle.node_model.specs.declared.reply.Reply.{Reply}
use Rattle.node_model.specs.declared.slot.Slot.{Slot}
use Rattle.node_model.specs.inner.KeyEquality.{eq_is_same, key_is}
use Rattle.node_model.proofs.HeldLemmas.{graph_never_lacks}
use Rattle.node_model.proofs.KnownLemmas.{knows}
use Rattle.node_model.proofs.KnownQueries.{query_reach_known}
use Rattle.node_model.proofs.SchemaLemmas.{found_passes}
use Rattle.node_model.proofs.WalkLemmas.{Partial}
use Rattle.graph_query.specs.Answered.{query_answer}
use Rattle.graph_query.specs.AnswersMeet.{need_or_ready}
use Rattle.graph_query.specs.declared.answering.Peek.TheVariants.{Ready, Need}
use Rattle.graph_query.proofs.AnswerLemmas.{answer_over}
use Rattle.lazy_core.specs.inner.Replies.{AreRead}

partial : (b : List ℕ) (p : Key → Option Slot) → AreRead b p → Partial (λ k. is_some (p k)) (read b) p
partial b p are k = by_slot (p k) (are k)
  where
    by_slot : (o : Option Slot) → ((s : Slot) → o ≡ Some s → s ≡ read b k) → o ≡ (if is_some o then Some (read b k) else None)
    by_slot (Some s) is = ap Some (is s refl)
    by_slot None is = refl

over : (b : List ℕ) (p : Key → Option Slot) (q : Query) → AreRead b p
    → query_answer (untouched b).nodes p 0 q ≡ need_or_ready (find (λ k. not (is_some (p k))) (reach (untouched b) q)) (reply (untouched b) 0 q)
over b p q are = answer_over (untouched b) (λ k. is_some (p k)) p 0 q (partial b p are) (graph_never_lacks b [])

-- what is ready is the reply
pub ready_is : (b : List ℕ) (p : Key → Option Slot) (q : Query) (r : Reply) → AreRead b p
    → query_answer (untouched b).nodes p 0 q ≡ Ready r → r ≡ reply (untouched b) 0 q
ready_is b p q r are told = by_found (find (λ k. not (is_some (p k))) (reach (untouched b) q)) (sym (over b p q are) ∙ told)
  where
    by_found : (o : Option Key) → need_or_ready o (reply (untouched b) 0 q) ≡ Ready r → r ≡ reply (untouched b) 0 q
    by_found (Some k) e = absurd cc
    by_found None e =
        let same : reply (untouched b) 0 q ≡ r = cc in
        sym same

-- what is needed is a key of the image
pub need_is_key : (b : List ℕ) (p : Key → Option Slot) (q : Query) (k : Key) → AreRead b p
    → query_answer (untouched b).nodes p 0 q ≡ Need k → is_key b k ≡ true
unfolding is_key
need_is_key b p q k are told = by_found (find (λ k. not (is_some (p k))) (reach (untouched b) q)) refl (sym (over b p q are) ∙ told)
  where
    by_found : (o : Option Key) → find (λ k. not (is_some (p k))) (reach (untouched b) q) ≡ o → need_or_ready o (reply (untouched b) 0 q) ≡ Need k
        → knows (untouched b).nodes k ≡ true
    by_found (Some j) is e =
        let same : j ≡ k = cc in
        subst (λ x. knows (untouched b).nodes x ≡ true) same
        (found_passes (λ x. not (is_some (p x))) (knows (untouched b).nodes) (reach (untouched b) q) j (query_reach_known (untouched b) q) is).1
    by_found None is e = absurd cc

-- slots that are read, with one more that is
pub put_read : (b : List ℕ) (old new : SlotMap Key Slot) (k : Key) (s : Slot) (free : Bool) → AreRead b (slot_at old) → s ≡ read b k
    → PutsSlot key_place (eq-value).it old new k s free → AreRead b (slot_at new)
put_read b old new k s false are is puts = subst (λ (m : SlotMap Key Slot). AreRead b (slot_at m)) (sym puts) are
put_read b old new k s true are is puts = λ j r some.
    by_same j r (same_key k j) refl (sym (puts j ∙ ap (λ x. if x then Some s else slot_at old j) (eq_is_same k j)) ∙ some)
  where
    by_same : (j : Key) (r : Slot) (x : Bool) → same_key k j ≡ x → (if x then Some s else slot_at old j) ≡ Some r → r ≡ read b j
    by_same j r true same some =
        let one : s ≡ r = cc in
        sym one ∙ is ∙ ap (read b) (key_is k j same)
    by_same j r false same some = are j r some
