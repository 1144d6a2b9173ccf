-- For callers: what a core that needs no key has said, and what was wanted before.
use Rattle.std.proofs.Common.{◌≡◌, refl, sym, ◌∙◌, ap, subst, ℕ, ◌+◌, Bool, true, false, List, length, length-append, take, arith}
use Rattle.std.proofs.lemmas.List.{take-append-le}
use Rattle.std.specs.Prelude.{Option, Some, None, Result, Ok, Err}
use Rattle.std.specs.List.{list_all, list_any}
use mathlib.Core.List.{IsPrefix}
use Rattle.cil_base.specs.Token.{Token}
use Rattle.node_model.specs.EditAnswers.{edit_answer, edit_reach}
use Rattle.node_model.specs.Keys.{same_key}
use Rattle.node_model.specs.Replies.{reach, reply}
use Rattle.node_model.specs.declared.edit.Edit.{Edit}
use Rattle.node_model.specs.declared.edit_refusal.EditRefusal.{EditRefusal}
use Rattle.node_model.specs.declared.entry.Entry.{Entry}
use Rattle.node_model.specs.declared.entry.Why.{Why}
use Rattle.node_model.specs.declared.key.Key.{Key}
use Rattle.node_model.specs.declared.query.Query.{Query}
use Rattle.node_model.specs.declared.reply.Reply.{Reply}
use Rattle.lazy_core.specs.History.{filled, fills, graph_after}
use Rattle.lazy_core.specs.Legal.{WasWanted, reach_why}
use Rattle.lazy_core.specs.Steps.{peek_at, peeked, tried, tried_answer}
use Rattle.graph_query.specs.declared.answering.Peek.TheVariants.{Ready, Need}
use Rattle.lazy_core.specs.declared.wanted.Tried.{Tried}
use Rattle.lazy_core.specs.declared.wanted.Tried.TheVariants as tries
use Rattle.lazy_core.proofs.TryLemmas.{all_filled, first_unfilled, tried_by}

peeked_by_first : (b : List ℕ) (h : List Entry) (q : Query) (o : Option Key) → first_unfilled b h (reach (graph_after b h) q) ≡ o → peeked b h q ≡ peek_at b h q o
unfolding peeked
peeked_by_first b h q o is = ap (peek_at b h q) is

-- a query that is answered has its reply, and all that it looks at is filled
pub ready_is : (b : List ℕ) (h : List Entry) (q : Query) (r : Reply) → peeked b h q ≡ Ready r
    → (r ≡ reply (graph_after b h) (fills h) q) × (list_all (filled b h) (reach (graph_after b h) q) ≡ true)
ready_is b h q r ready = by_first (first_unfilled b h (reach (graph_after b h) q)) refl
  where
    by_first : (o : Option Key) → first_unfilled b h (reach (graph_after b h) q) ≡ o
        → (r ≡ reply (graph_after b h) (fills h) q) × (list_all (filled b h) (reach (graph_after b h) q) ≡ true)
    by_first (Some k) is =
        let need : Need k ≡ Ready r = sym (peeked_by_first b h q (Some k) is) ∙ ready in
        absurd cc
    by_first None is =
        let same : Ready (reply (graph_after b h) (fills h) q) ≡ Ready r = sym (peeked_by_first b h q None is) ∙ ready in
        (cc, all_filled b h (reach (graph_after b h) q) is)

-- whether an edit is answered, and no key is needed
abbrev is_said : Tried → Bool
is_said (tries.Done made) = true
is_said (tries.Refused r) = true
is_said (tries.Need ks) = false

-- an edit that is answered has its answer, and all that it looks at is filled
tried_is : (b : List ℕ) (h : List Entry) (e : Edit) (t : Tried) → is_said t ≡ true → tried b h e ≡ t
    → (tried_answer (edit_answer (graph_after b h) e) ≡ t) × (list_all (filled b h) (edit_reach (graph_after b h) e) ≡ true)
tried_is b h e t said is_t = by_first (first_unfilled b h (edit_reach (graph_after b h) e)) refl
  where
    by_first : (o : Option Key) → first_unfilled b h (edit_reach (graph_after b h) e) ≡ o
        → (tried_answer (edit_answer (graph_after b h) e) ≡ t) × (list_all (filled b h) (edit_reach (graph_after b h) e) ≡ true)
    by_first (Some k) is = let need : false ≡ true = ap is_said (sym (tried_by b h e (Some k) is) ∙ is_t) ∙ said in absurd cc
    by_first None is = (sym (tried_by b h e None is) ∙ is_t, all_filled b h (edit_reach (graph_after b h) e) is)

answer_done : (a : Result (Option Token) EditRefusal) (made : Option Token) → tried_answer a ≡ tries.Done made → a ≡ Ok made
answer_done (Ok m) made e = cc
answer_done (Err r) made e = absurd cc

answer_refused : (a : Result (Option Token) EditRefusal) (r : EditRefusal) → tried_answer a ≡ tries.Refused r → a ≡ Err r
answer_refused (Ok m) r e = absurd cc
answer_refused (Err x) r e = cc

pub done_is : (b : List ℕ) (h : List Entry) (e : Edit) (made : Option Token) → tried b h e ≡ tries.Done made
    → (edit_answer (graph_after b h) e ≡ Ok made) × (list_all (filled b h) (edit_reach (graph_after b h) e) ≡ true)
done_is b h e made done =
    let said = tried_is b h e (tries.Done made) refl done in
    (answer_done (edit_answer (graph_after b h) e) made said.0, said.1)

pub refused_is : (b : List ℕ) (h : List Entry) (e : Edit) (r : EditRefusal) → tried b h e ≡ tries.Refused r
    → (edit_answer (graph_after b h) e ≡ Err r) × (list_all (filled b h) (edit_reach (graph_after b h) e) ≡ true)
refused_is b h e r refused =
    let said = tried_is b h e (tries.Refused r) refl refused in
    (answer_refused (edit_answer (graph_after b h) e) r said.0, said.1)

-- what was wanted where a history had these entries is wanted of all further ones
pub still_wanted : (b : List ℕ) (seen h : List Entry) (point : ℕ) (why : Why) (k : Key) → IsPrefix seen h → WasWanted b seen point why k → WasWanted b h point why k
still_wanted b seen h point why k more wanted =
    let early = wanted.early in
    let front : take point h ≡ take point seen = ap (take point) (sym more.1) ∙ take-append-le point seen more.0 early in
    let long : length h ≡ length seen + length more.0 = ap length (sym more.1) ∙ length-append seen more.0 in
    record {
      early = omega arith;
      known = wanted.known;
      reached = subst (λ g. list_any (same_key k) (reach_why (graph_after b g) why) ≡ true) (sym front) wanted.reached;
      unfilled = subst (λ g. filled b g k ≡ false) (sym front) wanted.unfilled;
    }
