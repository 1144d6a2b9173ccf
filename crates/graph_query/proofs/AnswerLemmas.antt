-- What queries say over the slots that a graph has is what they say over the whole graph.
use Rattle.std.proofs.Common.{◌≡◌, refl, sym, ◌∙◌, ap, ℕ, Bool, Option, Some, None, Result, Ok, Err, if◌then◌else◌, is_some, find, not}
use Rattle.node_model.specs.Graph.{Graph, graph_of}
use Rattle.node_model.specs.Questions.{early_reply, query_walk}
use Rattle.node_model.specs.Replies.{all_slots, reach, reply, reply_by, reply_said, unless_early}
use Rattle.node_model.specs.Walk.{Walk, looked, said}
use Rattle.node_model.specs.declared.key.Key.{Key}
use Rattle.node_model.specs.declared.query.Query.{Query}
use Rattle.node_model.specs.declared.reply.Reply.{Reply}
use Rattle.node_model.specs.declared.slot.Slot.{Slot}
use Rattle.node_model.specs.declared.walk.Halt.{Halt}
use Rattle.node_model.specs.declared.walk.Halt.TheVariants.{Lacks, Faulty}
use Rattle.node_model.proofs.HeldLemmas.{graph_never_lacks}
use Rattle.node_model.proofs.QueryLemmas.{looked_same}
use Rattle.node_model.proofs.WalkLemmas.{Partial, first_lacking, until}
use Rattle.graph_query.specs.Answered.{peek_from, query_answer}
use Rattle.graph_query.specs.AnswersMeet.{QueriesMeetTheGraph, need_or_ready}

-- the graph itself lacks nothing
abbrev pub NeverLacks : Graph → Type 0
NeverLacks g = (w : Walk Reply) (x : Key) → said (all_slots g) w ≡ Err (Lacks x) → ⊥

answer_said : (s : Result Reply Halt) → ((x : Key) → s ≡ Err (Lacks x) → ⊥) → peek_from None s ≡ need_or_ready None (reply_said s)
answer_said (Ok r) never = refl
answer_said (Err (Faulty f)) never = refl
answer_said (Err (Lacks x)) never = absurd (never x refl)

by_found : (o : Option Key) (s : Result Reply Halt) → ((x : Key) → s ≡ Err (Lacks x) → ⊥) → peek_from None (until o s) ≡ need_or_ready o (reply_said s)
by_found (Some k) s never = refl
by_found None s never = answer_said s never

-- slots that are those of some of a graph's keys: Need of the first key that is reached and has none, else the reply
pub answer_over : (g : Graph) (full : Key → Bool) (p : Key → Option Slot) (fills : ℕ) (q : Query) → Partial full g.held p → NeverLacks g
    → query_answer g.nodes p fills q ≡ need_or_ready (find (λ k. not (full k)) (reach g q)) (reply g fills q)
unfolding query_answer reach reply
answer_over g full p fills q is never = by_early (early_reply g.nodes q)
  where
    w : Walk Reply
    w = query_walk g.nodes fills q

    by_early : (o : Option Reply) → peek_from o (said p w)
        ≡ need_or_ready (find (λ k. not (full k)) (unless_early o (looked (all_slots g) (query_walk g.nodes 0 q)))) (reply_by o (reply_said (said (all_slots g) w)))
    by_early (Some r) = refl
    by_early None =
        ap (peek_from None) (first_lacking full g.held p is w)
        ∙ by_found (find (λ k. not (full k)) (looked (all_slots g) w)) (said (all_slots g) w) (never w)
        ∙ ap (λ ks. need_or_ready (find (λ k. not (full k)) ks) (reply_said (said (all_slots g) w))) (sym (looked_same g.nodes (all_slots g) fills q))

pub meets : QueriesMeetTheGraph
meets b j n slots fills q stands =
    ap (λ n. query_answer n slots fills q) stands.nodes
    ∙ answer_over (graph_of b j) (λ k. is_some (slots k)) slots fills q partial (graph_never_lacks b j)
  where
    by_slot : (k : Key) (o : Option Slot) → ((s : Slot) → o ≡ Some s → s ≡ (graph_of b j).held k) → o ≡ (if is_some o then Some ((graph_of b j).held k) else None)
    by_slot k (Some s) is = ap Some (is s refl)
    by_slot k None is = refl

    partial : Partial (λ k. is_some (slots k)) (graph_of b j).held slots
    partial k = by_slot k (slots k) (λ s is. stands.slot k s is)
