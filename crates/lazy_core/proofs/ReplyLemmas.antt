-- What is said to a query over the slots of a core, and which keys are known.
use Rattle.std.proofs.Common.{◌≡◌, refl, sym, ◌∙◌, ap, ℕ, Bool, true, false, List, find, not, if◌then◌else◌}
use Rattle.std.specs.Prelude.{Option, Some, None, ◌&&◌, ◌||◌}
use Rattle.std.specs.List.{list_any}
use Rattle.node_model.specs.Graph.{Graph}
use Rattle.node_model.specs.KeyKinds.{has_kind}
use Rattle.node_model.specs.Keys.{image_rows, is_key, is_key_there, is_of_root, is_row, token_of_key}
use Rattle.node_model.specs.Look.{key_status}
use Rattle.node_model.specs.Questions.{status_reply}
use Rattle.node_model.specs.Replies.{reach, reply}
use Rattle.node_model.specs.declared.entry.Entry.{Entry}
use Rattle.node_model.specs.declared.key.Key.{Key}
use Rattle.node_model.specs.declared.nodes.RowStatus.TheVariants.{Live}
use Rattle.node_model.specs.declared.query.Query.{Query}
use Rattle.node_model.specs.declared.slot.Slot.{Slot}
use Rattle.node_model.proofs.HeldLemmas.{graph_never_lacks}
use Rattle.node_model.proofs.KnownQueries.{key_known}
use Rattle.graph_query.specs.Answered.{query_answer}
use Rattle.graph_query.specs.AnswersMeet.{need_or_ready}
use Rattle.graph_query.proofs.AnswerLemmas.{answer_over}
use Rattle.lazy_core.specs.History.{edits, filled, fills, graph_after, is_fill_of}
use Rattle.lazy_core.specs.Slots.{slot_after}
use Rattle.lazy_core.specs.Steps.{peek_at, peeked}

chosen : (b : List ℕ) (h : List Entry) (q : Query) (o : Option Key) → need_or_ready o (reply (graph_after b h) (fills h) q) ≡ peek_at b h q o
chosen b h q (Some k) = refl
chosen b h q None = refl

partial : (b : List ℕ) (h : List Entry) (k : Key) → slot_after b h k ≡ (if filled b h k then Some ((graph_after b h).held k) else None)
unfolding slot_after
partial b h k = refl

-- what is answered over the slots that are kept after a history is what a peek says
pub peeked_over : (b : List ℕ) (h : List Entry) (q : Query) (p : Key → Option Slot) → ((k : Key) → p k ≡ slot_after b h k)
    → query_answer (graph_after b h).nodes p (fills h) q ≡ peeked b h q
unfolding peeked
peeked_over b h q p is =
    answer_over (graph_after b h) (filled b h) p (fills h) q (λ k. is k ∙ partial b h k) (graph_never_lacks b (edits h))
    ∙ chosen b h q (find (λ k. not (filled b h k)) (reach (graph_after b h) q))

-- a live key of its kind is known
pub live_known : (g : Graph) (k : Key) → Live ≡ key_status g.nodes k → has_kind k ≡ true → (is_key_there g.nodes.rows k && has_kind k) ≡ true
live_known g k live kind =
    key_known g.nodes k (ap (λ s. status_reply s (has_kind k) (token_of_key k)) (sym live) ∙ ap (λ x. status_reply Live x (token_of_key k)) kind)

-- where it is not filled either, it is one of the image
by_known : (root row own fill kind : Bool) → ((root || row) && kind) ≡ true → (fill || ((row && not own) && kind)) ≡ false → ((root || own) && kind) ≡ true
by_known true row own fill true e f = refl
by_known true row own fill false e f = absurd cc
by_known false true true fill true e f = refl
by_known false true false true true e f = absurd cc
by_known false true false false true e f = absurd cc
by_known false true own fill false e f = absurd cc
by_known false false own fill kind e f = absurd cc

pub known_there : (b : List ℕ) (h : List Entry) (k : Key) → (is_key_there (graph_after b h).nodes.rows k && has_kind k) ≡ true → filled b h k ≡ false → is_key b k ≡ true
unfolding is_key filled
known_there b h k there free =
    by_known (is_of_root k) (is_row (graph_after b h).nodes.rows (token_of_key k)) (is_row (image_rows b) (token_of_key k)) (list_any (is_fill_of k) h) (has_kind k)
    there free
