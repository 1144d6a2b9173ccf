-- What is said of a key by its slot.
use Rattle.std.proofs.Common.{◌≡◌, refl, sym, subst, ℕ, true, false, List, Some, Result, Ok, Err}
use Rattle.std.specs.Prelude.{◌&&◌}
use Rattle.node_model.specs.Immediate.{read}
use Rattle.node_model.specs.KeyKinds.{has_kind}
use Rattle.node_model.specs.Keys.{is_key_there}
use Rattle.node_model.specs.Walk.{part}
use Rattle.node_model.specs.declared.entry.Entry.{Entry}
use Rattle.node_model.specs.declared.key.Key.{Key}
use Rattle.node_model.specs.declared.slot.Slot.{Slot}
use Rattle.node_model.specs.declared.walk.Halt.{Halt}
use Rattle.node_model.specs.declared.walk.Halt.TheVariants.{Lacks, Faulty}
use Rattle.node_model.proofs.HeldLemmas.{whole}
use Rattle.lazy_core.specs.History.{edits, filled, graph_after}
use Rattle.lazy_core.specs.Legal.{Legal}
use Rattle.lazy_core.specs.inner.Replies.{fits_key, is_whole}
use Rattle.lazy_core.proofs.LawLemmas.{unfilled}
use Rattle.lazy_core.proofs.ReplyLemmas.{known_there}

-- what a key holds is of its kind
pub fits_held : (b : List ℕ) (h : List Entry) (k : Key) (s : Slot) → s ≡ (graph_after b h).held k → fits_key k s ≡ true
fits_held b h k s is = subst (λ t. fits_key k t ≡ true) (sym is) (by_part (part k (Some ((graph_after b h).held k))) (whole b (edits h) k))
  where
    by_part : {A : Type 0} (r : Result A Halt) → ((x : Key) → r ≡ Err (Lacks x) → ⊥) → is_whole r ≡ true
    by_part (Ok v) never = refl
    by_part (Err (Faulty f)) never = refl
    by_part (Err (Lacks x)) never = absurd (never x refl)

-- a key that is there and has no slot holds what the file says
pub read_held : (b : List ℕ) (h : List Entry) (k : Key) → Legal b h → (is_key_there (graph_after b h).nodes.rows k && has_kind k) ≡ true → filled b h k ≡ false
    → read b k ≡ (graph_after b h).held k
read_held b h k legal there free = sym (unfilled b h k legal (known_there b h k there free) free)
