use Rattle.std.proofs.Common.{refl, ◌∙◌, ap, arith}
use Rattle.node_model.specs.Keys.{image_rows}
use Rattle.lazy_core.specs.History.{fills}
use Rattle.lazy_core.proofs.HoldsLemmas.{holds_opened}
use Rattle.lazy_core.proofs.lazy.Core.open.Goals as goal

pub invariant_of-result : goal.invariant_of-result
unfolding fills
invariant_of-result c = rw c.new.ensures.items (
  holds_opened c.args.image.value c.row_counts.result c.in_ok-graph.graph (λ table. c.row_counts.ensures.rows table ∙ ap (λ b. image_rows b table) c.deref.ensures)
      c.row_counts.ensures.long c.in_ok-graph.ensures.nodes c.in_ok-graph.ensures.slots c.in_ok-graph.ensures.rows c.in_ok-graph.ensures.shape,
  record { slots = omega arith; entries = omega arith },
  refl,
)
