use Rattle.std.proofs.Common.{◌<◌, [], ◌∷◌, length, length-append, sym, ap, ◌∙◌, arith}
use Rattle.std.specs.Map.{lookup}
use Rattle.std.specs.Option.{option_or}
use Rattle.node_model.specs.Keys.{same_key}
use Rattle.node_model.specs.Places.{slot_at}
use Rattle.graph_edits.specs.inner.Making.{all_filled}
use Rattle.graph_edits.proofs.SlotLemmas.{filled_last, filled_still, filled_written, written_last}
use Rattle.graph_edits.proofs.commit.+write_all.Goals as goal

pub write_all-requires : goal.write_all-requires
write_all-requires t c =
    let old = c.args.slots.now in
    let rest = c.pop.new.self in
    let filled = ap (all_filled (slot_at old)) (sym c.in-Some.ensures) ∙ c.requires in
    let shorter : length rest < length c.args.contents = omega (arith, ap length c.in-Some.ensures, length-append rest ((c.in-Some.key, c.in-Some.slot) ∷ [])) in (
      omega arith,
      filled_still old c.write.new.slots rest (filled_written old c.write.new.slots c.in-Some.key c.in-Some.slot c.write.ensures.slots)
          (filled_last (slot_at old) rest c.in-Some.key c.in-Some.slot filled).0,
    )

pub returns-clause-slots : goal.returns-clause-slots
returns-clause-slots t c = λ q.
    let old = c.args.slots.now in
    let rest = c.pop.new.self in
    c.write_all.ensures.slots q
    ∙ ap (option_or (lookup (same_key q) rest)) (c.write.ensures.slots q)
    ∙ sym (written_last rest c.in-Some.key q c.in-Some.slot (slot_at old q))
    ∙ ap (λ cs. option_or (lookup (same_key q) cs) (slot_at old q)) (sym c.in-Some.ensures)
