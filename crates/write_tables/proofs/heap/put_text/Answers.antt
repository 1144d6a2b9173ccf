use Rattle.std.specs.Option.{option_copied}
use Rattle.node_model.specs.RowTexts.{text_of_cell}
use Rattle.write_tables.proofs.GatherLemmas.{gathers_text}
use Rattle.write_tables.proofs.heap.put_text.Goals as goal

pub returns : goal.returns
returns c =
    gathers_text c.args.heaps.now c.text.new.self c.text_in-text.result.now (text_of_cell (option_copied c.args.cell))
    c.in_ok-index.index c.in_ok-number.number c.text_in-text.ensures c.in_ok-number.ensures c.in_ok-index.ensures.ok c.in_ok-index.ensures.index
