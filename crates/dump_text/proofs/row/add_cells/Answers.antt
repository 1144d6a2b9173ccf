use Rattle.std.proofs.Common.{◌≡◌, ◌∙◌, ap, ◌++◌, length, take, arith}
use Rattle.std.specs.List.{flat_map, enumerate_from}
use Rattle.dump_text.specs.Rows.{named_cell}
use Rattle.dump_text.proofs.Enumerated.{all_numbered, numbered_more}
use Rattle.dump_text.proofs.row.add_cells.Goals as goal

pub loop-number-preserved : goal.loop-number-preserved
loop-number-preserved c =
    numbered_more (named_cell c.args.table) c.args.cells.now c.loop-number.number c.index-cells-number.result c.args.text.now
    c.loop-number.text c.add_named.new.text (omega arith) c.index-cells-number.is c.loop-number.invariant c.in_ok-add_named.ensures

pub returns : goal.returns
returns c =
    let all : c.loop-number.number ≡ length c.args.cells.now = omega arith in
    c.loop-number.invariant
    ∙ ap (λ n. c.args.text.now ++ flat_map (named_cell c.args.table) (take n (enumerate_from 0 c.args.cells.now))) all
    ∙ ap (λ cells. c.args.text.now ++ flat_map (named_cell c.args.table) cells) (all_numbered c.args.cells.now)
