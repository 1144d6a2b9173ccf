use Rattle.std.proofs.Common.{◌≡◌, ℕ, List, [], ◌∷◌, ◌++◌, sym, ap, ◌∙◌, arith}
use Rattle.cil_base.specs.Token.{Token}
use Rattle.node_model.specs.Lists.{rows_between}
use Rattle.node_read.proofs.ListLemmas.{no_rows, one_more}
use Rattle.node_read.proofs.lists.rows_between.Goals as goal

pub loop-rid-init : goal.loop-rid-init
loop-rid-init c = c.new-tokens.ensures ∙ no_rows c.args.table c.args.first

pub loop-rid-preserved : goal.loop-rid-preserved
loop-rid-preserved c =
    c.in_ok-push.ensures.ok
    ∙ ap (λ (ts : List Token). ts ++ record { table = c.args.table; rid = c.loop-rid.rid } ∷ []) c.loop-rid.invariant
    ∙ sym (one_more c.args.table c.args.first c.loop-rid.rid (omega arith))

pub returns : goal.returns
returns c =
    let end : c.loop-rid.rid ≡ c.args.last = omega (arith, c.requires.rises) in
    c.loop-rid.invariant ∙ ap (λ (n : ℕ). rows_between c.args.table (c.args.first, n)) end
