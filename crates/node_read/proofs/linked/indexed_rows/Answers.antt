use Rattle.std.proofs.Common.{◌≡◌, List, ◌∙◌}
use Rattle.std.proofs.lemmas.Result.{IfOk-weaker}
use Rattle.cil_base.specs.Token.{Token}
use Rattle.md_schema.specs.LinkedRows.{linked_of}
use Rattle.node_read.specs.inner.Opened.{rows_numbered}
use Rattle.node_read.proofs.IndexedLemmas.{indexed-rows, indexed-small}
use Rattle.node_read.proofs.linked.indexed_rows.Goals as goal

pub rows_numbered-requires : goal.rows_numbered-requires
rows_numbered-requires c =
    let s = c.args.streams.now in
    indexed-small s.tables.now s.head.now c.args.links.now c.args.token c.args.link c.linked.result.now s.opened c.requires c.linked.ensures

pub returns : goal.returns
returns c =
    let s = c.args.streams.now in
    let rids = c.linked.result.now in
    let table = c.link_column.result.table in
    let same = indexed-rows s.tables.now c.args.links.now c.args.token c.args.link table rids c.requires c.linked.ensures c.link_column.ensures.table in
    IfOk-weaker c.rows_numbered.result (λ (rows : List Token). rows ≡ rows_numbered table rids) (λ (rows : List Token). rows ≡ linked_of s.tables.now c.args.token c.args.link)
    (λ rows is. is ∙ same) c.rows_numbered.ensures
