-- The list of the link has the rows of the token's number.
use Rattle.std.proofs.Common.{List, map, ap, sym, ◌∙◌}
use Rattle.md_schema.specs.Reference.{is_named}
use Rattle.md_tables.proofs.IndexLemmas.{at_number, filter_none, list_there, rids_in-kind}
use Rattle.md_tables.specs.LinkIndex.{list_in, rids_at}
use Rattle.md_tables.specs.declared.link_row.LinkRow.{LinkRow}
use Rattle.md_tables.proofs.link_index.LinkIndex.linked.Goals as goal

pub returns-in-None : goal.returns-in-None
returns-in-None c =
    let kind = c.link_kind.result in
    let token = c.args.token in
    let list = list_in c.args.self.now c.args.link in
    let none = filter_none (λ (row : LinkRow). is_named kind row.number token) (λ row. c.in-None.ensures.none row.number) list in
    sym (rids_in-kind c.args.self.now token c.args.link kind c.link_kind.ensures ∙ ap (map (λ (row : LinkRow). row.rid)) none)

pub returns-in-Some : goal.returns-in-Some
returns-in-Some c =
    let kind = c.link_kind.result in
    let token = c.args.token in
    let list = list_in c.args.self.now c.args.link in
    let here = at_number kind token c.in-Some.number c.in-Some.ensures.some list in
    let lists = c.self.inside.lists.items in
    let there = list_there lists c.args.link c.link_place.result c.index.result.now c.self.invariant c.link_place.ensures.within c.link_place.ensures.place c.index.ensures in
    let same = there ∙ ap (λ (index : List (List LinkRow)). list_in index c.args.link) c.self.view_is in
    c.at.ensures ∙ ap (λ (rows : List LinkRow). rids_at rows c.in-Some.number) same ∙ sym here ∙ sym (rids_in-kind c.args.self.now token c.args.link kind c.link_kind.ensures)
