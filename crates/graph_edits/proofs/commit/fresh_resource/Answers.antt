use Rattle.std.proofs.Common.{sym, ap, ◌∙◌}
use Rattle.std.specs.Option.{option_copied}
use Rattle.node_model.specs.Fresh.{resource_begins}
use Rattle.node_model.specs.declared.value.ResourceValue.TheVariants.{Here}
use Rattle.node_model.specs.declared.value.RowValue.{RowValue}
use Rattle.graph_edits.proofs.ColumnLemmas.{fresh_is}
use Rattle.graph_edits.proofs.commit.fresh_resource.Goals as goal

pub returns-in-Some : goal.returns-in-Some
returns-in-Some c =
    c.resource_by.ensures ∙ ap (λ o. resource_begins (option_copied o)) (sym c.in-Some.is) ∙ ap resource_begins c.cell_in.ensures
    ∙ fresh_is c.args.row.now _ _ (ap (λ (r : RowValue). r.token.table) c.row.view_is) (c.as_slice.ensures ∙ ap (λ (r : RowValue). r.cells) c.row.view_is) c.requires

pub returns-in-None : goal.returns-in-None
returns-in-None c =
    ap Here c.new.ensures ∙ ap (λ o. resource_begins (option_copied o)) (sym c.in-None.is) ∙ ap resource_begins c.cell_in.ensures
    ∙ fresh_is c.args.row.now _ _ (ap (λ (r : RowValue). r.token.table) c.row.view_is) (c.as_slice.ensures ∙ ap (λ (r : RowValue). r.cells) c.row.view_is) c.requires
