use Rattle.std.proofs.Common.{◌≡◌, ◌∙◌, ap, subst, ◌++◌, List, ℕ, OnOk, append_assoc, codes}
use Rattle.cil_base.specs.Token.{Token}
use Rattle.md_schema.specs.declared.link.Link.TheVariants.{InterfaceImpl, Nested}
use Rattle.node_model.specs.declared.reply.TypeView.{TypeView}
use Rattle.node_model.specs.declared.value.RowValue.{RowValue}
use Rattle.dump_text.specs.Rows.{row_text}
use Rattle.dump_text.specs.ViewTexts.{next_list_text, rows_text, type_text}
use Rattle.dump_text.proofs.Grown.{grown}
use Rattle.dump_text.proofs.view.add_type_view.Goals as goal

pub returns : goal.returns
unfolding type_text
returns c =
    let old : List ℕ = c.args.text.now in
    let view : TypeView = c.args.view.now in
    let t : Token = view.row.token in
    let row : List ℕ = codes "type " ++ row_text view.row in
    let fields : List ℕ = row ++ rows_text view.fields in
    let methods : List ℕ = fields ++ rows_text view.methods in
    let listed : List ℕ = methods ++ next_list_text t InterfaceImpl view.interfaces in
    let to_row : c.add_row.new.text ≡ old ++ row =
    grown old (codes "type ") (row_text view.row) c.in_ok-extend.ensures.ok c.in_ok-add_row.ensures in
    let to_fields : c.add_rows.new.text ≡ old ++ fields =
    grown old row (rows_text view.fields) to_row
    (c.in_ok-add_rows.ensures ∙ ap (λ (rs : List RowValue). c.add_row.new.text ++ rows_text rs) c.as_slice.ensures) in
    let to_methods : c.add_rows-2.new.text ≡ old ++ methods =
    grown old fields (rows_text view.methods) to_fields
    (c.in_ok-add_rows-2.ensures
    ∙ ap (λ (rs : List RowValue). c.add_rows.new.text ++ rows_text rs) c.as_slice-2.ensures) in
    let to_list : c.add_next_list.new.text ≡ old ++ listed =
    grown old methods (next_list_text t InterfaceImpl view.interfaces) to_methods
    (c.in_ok-add_next_list.ensures
    ∙ ap (λ (ts : List Token). c.add_rows-2.new.text ++ next_list_text t InterfaceImpl ts) c.as_slice-3.ensures) in
    subst (λ t. OnOk c.add_next_list-2.result (c.add_next_list-2.new.text ≡ t))
    (ap (λ (ts : List Token). c.add_next_list.new.text ++ next_list_text t Nested ts) c.as_slice-4.ensures
    ∙ ap (λ l. l ++ next_list_text t Nested view.nested) to_list
    ∙ append_assoc old listed (next_list_text t Nested view.nested))
    c.add_next_list-2.ensures
