use Rattle.std.proofs.Common.{◌≡◌, ◌∙◌, ap, subst, ◌++◌, List, ℕ, OnOk, append_assoc, codes}
use Rattle.node_model.specs.declared.reply.MethodView.{MethodView}
use Rattle.node_model.specs.declared.value.RowValue.{RowValue}
use Rattle.dump_text.specs.Rows.{row_text}
use Rattle.dump_text.specs.ViewTexts.{keyed_body, method_text, rows_text, sig_text}
use Rattle.dump_text.proofs.Grown.{grown}
use Rattle.dump_text.proofs.view.add_method_view.Goals as goal

pub returns : goal.returns
unfolding method_text
returns c =
    let old : List ℕ = c.args.text.now in
    let view : MethodView = c.args.view.now in
    let row : List ℕ = codes "method " ++ row_text view.row in
    let own : List ℕ = sig_text view.row.token view.sig in
    let sig : List ℕ = row ++ codes "; " ++ own in
    let params : List ℕ = sig ++ rows_text view.params in
    let body : List ℕ = keyed_body view.row.token view.body in
    let to_row : c.add_row.new.text ≡ old ++ row =
    grown old (codes "method ") (row_text view.row) c.in_ok-extend.ensures.ok c.in_ok-add_row.ensures in
    let behind_row : c.extend-2.new.self ≡ old ++ (row ++ codes "; ") =
    grown old row (codes "; ") to_row c.in_ok-extend-2.ensures.ok in
    let to_sig : c.add_sig.new.text ≡ old ++ sig =
    grown old (row ++ codes "; ") own behind_row c.in_ok-add_sig.ensures in
    let to_params : c.add_rows.new.text ≡ old ++ params =
    grown old sig (rows_text view.params) to_sig
    (c.in_ok-add_rows.ensures ∙ ap (λ (rs : List RowValue). c.add_sig.new.text ++ rows_text rs) c.as_slice.ensures) in
    let behind_params : c.extend-3.new.self ≡ old ++ (params ++ codes "; ") =
    grown old params (codes "; ") to_params c.in_ok-extend-3.ensures.ok in
    subst (λ t. OnOk c.add_keyed_body.result (c.add_keyed_body.new.text ≡ t))
    (ap (λ t. t ++ body) behind_params ∙ append_assoc old (params ++ codes "; ") body) c.add_keyed_body.ensures
