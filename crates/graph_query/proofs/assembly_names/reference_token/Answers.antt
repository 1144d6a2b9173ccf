use Rattle.std.proofs.Common.{◌≡◌, ◌∙◌, ap, subst, codes, ℕ, List, IfOk}
use Rattle.node_model.specs.RowTexts.{number_named, reference_key_token}
use Rattle.graph_query.proofs.assembly_names.reference_token.Goals as goal

pub returns : goal.returns
returns c =
    subst (λ (t : List ℕ). IfOk c.token_of_bytes.result (λ token. token ≡ t))
    (ap (λ n. reference_key_token n c.blob_named.result.now) c.number_named-flags.ensures
    ∙ ap (reference_key_token (number_named (codes "Flags") c.args.row.now)) c.blob_named.ensures)
    c.token_of_bytes.ensures
