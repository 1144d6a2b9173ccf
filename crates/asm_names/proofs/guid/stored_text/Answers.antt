use Rattle.std.proofs.Common.{rules, ◌≡◌, ◌∙◌, ap, subst, IfOk}
use Rattle.uuid.specs.Text.{hyphenated_text, lower}
use Rattle.uuid.specs.Parts.{swap_fields}
use Rattle.asm_names.specs.Guid.{guid_text}
use Rattle.asm_names.proofs.GuidLemmas.{hyphenated_text-swap_fields}
use Rattle.asm_names.proofs.guid.stored_text.Goals as goal

pub returns : goal.returns
returns c =
    let digits : c.as_bytes.result.now ≡ hyphenated_text lower (swap_fields c.copy_from_slice.new.self) =
    c.as_bytes.ensures.value ∙ c.encode_lower-digits.ensures.text ∙ ap (λ u. hyphenated_text lower u) (c.hyphenated.ensures ∙ c.from_bytes_le.ensures) in
    let text : c.as_bytes.result.now ≡ guid_text c.args.stored.now =
    digits ∙ ap (λ b. hyphenated_text lower (swap_fields b)) c.copy_from_slice.ensures.after ∙ hyphenated_text-swap_fields c.args.stored.now c.requires (record { at = λ i. search (rules, c.type_inv.stored i) }) in
    subst (λ x. IfOk c.from_slice.result (λ list. list ≡ x)) text c.from_slice.ensures
