use Rattle.std.proofs.Common.{◌≡◌, [], ap, ◌∙◌}
use Rattle.laid_parts.specs.LaidParts.{laid_part, with_part}
use Rattle.pe_write.specs.Headers.{dos_header_bytes, file_header_bytes, image_kind, optional_header_bytes, section_header_bytes}
use Rattle.pe_write.specs.declared.kind.ImageKind.{ImageKind}
use Rattle.pe_write.proofs.WriteLemmas.{four-more}
use Rattle.pe_write.proofs.image.push_headers.Goals as goal

pub returns : goal.returns
returns c =
    let f = c.args.facts.now in
    let n = c.args.lengths.now in
    let kind = c.kind_of-kind.ensures in
    let dos : c.as_slice.result.now ≡ dos_header_bytes = c.as_slice.ensures ∙ c.in_ok-dos.ensures in
    let file : c.as_slice-2.result.now ≡ file_header_bytes (image_kind f.plus) f = c.as_slice-2.ensures ∙ c.in_ok-file.ensures ∙ ap (λ (k : ImageKind). file_header_bytes k f) kind in
    let optional : c.as_slice-3.result.now ≡ optional_header_bytes (image_kind f.plus) f n.raw n.image = c.as_slice-3.ensures ∙ c.in_ok-optional.ensures ∙ ap (λ (k : ImageKind). optional_header_bytes k f n.raw n.image) kind in
    let section : c.as_slice-4.result.now ≡ section_header_bytes n.used n.raw = c.as_slice-4.ensures ∙ c.in_ok-header.ensures in
    four-more c.args.parts.now c.push.new.self c.push-2.new.self c.push-3.new.self c.push-4.new.self []
    (laid_part 1 dos_header_bytes) (laid_part 1 (file_header_bytes (image_kind f.plus) f)) (laid_part 1 (optional_header_bytes (image_kind f.plus) f n.raw n.image)) (laid_part 1 (section_header_bytes n.used n.raw))
    c.requires
    (c.in_ok-push.ensures.ok ∙ ap (λ s. with_part c.args.parts.now (laid_part 1 s)) dos)
    (c.in_ok-push-2.ensures.ok ∙ ap (λ s. with_part c.push.new.self (laid_part 1 s)) file)
    (c.in_ok-push-3.ensures.ok ∙ ap (λ s. with_part c.push-2.new.self (laid_part 1 s)) optional)
    (c.in_ok-push-4.ensures.ok ∙ ap (λ s. with_part c.push-3.new.self (laid_part 1 s)) section)
