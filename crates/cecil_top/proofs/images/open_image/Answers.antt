use Rattle.std.proofs.Common.{◌∙◌, sym, subst, rules}
use Rattle.cecil_inspect.specs.Inspect.{IsReadImage}
use Rattle.node_read.specs.Image.{IsImageFile, RefusesImage}
use Rattle.cecil_top.proofs.FileLemmas.{file_ends_image, read_image, refused_ends_image}
use Rattle.cecil_top.proofs.images.open_image.Goals as goal

pub returns-in_err-bytes-clause-status : goal.returns-in_err-bytes-clause-status
returns-in_err-bytes-clause-status g c =
    let ends =
    file_ends_image (g.F.Folder.files c.args.folder.now) c.args.name.now c.in_err-bytes.field-0.0
    c.in_err-bytes.ensures.status in
    search rules

pub returns-in-Ok-clause-image : goal.returns-in-Ok-clause-image
returns-in-Ok-clause-image g c =
    let files = g.F.Folder.files c.args.folder.now in
    let opened = c.in-Ok.ensures in
    subst (λ b. IsReadImage files c.args.name.now b) (sym (opened.0 ∙ c.into_vec.ensures))
    (read_image files c.args.name.now c.in_ok-bytes.bytes c.in_ok-bytes.ensures.bytes
    (subst (λ b. IsImageFile b) c.into_vec.ensures opened.2))

pub returns-in-Err-clause-status : goal.returns-in-Err-clause-status
returns-in-Err-clause-status g c =
    refused_ends_image (g.F.Folder.files c.args.folder.now) c.args.name.now c.in_ok-bytes.bytes c.in-Err.cause
    c.refused_status.result c.in_ok-bytes.ensures.bytes
    (subst (λ b. RefusesImage b c.in-Err.cause) c.into_vec.ensures c.in-Err.ensures) c.refused_status.ensures
