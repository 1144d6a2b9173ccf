use Rattle.std.proofs.Common.{◌∙◌, subst, map, arith, rules}
use Rattle.std.specs.Prelude.{IsUtf8}
use Rattle.cecil_inspect.specs.Inspect.{IsReadImage}
use Rattle.lazy_core.specs.Slots.{CoreState}
use Rattle.cecil_top.specs.inner.ToolSteps.{EndsImage}
use Rattle.cecil_top.proofs.FileLemmas.{first_ends_images, rose_before, taken_all, taken_more}
use Rattle.cecil_top.proofs.PlaceLemmas.{all_at, read_at}
use Rattle.cecil_top.proofs.images.open_images.Goals as goal

pub text_of-requires : goal.text_of-requires
text_of-requires g c =
    all_at IsUtf8 c.args.names.now c.requires c.loop-name.name-index c.name-item.result
    (read_at c.args.names.now c.loop-name.name-index c.name-item.result (search rules) c.name-item.is)

pub loop-name-preserved : goal.loop-name-preserved
loop-name-preserved g c =
    let files = c.loop-name.invariant.1 in
    let before = c.loop-name.invariant.2 in
    let now = c.in_ok-core.ensures.later in (
      taken_more (g.F.Folder.files c.args.folder.now) (g.F.Folder.files c.loop-name.folder) c.args.names.now
          c.loop-name.name-index c.name-item.result c.loop-name.cores c.push_core.new.cores c.in_ok-core.core (search rules)
          c.name-item.is files c.loop-name.invariant.0
          (subst (λ n. IsReadImage (g.F.Folder.files c.loop-name.folder) n c.in_ok-core.core.bytes) c.text_of.ensures
          c.in_ok-core.ensures.image) c.in_ok-core.ensures.untouched
          c.in_ok-push_core.ensures.core,
      c.in_ok-core.ensures.files ∙ files,
      omega (arith, before, now),
    )

pub returns-clause-images : goal.returns-clause-images
returns-clause-images g c =
    taken_all (g.F.Folder.files c.args.folder.now) c.args.names.now c.loop-name.cores c.loop-name.name-index (search rules)
    c.loop-name.invariant.0

pub returns-in_err-core-clause-status : goal.returns-in_err-core-clause-status
returns-in_err-core-clause-status g c =
    let files = g.F.Folder.files c.args.folder.now in
    let name = c.name-item.result in
    let status = c.in_err-core.field-0.0 in
    let ends =
    first_ends_images files c.args.names.now (map (λ (core : CoreState). core.bytes) c.loop-name.cores)
    c.loop-name.name-index name status
    (read_at c.args.names.now c.loop-name.name-index name (search rules) c.name-item.is)
    c.loop-name.invariant.0.images
    (subst (λ f. EndsImage f name status) c.loop-name.invariant.1
    (subst (λ n. EndsImage (g.F.Folder.files c.loop-name.folder) n status) c.text_of.ensures
    c.in_err-core.ensures.status)) in
    search rules

pub returns-in_err-core-clause-read : goal.returns-in_err-core-clause-read
returns-in_err-core-clause-read g c = λ is.
    rose_before (g.F.Folder.faults c.args.folder.now) (g.F.Folder.faults c.loop-name.folder)
    (g.F.Folder.faults c.open_image.new.folder) c.loop-name.invariant.2
    (c.in_err-core.ensures.read (search (rules, is)))
