-- A file is an image or has one refusal.
use Rattle.std.proofs.Common.{◌≡◌, Result, Err, true, false, refl, sym, ap, ◌∙◌}
use Rattle.std.specs.Result.{IsOk, is_ok}
use Rattle.md_tables.proofs.RefusalLemmas.{whole_is_not_refused}
use Rattle.pe_image.specs.Layout.{pe_layout}
use Rattle.pe_image.specs.Streams.{stream}
use Rattle.pe_image.specs.declared.stream.StreamName.TheVariants as streams
use Rattle.node_read.specs.Image.{ImageIsNotRefused}
use Rattle.node_read.specs.declared.image.OpenRefusal.TheVariants.{Pe, Tables, NoMemory}

err-ok : {A E : Type 0} (r : Result A E) (e : E) → r ≡ Err e → IsOk r → ⊥
err-ok r e is ok = let clash : false ≡ true = ap is_ok (sym is) ∙ ok in cc

pub image_is_not_refused : ImageIsNotRefused
image_is_not_refused b (Pe r) (Pe q) n m e =
    (λ image. err-ok (pe_layout b) r e image.laid, λ f. let same : r ≡ q = cc in ap Pe same)
image_is_not_refused b (Pe r) (Tables q) n m e =
    (λ image. err-ok (pe_layout b) r e image.laid, λ f. absurd (err-ok (pe_layout b) r e f.0))
image_is_not_refused b (Tables r) (Pe q) n m e =
    (λ image. (whole_is_not_refused (stream b streams.Tables) r r e.1).0 image.whole, λ f. absurd (err-ok (pe_layout b) q f e.0))
image_is_not_refused b (Tables r) (Tables q) n m e =
    (λ image. (whole_is_not_refused (stream b streams.Tables) r q e.1).0 image.whole, λ f. ap Tables ((whole_is_not_refused (stream b streams.Tables) r q e.1).1 f.1))
image_is_not_refused b (Pe r) NoMemory n m e = absurd (m refl)
image_is_not_refused b (Tables r) NoMemory n m e = absurd (m refl)
image_is_not_refused b NoMemory other n m e = absurd (n refl)
