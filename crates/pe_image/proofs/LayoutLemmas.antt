-- What is known of an image that was opened, and how the parts of the reading make the layout.
use Rattle.std.proofs.Common.{◌≡◌, ◌∙◌, ℕ, false, List, [], ◌∷◌, ◌++◌, sym, ap}
use Rattle.std.specs.Prelude.{Ok, Err, is_none}
use Rattle.std.specs.List.{list_any}
use Rattle.pe_image.specs.Places.{first_refusal}
use Rattle.pe_image.specs.Headers.{header_conditions, headers_of, cli_rva}
use Rattle.pe_image.specs.Sections.{section_headers_at, section_list, section_of, bytes_in, bytes_from}
use Rattle.pe_image.specs.CliHeader.{cli_header, resources_rva}
use Rattle.pe_image.specs.Metadata.{metadata, metadata_extent, root_conditions}
use Rattle.pe_image.specs.Streams.{bad_header, all_headers, stream_list, stream_named, stream_conditions}
use Rattle.pe_image.specs.inner.Reading.{FindsStreams}
use Rattle.pe_image.specs.Facts.{image_facts}
use Rattle.pe_image.specs.Layout.{pe_layout, laid_pe, pe_conditions, OpensPe}
use Rattle.pe_image.specs.declared.image.Pe.{Pe}
use Rattle.pe_image.specs.declared.section.Section.{Section}
use Rattle.pe_image.specs.declared.facts.Facts.{Facts}
use Rattle.pe_image.specs.declared.refusal.PeFail.{PeFail}
use Rattle.pe_image.specs.declared.refusal.PeFail.TheVariants as fails
use Rattle.pe_image.specs.declared.stream.Stream.{Stream}
use Rattle.pe_image.specs.declared.stream.StreamName.TheVariants.{Tables}
use Rattle.pe_image.specs.declared.headers.Headers.{Headers}
use Rattle.pe_image.specs.declared.metadata.Extent.{Extent}
use Rattle.pe_image.specs.declared.refusal.PeRefusal.{PeRefusal}
use Rattle.pe_image.specs.declared.refusal.PeRefusal.TheVariants.{BadStreams, NoTables}
use Rattle.pe_image.proofs.Firsts.{first-ok, first-past, first-stops, first-front, first-back, first-any, first-fails, first-head}

pub record Opened (b : List ℕ) (pe : Pe) : Type 0 where
  pub sections : pe.sections ≡ section_list b
  pub streams : pe.streams ≡ stream_list (metadata b)
  pub facts : pe.facts ≡ image_facts b
  pub resources : pe.resources ≡ resources_rva b
  pub root : first_refusal (root_conditions b) (metadata_extent b) ≡ Ok pe.root
  pub sound : list_any (bad_header (metadata b)) (all_headers (metadata b)) ≡ false

sound_streams : {A : Type 0} (m : List ℕ) (a x : A) → first_refusal (stream_conditions m) a ≡ Ok x → list_any (bad_header m) (all_headers m) ≡ false
unfolding stream_conditions
sound_streams m a x h =
    (first-head (list_any (bad_header m) (all_headers m), BadStreams) ((is_none (stream_named (stream_list m) Tables), NoTables) ∷ []) a x h).0

pub opened : (b : List ℕ) (pe : Pe) → pe_layout b ≡ Ok pe → Opened b pe
unfolding pe_layout laid_pe pe_conditions
opened b pe h =
    let m = metadata b in
    let same = first-ok (pe_conditions b) (laid_pe b) pe h in
    let rest = first-back (header_conditions b) (root_conditions b ++ stream_conditions m) (laid_pe b) pe h in
    let root = first-front (root_conditions b) (stream_conditions m) (laid_pe b) pe (metadata_extent b) rest in
    let streams = first-back (root_conditions b) (stream_conditions m) (laid_pe b) pe rest in
    record {
      sections = ap (λ (p : Pe). p.sections) same;
      streams = ap (λ (p : Pe). p.streams) same;
      facts = ap (λ (p : Pe). p.facts) same;
      resources = ap (λ (p : Pe). p.resources) same;
      root = root ∙ ap Ok (sym (ap (λ (p : Pe). p.root) same));
      sound = sound_streams m (laid_pe b) pe streams;
    }

pub headers-stop : (b : List ℕ) (e : PeRefusal) → first_refusal (header_conditions b) (headers_of b) ≡ Err e → pe_layout b ≡ Err e
unfolding pe_layout pe_conditions
headers-stop b e h = first-stops (header_conditions b) (root_conditions b ++ stream_conditions (metadata b)) (headers_of b) e (laid_pe b) h

pub root-stops : (b : List ℕ) (headers : Headers) (e : PeRefusal) → first_refusal (header_conditions b) (headers_of b) ≡ Ok headers → first_refusal (root_conditions b) (metadata_extent b) ≡ Err e → pe_layout b ≡ Err e
unfolding pe_layout pe_conditions
root-stops b headers e h r =
    first-past (header_conditions b) (root_conditions b ++ stream_conditions (metadata b)) (headers_of b) headers (laid_pe b) h
    ∙ first-stops (root_conditions b) (stream_conditions (metadata b)) (metadata_extent b) e (laid_pe b) r

pub streams-stop : (b : List ℕ) (headers : Headers) (root : Extent) (e : PeRefusal) → first_refusal (header_conditions b) (headers_of b) ≡ Ok headers → first_refusal (root_conditions b) (metadata_extent b) ≡ Ok root → first_refusal (stream_conditions (metadata b)) (stream_list (metadata b)) ≡ Err e → pe_layout b ≡ Err e
unfolding pe_layout pe_conditions
streams-stop b headers root e h r s =
    first-past (header_conditions b) (root_conditions b ++ stream_conditions (metadata b)) (headers_of b) headers (laid_pe b) h
    ∙ first-past (root_conditions b) (stream_conditions (metadata b)) (metadata_extent b) root (laid_pe b) r
    ∙ first-fails (stream_conditions (metadata b)) (stream_list (metadata b)) e (laid_pe b) s

pub laid-out : (b : List ℕ) (headers : Headers) (root : Extent) (streams : List Stream) → first_refusal (header_conditions b) (headers_of b) ≡ Ok headers → first_refusal (root_conditions b) (metadata_extent b) ≡ Ok root → first_refusal (stream_conditions (metadata b)) (stream_list (metadata b)) ≡ Ok streams → pe_layout b ≡ Ok (laid_pe b)
unfolding pe_layout pe_conditions
laid-out b headers root streams h r s =
    first-past (header_conditions b) (root_conditions b ++ stream_conditions (metadata b)) (headers_of b) headers (laid_pe b) h
    ∙ first-past (root_conditions b) (stream_conditions (metadata b)) (metadata_extent b) root (laid_pe b) r
    ∙ first-any (stream_conditions (metadata b)) (stream_list (metadata b)) streams (laid_pe b) s

-- the parts of the reading, in the words of the layout
pub sections-read : (b : List ℕ) (headers : Headers) (sections : List Section) → headers ≡ headers_of b → sections ≡ section_headers_at b headers.sections headers.count → sections ≡ section_list b
sections-read b headers sections h s = s ∙ ap (λ (x : Headers). section_headers_at b x.sections x.count) h

pub cli-read : (b : List ℕ) (headers : Headers) (sections : List Section) → headers ≡ headers_of b → sections ≡ section_list b → bytes_in b headers.cli (section_of sections headers.cli) ≡ cli_header b
unfolding cli_header bytes_from
cli-read b headers sections h s =
    ap (λ (x : Headers). bytes_in b x.cli (section_of sections x.cli)) h ∙ ap (λ xs. bytes_in b (cli_rva b) (section_of xs (cli_rva b))) s

pub streams-stopped : (b : List ℕ) (headers : Headers) (root : Extent) (s : PeFail) → first_refusal (header_conditions b) (headers_of b) ≡ Ok headers → first_refusal (root_conditions b) (metadata_extent b) ≡ Ok root → FindsStreams (Err s) (metadata b) → OpensPe (Err s) b
streams-stopped b headers root fails.NoMemory h r f = tt
streams-stopped b headers root (fails.Refused e) h r f = streams-stop b headers root e h r f

pub image-read : (b : List ℕ) (headers : Headers) (sections : List Section) (root : Extent) (streams : List Stream) (facts : Facts) (resources : ℕ) → first_refusal (header_conditions b) (headers_of b) ≡ Ok headers → sections ≡ section_list b → first_refusal (root_conditions b) (metadata_extent b) ≡ Ok root → first_refusal (stream_conditions (metadata b)) (stream_list (metadata b)) ≡ Ok streams → facts ≡ image_facts b → resources ≡ resources_rva b → pe_layout b ≡ Ok (record { sections = sections; root = root; streams = streams; facts = facts; resources = resources })
unfolding laid_pe
image-read b headers sections root streams facts resources h s r t f g =
    let is_root = first-ok (root_conditions b) (metadata_extent b) root r in
    let is_streams = first-ok (stream_conditions (metadata b)) (stream_list (metadata b)) streams t in
    let same : laid_pe b ≡ record { sections = sections; root = root; streams = streams; facts = facts; resources = resources } = cc in
    laid-out b headers root streams h r t ∙ ap Ok same
