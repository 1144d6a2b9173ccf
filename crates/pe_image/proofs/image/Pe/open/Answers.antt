use Rattle.std.proofs.Common.{◌≡◌, ◌≤◌, ◌∙◌, ℕ, List, length, sym, subst, rules}
use Rattle.std.specs.Prelude.{Ok, Err}
use Rattle.pe_image.specs.Places.{first_refusal}
use Rattle.pe_image.specs.Headers.{header_conditions, headers_of}
use Rattle.pe_image.specs.Metadata.{metadata_extent}
use Rattle.pe_image.specs.Streams.{stream_conditions, stream_list}
use Rattle.pe_image.specs.inner.Reading.{FindsStreams}
use Rattle.pe_image.proofs.Firsts.{first-ok}
use Rattle.pe_image.proofs.MetadataLemmas.{root-whole}
use Rattle.pe_image.proofs.LayoutLemmas.{headers-stop, root-stops, streams-stopped, sections-read, cli-read, image-read}
use Rattle.pe_image.proofs.image.Pe.open.Goals as goal

pub returns-in_err-headers : goal.returns-in_err-headers
returns-in_err-headers c =
    let stopped = headers-stop c.args.file.now c.in_err-headers.field-0.0 (sym c.in_err-headers.ensures.read) in
    search rules

pub read_root-requires-clause-sections : goal.read_root-requires-clause-sections
read_root-requires-clause-sections c =
    let b = c.args.file.now in
    let headers = c.in_ok-headers.headers in
    let is_headers = first-ok (header_conditions b) (headers_of b) headers (sym c.in_ok-headers.ensures.read) in
    c.as_slice-2.ensures ∙ sections-read b headers c.in_ok-sections.sections is_headers c.in_ok-sections.ensures

pub read_root-requires-clause-header : goal.read_root-requires-clause-header
read_root-requires-clause-header c =
    let b = c.args.file.now in
    let headers = c.in_ok-headers.headers in
    let is_headers = first-ok (header_conditions b) (headers_of b) headers (sym c.in_ok-headers.ensures.read) in
    let is_sections = sections-read b headers c.in_ok-sections.sections is_headers c.in_ok-sections.ensures in
    c.bytes_of-cli.ensures ∙ cli-read b headers c.as_slice.result.now is_headers (c.as_slice.ensures ∙ is_sections)

pub returns-in_err-root : goal.returns-in_err-root
returns-in_err-root c =
    let stopped = root-stops c.args.file.now c.in_ok-headers.headers c.in_err-root.field-0.0 (sym c.in_ok-headers.ensures.read) (sym c.in_err-root.ensures) in
    search rules

pub returns-in_err-streams : goal.returns-in_err-streams
returns-in_err-streams c =
    let s = c.in_err-streams.field-0.0 in
    let P = λ (m : List ℕ). FindsStreams (Err s) m in
    let found = subst P c.metadata_bytes-bytes.ensures.bytes c.in_err-streams.ensures in
    let stopped = streams-stopped c.args.file.now c.in_ok-headers.headers c.in_ok-root.root s (sym c.in_ok-headers.ensures.read) (sym c.in_ok-root.ensures) found in
    search rules

pub read_facts-requires-clause-headers : goal.read_facts-requires-clause-headers
read_facts-requires-clause-headers c =
    let b = c.args.file.now in
    first-ok (header_conditions b) (headers_of b) c.in_ok-headers.headers (sym c.in_ok-headers.ensures.read)

pub read_facts-requires-clause-cli : goal.read_facts-requires-clause-cli
read_facts-requires-clause-cli c =
    let b = c.args.file.now in
    let headers = c.in_ok-headers.headers in
    let is_headers = first-ok (header_conditions b) (headers_of b) headers (sym c.in_ok-headers.ensures.read) in
    let is_sections = sections-read b headers c.in_ok-sections.sections is_headers c.in_ok-sections.ensures in
    let cli = c.bytes_of-cli.ensures ∙ cli-read b headers c.as_slice.result.now is_headers (c.as_slice.ensures ∙ is_sections) in
    let P = λ (xs : List ℕ). 72 ≤ length xs in
    (cli, subst P (sym cli) (root-whole b (metadata_extent b) c.in_ok-root.root (sym c.in_ok-root.ensures)).cli)

pub read_resources-resources-requires-clause-cli : goal.read_resources-resources-requires-clause-cli
read_resources-resources-requires-clause-cli c =
    let b = c.args.file.now in
    let headers = c.in_ok-headers.headers in
    let is_headers = first-ok (header_conditions b) (headers_of b) headers (sym c.in_ok-headers.ensures.read) in
    let is_sections = sections-read b headers c.in_ok-sections.sections is_headers c.in_ok-sections.ensures in
    c.bytes_of-cli.ensures ∙ cli-read b headers c.as_slice.result.now is_headers (c.as_slice.ensures ∙ is_sections)

pub read_resources-resources-requires-clause-room : goal.read_resources-resources-requires-clause-room
read_resources-resources-requires-clause-room c =
    let b = c.args.file.now in
    let headers = c.in_ok-headers.headers in
    let is_headers = first-ok (header_conditions b) (headers_of b) headers (sym c.in_ok-headers.ensures.read) in
    let is_sections = sections-read b headers c.in_ok-sections.sections is_headers c.in_ok-sections.ensures in
    let cli = c.bytes_of-cli.ensures ∙ cli-read b headers c.as_slice.result.now is_headers (c.as_slice.ensures ∙ is_sections) in
    let P = λ (xs : List ℕ). 72 ≤ length xs in
    subst P (sym cli) (root-whole b (metadata_extent b) c.in_ok-root.root (sym c.in_ok-root.ensures)).cli

pub returns : goal.returns
returns c =
    let b = c.args.file.now in
    let headers = c.in_ok-headers.headers in
    let is_headers = first-ok (header_conditions b) (headers_of b) headers (sym c.in_ok-headers.ensures.read) in
    let is_sections = sections-read b headers c.in_ok-sections.sections is_headers c.in_ok-sections.ensures in
    let P = λ (m : List ℕ). first_refusal (stream_conditions m) (stream_list m) ≡ Ok c.in_ok-streams.streams in
    let is_streams = subst P c.metadata_bytes-bytes.ensures.bytes c.in_ok-streams.ensures in
    image-read b headers c.in_ok-sections.sections c.in_ok-root.root c.in_ok-streams.streams c.in_ok-facts.facts c.read_resources-resources.result (sym c.in_ok-headers.ensures.read) is_sections (sym c.in_ok-root.ensures) is_streams c.in_ok-facts.ensures c.read_resources-resources.ensures
