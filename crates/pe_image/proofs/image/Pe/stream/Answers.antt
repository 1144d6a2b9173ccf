use Rattle.std.proofs.Common.{◌≡◌, ◌+◌, ◌≤◌, ◌∙◌, ℕ, List, length, ap, sym, subst, rules}
use Rattle.std.specs.Prelude.{Option, Some, None, Ok, slice_range}
use Rattle.pe_image.specs.Metadata.{metadata}
use Rattle.pe_image.specs.Streams.{stream, stream_in, stream_list, stream_named}
use Rattle.pe_image.specs.Layout.{pe_layout}
use Rattle.pe_image.specs.declared.image.Pe.{Pe}
use Rattle.pe_image.specs.declared.stream.Stream.{Stream}
use Rattle.pe_image.specs.declared.stream.StreamName.{StreamName}
use Rattle.pe_image.proofs.LayoutLemmas.{opened}
use Rattle.pe_image.proofs.StreamLemmas.{found-within}
use Rattle.pe_image.proofs.image.Pe.stream.Goals as goal

found_is : (b : List ℕ) (pe : Pe) (streams : List Stream) (name : StreamName) (r : Option Stream) → pe_layout b ≡ Ok pe → streams ≡ pe.streams → r ≡ stream_named streams name → r ≡ stream_named (stream_list (metadata b)) name
found_is b pe streams name r h s e = e ∙ ap (λ xs. stream_named xs name) (s ∙ (opened b pe h).streams)

pub metadata_bytes-bytes-requires : goal.metadata_bytes-bytes-requires
metadata_bytes-bytes-requires c = (opened c.args.file.now c.args.self.now c.requires).root

pub returns-in_default : goal.returns-in_default
unfolding stream
returns-in_default c =
    ap (stream_in (metadata c.args.file.now)) (found_is c.args.file.now c.args.self.now c.as_slice.result.now c.args.name None c.requires c.as_slice.ensures c.in_default.ensures)

pub slice_bounds-result-end-2 : goal.slice_bounds-result-end-2
slice_bounds-result-end-2 c =
    let b = c.args.file.now in
    let found = found_is b c.args.self.now c.as_slice.result.now c.args.name (Some c.in-Some.found) c.requires c.as_slice.ensures c.in-Some.ensures in
    let within = found-within (metadata b) c.args.name c.in-Some.found (opened b c.args.self.now c.requires).sound (sym found) in
    let P = λ (m : List ℕ). c.in-Some.found.offset + c.in-Some.found.size ≤ length m in
    let inside = subst P (sym c.metadata_bytes-bytes.ensures.bytes) within in
    search rules

pub returns : goal.returns
unfolding stream
returns c =
    let b = c.args.file.now in
    let found = found_is b c.args.self.now c.as_slice.result.now c.args.name (Some c.in-Some.found) c.requires c.as_slice.ensures c.in-Some.ensures in
    ap (λ m. slice_range m c.in-Some.found.offset (c.in-Some.found.offset + c.in-Some.found.size)) c.metadata_bytes-bytes.ensures.bytes
    ∙ ap (stream_in (metadata b)) found
