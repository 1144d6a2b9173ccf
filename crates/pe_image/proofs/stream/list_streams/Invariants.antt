use Rattle.std.proofs.Common.{◌≡◌, ◌+◌, ◌-◌, ◌≤◌, ◌++◌, length, map}
use Rattle.std.specs.List.{list_any}
use Rattle.pe_image.specs.Places.{u16_at}
use Rattle.pe_image.specs.Metadata.{version_length}
use Rattle.pe_image.specs.Streams.{bad_header, header_places, all_headers, stream_at, stream_list}
use Rattle.pe_image.proofs.stream.list_streams.Given as goal

abbrev pub invariant-loop-number : goal.invariant-loop-number
invariant-loop-number l = record {
  within : l.place ≤ length l.bytes;
  counted : l.number-end ≡ u16_at l.bytes (18 + version_length l.bytes);
  sound : list_any (bad_header l.bytes) (header_places l.bytes l.place (l.number-end - l.number)) ≡ list_any (bad_header l.bytes) (all_headers l.bytes);
  read : l.streams ++ map (stream_at l.bytes) (header_places l.bytes l.place (l.number-end - l.number)) ≡ stream_list l.bytes;
}
