-- What the readers of the streams answer, but for want of memory. No public contract cites these words.
use Rattle.std.specs.Prelude.{◌≡◌, ℕ, List, Result, Ok, Err, true, false}
use Rattle.std.specs.List.{list_any}
use Rattle.pe_image.specs.Places.{first_refusal}
use Rattle.pe_image.specs.Streams.{bad_header, all_headers, stream_list, stream_conditions}
use Rattle.pe_image.specs.declared.refusal.PeFail.{PeFail}
use Rattle.pe_image.specs.declared.refusal.PeFail.TheVariants as fails
use Rattle.pe_image.specs.declared.refusal.PeRefusal.TheVariants.{BadStreams}
use Rattle.pe_image.specs.declared.stream.Stream.{Stream}

-- the streams of all headers, or that one of these is bad
abbrev pub ListsStreams : Result (List Stream) PeFail → List ℕ → Type 0
ListsStreams (Ok streams) m = (list_any (bad_header m) (all_headers m) ≡ false) × (streams ≡ stream_list m)
ListsStreams (Err fails.NoMemory) m = Unit {0}
ListsStreams (Err (fails.Refused refusal)) m = (list_any (bad_header m) (all_headers m) ≡ true) × (refusal ≡ BadStreams)

-- the same, with the refusal where none of them is `#~`
abbrev pub FindsStreams : Result (List Stream) PeFail → List ℕ → Type 0
FindsStreams (Ok streams) m = first_refusal (stream_conditions m) (stream_list m) ≡ Ok streams
FindsStreams (Err fails.NoMemory) m = Unit {0}
FindsStreams (Err (fails.Refused refusal)) m = first_refusal (stream_conditions m) (stream_list m) ≡ Err refusal
