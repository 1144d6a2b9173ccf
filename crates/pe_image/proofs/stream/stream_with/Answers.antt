use Rattle.std.proofs.Common.{◌∙◌, rules, tests}
use Rattle.std.proofs.lemmas.Iterator.{YieldsList-from_slice}
use Rattle.std.proofs.lemmas.Iterator.Search.{find_from_yields_List}
use Rattle.pe_image.specs.Streams.{has_stream_name}
use Rattle.pe_image.specs.declared.stream.Stream.{Stream}
use Rattle.pe_image.proofs.stream.stream_with.Goals as goal

pub returns : goal.returns
returns c =
    let xs = c.args.streams.now in
    c.copied.ensures ∙ find_from_yields_List (λ (s : Stream). has_stream_name c.args.name s.name) _ _ c.find.result c.find.ensures.ran (YieldsList-from_slice xs cc) (λ x b q k. search (rules, tests))
