use Rattle.std.proofs.Common.{◌≡◌, ◌+◌, ◌-◌, ◌∙◌, ◌∷◌, ◌++◌, [], map, ap, sym, refl, arith, append-nil}
use Rattle.std.specs.List.{list_any}
use Rattle.pe_image.specs.Places.{u16_at}
use Rattle.pe_image.specs.Streams.{bad_header, header_places, header_width, stream_at}
use Rattle.pe_image.proofs.StreamLemmas.{places-start, read-start, places-done, any-more, any-bad, read-more}
use Rattle.pe_image.proofs.stream.list_streams.Goals as goal

pub loop-number-init : goal.loop-number-init
loop-number-init c =
    let m = c.args.bytes.now in
    let len = c.u32_at-length.result in
    let count = c.u16_at-number-end.result in
    record {
      within = omega arith;
      counted = c.u16_at-number-end.ensures ∙ ap (λ l. u16_at m (18 + l)) c.u32_at-length.ensures;
      sound = ap (list_any (bad_header m)) (places-start m len count c.u32_at-length.ensures c.u16_at-number-end.ensures);
      read = read-start m len count c.new-streams.result c.new-streams.ensures c.u32_at-length.ensures c.u16_at-number-end.ensures;
    }

pub loop-number-preserved : goal.loop-number-preserved
loop-number-preserved c =
    let m = c.args.bytes.now in
    let place = c.loop-number.place in
    let end = c.u16_at-number-end.result in
    let number = c.loop-number.number in
    let streams = c.loop-number.streams in
    let width : c.in-Some.width ≡ header_width m place = cc (c.in-Some.ensures.width) in
    let stream : c.in-Some.stream ≡ stream_at m place = cc (c.in-Some.ensures.stream) in
    let any = any-more m place end number c.loop-number-test.true c.in-Some.ensures.bad in
    let read = read-more m place end number streams c.loop-number-test.true in
    record {
      within = omega (arith, c.in-Some.ensures.within);
      counted = c.loop-number.invariant.counted;
      sound = ap (λ w. list_any (bad_header m) (header_places m (place + w) (end - (number + 1)))) width ∙ sym any ∙ c.loop-number.invariant.sound;
      read =
          ap (λ xs. xs ++ map (stream_at m) (header_places m (place + c.in-Some.width) (end - (number + 1)))) c.in_ok-push.ensures.ok
          ∙ ap (λ s. (streams ++ s ∷ []) ++ map (stream_at m) (header_places m (place + c.in-Some.width) (end - (number + 1)))) stream
          ∙ ap (λ w. (streams ++ stream_at m place ∷ []) ++ map (stream_at m) (header_places m (place + w) (end - (number + 1)))) width
          ∙ read ∙ c.loop-number.invariant.read;
    }

pub returns : goal.returns
returns c =
    let m = c.args.bytes.now in
    let none = places-done m c.loop-number.place c.u16_at-number-end.result c.loop-number.number c.loop-number-test.false in (
      sym c.loop-number.invariant.sound ∙ ap (list_any (bad_header m)) none,
      sym (append-nil c.loop-number.streams) ∙ sym (ap (λ ps. c.loop-number.streams ++ map (stream_at m) ps) none) ∙ c.loop-number.invariant.read,
    )

pub returns-in_default : goal.returns-in_default
returns-in_default c =
    let m = c.args.bytes.now in (
      sym c.loop-number.invariant.sound ∙ any-bad m c.loop-number.place c.u16_at-number-end.result c.loop-number.number c.loop-number-test.true c.in_default.ensures.bad,
      refl,
    )
