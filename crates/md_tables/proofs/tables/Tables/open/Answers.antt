-- What was read is the head of the stream.
use Rattle.std.proofs.Common.{◌≡◌, ◌≤◌, ◌<◌, ◌+◌, ◌*◌, sym, ap, subst, ◌∙◌, refl, arith, slice_index, length}
use Rattle.md_schema.specs.Layout.{first_place, head_of}
use Rattle.md_tables.proofs.LayoutLemmas.{counted_rows, opened_head}
use Rattle.md_tables.proofs.tables.Tables.open.Goals as goal

pub lay_out-laid-requires-clause-few : goal.lay_out-laid-requires-clause-few
lay_out-laid-requires-clause-few c table h =
    let stream = c.args.stream.now in
    let found = c.in-Some-read_counts.found in
    let read = c.in-Some-read_counts.ensures.some in
    subst (λ n. n < 16777216) (sym (counted_rows stream found.0 (slice_index stream 6) found.1 table read h)) (read.few table h)

pub returns-then-laid-stream-clause-refused : goal.returns-then-laid-stream-clause-refused
returns-then-laid-stream-clause-refused c =
    let stream = c.args.stream.now in
    let found = c.in-Some-read_counts.found in
    let read = c.in-Some-read_counts.ensures.some in
    let seen = opened_head stream found.0 (slice_index stream 6) found.1 read refl in
    let end : c.lay_out-laid.result.end ≡ first_place (head_of stream) 64 = c.lay_out-laid.ensures.end ∙ ap (λ h. first_place h 64) seen in
    (λ h. record { supported = c.in_default.ensures.none; heaps = omega arith }, λ whole. omega (arith, end, whole.stands, c.if-laid-stream.true))

pub returns-clause-ok : goal.returns-clause-ok
returns-clause-ok c =
    let stream = c.args.stream.now in
    let found = c.in-Some-read_counts.found in
    let read = c.in-Some-read_counts.ensures.some in
    let seen = opened_head stream found.0 (slice_index stream 6) found.1 read refl in
    let end : c.lay_out-laid.result.end ≡ first_place (head_of stream) 64 = c.lay_out-laid.ensures.end ∙ ap (λ h. first_place h 64) seen in
    record {
      seen = seen;
      whole = record {
        header = omega arith;
        supported = c.in_default.ensures.none;
        heaps = omega arith;
        counted = subst (λ n. 24 + 4 * n ≤ length stream) read.present read.counted;
        few = read.few;
        stands = omega (arith, end, c.if-laid-stream.false);
      };
    }
