use Rattle.std.proofs.Common.{◌≡◌, ◌∙◌, [], ◌∷◌, ◌+◌, ap, refl, true, false, rules, drop}
use Rattle.std.specs.BTreeSet.{contains_text}
use Rattle.std.specs.Prelude.{bytes_eq, ◌||◌}
use Rattle.serde_json.specs.View.{view}
use Rattle.job_text.proofs.WriteLemmas.{all_over, names_at, or_is, seen_once, seen_twice, was_new, was_seen, write_names}
use Rattle.job_text.specs.Shape.{all_new, write_name}
use Rattle.job_text.proofs.write.all_new.Goals as goal

pub loop-write-init : goal.loop-write-init
loop-write-init c = record { names = []; seen = λ q. rw c.new-seen.ensures.empty refl; same = refl }

pub returns-then-not-branch : goal.returns-then-not-branch
returns-then-not-branch c =
    let h = c.loop-write.invariant in
    let x = c.write_name.result.now in
    let t : contains_text c.loop-write.seen x ≡ true =
    search (rules, was_seen (contains_text c.loop-write.seen x) c.in_ok-keep.field-0 c.in_ok-keep.ensures.new) in
    seen_twice (contains_text c.loop-write.seen x) x h.names (write_names (drop (c.loop-write.write-index + 1) c.args.writes.now)) (h.seen x) t
    ∙ (ap (all_new h.names) (names_at c.args.writes.now c.loop-write.write-index c.write-item.result x c.loop-write-test.true (c.write_name.ensures ∙ ap (λ v. write_name (view v)) c.write-item.is)) ∙ h.same)

pub loop-write-preserved : goal.loop-write-preserved
loop-write-preserved c =
    let h = c.loop-write.invariant in
    let x = c.write_name.result.now in
    let t : contains_text c.loop-write.seen x ≡ false =
    search (rules, was_new (contains_text c.loop-write.seen x) c.in_ok-keep.field-0 c.in_ok-keep.ensures.new) in
    record {
      names = x ∷ h.names;
      seen = λ q. c.in_ok-keep.ensures.kept q ∙ (or_is (bytes_eq x q) (contains_text c.loop-write.seen q) ∙ ap (λ b. bytes_eq x q || b) (h.seen q));
      same = seen_once (contains_text c.loop-write.seen x) x h.names (write_names (drop (c.loop-write.write-index + 1) c.args.writes.now)) (h.seen x) t
          ∙ (ap (all_new h.names) (names_at c.args.writes.now c.loop-write.write-index c.write-item.result x c.loop-write-test.true (c.write_name.ensures ∙ ap (λ v. write_name (view v)) c.write-item.is)) ∙ h.same);
    }

pub returns : goal.returns
returns c = all_over c.loop-write.invariant.names c.args.writes.now c.loop-write.write-index c.loop-write-test.false ∙ c.loop-write.invariant.same
