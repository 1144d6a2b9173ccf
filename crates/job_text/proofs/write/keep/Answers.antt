use Rattle.std.proofs.Common.{◌∙◌, ap, cond, true}
use Rattle.std.proofs.lemmas.Map.Text.{btree_set_updates_text}
use Rattle.std.specs.BTreeSet.{contains_text}
use Rattle.std.specs.Prelude.{bytes_eq, string_bytes}
use Rattle.job_text.proofs.write.keep.Goals as goal

pub returns-clause-kept : goal.returns-clause-kept
returns-clause-kept c = λ q.
    btree_set_updates_text (string_bytes c.in_ok-key.key) c.args.seen.now c.insert.new.self true c.in_ok-new.ensures.updates q
    ∙ ap (λ bs. cond (bytes_eq bs q) true (contains_text c.args.seen.now q)) c.in_ok-key.ensures.ok
