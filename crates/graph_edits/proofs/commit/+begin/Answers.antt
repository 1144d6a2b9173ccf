use Rattle.std.proofs.Common.{Bool, ◌-◌, length, take, drop, sym, ap, subst, ◌∙◌, cond, None}
use Rattle.std.specs.Option.{option_or}
use Rattle.node_model.specs.Fresh.{begins_with}
use Rattle.node_model.specs.Keys.{same_key}
use Rattle.node_model.specs.Places.{slot_at}
use Rattle.graph_edits.specs.inner.Making.{BeginsOne, begun_among}
use Rattle.graph_edits.proofs.ListLemmas.{first_of}
use Rattle.graph_edits.proofs.SlotLemmas.{or_or, taken_back}
use Rattle.graph_edits.proofs.commit.+begin.Goals as goal

pub returns-in-Ok-clause-ok : goal.returns-in-Ok-clause-ok
returns-in-Ok-clause-ok t c = λ q.
    let keys = c.args.keys.now in
    let key = c.key-item.result in
    let row = c.args.row.now in
    let sig = c.args.sig.now in
    let old = c.args.slots.now in
    let rest = begun_among row sig (take (length keys - 1) (drop 1 keys)) q in
    c.in-Ok.ensures.ok q
    ∙ ap (λ o. option_or o rest) (c.in_ok-is_new.ensures.new.slots q)
    ∙ or_or (slot_at old q) (cond (same_key q key) (begins_with row sig key) None) rest
    ∙ ap (λ ks. option_or (slot_at old q) (begun_among row sig ks q)) (sym (first_of keys key c.in-len1-up.len_at_least c.key-item.is))

pub returns-else-not-is_new-clause-err : goal.returns-else-not-is_new-clause-err
returns-else-not-is_new-clause-err t c =
    let old = c.args.slots.now in
    let mid = c.begin_one.new.slots in
    let row = c.args.row.now in
    let sig = c.args.sig.now in
    let key = c.key-item.result in
    taken_back old mid c.begin.new.slots c.take.new.self row sig key
    (subst (λ (x : Bool). BeginsOne old mid row sig key x) c.if-not-is_new.false c.in_ok-is_new.ensures.new)
    c.in-Err.ensures.err c.take.ensures.slots
