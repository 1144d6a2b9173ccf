use Rattle.std.proofs.Common.{◌≡◌, ◌+◌, ◌*◌, ◌-◌, sym, ◌∙◌, arith}
use Rattle.il_code.specs.Sections.{clause_size}
use Rattle.il_code.specs.Numbering.{numbered_clause, handlers_in}
use Rattle.il_read.proofs.ItemLemmas.{items-added, items-missed, items-over}
use Rattle.il_read.proofs.clause.read_clauses.Goals as goal

pub returns-in_default : goal.returns-in_default
unfolding handlers_in
returns-in_default c =
    sym (items-missed (numbered_clause c.args.places.now.starts c.args.places.now.count c.args.section.fat c.args.bytes.now) (clause_size c.args.section.fat) (c.args.place + c.clause_len-len.result * c.loop-i.i) (c.args.section.count - c.loop-i.i) c.loop-i.all (omega arith) (sym c.in_ok-more.ensures ∙ c.in_default.is))
    ∙ c.loop-i.invariant

pub loop-i-preserved : goal.loop-i-preserved
loop-i-preserved c =
    let next : c.args.place + c.clause_len-len.result * (c.loop-i.i + 1) ≡ c.args.place + c.clause_len-len.result * c.loop-i.i + clause_size c.args.section.fat = omega (arith, c.clause_len-len.ensures) in
    rw next
    (sym (items-added (numbered_clause c.args.places.now.starts c.args.places.now.count c.args.section.fat c.args.bytes.now) (clause_size c.args.section.fat) (c.args.place + c.clause_len-len.result * c.loop-i.i) (c.args.section.count - c.loop-i.i) (c.args.section.count - (c.loop-i.i + 1)) c.loop-i.all c.in-Some.more (omega arith) (sym c.in_ok-more.ensures ∙ c.in-Some.is))
    ∙ c.loop-i.invariant)

pub returns : goal.returns
unfolding handlers_in
returns c =
    sym (items-over (numbered_clause c.args.places.now.starts c.args.places.now.count c.args.section.fat c.args.bytes.now) (clause_size c.args.section.fat) (c.args.place + c.clause_len-len.result * c.loop-i.i) (c.args.section.count - c.loop-i.i) c.loop-i.all (omega arith))
    ∙ c.loop-i.invariant
