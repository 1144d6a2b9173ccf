use Rattle.std.proofs.Common.{◌≡◌, ◌+◌, ◌-◌, ◌*◌, ◌≤◌, length, sym, ap, ◌∙◌, arith}
use Rattle.il_read.proofs.SectionSteps.{sections-over, sections-no_head, sections-no_clauses, sections-last, sections-more, clause_size-upto, bounded, flag-off, flag-on}
use Rattle.il_read.proofs.handlers.read_sections.Goals as goal

pub returns-in_default : goal.returns-in_default
returns-in_default c =
    sym (sections-no_head c.loop-turn.handlers c.args.places.now.starts c.args.places.now.count c.args.bytes.now (length c.args.bytes.now - c.loop-turn._turn) c.loop-turn.place c.align-start.result (omega arith) c.align-start.ensures (sym c.in_default.ensures.value))
    ∙ c.loop-turn.invariant.1

pub returns-in_default-2 : goal.returns-in_default-2
returns-in_default-2 c =
    sym (sections-no_clauses c.loop-turn.handlers c.args.places.now.starts c.args.places.now.count c.args.bytes.now (length c.args.bytes.now - c.loop-turn._turn) c.loop-turn.place c.align-start.result c.in-Some.section (omega arith) c.align-start.ensures (sym c.in-Some.ensures.value) (sym c.in_ok-more.ensures ∙ c.in_default-2.is))
    ∙ c.loop-turn.invariant.1

pub returns-then-not-section : goal.returns-then-not-section
returns-then-not-section c =
    sym (sections-last c.loop-turn.handlers c.in-Some-2.more c.args.places.now.starts c.args.places.now.count c.args.bytes.now (length c.args.bytes.now - c.loop-turn._turn) c.loop-turn.place c.align-start.result c.in-Some.section (omega arith) c.align-start.ensures (sym c.in-Some.ensures.value) (sym c.in_ok-more.ensures ∙ c.in-Some-2.is) (flag-off c.in-Some.section.further c.if-not-section.true))
    ∙ c.loop-turn.invariant.1

pub loop-turn-preserved : goal.loop-turn-preserved
loop-turn-preserved c =
    let size = clause_size-upto c.in-Some.section.fat in
    let small : c.in-Some.section.count * c.clause_len.result ≤ c.in-Some.section.count * 24 = bounded c.in-Some.section.count c.clause_len.result 24 (omega (arith, size, c.clause_len.ensures)) in
    let fuel : length c.args.bytes.now - (c.loop-turn._turn + 1) ≡ length c.args.bytes.now - c.loop-turn._turn - 1 = omega arith in (
      omega (arith, small, c.in-Some.ensures.small, c.in-Some.ensures.within),
      rw fuel
          (sym (sections-more c.loop-turn.handlers c.in-Some-2.more c.args.places.now.starts c.args.places.now.count c.args.bytes.now (length c.args.bytes.now - c.loop-turn._turn) c.loop-turn.place c.align-start.result (c.align-start.result + 4 + c.in-Some.section.count * c.clause_len.result) c.in-Some.section (omega arith) c.align-start.ensures (sym c.in-Some.ensures.value) (sym c.in_ok-more.ensures ∙ c.in-Some-2.is) (flag-on c.in-Some.section.further c.if-not-section.false) (ap (λ w. c.align-start.result + 4 + c.in-Some.section.count * w) c.clause_len.ensures))
          ∙ c.loop-turn.invariant.1),
    )

pub returns : goal.returns
returns c =
    sym (sections-over c.loop-turn.handlers c.args.places.now.starts c.args.places.now.count c.args.bytes.now (length c.args.bytes.now - c.loop-turn._turn) c.loop-turn.place (omega arith))
    ∙ c.loop-turn.invariant.1
