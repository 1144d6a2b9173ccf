use Rattle.std.proofs.Common.{sym, ◌∙◌, ap, drop}
use Rattle.std.specs.Option.{option_copied}
use Rattle.cil_base.proofs.EntryLemmas.{entry-none, entry-stripped, got-first, all-taken}
use Rattle.cil_base.proofs.entries.entry_at_front.Goals as goal

pub returns-in_err-len : goal.returns-in_err-len
returns-in_err-len c = ap option_copied c.from_residual.ensures ∙ sym (entry-none c.args.bytes.now c.in_err-len.ensures.none)

pub returns : goal.returns
returns c =
    let e = entry-stripped c.in_ok-len.len c.args.bytes.now (drop c.in_ok-len.width c.args.bytes.now) c.in_ok-len.ensures.value in
    let rest = all-taken c.in_ok-len.width c.args.bytes.now in
    got-first c.get.result _ c.in_ok-len.len c.get.ensures.lookup.0 ∙ rw rest (sym e)
