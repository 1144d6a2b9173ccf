use Rattle.std.proofs.Common.{sym, ap, ◌∙◌}
use Rattle.std.specs.Option.{option_copied}
use Rattle.md_heaps.proofs.TextLemmas.{before-none, before-some}
use Rattle.md_heaps.proofs.text.before_zero.Goals as goal

pub returns-in_err-end : goal.returns-in_err-end
returns-in_err-end c = ap option_copied c.from_residual.ensures ∙ sym (before-none c.args.bytes.now (sym c.in_err-end.ensures))

pub returns : goal.returns
returns c = sym (before-some c.args.bytes.now c.in_ok-end.end (sym c.in_ok-end.ensures))
