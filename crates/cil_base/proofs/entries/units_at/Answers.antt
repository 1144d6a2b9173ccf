use Rattle.std.proofs.Common.{arith, ◌≡◌, ℕ, ◌-◌, ◌*◌, ◌/◌, ◌%◌, Some, length, take, sym, ◌∙◌, ap}
use Rattle.std.specs.Option.{option_copied}
use Rattle.cil_base.specs.Heaps.{entry}
use Rattle.cil_base.proofs.EntryLemmas.{units-of, units-none}
use Rattle.cil_base.proofs.entries.units_at.Goals as goal

pub returns-in_err-content : goal.returns-in_err-content
returns-in_err-content c =
    let none = ap entry (sym c.from_index.ensures) ∙ sym c.in_err-content.ensures in
    ap option_copied c.from_residual.ensures ∙ sym (units-none c.args.heap.now c.args.index none)

pub returns : goal.returns
returns c =
    let content = c.in_ok-content.content.now in
    let found = ap entry (sym c.from_index.ensures) ∙ sym c.in_ok-content.ensures in
    let even : length c.in_ok-content.content.now / 2 * 2 ≡ length c.in_ok-content.content.now - length c.in_ok-content.content.now % 2 = omega arith in
    ap (λ (n : ℕ). Some (take n content)) even ∙ sym (units-of c.args.heap.now c.args.index content found)
