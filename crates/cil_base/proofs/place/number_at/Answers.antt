use Rattle.std.proofs.Common.{◌∙◌, ◌^◌, ◌<◌, ℕ, sym, subst, arith}
use Rattle.cil_base.proofs.PlaceLemmas.{number-from, number_small}
use Rattle.cil_base.proofs.place.number_at.Goals as goal

pub returns-clause-value : goal.returns-clause-value
returns-clause-value c = c.read_uint.ensures ∙ number-from c.args.bytes.now c.args.place c.args.width c.requires.room

pub returns-clause-small : goal.returns-clause-small
returns-clause-small c =
    subst (λ (number : ℕ). number < 256 ^ c.args.width) (sym (returns-clause-value c)) (number_small c.args.bytes.now c.args.place c.args.width (λ k. let byte = c.type_inv.bytes k in omega arith))
