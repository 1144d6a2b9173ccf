use Rattle.std.proofs.Common.{◌∙◌, sym, ap, arith}
use Rattle.job_text.proofs.TokenLemmas.{digit_large}
use Rattle.job_text.specs.Tokens.{command_place}
use Rattle.job_text.proofs.token.decimal.Goals as goal

pub returns-then-number-ge-MOST_COMMANDS-clause-same : goal.returns-then-number-ge-MOST_COMMANDS-clause-same
returns-then-number-ge-MOST_COMMANDS-clause-same c =
    sym (ap command_place (sym c.loop-digit.invariant.same) ∙ digit_large c.loop-digit.number c.args.text.now c.loop-digit.digit-index c.loop-digit-test.true (omega arith) (omega arith) (omega arith))
