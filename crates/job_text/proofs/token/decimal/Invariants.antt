use Rattle.std.proofs.Common.{◌≡◌, ◌<◌, drop}
use Rattle.job_text.specs.Tokens.{decimal_from}
use Rattle.job_text.proofs.token.decimal.Given as goal

-- the digits to come go on from the number of those before
abbrev pub invariant-loop-digit : goal.invariant-loop-digit
invariant-loop-digit l = record {
  below : l.number < 4096;
  same : decimal_from l.number (drop l.digit-index l.text) ≡ decimal_from 0 l.text;
}
