use Rattle.std.proofs.Common.{◌≡◌, true, rules, tests}
use Rattle.resolver.specs.EnumNames.{is_plus_sign}
use Rattle.resolver.proofs.SplitLemmas.{parts_end}
use Rattle.resolver.proofs.enum_names.with_byte.Goals as goal

pub returns-then-byte-eq43 : goal.returns-then-byte-eq43
returns-then-byte-eq43 c = λ rest.
    let is : is_plus_sign c.args.byte ≡ true = search (rules, tests) in
    rw (c.in_ok-push.ensures.ok, c.new.ensures) (parts_end is_plus_sign c.args.parts.now c.args.part c.args.byte rest is)
