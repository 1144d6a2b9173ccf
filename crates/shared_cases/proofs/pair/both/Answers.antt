use Rattle.std.proofs.Common.{ap, sym, ◌∙◌}
use Rattle.turn_lock.proofs.TwoPasses.{fresh_two, last_of_one, last_of_two}
use Rattle.shared_cases.proofs.pair.both.Goals as goal

pub returns : goal.returns
returns c =
    let a = last_of_two c.pop.new.self c.in_ok-second.second _ _
    (sym (fresh_two c.args.shared.now c.requires.0) ∙ (sym c.requires.1 ∙ c.in_ok-second.ensures)) in
    let b = last_of_one c.pop-2.new.self c.in_ok-first.first _ (sym a.0 ∙ c.in_ok-first.ensures) in
    record {
      first = ((ap (λ p. p.lock) b, ap (λ p. p.base) b), ap (λ p. p.number) b);
      second = ((ap (λ p. p.lock) a.1, ap (λ p. p.base) a.1), ap (λ p. p.number) a.1);
    }
