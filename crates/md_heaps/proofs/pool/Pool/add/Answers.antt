use Rattle.std.proofs.Common.{◌≡◌, ◌+◌, Some, None, length, subst, ap, ◌∙◌, sym, rules}
use Rattle.md_heaps.specs.Pools.{EntriesStay, with_entry}
use Rattle.md_heaps.specs.inner.PoolMap.{IsPoolMap, kept_place}
use Rattle.md_heaps.proofs.PoolLemmas as lemmas
use Rattle.md_heaps.proofs.pool.Pool.add.Goals as goal

pub invariant_of-self-in-None : goal.invariant_of-self-in-None
invariant_of-self-in-None c =
    let none : None ≡ kept_place c.self.inside.places.entries c.args.entry = search rules in
    let grown = lemmas.grown c.self.inside.places.entries c.find_or_put.new.places.entries c.self.inside.size c.args.entry c.self.invariant c.in_ok-known.ensures.kept none in
    let size : c.in-Some.size ≡ c.self.inside.size + length c.args.entry = search rules in
    subst (λ n. IsPoolMap c.find_or_put.new.places.entries n) (sym size) grown.grows

pub returns-in-Some-2-clause-entries : goal.returns-in-Some-2-clause-entries
returns-in-Some-2-clause-entries c =
    let some : Some c.in-Some-2.known ≡ kept_place c.self.inside.places.entries c.args.entry = search rules in
    let known = lemmas.known c.self.inside.places.entries c.find_or_put.new.places.entries c.self.inside.size c.args.entry c.self.invariant c.in_ok-known.ensures.kept c.in-Some-2.known some in
    known.entries ∙ ap (λ es. with_entry es c.args.entry) c.self.view_is

pub returns-in-Some-2-clause-place : goal.returns-in-Some-2-clause-place
returns-in-Some-2-clause-place c =
    let some : Some c.in-Some-2.known ≡ kept_place c.self.inside.places.entries c.args.entry = search rules in
    let known = lemmas.known c.self.inside.places.entries c.find_or_put.new.places.entries c.self.inside.size c.args.entry c.self.invariant c.in_ok-known.ensures.kept c.in-Some-2.known some in
    known.stands

pub returns-in-None-clause-entries : goal.returns-in-None-clause-entries
returns-in-None-clause-entries c =
    let none : None ≡ kept_place c.self.inside.places.entries c.args.entry = search rules in
    let grown = lemmas.grown c.self.inside.places.entries c.find_or_put.new.places.entries c.self.inside.size c.args.entry c.self.invariant c.in_ok-known.ensures.kept none in
    grown.entries ∙ ap (λ es. with_entry es c.args.entry) c.self.view_is

pub returns-in-None-clause-place : goal.returns-in-None-clause-place
returns-in-None-clause-place c =
    let none : None ≡ kept_place c.self.inside.places.entries c.args.entry = search rules in
    let grown = lemmas.grown c.self.inside.places.entries c.find_or_put.new.places.entries c.self.inside.size c.args.entry c.self.invariant c.in_ok-known.ensures.kept none in
    grown.stands

pub returns-in-Some-2-clause-stays : goal.returns-in-Some-2-clause-stays
returns-in-Some-2-clause-stays c =
    let some : Some c.in-Some-2.known ≡ kept_place c.self.inside.places.entries c.args.entry = search rules in
    let known = lemmas.known c.self.inside.places.entries c.find_or_put.new.places.entries c.self.inside.size c.args.entry c.self.invariant c.in_ok-known.ensures.kept c.in-Some-2.known some in
    subst (λ es. EntriesStay c.args.self.now es) (sym (known.entries ∙ ap (λ es. with_entry es c.args.entry) c.self.view_is)) (lemmas.entries_stay c.args.self.now c.args.entry)

pub returns-in-None-clause-stays : goal.returns-in-None-clause-stays
returns-in-None-clause-stays c =
    let none : None ≡ kept_place c.self.inside.places.entries c.args.entry = search rules in
    let grown = lemmas.grown c.self.inside.places.entries c.find_or_put.new.places.entries c.self.inside.size c.args.entry c.self.invariant c.in_ok-known.ensures.kept none in
    subst (λ es. EntriesStay c.args.self.now es) (sym (grown.entries ∙ ap (λ es. with_entry es c.args.entry) c.self.view_is)) (lemmas.entries_stay c.args.self.now c.args.entry)
