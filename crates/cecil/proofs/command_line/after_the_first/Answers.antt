use Rattle.std.proofs.Common.{◌≡◌, sym, ◌∙◌, ap, subst, ◌++◌, [], append-nil}
use Rattle.std.proofs.lemmas.List.{nil_from_length}
use Rattle.std.specs.Vec.Iter.{into_iter_items, into_iter_steps}
use Rattle.cecil.proofs.WordLemmas.{without_first}
use Rattle.cecil.proofs.command_line.after_the_first.Goals as goal

pub taking-init : goal.taking-init
taking-init c =
    without_first c.next.result (into_iter_items c.args.args) (into_iter_items c.next.new.self) c.new-words.result.items c.new-words.ensures.items c.next.ensures.items
    (λ none. let gone = subst (λ r. into_iter_steps c.args.args r c.next.new.self) none c.next.ensures.cases in
    nil_from_length (into_iter_items c.next.new.self) (sym c.next.new.self.rest.ok.0 ∙ gone.1))

pub returns : goal.returns
returns c =
    let left : into_iter_items c.taking.args ≡ [] = nil_from_length (into_iter_items c.taking.args) (sym c.taking.args.rest.ok.0 ∙ c.in_default.ensures.cases.0) in
    sym (append-nil c.taking.words.items) ∙ ap (λ l. c.taking.words.items ++ l) (sym left) ∙ c.taking.invariant
