use Rattle.std.proofs.Common.{◌≡◌, ◌++◌, ℕ, List, subst}
use Rattle.std.specs.Prelude.{OnOk}
use Rattle.cecil_top.proofs.EndTextLemmas.{unresolved}
use Rattle.cecil_top.proofs.end_text.add_unresolved.Goals as goal

pub returns : goal.returns
returns c =
    subst (λ (s : List ℕ). OnOk c.add_word.result (c.add_word.new.text ≡ c.args.text.now ++ s))
    (unresolved c.args.name.now) c.add_word.ensures
