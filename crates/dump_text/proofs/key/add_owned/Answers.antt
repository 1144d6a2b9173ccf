use Rattle.std.proofs.Common.{◌≡◌, ◌∙◌, ap, subst, ◌++◌, ◌∷◌, [], List, ℕ, OnOk, append_assoc, codes}
use Rattle.sig_tree.specs.Printed.{own_text}
use Rattle.dump_text.proofs.key.add_owned.Goals as goal

pub returns : goal.returns
returns c =
    let front : List ℕ = codes "owned " ++ own_text c.args.token ++ 0x20 ∷ [] in
    subst (λ t. OnOk c.extend.result (c.extend.new.self ≡ t))
    (ap (λ t. t ++ c.table_text.result.now) c.in_ok-add_of.ensures ∙ append_assoc c.args.text.now front c.table_text.result.now
    ∙ ap (λ t. c.args.text.now ++ (front ++ t)) c.table_text.ensures)
    c.extend.ensures.ok
