use Rattle.resolver.proofs.nested.after_nested_row.Goals as goal

pub returns-in-Row : goal.returns-in-Row
returns-in-Row c = rw c.in-Row.is (rw (← c.token_named.ensures) c.after_nested_token.ensures)
