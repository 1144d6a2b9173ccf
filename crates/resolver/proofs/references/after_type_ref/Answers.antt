use Rattle.resolver.proofs.references.after_type_ref.Goals as goal

pub returns-in-Row : goal.returns-in-Row
returns-in-Row c = rw c.in-Row.is (rw (← c.token_named-scope.ensures) c.after_scope.ensures)
