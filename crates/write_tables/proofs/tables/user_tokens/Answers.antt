use Rattle.std.proofs.Common.{ℕ, List, ◌∙◌, ap, length, subst, sym}
use Rattle.md_heaps.specs.LaidHeaps.{HeapEntries}
use Rattle.md_heaps.specs.declared.builder.Heaps.{Heaps}
use Rattle.write_plan.specs.Refusals.{Refused}
use Rattle.write_tables.specs.Contents.{user_contents}
use Rattle.write_tables.specs.UserTokens.{too_many_users}
use Rattle.write_tables.specs.inner.Gathered.{Gathers}
use Rattle.write_tables.proofs.TableLemmas.{memory_refuses, refused_as, tokens_are, tokens_said, users_are}
use Rattle.write_tables.proofs.tables.user_tokens.Goals as goal

pub returns-in-Ok-clause-tokens : goal.returns-in-Ok-clause-tokens
returns-in-Ok-clause-tokens c =
    let plan = c.args.plan.now in
    tokens_are plan c.put_strings.new.heaps c.in_ok-tokens.tokens
    (subst (λ (h : HeapEntries). Gathers (List (List ℕ)) h c.put_strings.new.heaps (user_contents plan) (tokens_said plan) c.in_ok-tokens.tokens)
    c.in_ok-builder.ensures c.in_ok-tokens.ensures)

pub returns-in-Ok-clause-refused : goal.returns-in-Ok-clause-refused
returns-in-Ok-clause-refused c =
    let plan = c.args.plan.now in
    let new = c.put_strings.new.heaps in
    sym (refused_as (length c.as_slice.result.now) new.users (too_many_users plan)
    (ap length (c.as_slice.ensures ∙ ap (λ (h : Heaps). h.users) c.in_ok-heaps.ensures.laid))
    (users_are plan new c.in_ok-tokens.tokens
    (subst (λ (h : HeapEntries). Gathers (List (List ℕ)) h new (user_contents plan) (tokens_said plan) c.in_ok-tokens.tokens)
    c.in_ok-builder.ensures c.in_ok-tokens.ensures)))
    ∙ c.in-Ok.ensures

pub returns-in-Err-clause-refused : goal.returns-in-Err-clause-refused
returns-in-Err-clause-refused c =
    let plan = c.args.plan.now in
    let new = c.put_strings.new.heaps in
    subst (λ wanted. Refused wanted c.in-Err.refusal)
    (refused_as (length c.as_slice.result.now) new.users (too_many_users plan)
    (ap length (c.as_slice.ensures ∙ ap (λ (h : Heaps). h.users) c.in_ok-heaps.ensures.laid))
    (users_are plan new c.in_ok-tokens.tokens
    (subst (λ (h : HeapEntries). Gathers (List (List ℕ)) h new (user_contents plan) (tokens_said plan) c.in_ok-tokens.tokens)
    c.in_ok-builder.ensures c.in_ok-tokens.ensures)))
    c.in-Err.ensures

pub returns-in_err-tokens-clause-refused : goal.returns-in_err-tokens-clause-refused
returns-in_err-tokens-clause-refused c =
    memory_refuses (too_many_users c.args.plan.now) c.from_residual-in_err-tokens.result c.from_residual-in_err-tokens.ensures.1
