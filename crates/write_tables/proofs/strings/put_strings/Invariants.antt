use Rattle.std.proofs.Common.{ℕ, List, map, take}
use Rattle.std.specs.List.{flat_map}
use Rattle.node_model.specs.declared.key.Key.TheVariants.{Body}
use Rattle.write_plan.specs.Planned.{kept_value}
use Rattle.write_tables.specs.Contents.{AsUser}
use Rattle.write_tables.specs.UserStrings.{body_code, code_strings}
use Rattle.write_tables.specs.UserTokens.{string_token}
use Rattle.write_tables.specs.inner.Gathered.{Gathers}
use Rattle.write_tables.proofs.strings.put_strings.Given as goal

abbrev pub invariant-loop-method : goal.invariant-loop-method
invariant-loop-method l =
    let strings = map (λ t. code_strings (body_code (kept_value l.plan.entries (Body t)))) (take l.method-index l.methods) in
    Gathers (List (List ℕ)) l.initial.heaps l.heaps (flat_map (λ texts. map AsUser texts) strings)
    (λ later. map (λ texts. map (string_token later.users) texts) strings) l.all
