use Rattle.std.proofs.Common.{ℕ, List, [], ◌∷◌, subst, sym}
use Rattle.std.specs.Prelude.{IfOk}
use Rattle.write_tables.specs.Contents.{AsUser}
use Rattle.write_tables.specs.UserStrings.{units_in}
use Rattle.write_tables.specs.UserTokens.{string_token}
use Rattle.write_tables.specs.inner.Gathered.{Gathers}
use Rattle.write_tables.proofs.GatherLemmas.{GathersUnits, gathers_no_units}
use Rattle.write_tables.proofs.strings.put_operand.Goals as goal

pub returns-in-Some : goal.returns-in-Some
returns-in-Some c =
    subst (GathersUnits c.args.heaps.now c.put_one.new.heaps c.put_one.result) c.in-Some.ensures
    (subst (λ (units : List ℕ). IfOk c.put_one.result (Gathers (List ℕ) c.args.heaps.now c.put_one.new.heaps (AsUser units ∷ [])
    (λ later. string_token later.users units ∷ []))) c.as_slice.ensures c.put_one.ensures)

pub returns-in-None : goal.returns-in-None
returns-in-None c = gathers_no_units c.args.heaps.now c.new.result (units_in c.args.operand.now) c.new.ensures (sym c.in-None.ensures)
