-- The user strings of methods: those that their ldstr instructions load (ECMA-335 II.24.2.4, III.4.16).
use Rattle.std.specs.Prelude.{ℕ, List, [], ◌∷◌, map, Option, Some, None}
use Rattle.std.specs.List.{flat_map}
use Rattle.std.specs.Option.{option_map_or}
use Rattle.md_schema.specs.Tables.{method_def}
use Rattle.il_code.specs.declared.instr.Instr.{Instr}
use Rattle.il_code.specs.declared.operand.Operand.{Operand}
use Rattle.il_code.specs.declared.operand.Operand.TheVariants.{Text}
use Rattle.node_model.specs.declared.key.Key.TheVariants.{Body}
use Rattle.node_model.specs.declared.value.BodyValue.TheVariants.{Il}
use Rattle.node_model.specs.declared.value.Value.{Value}
use Rattle.node_model.specs.declared.value.Value.TheVariants as values
use Rattle.write_plan.specs.Planned.{Planned, kept_value}
use Rattle.write_plan.specs.Written.{rows_in}

-- the UTF-16 units of an operand, if it is a text
abbrev pub units_in : Operand → Option (List ℕ)
units_in (Text units) = Some units
units_in _ = None

abbrev pub operand_units : Operand → List (List ℕ)
operand_units operand = option_map_or (λ units. units ∷ []) (units_in operand) []

-- the instructions of a body
abbrev pub body_code : Option Value → List Instr
body_code (Some (values.Body (Il body))) = body.code
body_code _ = []

-- the user strings of instructions, in order
abbrev pub code_strings : List Instr → List (List ℕ)
code_strings code = flat_map (λ (x : Instr). operand_units x.operand) code

-- those of each MethodDef row, in the order in which the rows are written
abbrev pub method_strings : Planned → List (List (List ℕ))
method_strings plan = map (λ t. code_strings (body_code (kept_value plan.entries (Body t)))) (rows_in plan.lists method_def)
