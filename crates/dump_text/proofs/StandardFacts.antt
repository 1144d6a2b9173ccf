-- The definitions at worked values.
use Rattle.std.proofs.Common.{◌≡◌, refl, ◌∷◌, ◌++◌, [], false, true, codes}
use Rattle.std.specs.Fmt.{digits}
use Rattle.il_code.specs.Instructions.{instr_name}
use Rattle.il_code.specs.declared.handler.HandlerKind.TheVariants.{Typed}
use Rattle.il_code.specs.declared.operand.Operand.TheVariants as operands
use Rattle.md_schema.specs.Schema.{tables}
use Rattle.md_schema.specs.declared.link.Link.TheVariants.{Nested}
use Rattle.node_model.specs.declared.cell.Cell.TheVariants as cells
use Rattle.node_model.specs.declared.key.Key.TheVariants as keys
use Rattle.node_model.specs.declared.reply.Reply.TheVariants as replies
use Rattle.node_model.specs.declared.slot.FaultKind.TheVariants as kinds
use Rattle.node_model.specs.declared.value.BodyValue.TheVariants.{Il, NoBody}
use Rattle.node_model.specs.declared.value.ResourceValue.TheVariants.{Elsewhere}
use Rattle.sig_tree.specs.Printed.{chars}
use Rattle.sig_tree.specs.declared.tree.SigTree.TheVariants.{Locals}
use Rattle.dump_text.specs.Bodies.{op_text, operand_text}
use Rattle.dump_text.specs.Pieces.{hex_number, quoted}
use Rattle.dump_text.specs.ReplyText.{reply_text}
use Rattle.dump_text.specs.Rows.{cell_name, table_text}
use Rattle.dump_text.specs.ViewTexts.{method_text}

pub quoted_quote : quoted (0x22 ∷ []) ≡ 0x22 ∷ 0x5c ∷ 0x22 ∷ 0x22 ∷ []
quoted_quote = refl

pub cell_3_of_type_def : cell_name 2 3 ≡ codes "Extends"
unfolding cell_name tables
cell_3_of_type_def = refl

pub run_is_no_cell : cell_name 2 4 ≡ codes "?"
unfolding cell_name tables
run_is_no_cell = refl

pub row_of_no_table :
    reply_text (replies.Row (record { token = record { table = 3; rid = 3 }; cells = cells.NoRef ∷ [] }))
    ≡ codes "? 03000003 ?=none"
unfolding reply_text table_text cell_name tables
row_of_no_table = refl

pub absent_module : reply_text (replies.Absent (record { table = 0; rid = 1 })) ≡ codes "absent 00000001"
unfolding reply_text
absent_module = refl

pub bad_name :
    reply_text (replies.Fault (record { key = keys.Row (record { table = 2; rid = 1 }); kind = kinds.BadRow; column = 1 }))
    ≡ codes "fault row 02000001 BadRow 1"
unfolding reply_text digits
bad_name = refl

pub bad_run :
    reply_text (replies.Fault (record {
      key = keys.Owned (record { table = 2; rid = 2 }) 6;
      kind = kinds.BadRange;
      column = 5;
    }))
    ≡ codes "fault owned 02000002 MethodDef BadRange 5"
unfolding reply_text digits table_text tables
bad_run = refl

pub two_nested_types : reply_text (replies.Tokens (keys.Linked (record { table = 2; rid = 2 }) Nested)
    (record { table = 0x29; rid = 1 } ∷ record { table = 0x29; rid = 4 } ∷ []))
    ≡ codes "linked 02000002 Nested: 29000001 29000004"
unfolding reply_text
two_nested_types = refl

pub no_data : reply_text (replies.Data (record { table = 0x1d; rid = 1 }) []) ≡ codes "data 1d000001 "
unfolding reply_text
no_data = refl

pub resource_elsewhere :
    reply_text (replies.Resource (record { table = 0x28; rid = 1 }) (Elsewhere 8)) ≡ codes "resource 28000001 at 8"
unfolding reply_text digits
resource_elsewhere = refl

pub no_targets : operand_text (operands.Switch []) ≡ codes " ()"
no_targets = refl

pub three_targets : operand_text (operands.Switch (1 ∷ 0 ∷ 12 ∷ [])) ≡ codes " (1,0,12)"
unfolding digits
three_targets = refl

pub text_of_units : operand_text (operands.Text (0x61 ∷ 0x22 ∷ 0x20ac ∷ [])) ≡ codes " \"a\\\"\\u20ac\""
unfolding hex_number
text_of_units = refl

pub bits_of_one : operand_text (operands.R4 0x3f800000) ≡ codes " 3f800000"
unfolding hex_number
bits_of_one = refl

-- a protected instruction with a handler of a type
pub typed_handler : reply_text (replies.Body (record { table = 6; rid = 1 }) (Il (record {
  max_stack = 1;
  init_locals = false;
  locals = record { table = 0; rid = 0 };
  code = record { op = 0xde; operand = operands.Target 3 } ∷ record { op = 0x26; operand = operands.None }
      ∷ record { op = 0xde; operand = operands.Target 3 } ∷ record { op = 0x2a; operand = operands.None } ∷ [];
  handlers = record { kind = Typed (record { table = 1; rid = 1 }); try_start = 0; try_end = 1; start = 1; end = 3 } ∷ [];
})))
    ≡ codes "body 06000001 stack=1 init=0 locals=none [0] leave.s ->3 [1] pop [2] leave.s ->3 [3] ret"
    ++ codes " {typed 0 1 1 3 01000001}"
unfolding reply_text digits op_text instr_name
typed_handler = refl

pub facts_of_a_library : reply_text (replies.Facts (record {
  plus = false;
  machine = 0x14c;
  time = 0;
  characteristics = 0x2102;
  base = 0x400000;
  subsystem = 3;
  dll = 0x8540;
  runtime_major = 2;
  runtime_minor = 5;
  flags = 1;
  native = false;
  entry = record { table = 0; rid = 0 };
  version = codes "v4.0.30319";
}))
    ≡ codes "facts pe32 machine=014c time=0 characteristics=2102 base=0000000000400000 subsystem=3 dll=8540"
    ++ codes " runtime=2.5 flags=1 native=0 entry=00000000 version=\"v4.0.30319\""
unfolding reply_text hex_number digits
facts_of_a_library = refl

-- addresses of 64 bits: PE32+
pub facts_of_a_wide_library : reply_text (replies.Facts (record {
  plus = true;
  machine = 0x8664;
  time = 0;
  characteristics = 0x2022;
  base = 0x180000000;
  subsystem = 3;
  dll = 0x8540;
  runtime_major = 2;
  runtime_minor = 5;
  flags = 1;
  native = false;
  entry = record { table = 0; rid = 0 };
  version = codes "v4.0.30319";
}))
    ≡ codes "facts pe32+ machine=8664 time=0 characteristics=2022 base=0000000180000000 subsystem=3 dll=8540"
    ++ codes " runtime=2.5 flags=1 native=0 entry=00000000 version=\"v4.0.30319\""
unfolding reply_text hex_number digits
facts_of_a_wide_library = refl

-- a method without parameters and body, with a signature of no types
pub method_view : reply_text (replies.Method (record {
  row = record { token = record { table = 6; rid = 1 }; cells = cells.Num 0 ∷ cells.Num 22 ∷ cells.Text (codes "Go") ∷ [] };
  sig = Locals [];
  params = [];
  body = NoBody;
}))
    ≡ codes "method MethodDef 06000001 ImplFlags=0 Flags=22 Name=\"Go\"; sig 06000001 locals(); body 06000001 none"
unfolding reply_text method_text table_text cell_name digits tables chars
method_view = refl

pub name_text : reply_text (replies.Name (record { table = 2; rid = 3 }) (codes "N.Outer/Inner")) ≡ codes "name 02000003 \"N.Outer/Inner\""
unfolding reply_text
name_text = refl
