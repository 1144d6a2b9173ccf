-- The edits that make an assembly of any size of the small image: so many types, each with a field and three methods.
-- ECMA-335 II.22.15, II.22.26, II.22.37, II.23.2.
use Rattle.std.specs.Prelude.{ℕ, ◌+◌, ◌*◌, false, List, [], ◌∷◌, ◌++◌, map, codes, pos, Option, Some, None}
use Rattle.std.specs.Fmt.{decimal}
use Rattle.std.specs.List.{flat_map, range_with_len}
use Rattle.cil_base.specs.Token.{Token, root}
use Rattle.il_code.specs.Code.{instr_of}
use Rattle.il_code.specs.declared.instr.Instr.{Instr}
use Rattle.il_code.specs.declared.operand.Operand.TheVariants as operands
use Rattle.sig_tree.specs.declared.tree.Arity.TheVariants.{Plain}
use Rattle.sig_tree.specs.declared.tree.MethodSig.{MethodSig}
use Rattle.sig_tree.specs.declared.tree.Sentinel.TheVariants as sentinels
use Rattle.sig_tree.specs.declared.tree.SigTree.{SigTree}
use Rattle.sig_tree.specs.declared.tree.SigTree.TheVariants as sorts
use Rattle.sig_tree.specs.declared.tree.TypeSig.TheVariants.{Prim}
use Rattle.node_model.specs.declared.cell.Cell.{Cell}
use Rattle.node_model.specs.declared.cell.Cell.TheVariants.{Num, Text, NoRef}
use Rattle.node_model.specs.declared.edit.Edit.{Edit}
use Rattle.node_model.specs.declared.edit.Edit.TheVariants.{Add, Insert, SetBody}
use Rattle.node_model.specs.declared.edit.OptSig.TheVariants as sigs
use Rattle.node_model.specs.declared.key.Key.{Key}
use Rattle.node_model.specs.declared.key.Key.TheVariants.{Body, Owned}
use Rattle.node_model.specs.declared.value.BodyValue.{BodyValue}
use Rattle.node_model.specs.declared.value.BodyValue.TheVariants.{Il}

-- an edit, the key that it looks at, and the row that it makes, if it makes one
pub record GenStep : Type 0 where
  pub edit : Edit
  pub key : Key
  pub made : Option Token

-- the rows of the type of each number, counted from 0, of its field, and of its methods, counted from 0: the small image
-- has one type, no field and no method
abbrev pub gen_type : ℕ → Token
gen_type i = record { table = 0x02; rid = i + 2 }

abbrev pub gen_field : ℕ → Token
gen_field i = record { table = 0x04; rid = i + 1 }

abbrev pub gen_method : ℕ → ℕ → Token
gen_method i j = record { table = 0x06; rid = 3 * i + j + 1 }

-- a public type (1) that may be initialized before its first use (0x100000), in the namespace `G`, that extends none
abbrev pub type_cells : ℕ → List Cell
type_cells i = Num 0x100001 ∷ Text (codes "T" ++ decimal i) ∷ Text (codes "G") ∷ NoRef ∷ []

-- a public (6) and static (0x10) field
abbrev pub field_cells : List Cell
field_cells = Num 22 ∷ Text (codes "f") ∷ []

-- a public and static method of managed IL (0)
abbrev pub method_cells : ℕ → List Cell
method_cells j = Num 0 ∷ Num 22 ∷ Text (codes "m" ++ decimal j) ∷ []

-- a field of type int32 (08), and a method that takes nothing and returns an int32
abbrev pub field_sig : SigTree
field_sig = sorts.Field (Prim 0x08)

abbrev pub int_method : MethodSig
int_method = record {
  kind = 0;
  this = false;
  explicit = false;
  arity = Plain;
  ret = Prim 0x08;
  params = [];
  sentinel = sentinels.None;
}

abbrev pub method_sig : SigTree
method_sig = sorts.Method int_method

-- `ldc.i4` of a number, `ret`
abbrev pub returning_code : ℕ → List Instr
returning_code n = instr_of 0x20 (operands.I32 (pos n)) ∷ instr_of 0x2a operands.None ∷ []

-- the body that returns a number
abbrev pub returning : ℕ → BodyValue
returning n = Il (record {
  max_stack = 8;
  init_locals = false;
  locals = root;
  code = returning_code n;
  handlers = [];
})

abbrev pub type_step : ℕ → GenStep
type_step i = record {
  edit = Add 0x02 (type_cells i) sigs.None;
  key = Owned root 0x02;
  made = Some (gen_type i);
}

abbrev pub field_step : ℕ → GenStep
field_step i = record {
  edit = Insert (gen_type i) 0x04 0 field_cells (sigs.Is field_sig);
  key = Owned (gen_type i) 0x04;
  made = Some (gen_field i);
}

abbrev pub method_step : ℕ → ℕ → GenStep
method_step i j = record {
  edit = Insert (gen_type i) 0x06 j (method_cells j) (sigs.Is method_sig);
  key = Owned (gen_type i) 0x06;
  made = Some (gen_method i j);
}

-- a method returns its number among all methods, counted from 0
abbrev pub body_step : ℕ → ℕ → GenStep
body_step i j = record {
  edit = SetBody (gen_method i j) (returning (3 * i + j));
  key = Body (gen_method i j);
  made = None;
}

-- so many methods of the type of a number, each with its body
abbrev pub method_steps : ℕ → ℕ → List GenStep
method_steps i count = flat_map (λ j. method_step i j ∷ body_step i j ∷ []) (range_with_len 0 count)

-- the type of a number, its field, and its three methods
abbrev pub type_steps : ℕ → List GenStep
type_steps i = type_step i ∷ field_step i ∷ method_steps i 3

-- so many types, one after the other
unfoldable pub gen_steps : ℕ → List GenStep
gen_steps n = flat_map type_steps (range_with_len 0 n)

abbrev pub edits_of : List GenStep → List Edit
edits_of steps = map (λ (step : GenStep). step.edit) steps

unfoldable pub gen_edits : ℕ → List Edit
gen_edits n = edits_of (gen_steps n)
