-- Values from the standard and worked by hand, so that a wrong constant or place in a definition does not check.
use Rattle.std.proofs.Common.{◌≡◌, ◌+◌, ◌^◌, [], ◌∷◌, true, false, Some, None, refl}
use Rattle.std.specs.Prelude.{Err}
use Rattle.std.specs.Prelude.{codes}
use Rattle.cil_base.specs.Token.{root}
use Rattle.il_code.specs.declared.kind.OperandKind.TheVariants as kind
use Rattle.il_code.specs.declared.operand.Operand.TheVariants as of
use Rattle.il_code.specs.declared.handler.HandlerKind.TheVariants.{Finally, Fault}
use Rattle.il_code.specs.Instructions.{instr_name, kind_of}
use Rattle.cil_base.specs.Place.{number_at, number_within}
use Rattle.cil_base.specs.Token.{token_from}
use Rattle.il_code.specs.Targets.{target_at, within}
use Rattle.il_code.specs.Code.{user_text, utf16, at, instr_of, code_at, code_size, size_of, operand_at, instr_at}
use Rattle.il_code.specs.BodyBytes.{body_bytes, body_bytes_by}
use Rattle.il_code.specs.CodeBytes.{code_bytes, instr_bytes, op_bytes, operand_bytes}
use Rattle.il_code.specs.HeaderBytes.{header_bytes}
use Rattle.il_code.specs.SectionBytes.{section_bytes, clause_bytes}
use Rattle.il_code.specs.Refusal.{BodyAnswers, is_past, refused_by}
use Rattle.il_code.specs.declared.refusal.BodyRefusal.TheVariants as refusal
use Rattle.il_code.specs.Writable.{NameTexts}
use Rattle.cil_base.specs.Heaps.{entry, units}
use Rattle.cil_base.specs.Number.{strip_number}
use Rattle.il_code.specs.Sections.{tiny, fat_at, header_at, handler_kind, aligned}

pub leave-is_long : kind_of 0xDD ≡ Some kind.Branch
unfolding kind_of
leave-is_long = refl

pub leave_s-is_short : kind_of 0xDE ≡ Some kind.ShortBranch
unfolding kind_of
leave_s-is_short = refl

pub sizeof-has_token : kind_of 0xFE1C ≡ Some kind.Token
unfolding kind_of
sizeof-has_token = refl

pub code_24-is_none : kind_of 0x24 ≡ None
unfolding kind_of
code_24-is_none = refl

pub ret-stands : instr_at [] (0x2A ∷ []) 0 ≡ Some (instr_of 0x2A of.None)
unfolding instr_at code_at number_within number_at operand_at kind_of code_size
ret-stands = refl

pub header_06-is_tiny : header_at (0x06 ∷ 0x2A ∷ []) ≡ Some (tiny 0x06)
unfolding header_at number_within number_at
header_06-is_tiny = refl

pub tiny_06-has_one_byte : (tiny 0x06).size ≡ 1
unfolding tiny
tiny_06-has_one_byte = refl

-- 3013 is the fat form with InitLocals and without sections
pub header_3013-has_init_locals : header_at (0x13 ∷ 0x30 ∷ 0x02 ∷ 0 ∷ 1 ∷ 0 ∷ 0 ∷ 0 ∷ 0x05 ∷ 0 ∷ 0 ∷ 0x11 ∷ []) ≡ Some (record { start = 12; size = 1; max_stack = 2; init_locals = true; locals = record { table = 0x11; rid = 5 }; sections = false })
unfolding header_at fat_at number_within number_at token_from
header_3013-has_init_locals = refl

pub clause_2-is_finally : handler_kind 2 0 ≡ Some Finally
unfolding handler_kind
clause_2-is_finally = refl

pub clause_4-is_fault : handler_kind 4 0 ≡ Some Fault
unfolding handler_kind
clause_4-is_fault = refl

-- FE is -2: a short branch to itself
pub branch_FE-is_back_by_two : target_at (0x2B ∷ 0xFE ∷ []) (2 ^ 7) 2 0xFE ≡ Some 0
unfolding target_at within
branch_FE-is_back_by_two = refl

pub section_behind_18-stands_at_20 : aligned 18 ≡ 20
unfolding aligned
section_behind_18-stands_at_20 = refl

-- `ret` alone is written behind a header of one byte
pub ret-is_written : body_bytes (record { max_stack = 8; init_locals = false; locals = root; code = instr_of 0x2A of.None ∷ []; handlers = [] }) [] ≡ 0x06 ∷ 0x2A ∷ []
unfolding body_bytes body_bytes_by header_bytes code_bytes instr_bytes op_bytes operand_bytes kind_of at size_of code_size
ret-is_written = refl

-- with a stack of two it has a header of twelve bytes
pub ret-of_two-is_written : body_bytes (record { max_stack = 2; init_locals = false; locals = root; code = instr_of 0x2A of.None ∷ []; handlers = [] }) [] ≡ 0x03 ∷ 0x30 ∷ 0x02 ∷ 0 ∷ 1 ∷ 0 ∷ 0 ∷ 0 ∷ 0 ∷ 0 ∷ 0 ∷ 0 ∷ 0x2A ∷ []
unfolding body_bytes body_bytes_by header_bytes code_bytes instr_bytes op_bytes operand_bytes kind_of at size_of code_size
ret-of_two-is_written = refl

-- a branch to itself goes back by two
pub branch-to_itself-is_written : body_bytes (record { max_stack = 8; init_locals = false; locals = root; code = instr_of 0x2B (of.Target 0) ∷ []; handlers = [] }) [] ≡ 0x0A ∷ 0x2B ∷ 0xFE ∷ []
unfolding body_bytes body_bytes_by header_bytes code_bytes instr_bytes op_bytes operand_bytes kind_of at size_of code_size
branch-to_itself-is_written = refl

-- a small section behind 18 bytes, with a clause of a type
pub section-is_written : section_bytes (record { flags = 0; try_offset = 0; try_len = 2; offset = 2; len = 3; last = 0x01000001 } ∷ []) 18 ≡ 0 ∷ 0 ∷ 0x01 ∷ 0x10 ∷ 0 ∷ 0 ∷ 0 ∷ 0 ∷ 0 ∷ 0 ∷ 2 ∷ 2 ∷ 0 ∷ 3 ∷ 1 ∷ 0 ∷ 0 ∷ 1 ∷ []
unfolding section_bytes aligned clause_bytes
section-is_written = refl

pub distance_129-is_past : is_past 2 131 ≡ true
distance_129-is_past = refl

pub distance_127-is_not : is_past 2 129 ≡ false
distance_127-is_not = refl

pub leave-is_named : instr_name 0xDD ≡ Some (codes "leave")
unfolding instr_name
leave-is_named = refl

-- a branch that is too far is told before a body that is too large
pub far_branch-is_first : refused_by (Some 3) (2 ^ 24 + 1) 65536 ≡ Some (refusal.BranchTooFar 3)
far_branch-is_first = refl

pub size-is_before_handlers : refused_by None (2 ^ 24 + 1) 65536 ≡ Some (refusal.BodyTooLarge (2 ^ 24 + 1))
size-is_before_handlers = refl

-- another refusal is no answer, and none is where nothing is refused
pub other_refusal-is_no_answer : BodyAnswers (Err (refusal.BodyTooLarge 1)) (Some (refusal.BranchTooFar 0)) → ⊥
other_refusal-is_no_answer h = cc

pub refusal-needs_a_cause : BodyAnswers (Err (refusal.BranchTooFar 0)) None → ⊥
refusal-needs_a_cause h = cc

-- the text `a` stands at index 1 of a heap, and its token names it there
pub token-names_a_text : NameTexts (0 ∷ 3 ∷ 0x61 ∷ 0 ∷ 0 ∷ []) (0x70000001 ∷ []) (instr_of 0x72 (of.Text (0x61 ∷ [])) ∷ [])
unfolding user_text utf16 units entry strip_number number_at
token-names_a_text = refl
