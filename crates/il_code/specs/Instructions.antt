-- The instructions: ECMA-335 III and VI.C.2.
use Rattle.std.specs.Prelude.{◌==◌, ℕ, List, [], ◌∷◌, Option, codes, option_map}
use Rattle.std.specs.List.{find}
use Rattle.il_code.specs.declared.kind.OperandKind.{OperandKind}
use Rattle.il_code.specs.declared.kind.OperandKind.TheVariants.{NoOperand, U8, U16, I8, I32, I64, R4, R8, Token}
use Rattle.il_code.specs.declared.kind.OperandKind.TheVariants.{Text, ShortBranch, Branch, Switch}

-- an instruction: its code, its name in assembly text, and which operand follows it
abbrev pub Instruction : Type 0
Instruction = ℕ × List ℕ × OperandKind

-- all of them; the code is 0xFE00 + the second byte where it has two
abbrev pub instructions : List Instruction
instructions =
    (0x00, codes "nop", NoOperand) ∷ (0x01, codes "break", NoOperand) ∷ (0x02, codes "ldarg.0", NoOperand) ∷
    (0x03, codes "ldarg.1", NoOperand) ∷ (0x04, codes "ldarg.2", NoOperand) ∷
    (0x05, codes "ldarg.3", NoOperand) ∷ (0x06, codes "ldloc.0", NoOperand) ∷
    (0x07, codes "ldloc.1", NoOperand) ∷ (0x08, codes "ldloc.2", NoOperand) ∷
    (0x09, codes "ldloc.3", NoOperand) ∷ (0x0A, codes "stloc.0", NoOperand) ∷
    (0x0B, codes "stloc.1", NoOperand) ∷ (0x0C, codes "stloc.2", NoOperand) ∷
    (0x0D, codes "stloc.3", NoOperand) ∷ (0x0E, codes "ldarg.s", U8) ∷ (0x0F, codes "ldarga.s", U8) ∷
    (0x10, codes "starg.s", U8) ∷ (0x11, codes "ldloc.s", U8) ∷ (0x12, codes "ldloca.s", U8) ∷
    (0x13, codes "stloc.s", U8) ∷ (0x14, codes "ldnull", NoOperand) ∷ (0x15, codes "ldc.i4.m1", NoOperand) ∷
    (0x16, codes "ldc.i4.0", NoOperand) ∷ (0x17, codes "ldc.i4.1", NoOperand) ∷
    (0x18, codes "ldc.i4.2", NoOperand) ∷ (0x19, codes "ldc.i4.3", NoOperand) ∷
    (0x1A, codes "ldc.i4.4", NoOperand) ∷ (0x1B, codes "ldc.i4.5", NoOperand) ∷
    (0x1C, codes "ldc.i4.6", NoOperand) ∷ (0x1D, codes "ldc.i4.7", NoOperand) ∷
    (0x1E, codes "ldc.i4.8", NoOperand) ∷ (0x1F, codes "ldc.i4.s", I8) ∷ (0x20, codes "ldc.i4", I32) ∷
    (0x21, codes "ldc.i8", I64) ∷ (0x22, codes "ldc.r4", R4) ∷ (0x23, codes "ldc.r8", R8) ∷
    (0x25, codes "dup", NoOperand) ∷ (0x26, codes "pop", NoOperand) ∷ (0x27, codes "jmp", Token) ∷
    (0x28, codes "call", Token) ∷ (0x29, codes "calli", Token) ∷ (0x2A, codes "ret", NoOperand) ∷
    (0x2B, codes "br.s", ShortBranch) ∷ (0x2C, codes "brfalse.s", ShortBranch) ∷
    (0x2D, codes "brtrue.s", ShortBranch) ∷ (0x2E, codes "beq.s", ShortBranch) ∷
    (0x2F, codes "bge.s", ShortBranch) ∷ (0x30, codes "bgt.s", ShortBranch) ∷
    (0x31, codes "ble.s", ShortBranch) ∷ (0x32, codes "blt.s", ShortBranch) ∷
    (0x33, codes "bne.un.s", ShortBranch) ∷ (0x34, codes "bge.un.s", ShortBranch) ∷
    (0x35, codes "bgt.un.s", ShortBranch) ∷ (0x36, codes "ble.un.s", ShortBranch) ∷
    (0x37, codes "blt.un.s", ShortBranch) ∷ (0x38, codes "br", Branch) ∷ (0x39, codes "brfalse", Branch) ∷
    (0x3A, codes "brtrue", Branch) ∷ (0x3B, codes "beq", Branch) ∷ (0x3C, codes "bge", Branch) ∷
    (0x3D, codes "bgt", Branch) ∷ (0x3E, codes "ble", Branch) ∷ (0x3F, codes "blt", Branch) ∷
    (0x40, codes "bne.un", Branch) ∷ (0x41, codes "bge.un", Branch) ∷ (0x42, codes "bgt.un", Branch) ∷
    (0x43, codes "ble.un", Branch) ∷ (0x44, codes "blt.un", Branch) ∷ (0x45, codes "switch", Switch) ∷
    (0x46, codes "ldind.i1", NoOperand) ∷ (0x47, codes "ldind.u1", NoOperand) ∷
    (0x48, codes "ldind.i2", NoOperand) ∷ (0x49, codes "ldind.u2", NoOperand) ∷
    (0x4A, codes "ldind.i4", NoOperand) ∷ (0x4B, codes "ldind.u4", NoOperand) ∷
    (0x4C, codes "ldind.i8", NoOperand) ∷ (0x4D, codes "ldind.i", NoOperand) ∷
    (0x4E, codes "ldind.r4", NoOperand) ∷ (0x4F, codes "ldind.r8", NoOperand) ∷
    (0x50, codes "ldind.ref", NoOperand) ∷ (0x51, codes "stind.ref", NoOperand) ∷
    (0x52, codes "stind.i1", NoOperand) ∷ (0x53, codes "stind.i2", NoOperand) ∷
    (0x54, codes "stind.i4", NoOperand) ∷ (0x55, codes "stind.i8", NoOperand) ∷
    (0x56, codes "stind.r4", NoOperand) ∷ (0x57, codes "stind.r8", NoOperand) ∷ (0x58, codes "add", NoOperand) ∷
    (0x59, codes "sub", NoOperand) ∷ (0x5A, codes "mul", NoOperand) ∷ (0x5B, codes "div", NoOperand) ∷
    (0x5C, codes "div.un", NoOperand) ∷ (0x5D, codes "rem", NoOperand) ∷ (0x5E, codes "rem.un", NoOperand) ∷
    (0x5F, codes "and", NoOperand) ∷ (0x60, codes "or", NoOperand) ∷ (0x61, codes "xor", NoOperand) ∷
    (0x62, codes "shl", NoOperand) ∷ (0x63, codes "shr", NoOperand) ∷ (0x64, codes "shr.un", NoOperand) ∷
    (0x65, codes "neg", NoOperand) ∷ (0x66, codes "not", NoOperand) ∷ (0x67, codes "conv.i1", NoOperand) ∷
    (0x68, codes "conv.i2", NoOperand) ∷ (0x69, codes "conv.i4", NoOperand) ∷
    (0x6A, codes "conv.i8", NoOperand) ∷ (0x6B, codes "conv.r4", NoOperand) ∷
    (0x6C, codes "conv.r8", NoOperand) ∷ (0x6D, codes "conv.u4", NoOperand) ∷
    (0x6E, codes "conv.u8", NoOperand) ∷ (0x6F, codes "callvirt", Token) ∷ (0x70, codes "cpobj", Token) ∷
    (0x71, codes "ldobj", Token) ∷ (0x72, codes "ldstr", Text) ∷ (0x73, codes "newobj", Token) ∷
    (0x74, codes "castclass", Token) ∷ (0x75, codes "isinst", Token) ∷ (0x76, codes "conv.r.un", NoOperand) ∷
    (0x79, codes "unbox", Token) ∷ (0x7A, codes "throw", NoOperand) ∷ (0x7B, codes "ldfld", Token) ∷
    (0x7C, codes "ldflda", Token) ∷ (0x7D, codes "stfld", Token) ∷ (0x7E, codes "ldsfld", Token) ∷
    (0x7F, codes "ldsflda", Token) ∷ (0x80, codes "stsfld", Token) ∷ (0x81, codes "stobj", Token) ∷
    (0x82, codes "conv.ovf.i1.un", NoOperand) ∷ (0x83, codes "conv.ovf.i2.un", NoOperand) ∷
    (0x84, codes "conv.ovf.i4.un", NoOperand) ∷ (0x85, codes "conv.ovf.i8.un", NoOperand) ∷
    (0x86, codes "conv.ovf.u1.un", NoOperand) ∷ (0x87, codes "conv.ovf.u2.un", NoOperand) ∷
    (0x88, codes "conv.ovf.u4.un", NoOperand) ∷ (0x89, codes "conv.ovf.u8.un", NoOperand) ∷
    (0x8A, codes "conv.ovf.i.un", NoOperand) ∷ (0x8B, codes "conv.ovf.u.un", NoOperand) ∷
    (0x8C, codes "box", Token) ∷ (0x8D, codes "newarr", Token) ∷ (0x8E, codes "ldlen", NoOperand) ∷
    (0x8F, codes "ldelema", Token) ∷ (0x90, codes "ldelem.i1", NoOperand) ∷
    (0x91, codes "ldelem.u1", NoOperand) ∷ (0x92, codes "ldelem.i2", NoOperand) ∷
    (0x93, codes "ldelem.u2", NoOperand) ∷ (0x94, codes "ldelem.i4", NoOperand) ∷
    (0x95, codes "ldelem.u4", NoOperand) ∷ (0x96, codes "ldelem.i8", NoOperand) ∷
    (0x97, codes "ldelem.i", NoOperand) ∷ (0x98, codes "ldelem.r4", NoOperand) ∷
    (0x99, codes "ldelem.r8", NoOperand) ∷ (0x9A, codes "ldelem.ref", NoOperand) ∷
    (0x9B, codes "stelem.i", NoOperand) ∷ (0x9C, codes "stelem.i1", NoOperand) ∷
    (0x9D, codes "stelem.i2", NoOperand) ∷ (0x9E, codes "stelem.i4", NoOperand) ∷
    (0x9F, codes "stelem.i8", NoOperand) ∷ (0xA0, codes "stelem.r4", NoOperand) ∷
    (0xA1, codes "stelem.r8", NoOperand) ∷ (0xA2, codes "stelem.ref", NoOperand) ∷
    (0xA3, codes "ldelem", Token) ∷ (0xA4, codes "stelem", Token) ∷ (0xA5, codes "unbox.any", Token) ∷
    (0xB3, codes "conv.ovf.i1", NoOperand) ∷ (0xB4, codes "conv.ovf.u1", NoOperand) ∷
    (0xB5, codes "conv.ovf.i2", NoOperand) ∷ (0xB6, codes "conv.ovf.u2", NoOperand) ∷
    (0xB7, codes "conv.ovf.i4", NoOperand) ∷ (0xB8, codes "conv.ovf.u4", NoOperand) ∷
    (0xB9, codes "conv.ovf.i8", NoOperand) ∷ (0xBA, codes "conv.ovf.u8", NoOperand) ∷
    (0xC2, codes "refanyval", Token) ∷ (0xC3, codes "ckfinite", NoOperand) ∷ (0xC6, codes "mkrefany", Token) ∷
    (0xD0, codes "ldtoken", Token) ∷ (0xD1, codes "conv.u2", NoOperand) ∷ (0xD2, codes "conv.u1", NoOperand) ∷
    (0xD3, codes "conv.i", NoOperand) ∷ (0xD4, codes "conv.ovf.i", NoOperand) ∷
    (0xD5, codes "conv.ovf.u", NoOperand) ∷ (0xD6, codes "add.ovf", NoOperand) ∷
    (0xD7, codes "add.ovf.un", NoOperand) ∷ (0xD8, codes "mul.ovf", NoOperand) ∷
    (0xD9, codes "mul.ovf.un", NoOperand) ∷ (0xDA, codes "sub.ovf", NoOperand) ∷
    (0xDB, codes "sub.ovf.un", NoOperand) ∷ (0xDC, codes "endfinally", NoOperand) ∷
    (0xDD, codes "leave", Branch) ∷ (0xDE, codes "leave.s", ShortBranch) ∷ (0xDF, codes "stind.i", NoOperand) ∷
    (0xE0, codes "conv.u", NoOperand) ∷ (0xFE00, codes "arglist", NoOperand) ∷
    (0xFE01, codes "ceq", NoOperand) ∷ (0xFE02, codes "cgt", NoOperand) ∷ (0xFE03, codes "cgt.un", NoOperand) ∷
    (0xFE04, codes "clt", NoOperand) ∷ (0xFE05, codes "clt.un", NoOperand) ∷ (0xFE06, codes "ldftn", Token) ∷
    (0xFE07, codes "ldvirtftn", Token) ∷ (0xFE09, codes "ldarg", U16) ∷ (0xFE0A, codes "ldarga", U16) ∷
    (0xFE0B, codes "starg", U16) ∷ (0xFE0C, codes "ldloc", U16) ∷ (0xFE0D, codes "ldloca", U16) ∷
    (0xFE0E, codes "stloc", U16) ∷ (0xFE0F, codes "localloc", NoOperand) ∷
    (0xFE11, codes "endfilter", NoOperand) ∷ (0xFE12, codes "unaligned.", U8) ∷
    (0xFE13, codes "volatile.", NoOperand) ∷ (0xFE14, codes "tail.", NoOperand) ∷
    (0xFE15, codes "initobj", Token) ∷ (0xFE16, codes "constrained.", Token) ∷
    (0xFE17, codes "cpblk", NoOperand) ∷ (0xFE18, codes "initblk", NoOperand) ∷ (0xFE19, codes "no.", U8) ∷
    (0xFE1A, codes "rethrow", NoOperand) ∷ (0xFE1C, codes "sizeof", Token) ∷
    (0xFE1D, codes "refanytype", NoOperand) ∷ (0xFE1E, codes "readonly.", NoOperand) ∷ []

-- the instruction with a code
abbrev pub instruction : ℕ → Option Instruction
instruction code = find (λ (r : Instruction). r.0 == code) instructions

-- its name
unfoldable pub instr_name : ℕ → Option (List ℕ)
instr_name code = option_map (λ (r : Instruction). r.1) (instruction code)

-- the kind of its operand
unfoldable pub kind_of : ℕ → Option OperandKind
kind_of code = option_map (λ (r : Instruction). r.2) (instruction code)
