-- The printed names of element types and calling conventions.
use Rattle.std.specs.Prelude.{ℕ, ◌==◌, List, [], codes, if◌then◌else◌}

-- the names of the element types of one byte
abbrev pub prim_name : ℕ → List ℕ
prim_name code =
    if code == 0x01 then codes "void" else (if code == 0x02 then codes "bool" else
    (if code == 0x03 then codes "char" else
    (if code == 0x04 then codes "i1" else (if code == 0x05 then codes "u1" else (if code == 0x06 then codes "i2" else
    (if code == 0x07 then codes "u2" else (if code == 0x08 then codes "i4" else (if code == 0x09 then codes "u4" else
    (if code == 0x0a then codes "i8" else (if code == 0x0b then codes "u8" else (if code == 0x0c then codes "r4" else
    (if code == 0x0d then codes "r8" else (if code == 0x0e then codes "string" else
    (if code == 0x16 then codes "typedref" else
    (if code == 0x18 then codes "iptr" else (if code == 0x19 then codes "uptr" else
    (if code == 0x1c then codes "object" else [])))))))))))))))))

-- the names of the calling conventions, each with a space after it
abbrev pub kind_name : ℕ → List ℕ
kind_name kind =
    if kind == 1 then codes "c " else (if kind == 2 then codes "stdcall " else (if kind == 3 then codes "thiscall " else
    (if kind == 4 then codes "fastcall " else (if kind == 5 then codes "vararg " else
    (if kind == 9 then codes "kind9 " else [])))))
