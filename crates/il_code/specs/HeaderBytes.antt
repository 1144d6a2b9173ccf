-- The bytes that a body's header is written as: ECMA-335 II.25.4.2 and II.25.4.3. The lowest byte of each number comes
-- first.
use Rattle.std.specs.Prelude.{◌==◌, ◌&&◌, not, ℕ, ◌+◌, ◌*◌, ◌^◌, Bool, List, ◌++◌, length, nat_lt, if◌then◌else◌}
use Rattle.byteorder.specs.Endian.{little_bytes}
use Rattle.il_code.specs.Body.{Body}
use Rattle.cil_base.specs.Token.{token_number}

-- a body has handlers
abbrev pub has_handlers : Body → Bool
has_handlers v = nat_lt 0 (length v.handlers)

-- a header of one byte does: max stack 8, no InitLocals, no locals, no handlers, and fewer than 64 bytes of code
abbrev pub is_tiny : Body → ℕ → Bool
is_tiny v size = (v.max_stack == 8) && not v.init_locals && (token_number v.locals == 0) && not (has_handlers v)
    && nat_lt size 64

-- the flags of a header of twelve bytes: 3 in the low bits, 8 for sections, 10 for InitLocals, and its own size in
-- words above
abbrev pub flags_of : Body → ℕ
flags_of v = 3 * 2 ^ 12 + 3 + (if v.init_locals then 0x10 else 0) + (if has_handlers v then 8 else 0)

-- the header of a body with so many bytes of code
unfoldable pub header_bytes : Body → ℕ → List ℕ
header_bytes v size =
    if is_tiny v size then little_bytes 1 (size * 4 + 2)
    else little_bytes 2 (flags_of v) ++ little_bytes 2 v.max_stack ++ little_bytes 4 size
    ++ little_bytes 4 (token_number v.locals)
