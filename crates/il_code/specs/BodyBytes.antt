-- The bytes that a body is written as: ECMA-335 II.25.4.
use Rattle.std.specs.Prelude.{ℕ, List, ◌++◌, length, map, if◌then◌else◌}
use Rattle.il_code.specs.Body.{Body}
use Rattle.il_code.specs.Code.{at}
use Rattle.il_code.specs.CodeBytes.{code_bytes}
use Rattle.il_code.specs.HeaderBytes.{has_handlers, header_bytes}
use Rattle.il_code.specs.SectionBytes.{clause_of, section_bytes}

-- the header and the instructions, by the places of instructions
abbrev pub front_bytes : (ℕ → ℕ) → Body → List ℕ → List ℕ
front_bytes place v texts = header_bytes v (place (length v.code)) ++ code_bytes place texts v.code

-- a body by the places of its instructions: all handlers stand in one section
unfoldable pub body_bytes_by : (ℕ → ℕ) → Body → List ℕ → List ℕ
body_bytes_by place v texts =
    if has_handlers v then front_bytes place v texts
    ++ section_bytes (map (clause_of place) v.handlers) (length (front_bytes place v texts))
    else front_bytes place v texts

-- the bytes of a body, with a token for each of its texts in order: each instruction stands after those before it
unfoldable pub body_bytes : Body → List ℕ → List ℕ
body_bytes v texts = body_bytes_by (at v.code) v texts
