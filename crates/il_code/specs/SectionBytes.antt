-- The bytes that handlers are written as: ECMA-335 II.25.4.5 and II.25.4.6. The lowest byte of each number comes first.
use Rattle.std.specs.Prelude.{◌&&◌, not, ℕ, ◌+◌, ◌-◌, ◌*◌, ◌^◌, Bool, true, false, List, ◌++◌, length, replicate}
use Rattle.std.specs.Prelude.{nat_lt, nat_le}
use Rattle.std.specs.Prelude.{if◌then◌else◌, flat_map}
use Rattle.std.specs.List.{list_all}
use Rattle.byteorder.specs.Endian.{little_bytes}
use Rattle.il_code.specs.declared.handler.HandlerKind.{HandlerKind}
use Rattle.il_code.specs.declared.handler.HandlerKind.TheVariants.{Typed, Filter, Finally, Fault}
use Rattle.il_code.specs.declared.handler.Handler.{Handler}
use Rattle.il_code.specs.declared.clause.Clause.{Clause}
use Rattle.cil_base.specs.Token.{token_number}
use Rattle.il_code.specs.Sections.{aligned, clause_size}

-- the flags of a handler's kind
abbrev pub kind_flags : HandlerKind → ℕ
kind_flags (Typed t) = 0
kind_flags (Filter start) = 1
kind_flags Finally = 2
kind_flags Fault = 4

-- the last field of a handler's clause: the type's token, the filter's place, or 0
abbrev pub kind_last : (ℕ → ℕ) → HandlerKind → ℕ
kind_last place (Typed t) = token_number t
kind_last place (Filter start) = place start
kind_last place Finally = 0
kind_last place Fault = 0

-- a handler's clause: bounds as places and lengths
abbrev pub clause_of : (ℕ → ℕ) → Handler → Clause
clause_of place h = record {
  flags = kind_flags h.kind;
  try_offset = place h.try_start;
  try_len = place h.try_end - place h.try_start;
  offset = place h.start;
  len = place h.end - place h.start;
  last = kind_last place h.kind;
}

-- a clause fits the fields of a small section
abbrev pub fits_small : Clause → Bool
fits_small c = nat_lt c.try_offset (2 ^ 16) && nat_lt c.try_len (2 ^ 8) && nat_lt c.offset (2 ^ 16)
    && nat_lt c.len (2 ^ 8)

-- clauses need a fat section: more than 20 of them, or one that does not fit
abbrev pub needs_fat : List Clause → Bool
needs_fat cs = not (nat_le (length cs) 20 && list_all fits_small cs)

-- the six fields of a clause
unfoldable pub clause_bytes : Bool → Clause → List ℕ
clause_bytes false c = little_bytes 2 c.flags ++ little_bytes 2 c.try_offset ++ little_bytes 1 c.try_len
    ++ little_bytes 2 c.offset ++ little_bytes 1 c.len ++ little_bytes 4 c.last
clause_bytes true c = little_bytes 4 c.flags ++ little_bytes 4 c.try_offset ++ little_bytes 4 c.try_len
    ++ little_bytes 4 c.offset ++ little_bytes 4 c.len ++ little_bytes 4 c.last

-- a section's four bytes of header: kind 1, 40 for the fat form, and above them the size of the header and the clauses
abbrev pub section_number : Bool → ℕ → ℕ
section_number fat count = (if fat then 0x41 else 0x01) + 2 ^ 8 * (4 + count * clause_size fat)

-- a section of clauses that begins at the next multiple of four from a place on
unfoldable pub section_bytes : List Clause → ℕ → List ℕ
section_bytes cs p = replicate (aligned p - p) 0 ++ little_bytes 4 (section_number (needs_fat cs) (length cs))
    ++ flat_map (clause_bytes (needs_fat cs)) cs
