-- Headers, sections and clauses of a body, by places: ECMA-335 II.25.4.
use Rattle.std.specs.Prelude.{◌≡◌, ◌==◌, ℕ, ◌+◌, ◌*◌, ◌/◌, ◌%◌, ◌^◌, Bool, true, false, List, [], ◌∷◌, Option, Some}
use Rattle.std.specs.Prelude.{None, if◌then◌else◌, option_map}
use Rattle.cil_base.specs.Token.{root}
use Rattle.il_code.specs.declared.handler.HandlerKind.{HandlerKind}
use Rattle.il_code.specs.declared.handler.HandlerKind.TheVariants.{Typed, Filter, Finally, Fault}
use Rattle.il_code.specs.declared.handler.Handler.{Handler}
use Rattle.il_code.specs.declared.header.Header.{Header}
use Rattle.il_code.specs.declared.section.Section.{Section}
use Rattle.il_code.specs.declared.clause.Clause.{Clause}
use Rattle.cil_base.specs.Place.{number_within}
use Rattle.cil_base.specs.Steps.{◌>>=◌}
use Rattle.cil_base.specs.Token.{token_from}
use Rattle.il_code.specs.Items.{items_at}

-- the header of one byte: the size stands in its upper six bits
unfoldable pub tiny : ℕ → Header
tiny first = record { start = 1; size = first / 4; max_stack = 8; init_locals = false; locals = root; sections = false }

-- the header of twelve bytes: its flags are 8 for sections and 10 for InitLocals, and its own size, in words, is above
-- them
unfoldable pub fat_at : List ℕ → Option Header
fat_at s =
    number_within s 0 2 >>= λ flags. number_within s 2 2 >>= λ max_stack. number_within s 4 4 >>= λ size.
    number_within s 8 4 >>= λ locals.
    if flags / 2 ^ 12 == 3
    then Some (record {
      start = 12;
      size = size;
      max_stack = max_stack;
      init_locals = flags / 0x10 % 2 == 1;
      locals = token_from locals;
      sections = flags / 8 % 2 == 1;
    })
    else None

-- the header at the front of the bytes: the two low bits of the first tell its form
unfoldable pub header_at : List ℕ → Option Header
header_at s =
    number_within s 0 1 >>= λ first.
    if first % 4 == 2 then Some (tiny first) else (if first % 4 == 3 then fat_at s else None)

-- the bytes of a clause
abbrev pub clause_size : Bool → ℕ
clause_size true = 24
clause_size false = 12

-- a section of clauses has kind 1 in the low six bits; 40 is for the fat form, 80 for a further section
unfoldable pub data_section_at : List ℕ → ℕ → Option Section
data_section_at s p =
    number_within s p 4 >>= λ n.
    let kind = n % 2 ^ 8 in
    let fat = kind / 0x40 % 2 == 1 in
    let size = (if fat then n / 2 ^ 8 else n / 2 ^ 8 % 2 ^ 8) in
    if kind % 0x40 == 1
    then Some (record { fat = fat; further = kind / 0x80 == 1; count = size / clause_size fat })
    else None

-- the kind of a clause with those flags and that last field
unfoldable pub handler_kind : ℕ → ℕ → Option HandlerKind
handler_kind flags last =
    if flags == 0 then Some (Typed (token_from last))
    else (if flags == 1 then Some (Filter last)
    else (if flags == 2 then Some Finally else (if flags == 4 then Some Fault else None)))

-- the six fields of a clause: flags, the offset and length of the protected range and of the handler, and a token or a
-- place
unfoldable pub fields_at : Bool → List ℕ → ℕ → Option Clause
fields_at false s p =
    number_within s p 2 >>= λ flags. number_within s (p + 2) 2 >>= λ try_offset.
    number_within s (p + 4) 1 >>= λ try_len.
    number_within s (p + 5) 2 >>= λ offset. number_within s (p + 7) 1 >>= λ len. number_within s (p + 8) 4 >>= λ last.
    Some (record { flags = flags; try_offset = try_offset; try_len = try_len; offset = offset; len = len; last = last })
fields_at true s p =
    number_within s p 4 >>= λ flags. number_within s (p + 4) 4 >>= λ try_offset.
    number_within s (p + 8) 4 >>= λ try_len.
    number_within s (p + 12) 4 >>= λ offset. number_within s (p + 16) 4 >>= λ len.
    number_within s (p + 20) 4 >>= λ last.
    Some (record { flags = flags; try_offset = try_offset; try_len = try_len; offset = offset; len = len; last = last })

-- the handler of a clause, with places as its bounds
unfoldable pub handler_of : Clause → Option Handler
handler_of f = option_map (λ kind. record {
  kind = kind;
  try_start = f.try_offset;
  try_end = f.try_offset + f.try_len;
  start = f.offset;
  end = f.offset + f.len;
}) (handler_kind f.flags f.last)

-- the handler of the clause at a place
unfoldable pub clause_at : Bool → List ℕ → ℕ → Option Handler
clause_at fat s p = fields_at fat s p >>= handler_of

-- the next multiple of four
unfoldable pub aligned : ℕ → ℕ
aligned p = (p + 3) / 4 * 4

-- the sections after one
abbrev pub FollowedBy : Bool → List (List Handler) → Type 0 → Type 0
FollowedBy true rest P = P
FollowedBy false rest P = rest ≡ []

-- the sections stand at the multiples of four from a place on; each has its list of clauses
abbrev pub Sections : List ℕ → ℕ → List (List Handler) → Type 0
Sections s p [] = ⊥
Sections s p (hs ∷ rest) =
    (head : Section) × (data_section_at s (aligned p) ≡ Some head)
    × (items_at (clause_at head.fat s) (clause_size head.fat) (aligned p + 4) head.count ≡ Some hs)
    × FollowedBy head.further rest (Sections s (aligned p + 4 + head.count * clause_size head.fat) rest)
