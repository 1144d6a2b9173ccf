-- Types of attribute arguments: ECMA-335 II.23.3, II.23.1.16.
use Rattle.std.specs.Prelude.{ℕ, ◌==◌, ◌&&◌, ◌||◌, List, [], ◌∷◌, Option, None, Bool, true, false, nat_le, nat_eq}
use Rattle.std.specs.Prelude.{if◌then◌else◌, option_map, find}
use Rattle.std.specs.Cmp.Lexicographic.{pointwise}
use Rattle.cil_base.specs.Number.{strip_bytes}
use Rattle.cil_base.specs.Steps.{◌>>=◌}
use Rattle.attr_blob.specs.Fronts.{strip_text, is_short_text, spelled_text}
use Rattle.attr_blob.specs.declared.value.EnumWidth.{EnumWidth}
use Rattle.attr_blob.specs.declared.value.ArgType.{ArgType}
use Rattle.attr_blob.specs.declared.value.ArgType.TheOpen.{ArgType-F, Prim, Text, SystemType, Boxed, Enum, Array}
use Rattle.attr_blob.specs.declared.value.ArgType.TheViews.{out-ArgType}

-- the element types of numbers: BOOLEAN 02, CHAR 03, I1 04 to U8 0B, R4 0C, R8 0D
abbrev pub is_numeric : ℕ → Bool
is_numeric elem = nat_le 0x02 elem && nat_le elem 0x0d

-- how many bytes a number has: 1 for 02, 04, 05, 2 for 03, 06, 07, 4 for 08, 09, 0C, else 8
abbrev pub number_width : ℕ → ℕ
number_width elem =
    if (elem == 0x02) || (elem == 0x04) || (elem == 0x05) then 1
    else if (elem == 0x03) || (elem == 0x06) || (elem == 0x07) then 2
    else if (elem == 0x08) || (elem == 0x09) || (elem == 0x0c) then 4
    else 8

-- a type that is no array and can be spelled
abbrev pub simple_fits : ArgType-F ArgType → Bool
simple_fits (Prim elem) = is_numeric elem
simple_fits Text = true
simple_fits SystemType = true
simple_fits Boxed = true
simple_fits (Enum name) = is_short_text name
simple_fits (Array elem) = false

abbrev pub fits_level : ArgType-F ArgType → Bool
fits_level (Array elem) = simple_fits (out-ArgType elem)
fits_level (Prim elem) = is_numeric elem
fits_level Text = true
fits_level SystemType = true
fits_level Boxed = true
fits_level (Enum name) = is_short_text name

-- a type that can be spelled: the elements of an array are no arrays
unfoldable pub arg_type_fits : ArgType → Bool
arg_type_fits ty = fits_level (out-ArgType ty)

-- after a type that is no array
abbrev pub strip_simple : ArgType-F ArgType → List ℕ → Option (List ℕ)
strip_simple (Prim elem) s = strip_bytes (elem ∷ []) s
strip_simple Text s = strip_bytes (0x0e ∷ []) s
strip_simple SystemType s = strip_bytes (0x50 ∷ []) s
strip_simple Boxed s = strip_bytes (0x51 ∷ []) s
strip_simple (Enum name) s = strip_bytes (0x55 ∷ []) s >>= strip_text name
strip_simple (Array elem) s = None

abbrev pub strip_type_level : ArgType-F ArgType → List ℕ → Option (List ℕ)
strip_type_level (Array elem) s = strip_bytes (0x1d ∷ []) s >>= strip_simple (out-ArgType elem)
strip_type_level (Prim elem) s = strip_simple (Prim elem) s
strip_type_level Text s = strip_simple Text s
strip_type_level SystemType s = strip_simple SystemType s
strip_type_level Boxed s = strip_simple Boxed s
strip_type_level (Enum name) s = strip_simple (Enum name) s

-- what stays of bytes after a type at their front
unfoldable pub strip_type : ArgType → List ℕ → Option (List ℕ)
strip_type ty s = strip_type_level (out-ArgType ty) s

abbrev pub spelled_simple : ArgType-F ArgType → List ℕ
spelled_simple (Prim elem) = elem ∷ []
spelled_simple Text = 0x0e ∷ []
spelled_simple SystemType = 0x50 ∷ []
spelled_simple Boxed = 0x51 ∷ []
spelled_simple (Enum name) = 0x55 ∷ spelled_text name
spelled_simple (Array elem) = []

abbrev pub spelled_type_level : ArgType-F ArgType → List ℕ
spelled_type_level (Array elem) = 0x1d ∷ spelled_simple (out-ArgType elem)
spelled_type_level (Prim elem) = spelled_simple (Prim elem)
spelled_type_level Text = spelled_simple Text
spelled_type_level SystemType = spelled_simple SystemType
spelled_type_level Boxed = spelled_simple Boxed
spelled_type_level (Enum name) = spelled_simple (Enum name)

-- a type with the shortest form of each number
unfoldable pub spelled_type : ArgType → List ℕ
spelled_type ty = spelled_type_level (out-ArgType ty)

-- the element type of an enum's numbers: of two widths of one name the first counts
abbrev pub enum_width : List EnumWidth → List ℕ → Option ℕ
enum_width widths name = option_map (λ width. width.elem) (find (λ width. pointwise nat_eq width.name name) widths)
