-- How the facts of an image are printed (ECMA-335 II.25.2.2, II.25.2.3, II.25.3.3, II.24.2.1).
use Rattle.std.specs.Prelude.{ℕ, List, ◌∷◌, ◌++◌, codes, if◌then◌else◌}
use Rattle.std.specs.Fmt.{decimal}
use Rattle.pe_image.specs.declared.facts.Facts.{Facts}
use Rattle.sig_tree.specs.Printed.{own_text}
use Rattle.dump_text.specs.Pieces.{flag_text, hex_number, quoted}

abbrev pub format_text : Facts → List ℕ
format_text f = if f.plus then codes " pe32+" else codes " pe32"

-- the machine that the file header names, and when the file was made
abbrev pub machine_text : Facts → List ℕ
machine_text f = codes " machine=" ++ hex_number 2 f.machine ++ codes " time=" ++ decimal f.time

-- the flags of the file header
abbrev pub characteristics_text : Facts → List ℕ
characteristics_text f = codes " characteristics=" ++ hex_number 2 f.characteristics

-- what the file header says
abbrev pub file_header_text : Facts → List ℕ
file_header_text f = machine_text f ++ characteristics_text f

-- what the optional header says
abbrev pub optional_header_text : Facts → List ℕ
optional_header_text f =
    codes " base=" ++ hex_number 8 f.base ++ codes " subsystem=" ++ decimal f.subsystem
    ++ codes " dll=" ++ hex_number 2 f.dll

-- the version that the CLI header asks for
abbrev pub runtime_text : Facts → List ℕ
runtime_text f = codes " runtime=" ++ decimal f.runtime_major ++ 0x2e ∷ decimal f.runtime_minor

-- what else the CLI header says, and the metadata's version
abbrev pub cli_header_text : Facts → List ℕ
cli_header_text f =
    codes " flags=" ++ decimal f.flags ++ codes " native=" ++ flag_text f.native ++ codes " entry=" ++ own_text f.entry
    ++ codes " version=" ++ quoted f.version

abbrev pub facts_text : Facts → List ℕ
facts_text f =
    codes "facts" ++ format_text f ++ file_header_text f ++ optional_header_text f ++ runtime_text f
    ++ cli_header_text f
