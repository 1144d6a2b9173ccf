-- The definitions at worked values: words of a command line, and lines of statuses.
use Rattle.std.proofs.Common.{◌≡◌, refl, ◌∷◌, [], Some, None, codes}
use Rattle.std.specs.Fmt.{digits}
use Rattle.md_tables.specs.declared.tables.TablesRefusal.TheVariants.{UnsupportedTable}
use Rattle.pe_image.specs.declared.refusal.PeRefusal.TheVariants.{BadMagic}
use Rattle.node_read.specs.declared.image.OpenRefusal.TheVariants as opens
use Rattle.cecil_inspect.specs.Statuses.{status_text}
use Rattle.cecil_inspect.specs.Words.{asked, pair_value, token_in}
use Rattle.cecil_inspect.specs.declared.status.FileCause.TheVariants.{Refused}
use Rattle.cecil_inspect.specs.declared.status.Status.TheVariants.{File}
use Rattle.cecil_inspect.specs.declared.words.Request.TheVariants.{Dump, Show}

pub dump_a_file : asked (codes "dump" ∷ codes "small.dll" ∷ []) ≡ Some (codes "small.dll", Dump)
dump_a_file = refl

pub dots-are-no-name : asked (codes "dump" ∷ codes ".." ∷ []) ≡ None
dots-are-no-name = refl

pub show_a_row : asked (codes "show" ∷ codes "small.dll" ∷ codes "0200000A" ∷ [])
    ≡ Some (codes "small.dll", Show (record { table = 2; rid = 10 }))
unfolding token_in pair_value
show_a_row = refl

pub digits_in_either_case : token_in (codes "2aBcDeF0") ≡ Some (record { table = 0x2a; rid = 0xbcdef0 })
unfolding token_in pair_value
digits_in_either_case = refl

pub seven-digits-are-no-token : token_in (codes "2000001") ≡ None
unfolding token_in
seven-digits-are-no-token = refl

pub magic_is_told : status_text (File (codes "a.dll") (Refused (opens.Pe (BadMagic 263))))
    ≡ codes "cecil: file a.dll: refused 4 BadMagic(263)"
unfolding digits
magic_is_told = refl

pub table_is_told : status_text (File (codes "a.dll") (Refused (opens.Tables (UnsupportedTable 48))))
    ≡ codes "cecil: file a.dll: refused 11 UnsupportedTable(48)"
unfolding digits
table_is_told = refl
