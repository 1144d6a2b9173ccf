-- The small image: a PE file whose metadata has one row of Module and one of TypeDef. ECMA-335 II.24.2, II.25.
use Rattle.std.specs.Prelude.{ℕ, List, [], ◌∷◌, ◌++◌, codes, replicate}
use Rattle.std.specs.Int.{bytes_low_first}

-- so many zero bytes
abbrev zeros : ℕ → List ℕ
zeros n = replicate n 0

-- a number in two, four and eight bytes
abbrev u16 : ℕ → List ℕ
u16 n = bytes_low_first 0 2 n

abbrev u32 : ℕ → List ℕ
u32 n = bytes_low_first 0 4 n

abbrev u64 : ℕ → List ℕ
u64 n = bytes_low_first 0 8 n

-- the MS-DOS header, of 64 bytes, which ends with the place of the PE signature (II.25.2.1)
abbrev dos_header : List ℕ
dos_header = codes "MZ" ++ zeros 58 ++ u32 0x40

-- the PE signature, and the PE file header: i386, one section, an optional header of 224 bytes, a DLL (II.25.2.2)
abbrev file_header : List ℕ
file_header =
    codes "PE" ++ zeros 2 ++ u16 0x14c ++ u16 1 ++ zeros 12 ++ u16 0xe0 ++ u16 0x2102

-- the standard fields: PE32, linker 8.0, the code's size and its base (II.25.2.3.1)
abbrev standard_fields : List ℕ
standard_fields = u16 0x10b ++ 8 ∷ 0 ∷ u32 0x200 ++ zeros 12 ++ u32 0x2000 ++ zeros 4

-- the fields for Windows: the base of the image, alignments, versions 4.0 of system and subsystem, the sizes of the
-- image and of its headers, the subsystem and its flags, the sizes of stack and heap, sixteen directories (II.25.2.3.2)
abbrev windows_fields : List ℕ
windows_fields =
    u32 0x400000 ++ u32 0x2000 ++ u32 0x200 ++ u16 4 ++ zeros 6 ++ u16 4 ++ zeros 6 ++ u32 0x4000 ++ u32 0x200
    ++ zeros 4 ++ u16 3 ++ u16 0x8540 ++ u32 0x100000 ++ u32 0x1000 ++ u32 0x100000 ++ u32 0x1000 ++ zeros 4 ++ u32 16

-- the data directories, of which number 14 alone is not zero: the CLI header's (II.25.2.3.3)
abbrev directories : List ℕ
directories = zeros 112 ++ u32 0x2000 ++ u32 72 ++ zeros 8

-- the header of the section `.text`: its size in memory and its RVA, its size in the file and its place there (II.25.3)
abbrev section_header : List ℕ
section_header =
    codes ".text" ++ zeros 3 ++ u32 0x118 ++ u32 0x2000 ++ u32 0x200 ++ u32 0x200 ++ zeros 12 ++ u32 0x60000020

-- all headers, padded to the alignment of the file
abbrev headers : List ℕ
headers =
    dos_header ++ file_header ++ standard_fields ++ windows_fields ++ directories ++ section_header ++ zeros 160

-- the CLI header: the runtime's version 2.5, the metadata's RVA and size, IL alone (II.25.3.3)
abbrev cli_header : List ℕ
cli_header = u32 72 ++ u16 2 ++ u16 5 ++ u32 0x2048 ++ u32 0xd0 ++ u32 1 ++ zeros 52

-- the metadata root, with the version's text in twelve bytes, and five streams (II.24.2.1)
abbrev metadata_root : List ℕ
metadata_root =
    codes "BSJB" ++ u16 1 ++ u16 1 ++ zeros 4 ++ u32 12 ++ codes "v4.0.30319" ++ zeros 2 ++ zeros 2 ++ u16 5

-- where each stream begins in the metadata, its size and its name (II.24.2.2)
abbrev stream_headers : List ℕ
stream_headers =
    u32 0x6c ++ u32 0x38 ++ codes "#~" ++ zeros 2
    ++ u32 0xa4 ++ u32 0x14 ++ codes "#Strings" ++ zeros 4
    ++ u32 0xb8 ++ u32 4 ++ codes "#US" ++ zeros 1
    ++ u32 0xbc ++ u32 16 ++ codes "#GUID" ++ zeros 3
    ++ u32 0xcc ++ u32 4 ++ codes "#Blob" ++ zeros 3

-- the header of the stream of tables: version 2.0, small heaps, Valid with Module and TypeDef, Sorted with the tables
-- that are to be sorted; then the number of rows of each (II.24.2.6)
abbrev tables_header : List ℕ
tables_header =
    zeros 4 ++ 2 ∷ 0 ∷ 0 ∷ 1 ∷ u64 5 ++ u64 0x16003301fa00 ++ u32 1 ++ u32 1

-- Generation, Name, Mvid, EncId, EncBaseId (II.22.30)
abbrev module_row : List ℕ
module_row = u16 0 ++ u16 1 ++ u16 1 ++ u16 0 ++ u16 0

-- Flags, TypeName, TypeNamespace, Extends, FieldList, MethodList (II.22.37)
abbrev type_row : List ℕ
type_row = u32 0 ++ u16 11 ++ u16 0 ++ u16 0 ++ u16 1 ++ u16 1

-- the heap of texts: the empty one, the module's name, and the name of the type that has the global members (II.24.2.3)
abbrev strings : List ℕ
strings = 0 ∷ codes "small.dll" ++ 0 ∷ codes "<Module>" ++ 0 ∷ []

-- the module's GUID, 00112233-4455-6677-8899-aabbccddeeff, as it is stored (II.24.2.5)
abbrev guids : List ℕ
guids = u32 0x00112233 ++ u16 0x4455 ++ u16 0x6677 ++ 0x88 ∷ 0x99 ∷ 0xaa ∷ 0xbb ∷ 0xcc ∷ 0xdd ∷ 0xee ∷ 0xff ∷ []

-- the metadata: its root, the headers of its streams, and the streams; #US and #Blob have the empty entry alone
abbrev metadata : List ℕ
metadata =
    metadata_root ++ stream_headers ++ tables_header ++ module_row ++ type_row ++ strings ++ zeros 4 ++ guids ++ zeros 4

-- 1,024 bytes: the headers, and one section that is padded to the alignment of the file
unfoldable pub small_image : List ℕ
small_image = headers ++ cli_header ++ metadata ++ zeros 232
