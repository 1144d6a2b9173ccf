-- The CLI header: ECMA-335 II.25.3.3.
use Rattle.std.specs.Prelude.{ℕ, Bool, List, ◌==◌, ◌&&◌, not}
use Rattle.pe_image.specs.Places.{u32_at}
use Rattle.pe_image.specs.Headers.{cli_rva}
use Rattle.pe_image.specs.Sections.{bytes_from}

-- the bytes from the RVA of directory 14; the header is the first 72 of them
unfoldable pub cli_header : List ℕ → List ℕ
cli_header b = bytes_from b (cli_rva b)

-- the RVA and the size of the metadata
abbrev pub metadata_rva : List ℕ → ℕ
metadata_rva b = u32_at (cli_header b) 8

abbrev pub metadata_size : List ℕ → ℕ
metadata_size b = u32_at (cli_header b) 12

-- the RVA of the resources, from which their offsets count
unfoldable pub resources_rva : List ℕ → ℕ
resources_rva b = u32_at (cli_header b) 24

-- whether CodeManagerTable, VTableFixups, ExportAddressTableJumps or ManagedNativeHeader names an RVA
unfoldable pub has_native : List ℕ → Bool
has_native cli = not ((u32_at cli 40 == 0) && (u32_at cli 48 == 0) && (u32_at cli 56 == 0) && (u32_at cli 64 == 0))
