-- Which heaps are large: ECMA-335 II.24.2.6.
use Rattle.std.specs.Prelude.{ℕ, ◌+◌, ◌^◌, List, length, nat_le, if◌then◌else◌}
use Rattle.md_heaps.specs.declared.builder.Heaps.{Heaps}

-- the bit of a heap, where an index of two bytes does not reach all of it
abbrev pub large_bit : List ℕ → ℕ → ℕ
large_bit heap bit = if nat_le (2 ^ 16) (length heap) then bit else 0

-- the bits of #Strings, #GUID and #Blob
unfoldable pub heap_sizes_of : Heaps → ℕ
heap_sizes_of heaps = large_bit heaps.strings 1 + large_bit heaps.guids 2 + large_bit heaps.blobs 4
