-- The names of the five streams.
use Rattle.std.proofs.Common.{refl, arith}
use Rattle.std.specs.Prelude.{codes}
use Rattle.pe_image.specs.declared.stream.StreamName.TheVariants.{Tables, Strings, UserStrings, Guids, Blobs}
use Rattle.pe_write.specs.Metadata.{zero_ended}
use Rattle.pe_write.proofs.StreamHeaders.{IsNamed}

pub tables-named : IsNamed (zero_ended (codes "#~")) 2 Tables
tables-named = record { short = omega arith; inside = omega arith; wide = refl; ends = λ rest. refl; text = λ rest. refl }

pub strings-named : IsNamed (zero_ended (codes "#Strings")) 8 Strings
strings-named = record { short = omega arith; inside = omega arith; wide = refl; ends = λ rest. refl; text = λ rest. refl }

pub users-named : IsNamed (zero_ended (codes "#US")) 3 UserStrings
users-named = record { short = omega arith; inside = omega arith; wide = refl; ends = λ rest. refl; text = λ rest. refl }

pub guids-named : IsNamed (zero_ended (codes "#GUID")) 5 Guids
guids-named = record { short = omega arith; inside = omega arith; wide = refl; ends = λ rest. refl; text = λ rest. refl }

pub blobs-named : IsNamed (zero_ended (codes "#Blob")) 5 Blobs
blobs-named = record { short = omega arith; inside = omega arith; wide = refl; ends = λ rest. refl; text = λ rest. refl }
