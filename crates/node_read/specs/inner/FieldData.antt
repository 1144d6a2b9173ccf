-- The bytes of a field's data, apart from the slot that holds them.
use Rattle.std.specs.Prelude.{ℕ, List, Option, codes}
use Rattle.cil_base.specs.Steps.{◌>>=◌}
use Rattle.cil_base.specs.Token.{Token}
use Rattle.node_model.specs.Data.{bytes_there, data_size}
use Rattle.node_model.specs.Streams.{ImageStreams, number_of_column}

-- as many bytes from the row's RVA as the field's type has
abbrev pub data_bytes : ImageStreams → List ℕ → Token → Option (List ℕ)
data_bytes s b t = data_size s t >>= λ size. bytes_there b (number_of_column s t (codes "RVA")) size
