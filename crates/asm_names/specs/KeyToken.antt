-- The token that stands for a public key: ECMA-335 II.6.3.
use Rattle.std.specs.Prelude.{ℕ, List, drop, reverse, take}
use Rattle.sha1.specs.Sha1.{sha1}

-- the last 8 of the 20 bytes of the key's SHA-1 digest, the last one first
abbrev pub key_token : List ℕ → List ℕ
key_token key = reverse (take 8 (drop 12 (sha1 key)))
