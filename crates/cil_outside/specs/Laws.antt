-- What follows for files that are put.
use Rattle.std.specs.Prelude.{◌≡◌, ℕ, ◌++◌, ◌∷◌, [], List, if◌then◌else◌, nat_eq}
use Rattle.std.specs.Cmp.Lexicographic.{pointwise}
use Rattle.cil_outside.specs.Outlet.{put_content}
use Rattle.cil_outside.specs.declared.puts.PutFile.{PutFile}

-- one put more sets the content of its name, and that of every other name stays
abbrev pub LastPutCounts : Type 0
LastPutCounts =
    (puts : List PutFile) (put : PutFile) (name : List ℕ)
    → put_content (puts ++ put ∷ []) name
    ≡ (if pointwise nat_eq put.name name then put.bytes else put_content puts name)
