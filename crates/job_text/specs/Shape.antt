-- Whether a JSON value has the form of a job.
use Rattle.std.specs.Prelude.{ℕ, ◌==◌, ◌&&◌, ◌||◌, List, [], ◌∷◌, Bool, true, false, not, length, map, bytes_eq, codes, is_some, unwrap_or}
use Rattle.std.specs.List.{list_all, list_any}
use Rattle.std.specs.Option.{option_map_or}
use Rattle.serde_json.specs.Data.{Data}
use Rattle.job_text.specs.Values.{given_list, member, member_count, given_number, given_text}

unfoldable pub is_list : Data → Bool
is_list d = is_some (given_list d)

-- the items of a list; none of another value
unfoldable pub items : Data → List Data
items d = unwrap_or (given_list d) []

-- a file's name is not empty, not `.` or `..`, and has no `/` and no zero byte
unfoldable pub is_file_name : List ℕ → Bool
is_file_name name =
    not (bytes_eq name []) && not (bytes_eq name (codes ".")) && not (bytes_eq name (codes ".."))
    && not (list_any (λ c. (c == 0x2f) || (c == 0)) name)

unfoldable pub gives_name : Data → Bool
gives_name d = option_map_or is_file_name (given_text d) false

-- the text of a value; empty of another
unfoldable pub given_name : Data → List ℕ
given_name d = unwrap_or (given_text d) []

-- what says what is written has two members: a module's number, and a name
unfoldable pub gives_write : ℕ → Data → Bool
gives_write modules d =
    (member_count d == 2) && is_some (given_number modules (member (codes "module") d)) && gives_name (member (codes "as") d)

abbrev pub write_name : Data → List ℕ
write_name d = given_name (member (codes "as") d)

-- no name is one of those seen, or stands twice
unfoldable pub all_new : List (List ℕ) → List (List ℕ) → Bool
all_new seen [] = true
all_new seen (name ∷ names) = not (list_any (λ s. bytes_eq s name) seen) && all_new (name ∷ seen) names

-- three members, each a list
abbrev pub has_parts : Data → Bool
has_parts d =
    (member_count d == 3) && is_list (member (codes "modules") d) && is_list (member (codes "actors") d)
    && is_list (member (codes "write") d)

-- whether a job may write images
abbrev pub writes_images : Bool
writes_images = false

unfoldable pub are_writes : ℕ → List Data → Bool
are_writes modules writes =
    (writes_images || (length writes == 0)) && list_all (gives_write modules) writes && all_new [] (map write_name writes)

-- names of files, lists of commands, and what is written
abbrev pub are_parts : List Data → List Data → List Data → Bool
are_parts modules actors writes =
    list_all gives_name modules && list_all is_list actors && are_writes (length modules) writes

unfoldable pub is_job : Data → Bool
is_job d =
    has_parts d
    && are_parts (items (member (codes "modules") d)) (items (member (codes "actors") d)) (items (member (codes "write") d))
