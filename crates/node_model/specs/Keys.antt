-- The keys of an image, by its bytes. Rows are those that the header of the tables counts (ECMA-335 II.24.2.6).
use Rattle.std.specs.Prelude.{ℕ, Bool, true, false, List, nat_lt, nat_le, ◌==◌, ◌&&◌, ◌||◌}
use Rattle.cil_base.specs.Token.{Token, root}
use Rattle.md_schema.specs.Link.{link_column_of, link_table_of}
use Rattle.md_schema.specs.Runs.{table_row_count}
use Rattle.md_schema.specs.declared.link.Link.{Link}
use Rattle.pe_image.specs.Streams.{stream}
use Rattle.pe_image.specs.declared.stream.StreamName.TheVariants.{Tables}
use Rattle.node_model.specs.KeyKinds.{has_kind, is_root_token}
use Rattle.node_model.specs.declared.key.Key.{Key}
use Rattle.node_model.specs.declared.key.Key.TheVariants.{Row, Sig, Owned, Linked, Body, Data, Resource, Facts}

-- how many rows each table of an image has
unfoldable pub image_rows : List ℕ → ℕ → ℕ
image_rows b t = table_row_count (stream b Tables) t

-- the row of a key; the facts are the root's
abbrev pub token_of_key : Key → Token
token_of_key (Row t) = t
token_of_key (Sig t) = t
token_of_key (Owned t n) = t
token_of_key (Linked t l) = t
token_of_key (Body t) = t
token_of_key (Data t) = t
token_of_key (Resource t) = t
token_of_key Facts = root

-- the keys that the root has: its lists, and the facts
abbrev pub is_of_root : Key → Bool
is_of_root (Owned t n) = is_root_token t
is_of_root Facts = true
is_of_root _ = false

-- the row is one of the tables: rows are counted from 1, and the root is none
abbrev pub is_row : (ℕ → ℕ) → Token → Bool
is_row rows t = nat_lt 0 t.rid && nat_le t.rid (rows t.table)

-- the row of the key is there, or it is one of the root's
abbrev pub is_key_there : (ℕ → ℕ) → Key → Bool
is_key_there rows k = is_of_root k || is_row rows (token_of_key k)

-- the key is one of the image: each row has a key of each kind that its table has
unfoldable pub is_key : List ℕ → Key → Bool
is_key b k = is_key_there (image_rows b) k && has_kind k

abbrev pub same_token : Token → Token → Bool
same_token a b = (a.table == b.table) && (a.rid == b.rid)

-- a link is its table and its column
abbrev pub same_link : Link → Link → Bool
same_link a b = (link_table_of a == link_table_of b) && (link_column_of a == link_column_of b)

-- whether two keys are one
abbrev pub same_key : Key → Key → Bool
same_key (Row a) (Row b) = same_token a b
same_key (Sig a) (Sig b) = same_token a b
same_key (Owned a n) (Owned b m) = same_token a b && (n == m)
same_key (Linked a l) (Linked b m) = same_token a b && same_link l m
same_key (Body a) (Body b) = same_token a b
same_key (Data a) (Data b) = same_token a b
same_key (Resource a) (Resource b) = same_token a b
same_key Facts Facts = true
same_key _ _ = false
