-- The lines that `dump` and `show` print of an image: each is the reply to one query over the image as it is.
use Rattle.std.specs.Prelude.{ℕ, Bool, true, false, List, [], ◌∷◌, ◌++◌, map, if◌then◌else◌}
use Rattle.std.specs.List.{flat_map}
use Rattle.std.specs.Option.{option_map_or}
use Rattle.cil_base.specs.Token.{Token, root}
use Rattle.dump_text.specs.ReplyText.{reply_text}
use Rattle.md_schema.specs.Link.{all_links}
use Rattle.md_schema.specs.Schema.{tables}
use Rattle.md_schema.specs.declared.link.Link.{Link}
use Rattle.md_schema.specs.Tables.{type_def}
use Rattle.node_model.specs.Graph.{untouched}
use Rattle.node_model.specs.KeyKinds.{has_kind}
use Rattle.node_model.specs.Questions.{query_key}
use Rattle.node_model.specs.Replies.{reply}
use Rattle.node_model.specs.declared.query.Query.{Query}
use Rattle.node_model.specs.declared.query.Query.TheVariants.{Row, Sig, Members, Links, Body, Data, Resource}
use Rattle.node_model.specs.declared.reply.Reply.{Reply}
use Rattle.node_model.specs.declared.reply.Reply.TheVariants as replies
use Rattle.cecil_inspect.specs.declared.words.Request.{Request}
use Rattle.cecil_inspect.specs.declared.words.Request.TheVariants.{Dump, Show}

-- a line ends with a line feed
abbrev pub line : List ℕ → List ℕ
line text = text ++ 0x0a ∷ []

-- the reply to a query over an image to which nothing was done
unfoldable pub file_reply : List ℕ → Query → Reply
file_reply b q = reply (untouched b) 0 q

unfoldable pub reply_line : List ℕ → Query → List ℕ
reply_line b q = line (reply_text (file_reply b q))

abbrev pub row_line : List ℕ → Token → List ℕ
row_line b t = reply_line b (Row t)

-- the tokens of a list that was asked for
abbrev pub listed : Reply → List Token
listed (replies.Tokens k ts) = ts
listed _ = []

abbrev pub first_module : Token
first_module = record { table = 0; rid = 1 }

-- the line of the first Module row, then one for each TypeDef that the root lists
unfoldable pub dump : List ℕ → List ℕ
dump b = row_line b first_module ++ flat_map (row_line b) (listed (file_reply b (Members root type_def)))

-- whether the table of the row has this part
abbrev pub has_part : Query → Bool
has_part q = option_map_or has_kind (query_key q) false

abbrev pub part_line : List ℕ → Query → List ℕ
part_line b q = if has_part q then reply_line b q else []

-- the numbers of the tables
abbrev pub all_table_numbers : List ℕ
all_table_numbers = map (λ table. table.number) tables

abbrev pub member_line : List ℕ → Token → ℕ → List ℕ
member_line b t n = part_line b (Members t n)

abbrev pub linked_line : List ℕ → Token → Link → List ℕ
linked_line b t l = part_line b (Links t l)

-- the lines of the parts that a row has besides its cells, in the order in which they are printed
abbrev pub parts_lines : List ℕ → Token → List ℕ
parts_lines b t =
    part_line b (Sig t) ++ flat_map (member_line b t) all_table_numbers ++ flat_map (linked_line b t) all_links
    ++ part_line b (Body t) ++ part_line b (Data t) ++ part_line b (Resource t)

abbrev pub is_absent : Reply → Bool
is_absent (replies.Absent t) = true
is_absent _ = false

-- the line of a row, and unless it is absent one for each further part that its table has
unfoldable pub show : List ℕ → Token → List ℕ
show b t = row_line b t ++ (if is_absent (file_reply b (Row t)) then [] else parts_lines b t)

abbrev pub lines_of : List ℕ → Request → List ℕ
lines_of b Dump = dump b
lines_of b (Show t) = show b t
