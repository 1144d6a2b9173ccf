-- What a query looks at, and what it says: once, for the keys that it reaches, its reply, and the key that it needs.
use Rattle.std.specs.Prelude.{ℕ, Bool, Option, Some, None, ◌==◌, ◌||◌, ◌&&◌, if◌then◌else◌}
use Rattle.cil_base.specs.Token.{Token}
use Rattle.md_schema.specs.Tables.{field, method_def, type_def}
use Rattle.node_model.specs.KeyKinds.{has_kind}
use Rattle.node_model.specs.Keys.{token_of_key}
use Rattle.node_model.specs.Look.{key_status}
use Rattle.node_model.specs.Nodes.{Nodes, row_status}
use Rattle.node_model.specs.RowNames.{has_name, name_walk}
use Rattle.node_model.specs.Searches.{find_member_walk, find_type_walk}
use Rattle.node_model.specs.TypeViews.{method_walk, type_walk}
use Rattle.node_model.specs.Walk.{Content, Walk, Asks, Gives, then_walk}
use Rattle.node_model.specs.declared.key.Key.{Key}
use Rattle.node_model.specs.declared.key.Key.TheVariants as keys
use Rattle.node_model.specs.declared.nodes.RowStatus.{RowStatus}
use Rattle.node_model.specs.declared.nodes.RowStatus.TheVariants.{Absent, Removed, Live}
use Rattle.node_model.specs.declared.query.Query.{Query}
use Rattle.node_model.specs.declared.query.Query.TheVariants.{Row, Sig, Members, Links, Body, Data, Resource, Facts}
use Rattle.node_model.specs.declared.query.Query.TheVariants.{Name, TypeInfo, Method, FindType, FindMember, Filled}
use Rattle.node_model.specs.declared.reply.Reply.{Reply}
use Rattle.node_model.specs.declared.reply.Reply.TheVariants as replies

-- the one key of a query that looks at one alone; the others look at several, and Filled at none
abbrev pub query_key : Query → Option Key
query_key (Row t) = Some (keys.Row t)
query_key (Sig t) = Some (keys.Sig t)
query_key (Members t n) = Some (keys.Owned t n)
query_key (Links t l) = Some (keys.Linked t l)
query_key (Body t) = Some (keys.Body t)
query_key (Data t) = Some (keys.Data t)
query_key (Resource t) = Some (keys.Resource t)
query_key Facts = Some keys.Facts
query_key (Name t) = None
query_key (TypeInfo t) = None
query_key (Method t) = None
query_key (FindType namespace name) = None
query_key (FindMember of table name sig) = None
query_key Filled = None

-- the reply by what the key holds
abbrev pub value_reply : (k : Key) → Content k → Reply
value_reply (keys.Row t) row = replies.Row row
value_reply (keys.Sig t) sig = replies.Sig t sig
value_reply (keys.Owned t n) tokens = replies.Tokens (keys.Owned t n) tokens
value_reply (keys.Linked t l) tokens = replies.Tokens (keys.Linked t l) tokens
value_reply (keys.Body t) body = replies.Body t body
value_reply (keys.Data t) bytes = replies.Data t bytes
value_reply (keys.Resource t) value = replies.Resource t value
value_reply keys.Facts facts = replies.Facts facts

-- what is said of a row before any key is looked at: that it is absent or was removed, or that its table has no such
-- part
abbrev pub status_reply : RowStatus → Bool → Token → Option Reply
status_reply Absent has_part t = Some (replies.Absent t)
status_reply Removed has_part t = Some (replies.Removed t)
status_reply Live has_part t = if has_part then None else Some (replies.WrongKind t)

-- of the row of a key; the root's keys are there
abbrev pub key_reply : Nodes → Key → Option Reply
key_reply n k = status_reply (key_status n k) (has_kind k) (token_of_key k)

-- of a row; the root is none
abbrev pub row_reply : Nodes → Bool → Token → Option Reply
row_reply n has_part t = status_reply (row_status n t) has_part t

-- whether rows of the one table, which own rows of the other, have members that are looked for by their names
abbrev pub has_members : Token → ℕ → Bool
has_members of table = ((table == field) || (table == method_def)) && has_kind (keys.Owned of table)

-- of a query that looks at no single key
abbrev pub several_early : Nodes → Query → Option Reply
several_early n (Name t) = row_reply n (has_name t.table) t
several_early n (TypeInfo t) = row_reply n (t.table == type_def) t
several_early n (Method t) = row_reply n (t.table == method_def) t
several_early n (FindMember of table name sig) = row_reply n (has_members of table) of
several_early n _ = None

abbrev pub early_by : Nodes → Query → Option Key → Option Reply
early_by n q (Some k) = key_reply n k
early_by n q None = several_early n q

unfoldable pub early_reply : Nodes → Query → Option Reply
early_reply n q = early_by n q (query_key q)

-- the walk of a query that looks at no single key; only Filled tells how many keys were filled
abbrev pub several_walk : Nodes → ℕ → Query → Walk Reply
several_walk n fills (Name t) = then_walk (name_walk n t) (λ name. Gives (replies.Name t name))
several_walk n fills (TypeInfo t) = type_walk n t
several_walk n fills (Method t) = method_walk n t
several_walk n fills (FindType namespace name) = find_type_walk n namespace name
several_walk n fills (FindMember of table name sig) = find_member_walk n of table name sig
several_walk n fills _ = Gives (replies.Filled fills)

-- one key is looked at
abbrev pub key_walk : Key → Walk Reply
key_walk k = Asks k (λ v. Gives (value_reply k v))

abbrev pub walk_by : Nodes → ℕ → Query → Option Key → Walk Reply
walk_by n fills q (Some k) = key_walk k
walk_by n fills q None = several_walk n fills q

-- the walk of a query, by the number of keys that were filled
unfoldable pub query_walk : Nodes → ℕ → Query → Walk Reply
query_walk n fills q = walk_by n fills q (query_key q)
