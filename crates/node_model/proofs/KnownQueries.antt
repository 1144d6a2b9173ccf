-- Each key that a query reaches is there, and its table has its kind.
use Rattle.std.proofs.Common.{◌≡◌, refl, ◌∙◌, ap, ℕ, Bool, true, false, List, [], ◌∷◌, Option, Some, None, if◌then◌else◌, arith, tests}
use Rattle.std.specs.Prelude.{codes, ◌==◌, ◌&&◌, ◌||◌}
use Rattle.std.specs.List.{list_all}
use Rattle.std.specs.Str.{bytes_eq}
use Rattle.std.proofs.lemmas.Bool.{and_parts}
use Rattle.cil_base.specs.Token.{Token}
use Rattle.md_schema.specs.Schema.{tables}
use Rattle.md_schema.specs.Tables.{field, method_def, param, type_def}
use Rattle.md_schema.specs.declared.link.Link.TheVariants.{InterfaceImpl, Nested}
use Rattle.node_model.specs.Graph.{Graph}
use Rattle.node_model.specs.KeyKinds.{has_kind, has_sig, is_root_table, is_root_token, may_link, owns_table}
use Rattle.node_model.specs.Keys.{is_of_root, is_row, token_of_key}
use Rattle.node_model.specs.Look.{key_status}
use Rattle.node_model.specs.Nodes.{Nodes, is_live_row, is_live_status, row_status}
use Rattle.node_model.specs.Questions.{early_by, early_reply, has_members, key_reply, query_key, query_walk, row_reply, several_early, several_walk, status_reply, walk_by}
use Rattle.node_model.specs.Replies.{all_slots, reach, unless_early}
use Rattle.node_model.specs.RowNames.{has_name, is_member, live_members, name_walk}
use Rattle.node_model.specs.RowTexts.{text_named}
use Rattle.node_model.specs.Searches.{find_member_walk, find_type_walk, first_walk, member_test, sig_test, type_test}
use Rattle.node_model.specs.TypeViews.{members_walk, method_walk, row_walk, type_walk}
use Rattle.node_model.specs.Walk.{Walk, Gives, each_walk, looked, then_walk}
use Rattle.node_model.specs.declared.key.Key.{Key}
use Rattle.node_model.specs.declared.key.Key.TheVariants as keys
use Rattle.node_model.specs.declared.nodes.RowStatus.{RowStatus}
use Rattle.node_model.specs.declared.nodes.RowStatus.TheVariants.{Absent, Removed, Live}
use Rattle.node_model.specs.declared.query.OptText.{OptText}
use Rattle.node_model.specs.declared.query.OptText.TheVariants as texts
use Rattle.node_model.specs.declared.query.Query.{Query}
use Rattle.node_model.specs.declared.query.Query.TheVariants.{Row, Sig, Members, Links, Body, Data, Resource, Facts}
use Rattle.node_model.specs.declared.query.Query.TheVariants.{Name, TypeInfo, Method, FindType, FindMember, Filled}
use Rattle.node_model.specs.declared.reply.Reply.{Reply}
use Rattle.node_model.specs.declared.reply.Reply.TheVariants as replies
use Rattle.node_model.proofs.KnownLemmas.{Known, knows, known_looked, live_key, live_there}
use Rattle.node_model.proofs.KnownNames.{at_table, has_rows, known_then, member_known, name_known}

-- where nothing is said before, the row is there, and its table has the part
pub early_live : (s : RowStatus) (has : Bool) (t : Token) → status_reply s has t ≡ None → (is_live_status s ≡ true) × (has ≡ true)
early_live Live true t e = (refl, refl)
early_live Live false t e = absurd cc
early_live Absent has t e = absurd cc
early_live Removed has t e = absurd cc

pub key_known : (n : Nodes) (k : Key) → key_reply n k ≡ None → knows n k ≡ true
key_known n k e =
    let parts = early_live (key_status n k) (has_kind k) (token_of_key k) e in
    rw (by_root (is_of_root k) parts.0, parts.1) refl
  where
    by_root : (x : Bool) → is_live_status (if x then Live else row_status n (token_of_key k)) ≡ true → (x || is_row n.rows (token_of_key k)) ≡ true
    by_root true e = refl
    by_root false e = live_there n (token_of_key k) e

abbrev Live_of : Nodes → Bool → Token → Type 0
Live_of n has t = (is_live_row n t ≡ true) × (has ≡ true)

live_of : (n : Nodes) (has : Bool) (t : Token) → row_reply n has t ≡ None → Live_of n has t
live_of n has t e = early_live (row_status n t) has t e

-- the members of a list
members_known : {R : Type 0} (n : Nodes) (table : ℕ) (f : Token → Walk R) (ts : List Token) → ((t : Token) → is_member n table t ≡ true → Known n (f t))
    → Known n (each_walk f (live_members n table ts))
members_known n table f [] each = tt
members_known n table f (t ∷ ts) each = by_member (is_member n table t) refl (members_known n table f ts each)
  where
    by_member : (x : Bool) → is_member n table t ≡ x → Known n (each_walk f (live_members n table ts))
        → Known n (each_walk f (if x then t ∷ live_members n table ts else live_members n table ts))
    by_member true is rest =
        known_then n (f t) (λ r. then_walk (each_walk f (live_members n table ts)) (λ rs. Gives (r ∷ rs))) (each t is)
        (λ r. known_then n (each_walk f (live_members n table ts)) (λ rs. Gives (r ∷ rs)) rest (λ rs. tt))
    by_member false is rest = rest

first_known : (n : Nodes) (table : ℕ) (test : Token → Walk Bool) (ts : List Token) → ((t : Token) → is_member n table t ≡ true → Known n (test t))
    → Known n (first_walk test (live_members n table ts))
first_known n table test [] each = tt
first_known n table test (t ∷ ts) each = by_member (is_member n table t) refl (first_known n table test ts each)
  where
    by_fits : Known n (first_walk test (live_members n table ts)) → (x : Bool)
        → Known n (if x then Gives (replies.Found t) else first_walk test (live_members n table ts))
    by_fits rest true = tt
    by_fits rest false = rest

    by_member : (x : Bool) → is_member n table t ≡ x → Known n (first_walk test (live_members n table ts))
        → Known n (first_walk test (if x then t ∷ live_members n table ts else live_members n table ts))
    by_member true is rest =
        known_then n (test t) (λ fits. if fits then Gives (replies.Found t) else first_walk test (live_members n table ts)) (each t is) (by_fits rest)
    by_member false is rest = rest

-- the kinds of keys that are looked at for types and methods
record ViewKinds : Type 0 where
  pub field_rows : has_rows field ≡ true
  pub method_rows : has_rows method_def ≡ true
  pub param_rows : has_rows param ≡ true
  pub type_rows : has_rows type_def ≡ true
  pub fields : owns_table type_def field ≡ true
  pub methods : owns_table type_def method_def ≡ true
  pub params : owns_table method_def param ≡ true
  pub interfaces : may_link type_def InterfaceImpl ≡ true
  pub nested : may_link type_def Nested ≡ true
  pub method_sig : has_sig method_def ≡ true
  pub root_types : is_root_table type_def ≡ true

view_kinds : ViewKinds
unfolding tables may_link has_sig owns_table is_root_table
view_kinds = record {
  field_rows = refl;
  method_rows = refl;
  param_rows = refl;
  type_rows = refl;
  fields = refl;
  methods = refl;
  params = refl;
  interfaces = refl;
  nested = refl;
  method_sig = refl;
  root_types = refl;
}

-- a row of a table that is not the first is not the root
not_root : (t : Token) (table : ℕ) → (t.table == table) ≡ true → (table == 0) ≡ false → is_root_token t ≡ false
not_root t table e zero =
    let same : t.table ≡ table = grind (arith, tests) in
    ap (λ m. (m == 0) && (t.rid == 0)) same ∙ ap (λ x. x && (t.rid == 0)) zero

owned_kind : (t : Token) (table owned : ℕ) → (t.table == table) ≡ true → (table == 0) ≡ false → owns_table table owned ≡ true → has_kind (keys.Owned t owned) ≡ true
owned_kind t table owned e zero owns =
    ap (λ x. if x then is_root_table owned else owns_table t.table owned) (not_root t table e zero)
    ∙ at_table (λ m. owns_table m owned) t.table table e owns

rows_known : (n : Nodes) (t : Token) (owner table : ℕ) → is_live_row n t ≡ true → (t.table == owner) ≡ true → (owner == 0) ≡ false
    → owns_table owner table ≡ true → has_rows table ≡ true → Known n (members_walk n t table)
rows_known n t owner table live is zero owns has = (
  live_key n (keys.Owned t table) live (owned_kind t owner table is zero owns),
  λ ts. members_known n table row_walk ts (λ m member. (member_known n table m has member, λ row. tt)),
)

type_walk_known : (n : Nodes) (t : Token) → Live_of n (t.table == type_def) t → Known n (type_walk n t)
unfolding type_walk
type_walk_known n t parts = (
  live_key n (keys.Row t) parts.0 (at_table has_rows t.table type_def parts.1 view_kinds.type_rows),
  λ row. known_then n (members_walk n t field) _ (rows_known n t type_def field parts.0 parts.1 refl view_kinds.fields view_kinds.field_rows)
      (λ fields. known_then n (members_walk n t method_def) _ (rows_known n t type_def method_def parts.0 parts.1 refl view_kinds.methods view_kinds.method_rows)
      (λ methods. (
        live_key n (keys.Linked t InterfaceImpl) parts.0 (at_table (λ m. may_link m InterfaceImpl) t.table type_def parts.1 view_kinds.interfaces),
        λ interfaces. (
          live_key n (keys.Linked t Nested) parts.0 (at_table (λ m. may_link m Nested) t.table type_def parts.1 view_kinds.nested),
          λ nested. tt,
        ),
      ))),
)

method_walk_known : (n : Nodes) (t : Token) → Live_of n (t.table == method_def) t → Known n (method_walk n t)
unfolding method_walk
method_walk_known n t parts = (
  live_key n (keys.Row t) parts.0 (at_table has_rows t.table method_def parts.1 view_kinds.method_rows),
  λ row. (
    live_key n (keys.Sig t) parts.0 (at_table has_sig t.table method_def parts.1 view_kinds.method_sig),
    λ sig. known_then n (members_walk n t param) _ (rows_known n t method_def param parts.0 parts.1 refl view_kinds.params view_kinds.param_rows)
        (λ params. (live_key n (keys.Body t) parts.0 parts.1, λ body. tt)),
  ),
)

find_type_known : (n : Nodes) (namespace name : List ℕ) → Known n (find_type_walk n namespace name)
unfolding find_type_walk
find_type_known n namespace name = (
  view_kinds.root_types,
  λ ts. first_known n type_def (type_test namespace name) ts (λ t member. (member_known n type_def t view_kinds.type_rows member, λ row. tt)),
)

-- a field or a method has a row and a name
abbrev HasMember : ℕ → Type 0
HasMember table = (has_rows table ≡ true) × (has_name table ≡ true)

named : (has_name field ≡ true) × (has_name method_def ≡ true)
unfolding tables has_sig has_name
named = (refl, refl)

member_kinds : (table : ℕ) → ((table == field) || (table == method_def)) ≡ true → HasMember table
member_kinds table e = (by_two has_rows view_kinds.field_rows view_kinds.method_rows, by_two has_name named.0 named.1)
  where
    by_test : (P : ℕ → Bool) → P field ≡ true → P method_def ≡ true → (x : Bool) → (table == field) ≡ x → (x || (table == method_def)) ≡ true → P table ≡ true
    by_test P one two true is e = at_table P table field is one
    by_test P one two false is e = at_table P table method_def e two

    by_two : (P : ℕ → Bool) → P field ≡ true → P method_def ≡ true → P table ≡ true
    by_two P one two = by_test P one two (table == field) refl e

sig_test_known : (n : Nodes) (sig : OptText) (t : Token) → is_live_row n t ≡ true → has_name t.table ≡ true → Known n (sig_test n sig t)
sig_test_known n texts.None t live has = tt
sig_test_known n (texts.Is text) t live has =
    known_then n (name_walk n t) (λ printed. Gives (bytes_eq printed text)) (name_known n t live has) (λ printed. tt)

member_test_known : (n : Nodes) (table : ℕ) (name : List ℕ) (sig : OptText) (t : Token) → HasMember table → is_member n table t ≡ true
    → Known n (member_test n name sig t)
member_test_known n table name sig t has member =
    (member_known n table t has.0 member, λ row. by_name (bytes_eq (text_named (codes "Name") row) name))
  where
    by_name : (x : Bool) → Known n (if x then sig_test n sig t else Gives false)
    by_name true =
        let parts = and_parts (is_live_row n t) (t.table == table) member in
        sig_test_known n sig t parts.0 (at_table has_name t.table table parts.1 has.1)
    by_name false = tt

find_member_known : (n : Nodes) (of : Token) (table : ℕ) (name : List ℕ) (sig : OptText) → Live_of n (has_members of table) of
    → Known n (find_member_walk n of table name sig)
unfolding find_member_walk
find_member_known n of table name sig parts =
    let kinds = and_parts ((table == field) || (table == method_def)) (has_kind (keys.Owned of table)) parts.1 in (
      live_key n (keys.Owned of table) parts.0 kinds.1,
      λ ts. first_known n table (member_test n name sig) ts (λ t member. member_test_known n table name sig t (member_kinds table kinds.0) member),
    )

several_known : (n : Nodes) (fills : ℕ) (q : Query) → query_key q ≡ None → several_early n q ≡ None → Known n (several_walk n fills q)
several_known n fills (Name t) one e =
    let parts = live_of n (has_name t.table) t e in
    known_then n (name_walk n t) (λ name. Gives (replies.Name t name)) (name_known n t parts.0 parts.1) (λ name. tt)
several_known n fills (TypeInfo t) one e = type_walk_known n t (live_of n (t.table == type_def) t e)
several_known n fills (Method t) one e = method_walk_known n t (live_of n (t.table == method_def) t e)
several_known n fills (FindType namespace name) one e = find_type_known n namespace name
several_known n fills (FindMember of table name sig) one e = find_member_known n of table name sig (live_of n (has_members of table) of e)
several_known n fills Filled one e = tt
several_known n fills (Row t) one e = absurd cc
several_known n fills (Sig t) one e = absurd cc
several_known n fills (Members t m) one e = absurd cc
several_known n fills (Links t l) one e = absurd cc
several_known n fills (Body t) one e = absurd cc
several_known n fills (Data t) one e = absurd cc
several_known n fills (Resource t) one e = absurd cc
several_known n fills Facts one e = absurd cc

-- what a query looks at, of which nothing is said before
pub query_known : (n : Nodes) (fills : ℕ) (q : Query) → early_reply n q ≡ None → Known n (query_walk n fills q)
unfolding early_reply query_walk
query_known n fills q e = by_key (query_key q) refl e
  where
    by_key : (o : Option Key) → query_key q ≡ o → early_by n q o ≡ None → Known n (walk_by n fills q o)
    by_key (Some k) is e = (key_known n k e, λ v. tt)
    by_key None is e = several_known n fills q is e

pub query_reach_known : (g : Graph) (q : Query) → list_all (knows g.nodes) (reach g q) ≡ true
unfolding reach
query_reach_known g q = by_early (early_reply g.nodes q) refl
  where
    by_early : (o : Option Reply) → early_reply g.nodes q ≡ o → list_all (knows g.nodes) (unless_early o (looked (all_slots g) (query_walk g.nodes 0 q))) ≡ true
    by_early (Some r) is = refl
    by_early None is = known_looked g.nodes (all_slots g) (query_walk g.nodes 0 q) (query_known g.nodes 0 q is)
