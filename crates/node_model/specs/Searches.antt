-- A type and a member looked for by their names, one row after the other: ECMA-335 II.22.15, II.22.26, II.22.37.
use Rattle.std.specs.Prelude.{ℕ, Bool, true, false, List, [], ◌∷◌, codes, ◌&&◌, if◌then◌else◌}
use Rattle.std.specs.Str.{bytes_eq}
use Rattle.cil_base.specs.Token.{Token, root}
use Rattle.md_schema.specs.Tables.{type_def}
use Rattle.node_model.specs.Nodes.{Nodes}
use Rattle.node_model.specs.RowNames.{live_members, name_walk}
use Rattle.node_model.specs.RowTexts.{text_named}
use Rattle.node_model.specs.Walk.{Walk, Asks, Gives, then_walk}
use Rattle.node_model.specs.declared.key.Key.TheVariants.{Row, Owned}
use Rattle.node_model.specs.declared.query.OptText.{OptText}
use Rattle.node_model.specs.declared.query.OptText.TheVariants as texts
use Rattle.node_model.specs.declared.reply.Reply.{Reply}
use Rattle.node_model.specs.declared.reply.Reply.TheVariants.{Found, NotFound}

-- the first of these that passes a test; those behind it are not looked at
abbrev pub first_walk : (Token → Walk Bool) → List Token → Walk Reply
first_walk test [] = Gives NotFound
first_walk test (t ∷ ts) = then_walk (test t) (λ fits. if fits then Gives (Found t) else first_walk test ts)

-- a type with this namespace and this name
abbrev pub type_test : List ℕ → List ℕ → Token → Walk Bool
type_test namespace name t =
    Asks (Row t) (λ row.
    Gives (bytes_eq (text_named (codes "Namespace") row) namespace && bytes_eq (text_named (codes "Name") row) name))

-- the first type of the image with this namespace and this name
unfoldable pub find_type_walk : Nodes → List ℕ → List ℕ → Walk Reply
find_type_walk n namespace name =
    Asks (Owned root type_def) (λ ts. first_walk (type_test namespace name) (live_members n type_def ts))

-- a row with this printed signature, which is its name; its name is asked for only where a text is given
abbrev pub sig_test : Nodes → OptText → Token → Walk Bool
sig_test n texts.None t = Gives true
sig_test n (texts.Is text) t = then_walk (name_walk n t) (λ printed. Gives (bytes_eq printed text))

abbrev pub member_test : Nodes → List ℕ → OptText → Token → Walk Bool
member_test n name sig t =
    Asks (Row t) (λ row. if bytes_eq (text_named (codes "Name") row) name then sig_test n sig t else Gives false)

-- the first member of a row with this name, and with this printed signature where one is given
unfoldable pub find_member_walk : Nodes → Token → ℕ → List ℕ → OptText → Walk Reply
find_member_walk n of table name sig =
    Asks (Owned of table) (λ ts. first_walk (member_test n name sig) (live_members n table ts))
