-- A type with its members, and a method with its parameters and its body, by the keys that are looked at for them:
-- ECMA-335 II.22.26, II.22.37.
use Rattle.std.specs.Prelude.{ℕ, List}
use Rattle.cil_base.specs.Token.{Token}
use Rattle.md_schema.specs.Tables.{field, method_def, param}
use Rattle.md_schema.specs.declared.link.Link.TheVariants.{InterfaceImpl, Nested}
use Rattle.node_model.specs.Nodes.{Nodes}
use Rattle.node_model.specs.RowNames.{live_members}
use Rattle.node_model.specs.Walk.{Walk, Asks, Gives, each_walk, then_walk}
use Rattle.node_model.specs.declared.key.Key.TheVariants.{Row, Sig, Owned, Linked, Body}
use Rattle.node_model.specs.declared.reply.Reply.{Reply}
use Rattle.node_model.specs.declared.reply.Reply.TheVariants as replies
use Rattle.node_model.specs.declared.value.RowValue.{RowValue}

abbrev pub row_walk : Token → Walk RowValue
row_walk t = Asks (Row t) (λ row. Gives row)

-- the rows of a table that a row owns, but for those that were removed
abbrev pub members_walk : Nodes → Token → ℕ → Walk (List RowValue)
members_walk n t table = Asks (Owned t table) (λ ts. each_walk row_walk (live_members n table ts))

-- a type: its row, its fields, its methods, its InterfaceImpl rows, and the NestedClass rows of the types in it. The
-- last two lists stand as they are held
unfoldable pub type_walk : Nodes → Token → Walk Reply
type_walk n t =
    Asks (Row t) (λ row.
    then_walk (members_walk n t field) (λ fields.
    then_walk (members_walk n t method_def) (λ methods.
    Asks (Linked t InterfaceImpl) (λ interfaces.
    Asks (Linked t Nested) (λ nested.
    Gives (replies.TypeInfo (record {
      row = row;
      fields = fields;
      methods = methods;
      interfaces = interfaces;
      nested = nested;
    })))))))

-- a method: its row, its signature, its parameters and its body
unfoldable pub method_walk : Nodes → Token → Walk Reply
method_walk n t =
    Asks (Row t) (λ row.
    Asks (Sig t) (λ sig.
    then_walk (members_walk n t param) (λ params.
    Asks (Body t) (λ body.
    Gives (replies.Method (record { row = row; sig = sig; params = params; body = body }))))))
