-- How a type with its members and a method with its parts are printed: the parts, with a semicolon and a space between
-- two.
use Rattle.std.specs.Prelude.{ℕ, List, ◌∷◌, ◌++◌, codes}
use Rattle.std.specs.List.{flat_map}
use Rattle.cil_base.specs.Token.{Token}
use Rattle.md_schema.specs.declared.link.Link.{Link}
use Rattle.md_schema.specs.declared.link.Link.TheVariants.{InterfaceImpl, Nested}
use Rattle.node_model.specs.declared.key.Key.{Key}
use Rattle.node_model.specs.declared.key.Key.TheVariants as keys
use Rattle.node_model.specs.declared.reply.MethodView.{MethodView}
use Rattle.node_model.specs.declared.reply.TypeView.{TypeView}
use Rattle.node_model.specs.declared.value.BodyValue.{BodyValue}
use Rattle.node_model.specs.declared.value.RowValue.{RowValue}
use Rattle.sig_tree.specs.Printed.{own_text, printed}
use Rattle.sig_tree.specs.declared.tree.SigTree.{SigTree}
use Rattle.dump_text.specs.Bodies.{body_text}
use Rattle.dump_text.specs.KeyTexts.{key_text}
use Rattle.dump_text.specs.Rows.{row_text}

-- a list: its key, a colon, and each token after a space
abbrev pub listed_token : Token → List ℕ
listed_token t = 0x20 ∷ own_text t

abbrev pub tokens_text : Key → List Token → List ℕ
tokens_text k ts = key_text k ++ 0x3a ∷ flat_map listed_token ts

-- a signature with its key
abbrev pub sig_text : Token → SigTree → List ℕ
sig_text t sig = key_text (keys.Sig t) ++ 0x20 ∷ printed sig

-- a body with its key
abbrev pub keyed_body : Token → BodyValue → List ℕ
keyed_body t body = key_text (keys.Body t) ++ body_text body

-- a part behind another
abbrev pub next_row_text : RowValue → List ℕ
next_row_text row = codes "; " ++ row_text row

abbrev pub rows_text : List RowValue → List ℕ
rows_text rows = flat_map next_row_text rows

abbrev pub next_list_text : Token → Link → List Token → List ℕ
next_list_text t link ts = codes "; " ++ tokens_text (keys.Linked t link) ts

-- its row, its fields, its methods, and two lists
unfoldable pub type_text : TypeView → List ℕ
type_text view =
    codes "type " ++ row_text view.row ++ rows_text view.fields ++ rows_text view.methods
    ++ next_list_text view.row.token InterfaceImpl view.interfaces
    ++ next_list_text view.row.token Nested view.nested

-- its row, its signature, its parameters and its body
unfoldable pub method_text : MethodView → List ℕ
method_text view =
    codes "method " ++ row_text view.row ++ codes "; " ++ sig_text view.row.token view.sig ++ rows_text view.params
    ++ codes "; " ++ keyed_body view.row.token view.body
