-- What a history has: its edits, its fills, and the graph after it.
use Rattle.std.specs.Prelude.{ℕ, suc, Bool, false, List, [], ◌∷◌, ◌++◌, ◌&&◌, ◌||◌}
use Rattle.std.specs.List.{list_any}
use Rattle.node_model.specs.Graph.{Graph, graph_of}
use Rattle.node_model.specs.KeyKinds.{has_kind}
use Rattle.node_model.specs.Keys.{same_key, token_of_key}
use Rattle.node_model.specs.Nodes.{is_added}
use Rattle.node_model.specs.declared.edit.Edit.{Edit as EditOf}
use Rattle.node_model.specs.declared.entry.Entry.{Entry}
use Rattle.node_model.specs.declared.entry.Entry.TheVariants.{Fill, Edit}
use Rattle.node_model.specs.declared.key.Key.{Key}

-- the edits of its entries that are edits, in order
abbrev pub edits : List Entry → List EditOf
edits [] = []
edits (Fill by point why key ∷ h) = edits h
edits (Edit by es ∷ h) = es ++ edits h

-- how many entries are fills
unfoldable pub fills : List Entry → ℕ
fills [] = 0
fills (Fill by point why key ∷ h) = suc (fills h)
fills (Edit by es ∷ h) = fills h

-- the graph of an image after a history
abbrev pub graph_after : List ℕ → List Entry → Graph
graph_after b h = graph_of b (edits h)

-- the number of the caller who made an entry
abbrev pub entry_caller : Entry → ℕ
entry_caller (Fill by point why key) = by.caller
entry_caller (Edit by es) = by.caller

abbrev pub is_fill_of : Key → Entry → Bool
is_fill_of k (Fill by point why key) = same_key k key
is_fill_of k (Edit by es) = false

-- whether a key is filled: a fill of it is an entry, or an edit added its row, whose table has such a key
unfoldable pub filled : List ℕ → List Entry → Key → Bool
filled b h k = list_any (is_fill_of k) h || (is_added b (graph_after b h).nodes (token_of_key k) && has_kind k)
