-- Steps worked by hand over an image with a module and one type, so that a wrong step does not check: a slot that is published after
-- an edit does not undo it; and a row that is made and removed again, with both of its lists.
use Rattle.std.proofs.Common.{◌≡◌, refl, ◌∙◌, sym, ap, ℕ, Bool, List, [], ◌∷◌, ◌++◌, Option, Some, None, codes, find}
use Rattle.std.specs.Prelude.{not, ◌&&◌, ◌||◌}
use Rattle.std.specs.List.{fold, list_any}
use Rattle.cil_base.specs.Token.{Token, root}
use Rattle.md_schema.specs.Schema.{tables}
use Rattle.md_schema.specs.declared.link.Link.TheVariants.{NestedClass, Nested}
use Rattle.node_model.proofs.EditFacts.{small_held, small_rows, type}
use Rattle.node_model.specs.Changes.{changed_slot}
use Rattle.node_model.specs.ColumnFit.{bad_row}
use Rattle.node_model.specs.EditAnswers.{edit_answer, edit_reach}
use Rattle.node_model.specs.EditRefusals.{early_refusal}
use Rattle.node_model.specs.EditWalks.{edit_walk}
use Rattle.node_model.specs.Fresh.{fresh_slot}
use Rattle.node_model.specs.Graph.{Graph, edit_changing, edited, untouched}
use Rattle.node_model.specs.Immediate.{read}
use Rattle.node_model.specs.KeyKinds.{has_kind, has_sig, is_root_table, may_link, owns_table}
use Rattle.node_model.specs.Keys.{image_rows, is_row, token_of_key}
use Rattle.node_model.specs.Questions.{early_reply, query_walk}
use Rattle.node_model.specs.Replies.{reach, reply}
use Rattle.node_model.specs.RowLists.{added_lists, added_table, enclosing_lists, list_key}
use Rattle.node_model.specs.declared.cell.Cell.TheVariants as cells
use Rattle.node_model.specs.declared.edit.Edit.{Edit}
use Rattle.node_model.specs.declared.edit.Edit.TheVariants.{Set, Add, Remove}
use Rattle.node_model.specs.declared.edit.OptSig.TheVariants as sigs
use Rattle.node_model.specs.declared.edit_refusal.EditRefusal.TheVariants as refusals
use Rattle.node_model.specs.declared.entry.By.{By}
use Rattle.node_model.specs.declared.entry.Entry.{Entry}
use Rattle.node_model.specs.declared.entry.Entry.TheVariants as entries
use Rattle.node_model.specs.declared.entry.Why.TheVariants as whys
use Rattle.node_model.specs.declared.key.Key.{Key}
use Rattle.node_model.specs.declared.key.Key.TheVariants.{Row, Owned, Linked}
use Rattle.node_model.specs.declared.query.Query.{Query}
use Rattle.node_model.specs.declared.query.Query.TheVariants as queries
use Rattle.node_model.specs.declared.reply.Reply.{Reply}
use Rattle.node_model.specs.declared.reply.Reply.TheVariants as replies
use Rattle.graph_edits.specs.Stands.{up_to}
use Rattle.lazy_core.specs.History.{edits, filled, fills, graph_after, is_fill_of}
use Rattle.lazy_core.specs.Steps.{history_after, peek_at, peeked, published, tried, try_at}
use Rattle.graph_query.specs.declared.answering.Peek.{Peek}
use Rattle.graph_query.specs.declared.answering.Peek.TheVariants as peeks
use Rattle.lazy_core.specs.declared.wanted.Published.TheVariants.{Already}
use Rattle.lazy_core.specs.declared.wanted.Tried.{Tried}
use Rattle.lazy_core.specs.declared.wanted.Tried.TheVariants as tries
use Rattle.lazy_core.specs.declared.wanted.Wanted.{Wanted}
use Rattle.lazy_core.proofs.TryLemmas.{up_to_is}

-- the steps by the rows of the image and the graph after the history, which can then be those of a small image
abbrev full_over : (ℕ → ℕ) → Graph → List Entry → Key → Bool
full_over rows g h k = list_any (is_fill_of k) h || ((is_row g.nodes.rows (token_of_key k) && not (is_row rows (token_of_key k))) && has_kind k)

abbrev tried_over : (ℕ → ℕ) → Graph → List Entry → Edit → Tried
tried_over rows g h e =
    try_at (up_to (λ k. not (full_over rows g h k)) (edit_reach g e)) (edit_answer g e) (find (λ k. not (full_over rows g h k)) (edit_reach g e))

abbrev said_over : Option Key → Reply → Peek
said_over (Some k) said = peeks.Need k
said_over None said = peeks.Ready said

abbrev peeked_over : (ℕ → ℕ) → Graph → List Entry → Query → Peek
peeked_over rows g h q = said_over (find (λ k. not (full_over rows g h k)) (reach g q)) (reply g (fills h) q)

abbrev small : Graph
small = record { nodes = record { rows = small_rows; removed = [] }; held = small_held }

is_small : (b : List ℕ) → image_rows b ≡ small_rows → read b ≡ small_held → untouched b ≡ small
is_small b rows held = λ i. record { nodes = record { rows = rows i; removed = [] }; held = held i }

tried_small : (b : List ℕ) → image_rows b ≡ small_rows → read b ≡ small_held → (h : List Entry) (e : Edit)
    → tried b h e ≡ tried_over small_rows (fold edited small (edits h)) h e
unfolding tried filled
tried_small b rows held h e =
    ap (λ ks. try_at ks (edit_answer (graph_after b h) e) (find (λ k. not (filled b h k)) (edit_reach (graph_after b h) e))) (sym (up_to_is b h (edit_reach (graph_after b h) e)))
    ∙ (λ i. tried_over (rows i) (fold edited (is_small b rows held i) (edits h)) h e)

peeked_small : (b : List ℕ) → image_rows b ≡ small_rows → read b ≡ small_held → (h : List Entry) (q : Query)
    → peeked b h q ≡ peeked_over small_rows (fold edited small (edits h)) h q
unfolding peeked filled
peeked_small b rows held h q =
    by_key (find (λ k. not (filled b h k)) (reach (graph_after b h) q))
    ∙ (λ i. peeked_over (rows i) (fold edited (is_small b rows held i) (edits h)) h q)
  where
    by_key : (o : Option Key) → peek_at b h q o ≡ said_over o (reply (graph_after b h) (fills h) q)
    by_key (Some k) = refl
    by_key None = refl

abbrev caller : ℕ → By
caller n = record { caller = n; command = 0; step = 0 }

abbrev set_name : Edit
set_name = Set (type 1) 1 (cells.Text (codes "X"))

-- the key that was wanted for a query of another caller
abbrev for_query : Wanted
for_query = record { by = caller 0; point = 0; why = whys.Query (queries.Row (type 1)); key = Row (type 1) }

abbrev one_fill : List Entry
one_fill = entries.Fill (caller 1) 0 (whys.Keys (Row (type 1) ∷ [])) (Row (type 1)) ∷ []

abbrev then_set : List Entry
then_set = entries.Fill (caller 1) 0 (whys.Keys (Row (type 1) ∷ [])) (Row (type 1)) ∷ entries.Edit (caller 1) (set_name ∷ []) ∷ []

pub at_first : (b : List ℕ) → image_rows b ≡ small_rows → read b ≡ small_held
    → (peeked b [] (queries.Row (type 1)) ≡ peeks.Need (Row (type 1))) × (tried b [] set_name ≡ tries.Need (Row (type 1) ∷ []))
unfolding reach early_reply query_walk edit_reach edit_changing early_refusal edit_walk tables
at_first b rows held = (peeked_small b rows held [] (queries.Row (type 1)) ∙ refl, tried_small b rows held [] set_name ∙ refl)

pub once_filled : (b : List ℕ) → image_rows b ≡ small_rows → read b ≡ small_held → tried b one_fill set_name ≡ tries.Done None
unfolding edit_reach edit_changing early_refusal edit_walk tables
once_filled b rows held = tried_small b rows held one_fill set_name ∙ refl

pub late_publish : (b : List ℕ) → (published b then_set for_query ≡ Already) × (history_after b then_set for_query ≡ then_set)
unfolding filled
late_publish b = (refl, refl)

pub renamed : (b : List ℕ) → image_rows b ≡ small_rows → read b ≡ small_held
    → peeked b then_set (queries.Row (type 1))
    ≡ peeks.Ready (replies.Row (record { token = type 1; cells = cells.Num 0 ∷ cells.Text (codes "X") ∷ cells.Text [] ∷ cells.NoRef ∷ [] }))
unfolding reach reply early_reply query_walk edited edit_changing early_refusal edit_walk tables changed_slot
renamed b rows held = peeked_small b rows held then_set (queries.Row (type 1)) ∙ refl

-- two types more, and a nesting of the second of them in the first
abbrev add_type : Edit
add_type = Add 0x02 (cells.Num 0 ∷ cells.Text [] ∷ cells.Text [] ∷ cells.NoRef ∷ []) sigs.None

abbrev nesting : Token
nesting = record { table = 0x29; rid = 1 }

abbrev nest : Edit
nest = Add 0x29 (cells.Ref (type 3) ∷ cells.Ref (type 2) ∷ []) sigs.None

abbrev remove_nest : Edit
remove_nest = Remove (type 3) nesting

abbrev three_types : List Entry
three_types =
    entries.Fill (caller 0) 0 (whys.Keys (Owned root 0x02 ∷ [])) (Owned root 0x02)
    ∷ entries.Edit (caller 0) (add_type ∷ []) ∷ entries.Edit (caller 0) (add_type ∷ []) ∷ []

-- the keys of rows that were added are filled, so no key is needed
pub nested : (b : List ℕ) → image_rows b ≡ small_rows → read b ≡ small_held → tried b three_types nest ≡ tries.Done (Some nesting)
unfolding edit_reach edited edit_changing early_refusal edit_walk tables changed_slot bad_row list_key added_lists added_table owns_table is_root_table has_sig may_link fresh_slot
nested b rows held = tried_small b rows held three_types nest ∙ refl

abbrev then_removed : List Entry
then_removed = three_types ++ entries.Edit (caller 0) (nest ∷ []) ∷ entries.Edit (caller 0) (remove_nest ∷ []) ∷ []

-- the row is removed, is in no list, and is not removed again
pub removed : (b : List ℕ) → image_rows b ≡ small_rows → read b ≡ small_held
    → (tried b (three_types ++ entries.Edit (caller 0) (nest ∷ []) ∷ []) remove_nest ≡ tries.Done None)
    × (peeked b then_removed (queries.Links (type 2) Nested) ≡ peeks.Ready (replies.Tokens (Linked (type 2) Nested) []))
    × (peeked b then_removed (queries.Links (type 3) NestedClass) ≡ peeks.Ready (replies.Tokens (Linked (type 3) NestedClass) []))
    × (peeked b then_removed (queries.Row nesting) ≡ peeks.Ready (replies.Removed nesting))
    × (tried b then_removed remove_nest ≡ tries.Refused (refusals.Removed nesting))
unfolding reach reply early_reply query_walk edit_reach edited edit_changing early_refusal edit_walk tables changed_slot bad_row list_key enclosing_lists added_lists added_table owns_table is_root_table has_sig may_link fresh_slot
removed b rows held = (
  tried_small b rows held (three_types ++ entries.Edit (caller 0) (nest ∷ []) ∷ []) remove_nest ∙ refl,
  peeked_small b rows held then_removed (queries.Links (type 2) Nested) ∙ refl,
  peeked_small b rows held then_removed (queries.Links (type 3) NestedClass) ∙ refl,
  peeked_small b rows held then_removed (queries.Row nesting) ∙ refl,
  tried_small b rows held then_removed remove_nest ∙ refl,
)
