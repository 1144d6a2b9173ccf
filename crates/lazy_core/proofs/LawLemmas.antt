-- The laws: fills are no edits, and edits change what is filled.
use Rattle.std.proofs.Common.{◌≡◌, ◌≢◌, refl, sym, ◌∙◌, ap, subst, ℕ, Bool, true, false, List, [], ◌∷◌, ◌++◌, append-nil, append_assoc}
use Rattle.std.specs.Prelude.{◌&&◌, ◌||◌}
use Rattle.std.specs.List.{list_all, list_any}
use Rattle.std.proofs.lemmas.Bool.{and_parts}
use Rattle.node_model.specs.EditAnswers.{edit_answer, edits_reach}
use Rattle.node_model.specs.Graph.{Graph}
use Rattle.node_model.specs.Immediate.{read}
use Rattle.node_model.specs.KeyKinds.{has_kind}
use Rattle.node_model.specs.Keys.{image_rows, is_key, is_key_there, same_key, token_of_key}
use Rattle.node_model.specs.Look.{look}
use Rattle.node_model.specs.Nodes.{is_added}
use Rattle.node_model.specs.Questions.{query_walk}
use Rattle.node_model.specs.Replies.{reply}
use Rattle.node_model.specs.declared.edit.Edit.{Edit as EditOf}
use Rattle.node_model.specs.declared.entry.By.{By}
use Rattle.node_model.specs.declared.entry.Entry.{Entry}
use Rattle.node_model.specs.declared.entry.Entry.TheVariants.{Fill, Edit}
use Rattle.node_model.specs.declared.entry.Why.{Why}
use Rattle.node_model.specs.declared.key.Key.{Key}
use Rattle.node_model.specs.declared.query.Query.{Query}
use Rattle.node_model.specs.declared.query.Query.TheVariants as queries
use Rattle.node_model.specs.inner.KeyEquality.{key_is}
use Rattle.node_model.proofs.AddedLemmas.{image_not_added}
use Rattle.node_model.proofs.HeldLemmas.{faults_of_file}
use Rattle.node_model.proofs.StayLemmas.{edits_stay}
use Rattle.lazy_core.specs.History.{edits, fills, filled, graph_after, is_fill_of}
use Rattle.lazy_core.specs.Laws.{UnfilledIsUntouched, FaultsAreOfTheFile, FillsChangeNothingSeen}
use Rattle.lazy_core.specs.Legal.{LegalAfter, MayEdit}
use Rattle.lazy_core.proofs.GrowLemmas.{image_there}
use Rattle.lazy_core.proofs.HistoryLemmas.{filled_more, fills_of_edit, graph_edits, graph_fill}

-- what a key of the image is not filled with it holds as the file says, before each entry of a legal history and after it
abbrev IsUntouched : List ℕ → List Entry → Key → Type 0
IsUntouched b h k = filled b h k ≡ false → (graph_after b h).held k ≡ read b k

or_parts : (x y : Bool) → (x || y) ≡ false → (x ≡ false) × (y ≡ false)
or_parts true y e = absurd cc
or_parts false y e = (refl, e)

after_fill : (b : List ℕ) (h : List Entry) (by : By) (point : ℕ) (why : Why) (key k : Key) → IsUntouched b h k → IsUntouched b (h ++ Fill by point why key ∷ []) k
after_fill b h by point why key k was free =
    ap (λ (g : Graph). g.held k) (graph_fill b h by point why key)
    ∙ was (or_parts (filled b h k) (same_key k key) (sym (filled_more b h by point why key k) ∙ free)).0

-- a key that edits reached is filled, so one that is not filled stays
all_reached : (b : List ℕ) (h : List Entry) (ks : List Key) (k : Key) → list_all (filled b h) ks ≡ true → filled b h k ≡ false → list_any (same_key k) ks ≡ false
all_reached b h [] k all free = refl
all_reached b h (j ∷ ks) k all free =
    let parts = and_parts (filled b h j) (list_all (filled b h) ks) all in
    by_same (same_key k j) refl parts.0 (all_reached b h ks k parts.1 free)
  where
    clash : (x : Bool) → x ≡ true → x ≡ false → ⊥
    clash x t f = cc

    by_same : (x : Bool) → same_key k j ≡ x → filled b h j ≡ true → list_any (same_key k) ks ≡ false → (x || list_any (same_key k) ks) ≡ false
    by_same true same full rest = absurd (clash (filled b h j) full (sym (ap (filled b h) (key_is k j same)) ∙ free))
    by_same false same full rest = rest

-- what was filled before edits is filled after them
filled_edits : (b : List ℕ) (h : List Entry) (by : By) (es : List EditOf) (k : Key) → is_key b k ≡ true → filled b (h ++ Edit by es ∷ []) k ≡ filled b h k
unfolding filled is_key
filled_edits b h by es k known =
    let there = (and_parts (is_key_there (image_rows b) k) (has_kind k) known).0 in
    ap (λ x. x || (is_added b (graph_after b (h ++ Edit by es ∷ [])).nodes (token_of_key k) && has_kind k)) (fills_of_edit h by es k)
    ∙ ap (λ x. list_any (is_fill_of k) h || (x && has_kind k)) (image_not_added b (graph_after b (h ++ Edit by es ∷ [])).nodes k there ∙ sym (image_not_added b (graph_after b h).nodes k there))

after_edits : (b : List ℕ) (h : List Entry) (by : By) (es : List EditOf) (k : Key) → MayEdit b h es → is_key b k ≡ true → IsUntouched b h k → IsUntouched b (h ++ Edit by es ∷ []) k
after_edits b h by es k may known was free =
    let still : filled b h k ≡ false = sym (filled_edits b h by es k known) ∙ free in
    let there = (and_parts (is_key_there (graph_after b h).nodes.rows k) (has_kind k) (image_there b h k known)).0 in
    ap (λ (g : Graph). g.held k) (graph_edits b h by es)
    ∙ edits_stay (graph_after b h) es k may.done there (all_reached b h (edits_reach (graph_after b h) es) k may.reached still)
    ∙ was still

untouched_along : (b : List ℕ) (front h : List Entry) (k : Key) → is_key b k ≡ true → IsUntouched b front k → LegalAfter b front h → IsUntouched b (front ++ h) k
untouched_along b front [] k known was legal = subst (λ g. IsUntouched b g k) (sym (append-nil front)) was
untouched_along b front (Fill by point why key ∷ h) k known was legal =
    subst (λ g. IsUntouched b g k) (append_assoc front (Fill by point why key ∷ []) h)
    (untouched_along b (front ++ Fill by point why key ∷ []) h k known (after_fill b front by point why key k was) legal.1)
untouched_along b front (Edit by es ∷ h) k known was legal =
    subst (λ g. IsUntouched b g k) (append_assoc front (Edit by es ∷ []) h)
    (untouched_along b (front ++ Edit by es ∷ []) h k known (after_edits b front by es k legal.0 known was) legal.1)

pub unfilled : UnfilledIsUntouched
unfilled b h k legal known free = untouched_along b [] h k known (λ _. refl) legal free

pub faults : FaultsAreOfTheFile
faults b h k f legal e = faults_of_file b (edits h) k f e

same_reply : (g : Graph) (n m : ℕ) (q : Query) → q ≢ queries.Filled → reply g n q ≡ reply g m q
unfolding reply query_walk
same_reply g n m (queries.Row t) other = refl
same_reply g n m (queries.Sig t) other = refl
same_reply g n m (queries.Members t table) other = refl
same_reply g n m (queries.Links t l) other = refl
same_reply g n m (queries.Body t) other = refl
same_reply g n m (queries.Data t) other = refl
same_reply g n m (queries.Resource t) other = refl
same_reply g n m queries.Facts other = refl
same_reply g n m (queries.Name t) other = refl
same_reply g n m (queries.TypeInfo t) other = refl
same_reply g n m (queries.Method t) other = refl
same_reply g n m (queries.FindType namespace name) other = refl
same_reply g n m (queries.FindMember of table name sig) other = refl
same_reply g n m queries.Filled other = absurd (other refl)

pub fills_change : FillsChangeNothingSeen
fills_change b h by point why key =
    let more = h ++ Fill by point why key ∷ [] in (
      λ k. ap (λ g. look g k) (graph_fill b h by point why key),
      λ e. ap (λ g. edit_answer g e) (graph_fill b h by point why key),
      λ q other. ap (λ g. reply g (fills more) q) (graph_fill b h by point why key) ∙ same_reply (graph_after b h) (fills more) (fills h) q other,
    )
