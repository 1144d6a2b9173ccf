-- What a query needed is filled, and no query needs it then.
use Rattle.std.proofs.Common.{◌≡◌, refl, ◌∙◌, ap, subst, ℕ, Bool, true, false, List, [], ◌∷◌, ◌++◌, length, ◌||◌, if◌then◌else◌}
use Rattle.std.proofs.Math.Seq.{take-length}
use Rattle.node_model.specs.inner.KeyEquality.{key_self}
use Rattle.node_model.specs.declared.entry.By.{By}
use Rattle.node_model.specs.declared.entry.Entry.{Entry}
use Rattle.node_model.specs.declared.entry.Entry.TheVariants.{Fill}
use Rattle.node_model.specs.declared.entry.Why.{Why}
use Rattle.node_model.specs.declared.entry.Why.TheVariants as whys
use Rattle.node_model.specs.declared.key.Key.{Key}
use Rattle.node_model.specs.declared.query.Query.{Query}
use Rattle.lazy_core.specs.History.{filled}
use Rattle.lazy_core.specs.Legal.{WasWanted}
use Rattle.lazy_core.specs.Run.{query_want}
use Rattle.lazy_core.specs.Steps.{NeedIsWanted, history_after}
use Rattle.lazy_core.specs.Turns.{IsNeededByNone}
use Rattle.lazy_core.specs.declared.wanted.Wanted.{Wanted}
use Rattle.lazy_core.proofs.HistoryLemmas.{filled_more}

-- what is wanted at the whole history is not filled
wanted_is_free : (b : List ℕ) (h : List Entry) (why : Why) (k : Key) → WasWanted b h (length h) why k → filled b h k ≡ false
wanted_is_free b h why k wanted = subst (λ g. filled b g k ≡ false) (take-length h) wanted.unfilled

at_once : (x : Bool) → (x || true) ≡ true
at_once true = refl
at_once false = refl

-- a key is filled by its fill
filled_by_fill : (b : List ℕ) (h : List Entry) (by : By) (point : ℕ) (why : Why) (k : Key) → filled b (h ++ Fill by point why k ∷ []) k ≡ true
filled_by_fill b h by point why k =
    filled_more b h by point why k k ∙ ap (λ x. filled b h k || x) (key_self k) ∙ at_once (filled b h k)

-- after its fill no query needs a key
pub filled_is_needed_by_none : NeedIsWanted → (b : List ℕ) (h : List Entry) (by : By) (point : ℕ) (why : Why) (k : Key)
    → IsNeededByNone b (h ++ Fill by point why k ∷ []) k
filled_is_needed_by_none law b h by point why k q need =
    let after = h ++ Fill by point why k ∷ [] in
    let free = wanted_is_free b after (whys.Query q) k (law b after q k need) in
    let full = filled_by_fill b h by point why k in
    absurd cc

-- what was published of a need is its entry at the end of the history
pub filled_next : (b : List ℕ) (h : List Entry) (by : By) (q : Query) (k : Key) (w : Wanted) (new : List Entry) → w ≡ query_want by q h k
    → WasWanted b h (length h) (whys.Query q) k → new ≡ history_after b h w → new ≡ h ++ Fill by (length h) (whys.Query q) k ∷ []
filled_next b h by q k w new same wanted is =
    is ∙ ap (history_after b h) same ∙ ap (λ x. if x then h else h ++ Fill by (length h) (whys.Query q) k ∷ []) (wanted_is_free b h (whys.Query q) k wanted)
