-- A text that grows part by part.
use Rattle.std.proofs.Common.{◌≡◌, ◌∙◌, ap, ◌++◌, List, ℕ, append_assoc}

-- what was added so far and what is added next are added as one
pub grown :
    (old front next : List ℕ) → {before after : List ℕ} → before ≡ old ++ front → after ≡ before ++ next →
    after ≡ old ++ (front ++ next)
grown old front next so_far added = added ∙ ap (λ t. t ++ next) so_far ∙ append_assoc old front next
