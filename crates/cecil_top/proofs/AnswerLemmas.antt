-- Answers, and what was said in acts with one act more.
use Rattle.std.proofs.Common.{◌≡◌, ◌≢◌, sym, ◌∙◌, ap, subst, ℕ, suc, ◌<◌, ◌≤◌, ◌⊎◌, inl, inr, List, [], ◌∷◌, ◌++◌, length, take, arith}
use mathlib.Core.List.{IsPrefix}
use mathlib.Core.Logic.{dite}
use native.Mathlib.Decide.{dec_le}
use Rattle.std.proofs.lemmas.List.{length-take}
use Rattle.job_text.specs.declared.command.Command.{Command}
use Rattle.job_text.specs.declared.command.Command.TheVariants as commands
use Rattle.node_model.specs.declared.entry.By.{By}
use Rattle.node_model.specs.declared.entry.Entry.{Entry}
use Rattle.shared_module.specs.Answers.{IsAnswer, IsEdited, LastIsDone}
use Rattle.shared_module.proofs.PrefixLemmas.{one_behind, same_front}
use Rattle.cecil_top.specs.Acts.{Act}
use Rattle.cecil_top.specs.Commands.{home_of, point_of}
use Rattle.cecil_top.specs.Explained.{IsAnswerTo, IsSaid}
use Rattle.cecil_top.specs.declared.said.Said.{Said}
use Rattle.cecil_top.specs.declared.said.Said.TheVariants as saids
use Rattle.cecil_top.proofs.PlaceLemmas.{front_item}

whole_front : (n : ℕ) (h : List Entry) → n ≡ length (take n h) → n ≤ length h
whole_front n h is = let short = length-take n h in omega (arith, is, short)

module _ (b : List ℕ) (by : By) where
  -- an answer's point is one of the history
  pub point_within : (command : Command) (a : Said) (h : List Entry) → IsAnswerTo b by command a h → point_of a ≤ length h
  point_within (commands.Query m q) (saids.Query a) h is = whole_front a.at h is.at
  point_within (commands.Query m q) (saids.Edit x) h is = absurd is
  point_within (commands.Query m q) (saids.Resolved r) h is = absurd is
  point_within (commands.Edit m e) (saids.Query a) h is = absurd is
  point_within (commands.Edit m e) (saids.Edit x) h is = whole_front x.at h is.0.at
  point_within (commands.Edit m e) (saids.Resolved r) h is = absurd is
  point_within (commands.Resolve m t) a h is = absurd is
  point_within (commands.Attribute m t) a h is = absurd is

  -- an answer stays one as the history goes on
  pub answer_later : (command : Command) (a : Said) (s h : List Entry) → IsPrefix s h → IsAnswerTo b by command a s → IsAnswerTo b by command a h
  answer_later (commands.Query m q) (saids.Query a) s h p is =
      subst (λ g. IsAnswer b q g a) (sym (same_front s h a.at p (whole_front a.at s is.at))) is
  answer_later (commands.Query m q) (saids.Edit x) s h p is = absurd is
  answer_later (commands.Query m q) (saids.Resolved r) s h p is = absurd is
  answer_later (commands.Edit m e) (saids.Query a) s h p is = absurd is
  answer_later (commands.Edit m e) (saids.Edit x) s h p is =
      subst (λ g. IsEdited b e g x × LastIsDone by e g x.outcome) (sym (same_front s h x.at p (whole_front x.at s is.0.at))) is
  answer_later (commands.Edit m e) (saids.Resolved r) s h p is = absurd is
  answer_later (commands.Resolve m t) a s h p is = absurd is
  answer_later (commands.Attribute m t) a s h p is = absurd is

module _ (m : ℕ) (acts : List Act) (last : Act) where
  -- an earlier act is the one that it was
  pub said_before : (n : ℕ) (act : Act) → n < length acts → IsSaid m (acts ++ last ∷ []) n act → IsSaid m acts n act
  said_before n act less is = record { told = sym (front_item acts (last ∷ []) n less) ∙ is.told; home = is.home }

  -- an act is one of the earlier ones, or the last
  pub said_or_now : (n : ℕ) (act : Act) → IsSaid m (acts ++ last ∷ []) n act → IsSaid m acts n act ⊎ ((n ≡ length acts) × (last ≡ act))
  said_or_now n act is = dite (dec_le (suc n) (length acts))
      (λ less. inl (said_before n act (omega arith) is))
      (λ past. let there = one_behind acts last act n (omega arith) is.told in inr (there.1, sym there.0))

  -- where the last act is of another module, nothing is said in it of this one
  pub said_elsewhere : home_of last.asked ≢ m → (n : ℕ) (act : Act) → IsSaid m (acts ++ last ∷ []) n act → IsSaid m acts n act
  said_elsewhere other n act is = by_place (said_or_now n act is)
    where
      by_place : IsSaid m acts n act ⊎ ((n ≡ length acts) × (last ≡ act)) → IsSaid m acts n act
      by_place (inl before) = before
      by_place (inr now) = absurd (other (ap (λ (x : Act). home_of x.asked) now.1 ∙ is.home))
