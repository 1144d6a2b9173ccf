-- One question of a resolution. No public contract cites this word.
use Rattle.std.specs.Prelude.{◌≡◌, ℕ, List, [], ◌∷◌, ◌++◌, length, Option}
use Rattle.node_model.specs.declared.query.Query.{Query}
use Rattle.resolver.specs.Inquiry.{Inquiry, with_reply}
use Rattle.shared_module.specs.declared.ask.Answer.{Answer}
use Rattle.cecil_top.specs.Acts.{asked_act}
use Rattle.cecil_top.specs.declared.said.Asked.{Asked}
use Rattle.cecil_top.specs.inner.Passes.{Held, IsPassStep, Shared}

-- the question was asked and answered, and the inquiry knows its reply
pub record IsAskedMore (modules : List Shared) (k n m : ℕ) (q : Query) (ask ask_new : Inquiry) (asked more : List Asked)
    (old new : List (Option Held)) : Type 0 where
  pub answer : Answer
  pub more_is : more ≡ asked ++ record { home = m; query = q; answer = answer } ∷ []
  pub ask_is : ask_new ≡ with_reply ask answer.reply
  pub step :
      IsPassStep modules k (asked_act n (length asked) (record { home = m; query = q; answer = answer })) old new
