-- The commands of an actor, one after the other.
use Rattle.std.proofs.Common.{◌≡◌, sym, ◌∙◌, ap, subst, ℕ, suc, ◌+◌, List, [], ◌∷◌, ◌++◌, Option, Some, Result, Ok, Err, OnOk, IfOk, false, is_err, length, length-append, map, take, slice_get, append-nil, append_assoc, arith}
use Rattle.std.proofs.Math.Seq.{take-append_seam}
use mathlib.Core.Logic.{dite}
use native.Mathlib.Decide.{dec_le}
use Rattle.std.proofs.lemmas.List.{map-append, take-append-le}
use Rattle.cil_base.specs.Token.{Token}
use Rattle.cil_base.specs.declared.no_memory.NoMemory.{NoMemory}
use Rattle.job_text.specs.References.{replaced_command}
use Rattle.job_text.specs.declared.command.Command.{Command}
use Rattle.job_text.specs.declared.command.Command.TheVariants as commands
use Rattle.node_model.specs.declared.edit.Edit.{Edit}
use Rattle.node_model.specs.declared.query.Query.{Query}
use Rattle.resolver.specs.declared.start.Sought.TheVariants as soughts
use Rattle.shared_module.specs.declared.ask.Answer.{Answer}
use Rattle.shared_module.specs.declared.edit.Edited.{Edited}
use Rattle.shared_module.proofs.PrefixLemmas.{one_behind}
use Rattle.cecil_top.specs.Acts.{acts_from, acts_of, asked_acts, command_acts, single_act}
use Rattle.cecil_top.specs.Commands.{said_token}
use Rattle.cecil_top.specs.Following.{IsFollowed, IsFollowedBy}
use Rattle.job_text.specs.Runnable.{CanRun}
use Rattle.cecil_top.specs.declared.said.Resolution.{Resolution}
use Rattle.cecil_top.specs.declared.said.Said.{Said}
use Rattle.cecil_top.specs.declared.said.Said.TheVariants as saids
use Rattle.cecil_top.specs.inner.Actors.{AreDoneTo}
use Rattle.cecil_top.specs.inner.Passes.{AddsActs, ExplainsSoFar, HasPasses, Held, IsPassStep, IsSaidStep, IsToldAnswer, IsToldEdit, IsToldResolution, Shared}
use Rattle.cecil_top.proofs.PlaceLemmas.{front_item, last_item, same_at}
use Rattle.cecil_top.proofs.SoFarLemmas.{adds_act}

-- what holds where there is no error
pub when_ok : (P : Type 0) (r : Result (Unit {0}) NoMemory) → is_err r ≡ false → OnOk r P → P
when_ok P (Ok x) is p = p
when_ok P (Err x) is p = absurd cc

-- what follows where there is no error
pub then_ok : (P Q : Type 0) (r : Result (Unit {0}) NoMemory) → (P → Q) → OnOk r P → OnOk r Q
then_ok P Q (Ok x) so p = so p
then_ok P Q (Err x) so p = p

-- a command that can be run still can be when its back references are replaced
pub replaced_runs : (modules : ℕ) (made : List (Option Token)) (command : Command) → CanRun modules command → CanRun modules (replaced_command made command)
unfolding replaced_command
replaced_runs modules made (commands.Query m q) can = can
replaced_runs modules made (commands.Edit m e) can = can
replaced_runs modules made (commands.Resolve m t) can = can
replaced_runs modules made (commands.Attribute m t) can = can

module _ (modules : List Shared) (k m : ℕ) (said more : List Said) (old new : List (Option Held)) where
  module _ (has : HasPasses modules k old) where
    pub said_answer : (q : Query) (r : Result Answer NoMemory) → IsToldAnswer r said more
        → IfOk r (λ a. IsPassStep modules k (single_act (length said) (commands.Query m q) (saids.Query a)) old new)
        → IsSaidStep modules k (commands.Query m q) said more old new
    said_answer q (Ok a) told step =
        let act = single_act (length said) (commands.Query m q) (saids.Query a) in
        record { a = saids.Query a; more_is = told; followed = tt; acts = adds_act modules k act old new has step }
    said_answer q (Err e) told step = absurd told

    pub said_edit : (e : Edit) (r : Result Edited NoMemory) → IsToldEdit r said more
        → IfOk r (λ x. IsPassStep modules k (single_act (length said) (commands.Edit m e) (saids.Edit x)) old new)
        → IsSaidStep modules k (commands.Edit m e) said more old new
    said_edit e (Ok x) told step =
        let act = single_act (length said) (commands.Edit m e) (saids.Edit x) in
        record { a = saids.Edit x; more_is = told; followed = tt; acts = adds_act modules k act old new has step }
    said_edit e (Err x) told step = absurd told

  module _ (t : Token) where
    pub said_resolved : (r : Result Resolution NoMemory) → IsToldResolution r said more
        → IfOk r (IsFollowed (record { modules = length modules; home = m; sought = soughts.Reference; token = t }))
        → IfOk r (λ x. AddsActs modules k (asked_acts (length said) 0 x.asked) old new) → IsSaidStep modules k (commands.Resolve m t) said more old new
    said_resolved (Ok x) told followed adds = record { a = saids.Resolved x; more_is = told; followed = followed; acts = adds }
    said_resolved (Err e) told followed adds = absurd told

    pub said_attribute : (r : Result Resolution NoMemory) → IsToldResolution r said more
        → IfOk r (IsFollowed (record { modules = length modules; home = m; sought = soughts.Attribute; token = t }))
        → IfOk r (λ x. AddsActs modules k (asked_acts (length said) 0 x.asked) old new) → IsSaidStep modules k (commands.Attribute m t) said more old new
    said_attribute (Ok x) told followed adds = record { a = saids.Resolved x; more_is = told; followed = followed; acts = adds }
    said_attribute (Err e) told followed adds = absurd told

-- the acts with a command more
acts_more : (n : ℕ) (cs : List Command) (said : List Said) (command : Command) (a : Said) → length cs ≡ length said
    → acts_from n (cs ++ command ∷ []) (said ++ a ∷ []) ≡ acts_from n cs said ++ command_acts (n + length said) command a
acts_more n [] [] command a same = append-nil (command_acts n command a) ∙ ap (λ i. command_acts i command a) (omega arith)
acts_more n [] (y ∷ said) command a same = absurd (omega (arith, same))
acts_more n (x ∷ cs) [] command a same = absurd (omega (arith, same))
acts_more n (x ∷ cs) (y ∷ said) command a same =
    let next : n + 1 + length said ≡ n + length (y ∷ said) = omega arith in
    ap (λ l. command_acts n x y ++ l) (acts_more (n + 1) cs said command a (omega (arith, same))
    ∙ ap (λ i. acts_from (n + 1) cs said ++ command_acts i command a) next)
    ∙ sym (append_assoc (command_acts n x y) (acts_from (n + 1) cs said) (command_acts (n + length (y ∷ said)) command a))

-- a command more is done
done_more : (modules : ℕ) (given done : List Command) (said : List Said) (made : List (Option Token)) (n : ℕ) (asked : Command) (a : Said)
    → AreDoneTo modules given done said made n → slice_get given n ≡ Some asked → IsFollowedBy modules (replaced_command made asked) a
    → AreDoneTo modules given (done ++ replaced_command made asked ∷ []) (said ++ a ∷ []) (made ++ said_token a ∷ []) (n + 1)
done_more modules given done said made n asked a all at follows = record {
  as_many = (let many = all.as_many in omega (arith, many, length-append done (next ∷ [])));
  answered = (let many = all.answered in omega (arith, many, length-append said (a ∷ [])));
  replaced = each;
  followed = λ c y z is so.
      let many = all.as_many in
      let answered = all.answered in
      dite (dec_le (suc c) n)
      (λ less.
      all.followed c y z (sym (front_item done (next ∷ []) c (omega (arith, many))) ∙ is) (sym (front_item said (a ∷ []) c (omega (arith, answered))) ∙ so))
      (λ past.
      let last = one_behind done next y c (omega (arith, many)) is in
      let told = one_behind said a z c (omega (arith, answered)) so in
      subst (λ x. IsFollowedBy modules x z) (sym last.0) (subst (IsFollowedBy modules next) (sym told.0) follows));
  made_is = ap (λ l. l ++ said_token a ∷ []) all.made_is ∙ sym (map-append said_token said (a ∷ []));
}
  where
    next : Command
    next = replaced_command made asked

    each : (c : ℕ) (x y : Command) → slice_get given c ≡ Some x → slice_get (done ++ next ∷ []) c ≡ Some y
        → y ≡ replaced_command (map said_token (take c (said ++ a ∷ []))) x
    each c x y there is =
        let many = all.as_many in
        let answered = all.answered in
        dite (dec_le (suc c) n)
        (λ less.
        all.replaced c x y there (sym (front_item done (next ∷ []) c (omega (arith, many))) ∙ is)
        ∙ ap (λ l. replaced_command (map said_token l) x) (sym (take-append-le c said (a ∷ []) (omega (arith, answered)))))
        (λ past.
        let last = one_behind done next y c (omega (arith, many)) is in
        let here : c ≡ n = last.1 ∙ many in
        let same : asked ≡ x = same_at given n asked x at (ap (slice_get given) (sym here) ∙ there) in
        let front : take c (said ++ a ∷ []) ≡ said = ap (λ i. take i (said ++ a ∷ [])) (here ∙ sym answered) ∙ take-append_seam said (a ∷ []) in
        last.0 ∙ ap (replaced_command made) same ∙ ap (λ l. replaced_command l x) (all.made_is ∙ ap (map said_token) (sym front)))

-- the command that was put behind the others
pub next_is : (cs more : List Command) (n : ℕ) (command x : Command) → length cs ≡ n → more ≡ cs ++ command ∷ [] → slice_get more n ≡ Some x → command ≡ x
next_is cs more n command x many is at =
    same_at more n command x
    (ap (λ l. slice_get l n) is ∙ ap (slice_get (cs ++ command ∷ [])) (sym many) ∙ last_item cs command) at

module _ (modules : List Shared) (k : ℕ) (given cs : List Command) (said : List Said) (made : List (Option Token)) (n : ℕ) (old new : List (Option Held))
    (done : AreDoneTo (length modules) given cs said made n) (far : ExplainsSoFar modules k (acts_of cs said) old) where
  -- the next command is done, and what it made is told
  pub next_done : (asked x : Command) (cs_new : List Command) (said_new : List Said) (made_new : List (Option Token)) (t : Option Token)
      → slice_get given n ≡ Some asked → cs_new ≡ cs ++ replaced_command made asked ∷ [] → slice_get cs_new n ≡ Some x → IsSaidStep modules k x said said_new old new
      → ((a : Said) → slice_get said_new n ≡ Some a → t ≡ said_token a) → made_new ≡ made ++ t ∷ []
      → AreDoneTo (length modules) given cs_new said_new made_new (n + 1) × ExplainsSoFar modules k (acts_of cs_new said_new) new
  next_done asked x cs_new said_new made_new t at cs_is there s tells made_is =
      let next = replaced_command made asked in
      let command_is : next ≡ x = next_is cs cs_new n next x done.as_many cs_is there in
      let told : slice_get said_new n ≡ Some s.a =
      ap (λ l. slice_get l n) s.more_is ∙ ap (slice_get (said ++ s.a ∷ [])) (sym done.answered) ∙ last_item said s.a in
      let row : made_new ≡ made ++ said_token s.a ∷ [] = made_is ∙ ap (λ r. made ++ r ∷ []) (tells s.a told) in
      let first : 0 + length said ≡ length said = omega arith in
      let acts = acts_more 0 cs said x s.a (done.as_many ∙ sym done.answered)
      ∙ ap (λ (i : ℕ). acts_of cs said ++ command_acts i x s.a) first in
      let follows = subst (λ y. IsFollowedBy (length modules) y s.a) (sym command_is) s.followed in (
        subst (λ l. AreDoneTo (length modules) given l said_new made_new (n + 1)) (sym cs_is)
            (subst (λ l. AreDoneTo (length modules) given (cs ++ next ∷ []) l made_new (n + 1)) (sym s.more_is)
            (subst (λ l. AreDoneTo (length modules) given (cs ++ next ∷ []) (said ++ s.a ∷ []) l (n + 1)) (sym row)
            (done_more (length modules) given cs said made n asked s.a done at follows))),
        subst (λ l. ExplainsSoFar modules k (acts_of l said_new) new) (sym (cs_is ∙ ap (λ y. cs ++ y ∷ []) command_is))
            (subst (λ l. ExplainsSoFar modules k (acts_of (cs ++ x ∷ []) l) new) (sym s.more_is)
            (subst (λ l. ExplainsSoFar modules k l new) (sym acts) (s.acts (acts_of cs said) far))),
      )
