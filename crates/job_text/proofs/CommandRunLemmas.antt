-- A job that a value denotes can be run: the arguments of each command begin with a module that is there.
use Rattle.std.proofs.Common.{◌≡◌, ℕ, ◌<◌, List, [], ◌∷◌, Bool, true, false, Option, Some, None, refl, subst, arith}
use Rattle.std.proofs.lemmas.Bool.Decides.{nat_tests}
use Rattle.std.proofs.lemmas.Option.{none-some, same_Some}
use Rattle.std.specs.List.{list_all}
use Rattle.std.specs.Prelude.{bytes_eq, option_map, IfSome, nat_lt}
use Rattle.cil_base.proofs.StepLemmas.{came, mapped, split}
use Rattle.cil_base.specs.Steps.{◌>>=◌}
use Rattle.cil_base.specs.Token.{root}
use Rattle.md_schema.proofs.SchemaLemmas.{find-all}
use Rattle.serde_json.specs.Data.{Data}
use Rattle.serde_json.specs.Find.{as_number, as_u64}
use Rattle.job_text.specs.Args.{no_args, with_argument, with_arguments}
use Rattle.job_text.specs.Commands.{command_of, edit_of, given_command, of_form, of_values, query_of}
use Rattle.job_text.specs.Forms.{FormOf, form_named, forms}
use Rattle.job_text.specs.Runnable.{CanRun}
use Rattle.job_text.specs.Tokens.{given_token}
use Rattle.job_text.specs.Values.{below, given_list, given_number, given_text, is_null}
use Rattle.job_text.specs.declared.args.Args.{Args}
use Rattle.job_text.specs.declared.command.Command.{Command}
use Rattle.job_text.specs.declared.command.Command.TheVariants as commands
use Rattle.job_text.specs.declared.form.ArgumentKind.{ArgumentKind}
use Rattle.job_text.specs.declared.form.ArgumentKind.TheVariants as kinds
use Rattle.job_text.specs.declared.token.RowToken.{RowToken}
use Rattle.job_text.specs.declared.word.Word.{Word}
use Rattle.job_text.specs.declared.word.Word.TheVariants as words

-- what holds of all that a value can be changed into holds of what it is
kept : {A B : Type 0} (P : B → Type 0) (f : A → B) (o : Option A) → ((x : A) → P (f x)) → (y : B) → option_map f o ≡ Some y → P y
kept P f o h y e = let m = mapped f o y e in subst P m.is (h m.by)

below_is : (bound n m : ℕ) → below bound n ≡ Some m → m < bound
below_is bound n m e = split (nat_lt n bound) (Some n) None (Some m) e (λ t s. let same = same_Some n m s in grind (arith, nat_tests)) (λ t s. absurd (none-some m s))

number_below : (bound : ℕ) (d : Data) (m : ℕ) → given_number bound d ≡ Some m → m < bound
unfolding given_number
number_below bound d m e =
    let c = came (as_number d >>= as_u64) (below bound) m e in
    below_is bound c.by m c.after

-- the module that was read is there
module_first : (n : ℕ) (before : List Command) (a : Args) (d : Data) (b : Args) → with_argument n before kinds.Module a d ≡ Some b → b.«module» < n
unfolding with_argument
module_first n before a d b e =
    let m = mapped (λ k. record a { «module» = k }) (given_number n d) b e in
    subst (λ (x : Args). x.«module» < n) m.is (number_below n d m.by m.first)

-- a further argument leaves the module
argument_keeps : (n : ℕ) (before : List Command) (kind : ArgumentKind) (a : Args) (d : Data) (b : Args) → a.«module» < n → with_argument n before kind a d ≡ Some b → b.«module» < n
unfolding with_argument
argument_keeps n before kinds.Module a d b k e = module_first n before a d b e
argument_keeps n before kinds.Token a d b k e = kept (λ (x : Args). x.«module» < n) _ _ (λ t. k) b e
argument_keeps n before kinds.Owner a d b k e = kept (λ (x : Args). x.«module» < n) _ _ (λ t. k) b e
argument_keeps n before kinds.Locals a d b k e =
    split (is_null d) (Some (record a { other = root })) (option_map (λ (t : RowToken). record a { other = t.token }) (given_token a.«module» before d)) (Some b) e
    (λ t s. subst (λ (x : Args). x.«module» < n) (same_Some (record a { other = root }) b s) k)
    (λ t s. kept (λ (x : Args). x.«module» < n) _ _ (λ t. k) b s)
argument_keeps n before kinds.Table a d b k e = kept (λ (x : Args). x.«module» < n) _ _ (λ t. k) b e
argument_keeps n before kinds.MemberTable a d b k e = kept (λ (x : Args). x.«module» < n) _ _ (λ t. k) b e
argument_keeps n before kinds.Link a d b k e = kept (λ (x : Args). x.«module» < n) _ _ (λ t. k) b e
argument_keeps n before kinds.Column a d b k e = kept (λ (x : Args). x.«module» < n) _ _ (λ t. k) b e
argument_keeps n before kinds.Cell a d b k e = kept (λ (x : Args). x.«module» < n) _ _ (λ t. k) b e
argument_keeps n before kinds.Cells a d b k e = kept (λ (x : Args). x.«module» < n) _ _ (λ t. k) b e
argument_keeps n before kinds.Sig a d b k e = kept (λ (x : Args). x.«module» < n) _ _ (λ t. k) b e
argument_keeps n before kinds.SigOrNull a d b k e = kept (λ (x : Args). x.«module» < n) _ _ (λ t. k) b e
argument_keeps n before kinds.At a d b k e = kept (λ (x : Args). x.«module» < n) _ _ (λ t. k) b e
argument_keeps n before kinds.MaxStack a d b k e = kept (λ (x : Args). x.«module» < n) _ _ (λ t. k) b e
argument_keeps n before kinds.InitLocals a d b k e = kept (λ (x : Args). x.«module» < n) _ _ (λ t. k) b e
argument_keeps n before kinds.Namespace a d b k e = kept (λ (x : Args). x.«module» < n) _ _ (λ t. k) b e
argument_keeps n before kinds.Name a d b k e = kept (λ (x : Args). x.«module» < n) _ _ (λ t. k) b e
argument_keeps n before kinds.TextOrNull a d b k e = kept (λ (x : Args). x.«module» < n) _ _ (λ t. k) b e
argument_keeps n before kinds.Bytes a d b k e = kept (λ (x : Args). x.«module» < n) _ _ (λ t. k) b e
argument_keeps n before kinds.Code a d b k e = kept (λ (x : Args). x.«module» < n) _ _ (λ t. k) b e
argument_keeps n before kinds.Operand a d b k e = kept (λ (x : Args). x.«module» < n) _ _ (λ t. k) b e
argument_keeps n before kinds.HandlerKind a d b k e = kept (λ (x : Args). x.«module» < n) _ _ (λ t. k) b e
argument_keeps n before kinds.TryStart a d b k e = kept (λ (x : Args). x.«module» < n) _ _ (λ t. k) b e
argument_keeps n before kinds.TryEnd a d b k e = kept (λ (x : Args). x.«module» < n) _ _ (λ t. k) b e
argument_keeps n before kinds.HandlerStart a d b k e = kept (λ (x : Args). x.«module» < n) _ _ (λ t. k) b e
argument_keeps n before kinds.HandlerEnd a d b k e = kept (λ (x : Args). x.«module» < n) _ _ (λ t. k) b e
argument_keeps n before kinds.HandlerWith a d b k e = kept (λ (x : Args). x.«module» < n) _ _ (λ t. k) b e

arguments_keep : (n : ℕ) (before : List Command) (rest : List ArgumentKind) (a : Args) (ds : List Data) (b : Args) → a.«module» < n → with_arguments n before rest a ds ≡ Some b → b.«module» < n
unfolding with_arguments
arguments_keep n before [] a [] b k e = subst (λ (x : Args). x.«module» < n) (same_Some a b e) k
arguments_keep n before [] a (d ∷ ds) b k e = absurd (none-some b e)
arguments_keep n before (kind ∷ rest) a [] b k e = absurd (none-some b e)
arguments_keep n before (kind ∷ rest) a (d ∷ ds) b k e =
    let c = came (with_argument n before kind a d) (λ x. with_arguments n before rest x ds) b e in
    arguments_keep n before rest c.by ds b (argument_keeps n before kind a d c.by k c.first) c.after

-- the arguments of a form begin with the module
abbrev begins : List ArgumentKind → Bool
begins (kinds.Module ∷ rest) = true
begins rest = false

arguments_fit : (n : ℕ) (before : List Command) (rest : List ArgumentKind) (ds : List Data) (b : Args) → begins rest ≡ true → with_arguments n before rest no_args ds ≡ Some b → b.«module» < n
unfolding with_arguments
arguments_fit n before (kinds.Module ∷ rest) [] b t e = absurd (none-some b e)
arguments_fit n before (kinds.Module ∷ rest) (d ∷ ds) b t e =
    let c = came (with_argument n before kinds.Module no_args d) (λ x. with_arguments n before rest x ds) b e in
    arguments_keep n before rest c.by ds b (module_first n before no_args d c.by c.first) c.after
arguments_fit n before rest ds b t e = absurd (cc)

-- what a word makes of the arguments is of their module
word_runs : (n : ℕ) (word : Word) (a : Args) (c : Command) → a.«module» < n → command_of word a ≡ Some c → CanRun n c
unfolding command_of
word_runs n (words.Ask question) a c k e =
    subst (CanRun n) (same_Some (commands.Query a.«module» (query_of question a)) c e) k
word_runs n (words.Change change) a c k e =
    let m = mapped (commands.Edit a.«module») (edit_of change a) c e in
    subst (CanRun n) m.is k
word_runs n words.Resolve a c k e = subst (CanRun n) (same_Some (commands.Resolve a.«module» a.token) c e) k
word_runs n words.Attribute a c k e = subst (CanRun n) (same_Some (commands.Attribute a.«module» a.token) c e) k

abbrev form_begins : FormOf → Bool
form_begins form = begins form.kinds

forms_begin : list_all form_begins forms ≡ true
unfolding forms
forms_begin = refl

of_form_runs : (n : ℕ) (before : List Command) (ds : List Data) (form : FormOf) (c : Command) → form_begins form ≡ true → of_form n before ds form ≡ Some c → CanRun n c
unfolding of_form
of_form_runs n before ds form c t e =
    let m = came (with_arguments n before form.kinds no_args ds) (command_of form.word) c e in
    word_runs n form.word m.by c (arguments_fit n before form.kinds ds m.by t m.first) m.after

of_values_run : (n : ℕ) (before : List Command) (ds : List Data) (c : Command) → of_values n before ds ≡ Some c → CanRun n c
unfolding of_values form_named
of_values_run n before [] c e = absurd (none-some c e)
of_values_run n before (d ∷ ds) c e =
    let m = came (given_text d >>= form_named) (of_form n before ds) c e in
    let name = came (given_text d) form_named m.by m.first in
    let t : form_begins m.by ≡ true =
    subst (λ (o : Option FormOf). IfSome o (λ form. form_begins form ≡ true)) name.after (find-all (λ form. bytes_eq form.name name.by) form_begins forms forms_begin) in
    of_form_runs n before ds m.by c t m.after

pub command_runs : (n : ℕ) (before : List Command) (d : Data) (c : Command) → given_command n before d ≡ Some c → CanRun n c
unfolding given_command
command_runs n before d c e =
    let m = came (given_list d) (of_values n before) c e in
    of_values_run n before m.by c m.after
