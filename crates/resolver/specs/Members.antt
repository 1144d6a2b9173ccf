-- What the replies to the search for a member lead to: ECMA-335 II.22.15, II.22.25, II.22.26, II.22.37.
use Rattle.std.specs.Prelude.{ℕ, List, ◌∷◌, codes, Option, Some, None}
use Rattle.cil_base.specs.Token.{Token}
use Rattle.md_schema.specs.Tables.{field, method_def}
use Rattle.sig_tree.specs.declared.tree.SigTree.{SigTree}
use Rattle.sig_tree.specs.declared.tree.SigTree.TheVariants as sorts
use Rattle.node_model.specs.RowTexts.{token_named}
use Rattle.node_model.specs.declared.reply.Reply.{Reply}
use Rattle.resolver.specs.Found.{found, hop, on_found, on_name, on_row, on_sig, stopped, unresolved}
use Rattle.resolver.specs.declared.waiting.Waiting.TheVariants.{Base as BaseOf}
use Rattle.resolver.specs.declared.members.MemberName.{MemberName}
use Rattle.resolver.specs.declared.members.MemberStage.{MemberStage}
use Rattle.resolver.specs.declared.members.MemberStage.TheVariants.{SigText, SigSort, ByName, Base}
use Rattle.resolver.specs.declared.state.Advance.{Advance}
use Rattle.resolver.specs.declared.state.Advance.TheVariants.{To}
use Rattle.resolver.specs.declared.state.Stage.TheVariants.{Member}
use Rattle.resolver.specs.declared.state.State.{State}

-- the table of the members that have a signature of this sort
abbrev pub sort_table : SigTree → Option ℕ
sort_table (sorts.Field t) = Some field
sort_table (sorts.Method m) = Some method_def
sort_table _ = None

abbrev pub member_wanted : ℕ → List ℕ → List ℕ → MemberName
member_wanted table name text = record { table = table; name = name; sig = text }

abbrev pub after_sort : Reply → List ℕ → List ℕ → ℕ → Token → Option ℕ → Advance
after_sort r name text at of None = stopped r
after_sort r name text at of (Some table) = To (Member (ByName at of (member_wanted table name text)))

-- the type has no such member: the type that it extends may have it
abbrev pub after_extends : State → ℕ → MemberName → Option Token → Advance
after_extends s at wanted None = unresolved s wanted.name
after_extends s at wanted (Some t) = hop s (BaseOf wanted ∷ s.waiting) at t

abbrev pub after_member : State → MemberStage → Reply → Advance
after_member s (SigText at member name found_at of) r =
    on_name r (λ text. To (Member (SigSort at member name text found_at of)))
after_member s (SigSort at member name text found_at of) r =
    on_sig r (λ sig. after_sort r name text found_at of (sort_table sig))
after_member s (ByName at of wanted) r = on_found r (found s at) (To (Member (Base at of wanted)))
after_member s (Base at of wanted) r = on_row r (λ row. after_extends s at wanted (token_named (codes "Extends") row))
