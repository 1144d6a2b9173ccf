-- What one table brings into the walk.
use Rattle.std.proofs.Common.{◌≡◌, ◌∙◌, ap, ap₂, subst, ℕ, List, [], ◌++◌}
use Rattle.std.specs.Prelude.{Result, Err, fold}
use Rattle.std.specs.List.{filter, flat_map}
use Rattle.std.specs.Option.{option_map}
use Rattle.cil_base.specs.Token.{Token}
use Rattle.node_model.specs.KeyKinds.{has_kind}
use Rattle.node_model.specs.declared.key.Key.{Key}
use Rattle.node_model.specs.declared.look.Look.{Look}
use Rattle.write_plan.specs.GraphWalk.{Met, Walked, list_keys, member_met, nested_keys, own_keys, table_keys, table_met, table_walked}
use Rattle.write_plan.specs.Refusals.{Refused, first_fault}
use Rattle.write_plan.specs.Seen.{list_members}
use Rattle.write_plan.specs.declared.kept.Kept.{Kept}
use Rattle.write_plan.specs.declared.met.MetRows.{MetRows}
use Rattle.write_plan.specs.declared.refusal.WriteRefusal.{WriteRefusal}
use Rattle.write_plan.specs.declared.refusal.WriteRefusal.TheVariants.{Reached}
use Rattle.write_plan.specs.inner.Taken.{Takes, met_rows, value_kept, walked_so}
use Rattle.write_plan.proofs.KeptLemmas.{TakesOk, takes_more, takes_then}
use Rattle.write_plan.proofs.WalkLemmas.{lists_known, members_kept, nested_known}

pub same_walked : (k l : List Key) (x y : List Token) (u v : List Token) → k ≡ l → x ≡ y → u ≡ v → ◌≡◌ {A = Walked} (record { keys = k; all = x; again = u }) (record { keys = l; all = y; again = v })
same_walked k l x y u v p q r = λ i. record { keys = p i; all = q i; again = r i }

module _ (see : Key → Look) (a : Kept) (m0 : MetRows) (table : ℕ) (lists : List Key) (is_lists : lists ≡ list_keys m0.all table) where
  taken_lists : filter has_kind lists ≡ list_keys m0.all table
  taken_lists = ap (filter has_kind) is_lists ∙ lists_known m0.all table

  pub lists_stop : (e : WriteRefusal) → Refused (option_map Reached (first_fault see (filter has_kind lists))) e
      → Refused (option_map Reached (first_fault see (table_keys see (walked_so a m0) table))) e
  lists_stop e stopped =
      takes_more see (list_keys m0.all table) (flat_map own_keys (table_met see (walked_so a m0) table).rows ++ nested_keys m0.all table) e
      (subst (λ ks. Refused (option_map Reached (first_fault see ks)) e) taken_lists stopped)

  module _ (b : Kept) (m1 : MetRows) (members : List Token) (took : TakesOk see a (filter has_kind lists) b)
      (is_members : members ≡ flat_map (λ k. list_members (value_kept b k)) lists) (begun : met_rows m1 ≡ record { all = m0.all; rows = []; again = m0.again }) where
    took_lists : TakesOk see a (list_keys m0.all table) b
    took_lists = subst (λ ks. TakesOk see a ks b) taken_lists took

    pub table_rows : fold (member_met see table) (met_rows m1) members ≡ table_met see (walked_so a m0) table
    table_rows =
        let seen = is_members ∙ ap (flat_map (λ k. list_members (value_kept b k))) is_lists ∙ members_kept see b a.keys (list_keys m0.all table) took_lists.1.values took_lists.0 in
        ap₂ (λ m ts. fold (member_met see table) m ts) begun seen

    abbrev rows_taken : List Key
    rows_taken = flat_map own_keys (fold (member_met see table) (met_rows m1) members).rows

    same_rows : rows_taken ≡ flat_map own_keys (table_met see (walked_so a m0) table).rows
    same_rows = ap (λ (m : Met). flat_map own_keys m.rows) table_rows

    pub rows_stop : (e : WriteRefusal) → Refused (option_map Reached (first_fault see rows_taken)) e
        → Refused (option_map Reached (first_fault see (table_keys see (walked_so a m0) table))) e
    rows_stop e stopped =
        let rows = flat_map own_keys (table_met see (walked_so a m0) table).rows in
        takes_then see a b b (list_keys m0.all table) (rows ++ nested_keys m0.all table) (Err e) took_lists
        (takes_more see rows (nested_keys m0.all table) e (subst (λ ks. Refused (option_map Reached (first_fault see ks)) e) same_rows stopped))

    pub table_takes : (nested : List Key) (c d : Kept) (r : Result (Unit {0}) WriteRefusal) → nested ≡ nested_keys m0.all table
        → TakesOk see b rows_taken c → Takes see c (filter has_kind nested) d r → Takes see a (table_keys see (walked_so a m0) table) d r
    table_takes nested c d r is_nested took_rows takes =
        let rows = flat_map own_keys (table_met see (walked_so a m0) table).rows in
        let last : Takes see c (nested_keys m0.all table) d r = subst (λ ks. Takes see c ks d r) (ap (filter has_kind) is_nested ∙ nested_known m0.all table) takes in
        takes_then see a b d (list_keys m0.all table) (rows ++ nested_keys m0.all table) r took_lists
        (takes_then see b c d rows (nested_keys m0.all table) r (subst (λ ks. TakesOk see b ks c) same_rows took_rows) last)

    pub table_done : (d : Kept) (m2 : MetRows) → met_rows m2 ≡ fold (member_met see table) (met_rows m1) members → TakesOk see a (table_keys see (walked_so a m0) table) d
        → walked_so d m2 ≡ table_walked see (walked_so a m0) table
    table_done d m2 met took_all =
        let rows : met_rows m2 ≡ table_met see (walked_so a m0) table = met ∙ table_rows in
        same_walked d.keys (a.keys ++ table_keys see (walked_so a m0) table) m2.all (table_met see (walked_so a m0) table).all m2.again (table_met see (walked_so a m0) table).again
        took_all.0 (ap (λ (m : Met). m.all) rows) (ap (λ (m : Met). m.again) rows)
