-- A key that is needed is wanted.
use Rattle.std.proofs.Common.{◌≡◌, refl, sym, ◌∙◌, ap, subst, ℕ, Bool, true, false, List, [], ◌∷◌, length, cond, not, arith}
use Rattle.std.specs.Prelude.{Option, Some, None, ◌&&◌, ◌||◌}
use Rattle.std.proofs.Math.Seq.{take-length}
use Rattle.std.specs.List.{list_any}
use Rattle.node_model.specs.KeyKinds.{has_kind}
use Rattle.node_model.specs.Keys.{is_key_there, same_key}
use Rattle.node_model.specs.Replies.{reach}
use Rattle.node_model.specs.declared.entry.Entry.{Entry}
use Rattle.node_model.specs.declared.entry.Why.TheVariants as whys
use Rattle.node_model.specs.declared.key.Key.{Key}
use Rattle.node_model.specs.inner.KeyEquality.{key_self}
use Rattle.node_model.proofs.KnownQueries.{query_reach_known}
use Rattle.lazy_core.specs.History.{filled, graph_after}
use Rattle.lazy_core.specs.Legal.{WasWanted, reach_why}
use Rattle.lazy_core.specs.Steps.{NeedIsWanted, peek_at, peeked}
use Rattle.graph_query.specs.declared.answering.Peek.TheVariants.{Need}
use Rattle.lazy_core.proofs.ReplyLemmas.{known_there}
use Rattle.lazy_core.proofs.TryLemmas.{first_unfilled}
use Rattle.lazy_core.proofs.TryWantLemmas.{first_has}

-- the first key that is not filled is one of these
is_reached : (b : List ℕ) (h : List Entry) (ks : List Key) (k : Key) → first_unfilled b h ks ≡ Some k → list_any (same_key k) ks ≡ true
is_reached b h [] k e = absurd cc
is_reached b h (j ∷ ks) k e = by_filled (filled b h j) e (is_reached b h ks k)
  where
    or_right : (x y : Bool) → y ≡ true → (x || y) ≡ true
    or_right true y e = refl
    or_right false y e = e

    by_filled : (x : Bool) → cond (not x) (Some j) (first_unfilled b h ks) ≡ Some k → (first_unfilled b h ks ≡ Some k → list_any (same_key k) ks ≡ true)
        → (same_key k j || list_any (same_key k) ks) ≡ true
    by_filled true e rest = or_right (same_key k j) (list_any (same_key k) ks) (rest e)
    by_filled false e rest =
        let same : j ≡ k = cc in
        rw (ap (same_key k) same ∙ key_self k) refl

pub needed : NeedIsWanted
unfolding peeked
needed b h q n need = by_first (first_unfilled b h (reach (graph_after b h) q)) refl need
  where
    by_first : (o : Option Key) → first_unfilled b h (reach (graph_after b h) q) ≡ o → peek_at b h q o ≡ Need n → WasWanted b h (length h) (whys.Query q) n
    by_first None is told = absurd cc
    by_first (Some j) is told =
        let same : j ≡ n = cc in
        let has = first_has b h (λ k. is_key_there (graph_after b h).nodes.rows k && has_kind k) (reach (graph_after b h) q) j (query_reach_known (graph_after b h) q) is in
        subst (λ k. WasWanted b h (length h) (whys.Query q) k) same (record {
          early = omega arith;
          known = known_there b h j has.1 has.0;
          reached = subst (λ g. list_any (same_key j) (reach_why (graph_after b g) (whys.Query q)) ≡ true) (sym (take-length h))
              (is_reached b h (reach (graph_after b h) q) j is);
          unfilled = subst (λ g. filled b g j ≡ false) (sym (take-length h)) has.0;
        })
