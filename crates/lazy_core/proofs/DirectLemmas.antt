-- What is said of one key of an image to which nothing was done.
use Rattle.std.proofs.Common.{◌≡◌, refl, ◌∙◌, ap, ℕ, Bool, true, false, List, Some, None, if◌then◌else◌}
use Rattle.std.specs.Prelude.{◌||◌}
use Rattle.node_model.specs.Graph.{untouched}
use Rattle.node_model.specs.Immediate.{read}
use Rattle.node_model.specs.KeyKinds.{has_kind}
use Rattle.node_model.specs.Keys.{image_rows, is_key, is_key_there, is_of_root, is_row, token_of_key}
use Rattle.node_model.specs.Questions.{early_reply, key_reply, query_key, query_walk, status_reply}
use Rattle.node_model.specs.Replies.{reply, reply_by}
use Rattle.node_model.specs.declared.key.Key.{Key}
use Rattle.node_model.specs.declared.nodes.RowStatus.TheVariants.{Absent, Live}
use Rattle.node_model.specs.declared.query.Query.{Query}
use Rattle.node_model.specs.declared.reply.Reply.{Reply}
use Rattle.node_model.specs.declared.reply.Reply.TheVariants as replies
use Rattle.node_model.proofs.KnownQueries.{key_known}
use Rattle.lazy_core.specs.inner.Replies.{key_said, slot_reply_of}

by_there : (x y : Bool) → (if x then Live else (if y then Live else Absent)) ≡ (if (x || y) then Live else Absent)
by_there true y = refl
by_there false true = refl
by_there false false = refl

early_is : (b : List ℕ) (k : Key) → key_reply (untouched b).nodes k ≡ status_reply (if is_key_there (image_rows b) k then Live else Absent) (has_kind k) (token_of_key k)
early_is b k = ap (λ s. status_reply s (has_kind k) (token_of_key k)) (by_there (is_of_root k) (is_row (image_rows b) (token_of_key k)))

pub early_absent : (b : List ℕ) (k : Key) → is_key_there (image_rows b) k ≡ false → key_reply (untouched b).nodes k ≡ Some (replies.Absent (token_of_key k))
early_absent b k e = early_is b k ∙ rw e refl

pub early_wrong : (b : List ℕ) (k : Key) → is_key_there (image_rows b) k ≡ true → has_kind k ≡ false → key_reply (untouched b).nodes k ≡ Some (replies.WrongKind (token_of_key k))
early_wrong b k e f = early_is b k ∙ rw (e, f) refl

pub early_none : (b : List ℕ) (k : Key) → is_key_there (image_rows b) k ≡ true → has_kind k ≡ true → key_reply (untouched b).nodes k ≡ None
early_none b k e f = early_is b k ∙ rw (e, f) refl

-- a key of which nothing is said before it is looked at is one of the image
pub known_untouched : (b : List ℕ) (k : Key) → key_reply (untouched b).nodes k ≡ None → is_key b k ≡ true
unfolding is_key
known_untouched b k early = key_known (untouched b).nodes k early

pub said_early : (b : List ℕ) (k : Key) (r : Reply) → key_reply (untouched b).nodes k ≡ Some r → key_said b k ≡ r
unfolding key_said
said_early b k r e = ap (λ o. reply_by o (slot_reply_of k (read b k))) e

pub said_looked : (b : List ℕ) (k : Key) → key_reply (untouched b).nodes k ≡ None → key_said b k ≡ slot_reply_of k (read b k)
unfolding key_said
said_looked b k e = ap (λ o. reply_by o (slot_reply_of k (read b k))) e

-- the reply to a query that looks at one key
pub said_is : (b : List ℕ) (q : Query) (k : Key) → query_key q ≡ Some k → reply (untouched b) 0 q ≡ key_said b k
unfolding reply early_reply query_walk key_said slot_reply_of
said_is b q k e = rw e refl
