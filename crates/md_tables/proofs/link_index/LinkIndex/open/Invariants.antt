use Rattle.std.proofs.Common.{ℕ, ◌≡◌, ◌<◌, [], Some, length, slice_get}
use Rattle.std.specs.Option.{unwrap_or}
use Rattle.md_schema.specs.Link.{all_links}
use Rattle.md_schema.specs.declared.link.Link.{Link}
use Rattle.md_tables.specs.LinkIndex.{ListsLink}
use Rattle.md_tables.proofs.link_index.LinkIndex.open.Given as goal

abbrev pub invariant-loop-link : goal.invariant-loop-link
invariant-loop-link l = record {
  listed : (k : ℕ) (link : Link) → k < l.link-index → slice_get all_links k ≡ Some link → ListsLink l.stream link (unwrap_or (slice_get l.lists.items k) []);
  long : length l.lists.items ≡ l.link-index;
}
