-- The lists so far are those of the links before, and each link stands at its place.
use Rattle.std.proofs.Common.{◌+◌, [], ◌∷◌, length, get_or, ap, ◌∙◌, arith}
use Rattle.std.proofs.lemmas.List.{length-append}
use Rattle.std.proofs.lemmas.Option.{get_or_from_slice_get, slice_get_within}
use Rattle.md_schema.specs.Link.{all_links}
use Rattle.md_schema.specs.declared.link.Link.{Link}
use Rattle.md_schema.specs.declared.link.Link.TheVariants.{InterfaceImpl}
use Rattle.md_tables.proofs.IndexLemmas.{all_listed-more, indexes, placed}
use Rattle.md_tables.specs.LinkIndex.{link_place_of, link_rows, rids_at}
use Rattle.md_tables.proofs.link_index.LinkIndex.open.Goals as goal

pub loop-link-preserved : goal.loop-link-preserved
loop-link-preserved c =
    let stream = c.args.stream.now in
    let index = c.loop-link.link-index in
    let list = c.in_ok-list.list in
    record {
      listed = all_listed-more stream c.loop-link.lists.items c.push.new.self.items index list c.loop-link.invariant.long c.in_ok-push.ensures.items c.loop-link.invariant.listed (λ link at number.
          c.in_ok-list.ensures number
          ∙ ap (λ (l : Link). rids_at (link_rows stream l) number) (ap (λ all. get_or all index InterfaceImpl) c.links-link-items.ensures ∙ get_or_from_slice_get all_links index link InterfaceImpl at));
      long = ap length c.in_ok-push.ensures.items ∙ length-append c.loop-link.lists.items (list ∷ []) ∙ ap (λ n. n + 1) c.loop-link.invariant.long;
    }

pub returns : goal.returns
returns c =
    let all = ap length c.links-link-items.ensures in
    indexes c.args.stream.now c.loop-link.lists.items (λ link.
    let within = slice_get_within all_links (link_place_of link) link (placed link) in
    c.loop-link.invariant.listed (link_place_of link) link (omega (arith, all, within, c.loop-link-test.false)) (placed link))
