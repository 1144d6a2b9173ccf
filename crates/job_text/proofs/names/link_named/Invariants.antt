use Rattle.std.proofs.Common.{◌≡◌, drop}
use Rattle.std.specs.Prelude.{bytes_eq, find}
use Rattle.md_schema.specs.Link.{all_links, link_name_of}
use Rattle.job_text.proofs.names.link_named.Given as goal

-- the links to come have the first of that name
abbrev pub invariant-loop-link : goal.invariant-loop-link
invariant-loop-link l =
    find (λ link. bytes_eq (link_name_of link) l.name) (drop l.link-index l.link-items)
    ≡ find (λ link. bytes_eq (link_name_of link) l.name) all_links
