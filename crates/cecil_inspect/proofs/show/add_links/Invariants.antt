use Rattle.std.proofs.Common.{◌≡◌, ◌++◌, take}
use Rattle.std.specs.List.{flat_map}
use Rattle.cecil_inspect.specs.Lines.{linked_line}
use Rattle.cecil_inspect.proofs.show.add_links.Given as goal

-- the lines so far
abbrev pub invariant-loop-link : goal.invariant-loop-link
invariant-loop-link l = l.text ≡ l.initial.text ++ flat_map (linked_line l.image l.token) (take l.link-index l.links)
