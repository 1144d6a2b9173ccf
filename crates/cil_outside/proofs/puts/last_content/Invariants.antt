use Rattle.std.proofs.Common.{◌≡◌, take, option_copied}
use Rattle.cil_outside.specs.Outlet.{put_content}
use Rattle.cil_outside.proofs.puts.last_content.Given as goal

-- the content by the puts so far
abbrev pub invariant-loop-put : goal.invariant-loop-put
invariant-loop-put l = option_copied l.content ≡ put_content (take l.put-index l.puts) l.name
