use Rattle.std.proofs.Common.{◌≡◌, take}
use Rattle.job_text.proofs.command.copy_commands.Given as goal

-- the commands so far
abbrev pub invariant-loop-command : goal.invariant-loop-command
invariant-loop-command l = l.all ≡ take l.command-index l.commands
