use Rattle.std.proofs.Common.{sym, ap, ◌∙◌}
use Rattle.std.specs.Option.{option_map_or}
use Rattle.serde_json.specs.Events.{members_len}
use Rattle.job_text.proofs.ValueLemmas.{members_counted}
use Rattle.job_text.specs.Values.{member_count}
use Rattle.job_text.proofs.values.member_count.Goals as goal

pub returns-in-Some : goal.returns-in-Some
unfolding member_count
returns-in-Some c =
    c.len.ensures.len ∙ sym (members_counted c.in-Some.members.now.entries)
    ∙ ap (λ o. option_map_or members_len o 0) c.in-Some.ensures
