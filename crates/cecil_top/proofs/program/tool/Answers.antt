use Rattle.std.proofs.Common.{◌≡◌, ◌∙◌, sym, Some, None, map, rules}
use Rattle.std.specs.Prelude.{IfSome, string_bytes}
use Rattle.cecil_inspect.specs.Inspect.{Answers, Completes, Writes}
use Rattle.cecil_inspect.specs.Words.{asked}
use Rattle.cecil_top.specs.Tool.{RunAnswers, RunCompletes, RunWrites}
use Rattle.cecil_top.specs.ToolWords.{job_asked}
use Rattle.cecil_top.proofs.ToolLemmas.{completes, never_usage, when_none, when_some}
use Rattle.cecil_top.proofs.program.tool.Goals as goal

pub returns-in-Some-clause-usage : goal.returns-in-Some-clause-usage
returns-in-Some-clause-usage g c =
    let words = map string_bytes c.args.words.now in
    let files = g.F.Folder.files c.args.folder.now in
    let name = c.in-Some.name.now in
    let some : job_asked words ≡ Some name = search rules in (
      λ is. absurd (never_usage files name c.run.result c.run.ensures.cause is),
      λ none. let both : Some name ≡ None = sym some ∙ none.0 in absurd cc,
    )

pub returns-in-Some-clause-cause : goal.returns-in-Some-clause-cause
returns-in-Some-clause-cause g c =
    let words = map string_bytes c.args.words.now in
    let files = g.F.Folder.files c.args.folder.now in
    let name = c.in-Some.name.now in
    let is : job_asked words ≡ Some name = search rules in
    when_some (job_asked words) name (IfSome (asked words) (λ a. Answers files a.0 c.run.result))
    (λ n. RunAnswers files n c.run.result) is c.run.ensures.cause

pub returns-in-Some-clause-text : goal.returns-in-Some-clause-text
returns-in-Some-clause-text g c =
    let words = map string_bytes c.args.words.now in
    let files = g.F.Folder.files c.args.folder.now in
    let old = g.O.Outlet.written c.args.out.now in
    let new = g.O.Outlet.written c.run.new.out in
    let name = c.in-Some.name.now in
    let is : job_asked words ≡ Some name = search rules in
    when_some (job_asked words) name (Writes files (asked words) old new c.run.result)
    (λ n. RunWrites files n old new c.run.result) is c.run.ensures.text

pub returns-in-Some-clause-complete : goal.returns-in-Some-clause-complete
returns-in-Some-clause-complete g c = λ reads writes.
    let words = map string_bytes c.args.words.now in
    let files = g.F.Folder.files c.args.folder.now in
    let name = c.in-Some.name.now in
    let is : job_asked words ≡ Some name = search rules in
    when_some (job_asked words) name (Completes files (asked words) c.run.result)
    (λ n. RunCompletes files n c.run.result) is
    (completes c.image_is_not_refused.ensures files name (g.F.Folder.faults c.args.folder.now)
    (g.F.Folder.faults c.run.new.folder) (g.O.Outlet.faults c.args.out.now) (g.O.Outlet.faults c.run.new.out) c.run.result
    c.run.ensures.cause c.run.ensures.faults reads writes)

pub returns-in-None-clause-usage : goal.returns-in-None-clause-usage
returns-in-None-clause-usage g c =
    let words = map string_bytes c.args.words.now in
    let none : job_asked words ≡ None = search rules in (
      λ is. (none, c.inspect.ensures.usage.0 is),
      λ are. c.inspect.ensures.usage.1 are.1,
    )

pub returns-in-None-clause-cause : goal.returns-in-None-clause-cause
returns-in-None-clause-cause g c =
    let words = map string_bytes c.args.words.now in
    let files = g.F.Folder.files c.args.folder.now in
    let none : job_asked words ≡ None = search rules in
    when_none (job_asked words) (IfSome (asked words) (λ a. Answers files a.0 c.inspect.result))
    (λ n. RunAnswers files n c.inspect.result) none c.inspect.ensures.file

pub returns-in-None-clause-text : goal.returns-in-None-clause-text
returns-in-None-clause-text g c =
    let words = map string_bytes c.args.words.now in
    let files = g.F.Folder.files c.args.folder.now in
    let old = g.O.Outlet.written c.args.out.now in
    let new = g.O.Outlet.written c.inspect.new.out in
    let none : job_asked words ≡ None = search rules in
    when_none (job_asked words) (Writes files (asked words) old new c.inspect.result)
    (λ n. RunWrites files n old new c.inspect.result) none c.inspect.ensures.text

pub returns-in-None-clause-complete : goal.returns-in-None-clause-complete
returns-in-None-clause-complete g c = λ reads writes.
    let words = map string_bytes c.args.words.now in
    let files = g.F.Folder.files c.args.folder.now in
    let none : job_asked words ≡ None = search rules in
    when_none (job_asked words) (Completes files (asked words) c.inspect.result)
    (λ n. RunCompletes files n c.inspect.result) none (c.inspect.ensures.complete reads writes)
