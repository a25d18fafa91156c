use Rattle.std.proofs.Common.{◌^◌, ◌∙◌, sym, ap, arith}
use Rattle.machine.specs.declared.record.Key.TheVariants as key
use Rattle.machine.specs.Tasks.{Tasks, task_at}
use Rattle.book.proofs.JudgeLemmas.{known-home}
use Rattle.book.proofs.CarryLemmas.{carries-kill}
use Rattle.book.proofs.apply.kill.Goals as goal

pub count-requires-2-clause-few : goal.count-requires-2-clause-few
count-requires-2-clause-few c = let most = c.count.ensures.most (2 ^ 63) c.requires.few key.OomKill in omega (arith, most)

pub returns : goal.returns
returns c =
    carries-kill c.args.state.now c.count.new.self c.count-2.new.self c.end_task.new.self c.args.limit c.args.task c.in-Some.known.group.0 c.count.ensures.counts c.count-2.ensures.counts
    (known-home c.args.state.now.tables.tasks c.args.task.0 c.in-Some.known (sym (c.task.ensures ∙ ap (λ (ts : Tasks). task_at ts c.args.task.0) c.spaces.ensures.tasks) ∙ c.in-Some.is))
    c.end_task.ensures
