use Rattle.std.proofs.Common.{◌∙◌, ℕ, List, take, drop, ap}
use Rattle.live.specs.Crews.{WorkerOf}
use Rattle.thread_runs.proofs.RoundLemmas.{ran, handed_in, set_up-more}
use Rattle.thread_runs.proofs.threads.work_all.Goals as goal

pub returns-in-Ok-all_passes-clause-whole : goal.returns-in-Ok-all_passes-clause-whole
returns-in-Ok-all_passes-clause-whole g c =
    let hired : List WorkerOf = c.in-Ok.crew.workers.items in
    let ready : List WorkerOf = c.set_up.new.crew.workers.items in
    let parts = c.in-Ok-split.ensures in
    let front = parts.0 ∙ ap (λ (n : ℕ). take n ready) c.len-rows.ensures in
    let back = parts.1 ∙ ap (λ (n : ℕ). drop n ready) c.len-rows.ensures in
    ran g.L.Opened.opening c.args.setup.items _ hired ready c.in-Ok-split.workers.items c.in-Ok-split.others.items c.work_together-workers.result.0.items _ _ _ c.in-Ok.ensures.hired c.in_ok-set_up.ensures.whole front back
    c.work_together-workers.ensures.workers c.work_together-workers.ensures.count (rw c.deref.ensures.value at c.in_ok-print_rows.ensures.whole)
    c.in-Ok-new_pass.daemon c.work_together-workers.result.1 _ c.in-Ok-new_pass.ensures.exchanges c.work_together-workers.ensures.daemon c.in-Ok-all_passes.ensures

pub split-requires : goal.split-requires
split-requires g c = set_up-more g.L.Opened.opening c.args.setup.items c.in-Ok.crew.workers.items c.set_up.new.crew.workers.items _ _ c.len-rows.result c.in_ok-set_up.ensures.whole c.len-rows.ensures

pub returns-in-Ok-all_passes-clause-handed_in : goal.returns-in-Ok-all_passes-clause-handed_in
returns-in-Ok-all_passes-clause-handed_in g c =
    let hired : List WorkerOf = c.in-Ok.crew.workers.items in
    let ready : List WorkerOf = c.set_up.new.crew.workers.items in
    let parts = c.in-Ok-split.ensures in
    let front = parts.0 ∙ ap (λ (n : ℕ). take n ready) c.len-rows.ensures in
    let back = parts.1 ∙ ap (λ (n : ℕ). drop n ready) c.len-rows.ensures in
    handed_in g.L.Opened.opening c.args.setup.items _ hired ready c.in-Ok-split.workers.items c.in-Ok-split.others.items c.work_together-workers.result.0.items _ _ _ c.in-Ok.ensures.hired c.in_ok-set_up.ensures.whole front back
    c.work_together-workers.ensures.workers c.work_together-workers.ensures.count (rw c.deref.ensures.value at c.in_ok-print_rows.ensures.whole)
    c.in-Ok-new_pass.daemon c.work_together-workers.result.1 _ _ _ _ _ c.in-Ok-new_pass.ensures.kept c.work_together-workers.ensures.rest c.in-Ok-all_passes.ensures c.requires.fresh c.in-Ok.ensures.counted c.in-Ok-new_pass.ensures.counted c.in_ok-set_up.ensures.counted
