use Rattle.std.proofs.Common.{◌≡◌, ◌+◌, ◌++◌, ◌∷◌, [], List, take, ap, ◌∙◌, subst, sym}
use Rattle.std.proofs.lemmas.List.{take_more}
use Rattle.live.specs.Crews.{WorkerOf}
use Rattle.thread_runs.specs.Rounds.{SaysRows}
use Rattle.thread_runs.proofs.RoundLemmas.{says-append}
use Rattle.thread_runs.proofs.threads.print_rows.Goals as goal

pub loop-worker-preserved : goal.loop-worker-preserved
loop-worker-preserved g c =
    let ws : List WorkerOf = c.args.workers.now in
    let i = c.loop-worker.worker-index in
    let w : WorkerOf = c.worker-item.result in
    let more : take (i + 1) ws ≡ take i ws ++ w ∷ [] = take_more ws i w c.loop-worker-test.true ∙ ap (λ (v : WorkerOf). take i ws ++ v ∷ []) (sym c.worker-item.is) in
    subst (λ (vs : List WorkerOf). SaysRows vs (g.O.Write.contents c.args.out.now) (g.O.Write.contents c.print_row.new.out)) (sym more)
    (says-append (take i ws) (w ∷ []) _ _ _ c.loop-worker.invariant c.in_ok-print_row.ensures.whole)
