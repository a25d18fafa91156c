use Rattle.std.proofs.Common.{map, take, ◌++◌}
use Rattle.scripts.specs.Work.{number_of}
use Rattle.thread_runs.proofs.ActorLemmas.{HasJust, row_numbers}
use Rattle.thread_runs.proofs.threads.count_actors.Given as goal

-- the numbers of the actors before this one
abbrev pub invariant-loop-actor : goal.invariant-loop-actor
invariant-loop-actor l = HasJust l.numbers (map (λ p. number_of p.0) (take l.actor-index l.setup))

abbrev pub invariant-loop-actor-2 : goal.invariant-loop-actor-2
invariant-loop-actor-2 l = HasJust l.numbers (map (λ p. number_of p.0) l.setup ++ row_numbers (take l.actor-index l.work))
