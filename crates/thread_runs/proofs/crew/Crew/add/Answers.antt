use Rattle.std.proofs.Common.{◌≡◌, ◌∙◌, ◌++◌, ◌∷◌, [], List, ap, false, sym}
use Rattle.std.specs.Prelude.{nat_eq}
use Rattle.std.specs.List.{list_any}
use Rattle.machine.specs.declared.command.Actor.{Actor}
use Rattle.live.specs.Crews.{WorkerOf}
use Rattle.scripts.specs.Work.{number_of}
use Rattle.thread_runs.specs.Crews.{numbers_at}
use Rattle.thread_runs.proofs.CrewLemmas.{number_missing, numbers-push}
use Rattle.thread_runs.proofs.crew.Crew.add.Goals as goal

-- the number goes behind the others, as the worker does
pub invariant_of-self-2 : goal.invariant_of-self-2
invariant_of-self-2 g c =
    let ws : List WorkerOf = c.args.self.now.workers.items in
    let worker : WorkerOf = c.args.worker in
    let new : list_any (nat_eq (number_of c.args.actor)) (numbers_at ws) ≡ false = number_missing c.args.actor ws c.requires.new in
    let keys : c.insert.new.self.keys ≡ numbers_at ws ++ number_of c.args.actor ∷ [] = rw new at (rw (c.number_of.ensures, c.args.self.now.numbered) at c.in_ok-insert.ensures.keys) in
    let pushed : c.push_reserved.new.self.items ≡ ws ++ worker ∷ [] = rw c.reserve.ensures.items at c.push_reserved.ensures.items in
    record { numbered = keys ∙ sym (ap (λ (vs : List WorkerOf). numbers_at vs) pushed ∙ numbers-push ws worker ∙ ap (λ (a : Actor). numbers_at ws ++ number_of a ∷ []) c.requires.of) }
