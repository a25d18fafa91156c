use Rattle.std.proofs.Common.{◌+◌, Option, ℕ, sym, ap, ◌∙◌, refl}
use Rattle.std.specs.Option.{option_map}
use Rattle.scenario_lines.specs.Tasks.{is_task}
use Rattle.scenario_lines.proofs.TaskLemmas.{position_seen}
use Rattle.scenario_lines.proofs.tasks.Tasks.named.Goals as goal

pub returns-in-None : goal.returns-in-None
returns-in-None c =
    let seen = position_seen (is_task c.args.name.now c.args.index) _ (λ k. rw (← c.in_ok-from_str.ensures.ok) refl) c.self.inside.started.keys in
    rw (← c.self.view_is) (ap (λ (o : Option ℕ). option_map (λ place. place + 1) o) (c.in-None.ensures.index ∙ sym seen))

pub returns : goal.returns
returns c =
    let seen = position_seen (is_task c.args.name.now c.args.index) _ (λ k. rw (← c.in_ok-from_str.ensures.ok) refl) c.self.inside.started.keys in
    rw (← c.self.view_is) (ap (λ (o : Option ℕ). option_map (λ place. place + 1) o) (c.in-Some.ensures.index ∙ sym seen))
