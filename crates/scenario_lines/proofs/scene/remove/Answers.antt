use Rattle.std.proofs.Common.{sym, ◌∙◌}
use Rattle.scenario_words.specs.Paths.{same_path}
use Rattle.scenario_lines.proofs.SceneLemmas.{none_out, one_out}
use Rattle.scenario_lines.proofs.scene.remove.Goals as goal

pub returns-in-None : goal.returns-in-None
returns-in-None c = none_out (λ g. same_path g c.args.path.now) c.args.groups.now.items (rw (← c.as_slice.ensures.value) (sym c.in-None.ensures.place))

pub returns-in-Some : goal.returns-in-Some
returns-in-Some c = c.remove-removed.ensures.items ∙ one_out (λ g. same_path g c.args.path.now) c.args.groups.now.items c.in-Some.place (rw (← c.as_slice.ensures.value) (sym c.in-Some.ensures.place))
