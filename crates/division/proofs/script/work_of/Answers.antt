use Rattle.std.proofs.Common.{rules, ◌≡◌, ◌∙◌, ap, length, List, sym}
use Rattle.machine.specs.declared.command.Actor.{Actor}
use Rattle.division.specs.Sorting.{is_apart}
use Rattle.division.proofs.DivisionLemmas.{none, no_items}
use Rattle.division.proofs.script.work_of.Goals as goal

pub returns-clause-whole : goal.returns-clause-whole
returns-clause-whole c = none is_apart c.args.work.now (sym c.in_default.ensures.first)

pub returns-then-is_empty-clause-why : goal.returns-then-is_empty-clause-why
returns-then-is_empty-clause-why c =
    let empty : length c.in_ok-actors.actors.items ≡ 0 = search rules in
    (none is_apart c.args.work.now (sym c.in_default.ensures.first), sym c.in_ok-actors.ensures ∙ no_items c.in_ok-actors.actors.items empty)

pub returns-then-len-gt-MOST_ACTORS-clause-why : goal.returns-then-len-gt-MOST_ACTORS-clause-why
returns-then-len-gt-MOST_ACTORS-clause-why c =
    let counts : c.len-then-len-gt-MOST_ACTORS.result ≡ length c.in_ok-actors.actors.items = search rules in
    (none is_apart c.args.work.now (sym c.in_default.ensures.first), counts ∙ ap (λ (l : List Actor). length l) c.in_ok-actors.ensures, search rules)
