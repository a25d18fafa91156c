use Rattle.std.proofs.Common.{◌≡◌, true, false, List, Option, sym, ap, ◌∙◌}
use Rattle.std.specs.Option.{option_map}
use Rattle.scenario_lines.specs.Tasks.{StandingNow}
use Rattle.expansion.specs.Together.{MemberNow, TogetherNow, has_left, taken_if_left}
use Rattle.expansion.proofs.TogetherLemmas.{left_from, taken_cursors, is_left, none_left}
use Rattle.expansion.proofs.together.Together.take.Goals as goal

abbrev with_members : Option (List StandingNow) → List MemberNow → TogetherNow
with_members before ms = record { members = ms; before = before }

pub take_in-requires : goal.take_in-requires
take_in-requires c = left_from c.self.inside.members.items c.self.inside.cursors.items c.args.member c.self.invariant ∙ sym c.take_at.ensures.left ∙ c.if-take_at.true

pub invariant_of-self : goal.invariant_of-self
invariant_of-self c =
    taken_cursors c.self.inside.members.items c.take_in.new.members.items c.self.inside.cursors.items c.take_at.new.cursors.items c.args.member c.self.invariant (rw c.if-take_at.true at c.take_at.ensures.taken) c.take_in.ensures

pub returns-then-take_at : goal.returns-then-take_at
returns-then-take_at c =
    let ms = c.self.inside.members.items in
    let left : has_left ms c.args.member ≡ true = left_from ms c.self.inside.cursors.items c.args.member c.self.invariant ∙ sym c.take_at.ensures.left ∙ c.if-take_at.true in
    ap (with_members (option_map (λ b. b.items) c.self.inside.before)) (c.take_in.ensures ∙ is_left ms c.args.member left) ∙ ap (λ (t : TogetherNow). record t { members = taken_if_left t.members c.args.member }) c.self.view_is

pub returns-else-take_at : goal.returns-else-take_at
returns-else-take_at c =
    let ms = c.self.inside.members.items in
    let none : has_left ms c.args.member ≡ false = left_from ms c.self.inside.cursors.items c.args.member c.self.invariant ∙ sym c.take_at.ensures.left ∙ c.if-take_at.false in
    ap (with_members (option_map (λ b. b.items) c.self.inside.before)) (none_left ms c.args.member none) ∙ ap (λ (t : TogetherNow). record t { members = taken_if_left t.members c.args.member }) c.self.view_is
