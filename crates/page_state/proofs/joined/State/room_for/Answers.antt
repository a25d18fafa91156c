use Rattle.std.proofs.Common.{◌≡◌, ◌<◌, true, Some, None, sym, ap, ◌∙◌, subst, arith}
use Rattle.std.specs.Prelude.{option_map}
use Rattle.machine.specs.declared.id.GroupId.{GroupId}
use Rattle.machine.specs.Tree.{is_live}
use Rattle.machine.specs.Pages.{used_frames}
use Rattle.page_counter.specs.Counts.{over_in}
use Rattle.page_state.specs.States.{StateOf}
use Rattle.page_state.proofs.GrantLemmas.{over-granted, none-free}
use Rattle.page_state.proofs.JoinLemmas.{room-granted, room-over, room-full}
use Rattle.page_state.proofs.joined.State.room_for.Goals as goal

pub over-requires : goal.over-requires
over-requires c = record { live = c.self.invariant.held_kin.living c.args.group.0 ∙ subst (λ (s : StateOf). is_live s.tables.tree c.args.group.0 ≡ true) (sym c.self.view_is) c.requires }

pub returns-in-Some-clause-lacks : goal.returns-in-Some-clause-lacks
returns-in-Some-clause-lacks c =
    let s = c.self.inside in
    let live = subst (λ (s : StateOf). is_live s.tables.tree c.args.group.0 ≡ true) (sym c.self.view_is) c.requires in
    let kin = c.self.invariant.held_kin.living c.args.group.0 ∙ live in
    let over : over_in s.parts.counters c.args.group.0 ≡ Some c.in-Some.limit.0 = sym c.over.ensures ∙ ap (option_map (λ (g : GroupId). g.0)) c.in-Some.is in
    rw (← c.self.view_is)
    (room-over s c.self.invariant c.args.group.0 c.in-Some.limit.0 c.are_counted.ensures.lineage live (over-granted s.parts c.self.invariant.agree c.args.group.0 (Some c.in-Some.limit.0) c.are_counted.ensures.lineage kin over))

pub returns-then-free-eq0-clause-lacks : goal.returns-then-free-eq0-clause-lacks
returns-then-free-eq0-clause-lacks c =
    let s = c.self.inside in
    let live = subst (λ (s : StateOf). is_live s.tables.tree c.args.group.0 ≡ true) (sym c.self.view_is) c.requires in
    let kin = c.self.invariant.held_kin.living c.args.group.0 ∙ live in
    let over : over_in s.parts.counters c.args.group.0 ≡ None = sym c.over.ensures ∙ ap (option_map (λ (g : GroupId). g.0)) c.in_default.is in
    rw (← c.self.view_is)
    (room-full s c.self.invariant c.args.group.0 (over-granted s.parts c.self.invariant.agree c.args.group.0 None c.are_counted.ensures.lineage kin over) (none-free s.parts c.self.invariant.agree (sym c.free.ensures ∙ c.if-free-eq0.true)))

pub returns-clause-room : goal.returns-clause-room
returns-clause-room c =
    let s = c.self.inside in
    let live = subst (λ (s : StateOf). is_live s.tables.tree c.args.group.0 ≡ true) (sym c.self.view_is) c.requires in
    let kin = c.self.invariant.held_kin.living c.args.group.0 ∙ live in
    let over : over_in s.parts.counters c.args.group.0 ≡ None = sym c.over.ensures ∙ ap (option_map (λ (g : GroupId). g.0)) c.in_default.is in
    let free : used_frames s.parts.pages.pages < s.parts.pool.frames = (let all = c.self.invariant.agree.kept.frames.all in let some = c.if-free-eq0.false in let is = c.free.ensures in omega (arith, all, some, is)) in
    rw (← c.self.view_is)
    (room-granted s c.self.invariant c.args.group.0 (record { under = over-granted s.parts c.self.invariant.agree c.args.group.0 None c.are_counted.ensures.lineage kin over; free = free }))
