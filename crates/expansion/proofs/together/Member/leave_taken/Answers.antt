use Rattle.std.proofs.Common.{◌≡◌, ℕ, ◌<◌, ◌+◌, ◌-◌, List, length, get_or, refl, ap, sym, subst, ◌∙◌, arith}
use Rattle.expansion.specs.Together.{PlacedNow, MemberNow, total_before, IsIn, entries, after_lists}
use Rattle.scenario_lines.specs.Tasks.{TasksNow}
use Rattle.expansion.specs.Standings.{after_first, standing}
use Rattle.expansion.proofs.TogetherLemmas.{list_behind, list_goes, all_behind, some_behind, none_behind, left_over, no_list}
use Rattle.expansion.proofs.together.Member.leave_taken.Goals as goal
use Rattle.expansion.proofs.together.Member.leave_taken.Goals.{Joined-place-self, then-place-self+in_ok-leave_behind, else-place-self+then-place-self-2+in_ok-leave_behind-2, else-place-self+else-place-self-2}

pub loop-place-init : goal.loop-place-init
loop-place-init c =
    let e : c.args.self.now.taken - 0 ≡ c.args.self.now.taken = omega arith in
    record { others = refl; left = ap (λ n. after_lists c.deref-placed-items.result.now n c.args.tasks.now.standings) e }

pub loop-place-preserved : goal.loop-place-preserved
loop-place-preserved c =
    let i = c.self.inside in
    let ps = c.deref-placed-items.result.now in
    let k = c.loop-place.place in
    let p = c.placed-item.result in
    let t = c.loop-place.tasks in
    let within : k < length ps = omega arith in
    let number : c.args.self.now.taken ≡ total_before i.at ps + i.taken = ap (λ (m : MemberNow). m.taken) (sym c.self.view_is) ∙ ap (λ (xs : List PlacedNow). total_before i.at xs + i.taken) (sym c.deref-placed-items.ensures.value) in
    let there : IsIn ps i.at i.taken = subst (λ (xs : List PlacedNow). IsIn xs i.at i.taken) (sym c.deref-placed-items.ensures.value) c.self.invariant.0 in
    let deed : c.placed.inside.deed ≡ (get_or ps k p).deed = ap (λ (q : PlacedNow). q.deed) (c.placed.view_is ∙ c.placed-item.is) in
    let goes = λ (n : TasksNow) (many : ℕ) (e : n ≡ standing t (after_first c.placed.inside.deed many t.standings)) (behind : after_first (get_or ps k p).deed many t.standings ≡ after_first (get_or ps k p).deed (c.args.self.now.taken - total_before k ps) t.standings).
    list_goes ps k c.args.self.now.taken many p c.placed.inside.deed c.args.tasks.now t n _ within deed c.loop-place.invariant.others c.loop-place.invariant.left e behind in
    elim c.if-place-self.branch [
      | then-place-self+in_ok-leave_behind w ↦
          rw w.tasks-is (goes w.leave_behind.new.tasks w.count.result w.in_ok-leave_behind.ensures
          (ap (λ n. after_first (get_or ps k p).deed n t.standings) (w.count.ensures ∙ ap entries c.placed-item.is) ∙ all_behind ps k i.at i.taken c.args.self.now.taken p t.standings within w.if-place-self.true number))
      | else-place-self+then-place-self-2+in_ok-leave_behind-2 w ↦
          rw w.tasks-is (goes w.leave_behind-then-place-self-2.new.tasks i.taken w.in_ok-leave_behind-2.ensures (some_behind ps k i.at i.taken c.args.self.now.taken p t.standings w.if-place-self-2.true number))
      | else-place-self+else-place-self-2 w ↦ rw w.tasks-is (record {
        others = c.loop-place.invariant.others;
        left = list_behind ps k c.args.self.now.taken p t.standings t.standings within
            (none_behind ps k i.at i.taken c.args.self.now.taken p t.standings within (let a = w.if-place-self.false in let b = w.if-place-self-2.false in omega arith) there number) ∙ c.loop-place.invariant.left;
      })
    ]

pub returns : goal.returns
returns c = left_over c.args.tasks.now c.loop-place.tasks _ c.loop-place.invariant.others (no_list c.deref-placed-items.result.now c.loop-place.place _ c.loop-place.tasks.standings _ c.loop-place-test.false c.loop-place.invariant.left ∙ ap (λ (xs : List PlacedNow). after_lists xs c.args.self.now.taken c.args.tasks.now.standings) (c.deref-placed-items.ensures.value ∙ ap (λ (m : MemberNow). m.lists) c.self.view_is))
