use Rattle.std.proofs.Common.{◌≡◌, ◌<◌, ◌≤◌, List, refl, ap, ◌∙◌, length, get_or, arith}
use Rattle.expansion.specs.Together.{MemberNow, TogetherNow}
use Rattle.expansion.proofs.TogetherLemmas.{others_more, standings_of, left_over, member_behind, no_member}
use Rattle.expansion.proofs.together.Together.leave_taken.Goals as goal

pub loop-member-init : goal.loop-member-init
loop-member-init c = record { others = refl; left = refl }

pub loop-member-preserved : goal.loop-member-preserved
loop-member-preserved c =
    let same : c.deref-member-items.result.now ≡ c.args.self.now.members = c.deref-member-items.ensures.value ∙ ap (λ (t : TogetherNow). t.members) c.self.view_is in
    let many : length c.deref-member-items.result.now ≡ length c.args.self.now.members = ap (λ (xs : List MemberNow). length xs) same in
    let within : c.loop-member.member-index < length c.args.self.now.members = omega arith in
    record {
      others = others_more c.args.tasks.now c.loop-member.tasks c.leave_taken.new.tasks _ c.loop-member.invariant.others c.in_ok-leave_taken.ensures;
      left = member_behind c.args.self.now.members c.loop-member.member-index c.member-item.result c.loop-member.tasks.standings c.leave_taken.new.tasks.standings _ within (c.member-item.is ∙ ap (λ (xs : List MemberNow). get_or xs c.loop-member.member-index c.member-item.result) same)
          (standings_of c.loop-member.tasks c.leave_taken.new.tasks _ c.in_ok-leave_taken.ensures) c.loop-member.invariant.left;
    }

pub returns : goal.returns
returns c =
    let many : length c.deref-member-items.result.now ≡ length c.args.self.now.members = ap (λ (xs : List MemberNow). length xs) (c.deref-member-items.ensures.value ∙ ap (λ (t : TogetherNow). t.members) c.self.view_is) in
    let past : length c.args.self.now.members ≤ c.loop-member.member-index = omega arith in
    left_over c.args.tasks.now c.loop-member.tasks _ c.loop-member.invariant.others (no_member c.args.self.now.members c.loop-member.member-index c.loop-member.tasks.standings _ past c.loop-member.invariant.left)
