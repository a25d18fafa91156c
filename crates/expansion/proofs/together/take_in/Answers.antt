use Rattle.std.proofs.Common.{◌<◌, set, subst, sym, ap, ◌∙◌, arith}
use Rattle.expansion.specs.Together.{MemberNow, total, taken_once}
use Rattle.expansion.proofs.TogetherLemmas.{left_less, left_within, set_taken}
use Rattle.expansion.proofs.together.take_in.Goals as goal

pub take-requires : goal.take-requires
take-requires c =
    let x = c.index_mut-found.result.now in
    subst (λ (m : MemberNow). m.taken < total m.lists) (sym c.index_mut-found.ensures.value) (left_less c.args.members.now.items c.args.member x c.requires)

pub returns-then-member-len : goal.returns-then-member-len
returns-then-member-len c =
    let ms = c.args.members.now.items in
    let x = c.index_mut-found.result.now in
    let within = left_within ms c.args.member c.requires in
    ap (λ (m : MemberNow). set ms c.args.member m) (c.take.ensures ∙ ap taken_once c.index_mut-found.ensures.value) ∙ set_taken ms c.args.member x within

pub returns-else-member-len : goal.returns-else-member-len
returns-else-member-len c =
    let within = left_within c.args.members.now.items c.args.member c.requires in
    absurd (omega (arith, c.args.members.now.ok.0))
