use Rattle.std.proofs.Common.{◌≡◌, ◌<◌, ◌-◌, length, get_or, set, ◌∙◌, sym, ap, arith, rules}
use Rattle.std.proofs.lemmas.Result.{on_ok_weaker}
use Rattle.expansion.specs.Together.{MemberNow, with_list}
use Rattle.expansion.proofs.TogetherLemmas.{added_last}
use Rattle.expansion.proofs.together.push.Goals as goal

pub returns-clause-added : goal.returns-clause-added
returns-clause-added c =
    let ms = c.args.members.now.items in
    let x = c.index_mut-last.result.now in
    let many : c.len-many.result ≡ length ms = search rules in
    let some : 0 < length ms = omega arith in
    let here : get_or ms (length ms - 1) x ≡ x = rw many at (sym c.index_mut-last.ensures.value) in
    on_ok_weaker c.add.result (λ (e : c.add.new.self ≡ with_list c.args.placed x). rw (many, e) (ap (λ (y : MemberNow). set ms (length ms - 1) (with_list c.args.placed y)) (sym here) ∙ added_last ms c.args.placed x some)) c.add.ensures.added
