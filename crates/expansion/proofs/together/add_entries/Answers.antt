use Rattle.std.proofs.Common.{◌≡◌, ◌<◌, ◌-◌, ◌+◌, ◌^◌, min, length, get_or, set, ◌∙◌, sym, ap, arith, rules}
use Rattle.expansion.specs.declared.merge.Cursor.{Cursor}
use Rattle.expansion.proofs.TogetherLemmas.{counted_last}
use Rattle.expansion.proofs.together.add_entries.Goals as goal

pub returns-then-many-gt0 : goal.returns-then-many-gt0
returns-then-many-gt0 c =
    let cs = c.args.cursors.now.items in
    let x = c.index-last.result.now in
    let many : c.len-many.result ≡ length cs = search rules in
    let some : 0 < length cs = omega arith in
    let here : get_or cs (length cs - 1) x ≡ x = rw many at (sym c.index-last.ensures) in
    rw (many, c.saturating_add.ensures) (ap (λ (y : Cursor). set cs (length cs - 1) (record y { count = min (y.count + c.args.count) (2 ^ 64 - 1) })) (sym here) ∙ counted_last cs c.args.count x some)
