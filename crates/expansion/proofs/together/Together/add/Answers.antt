use Rattle.std.proofs.Common.{◌≡◌, List, ap, sym, ◌∙◌, rules}
use Rattle.expansion.specs.declared.merge.Cursor.{Cursor}
use Rattle.expansion.specs.Together.{entries, cursors_of, counted}
use Rattle.expansion.proofs.TogetherLemmas.{cursors_added}
use Rattle.expansion.proofs.together.Together.add.Goals as goal

pub invariant_of-self-2 : goal.invariant_of-self-2
invariant_of-self-2 c =
    let ms = c.self.inside.members.items in
    let many : c.from-count.result ≡ entries c.args.placed = search rules in
    c.add_entries.ensures ∙ ap (λ (cs : List Cursor). counted c.from-count.result cs) c.self.invariant ∙ ap (λ n. counted n (cursors_of ms)) many ∙ sym (cursors_added ms c.args.placed) ∙ sym (ap cursors_of c.in_ok-push.ensures.added)
