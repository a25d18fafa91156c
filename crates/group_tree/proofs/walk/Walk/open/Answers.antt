use Rattle.std.proofs.Common.{ap, ◌∙◌, ◌++◌, ◌∷◌, []}
use Rattle.group_tree.specs.Places.{numbers_of}
use Rattle.group_tree.proofs.OrderLemmas.{IsWalk-root}
use Rattle.group_tree.proofs.walk.Walk.open.Goals as goal

pub returns : goal.returns
returns c =
    IsWalk-root _ _ _ (ap numbers_of (c.push_reserved.ensures.items ∙ ap (λ xs. xs ++ record { 0 = 0 } ∷ []) c.in_ok-order.ensures.items))
    (c.push_reserved-2.ensures.items ∙ ap (λ xs. xs ++ 0 ∷ []) c.in_ok-places.ensures.items) (c.push_reserved-3.ensures.items ∙ ap (λ xs. xs ++ 1 ∷ []) c.in_ok-spans.ensures.items)
