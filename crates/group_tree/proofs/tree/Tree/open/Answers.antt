use Rattle.std.proofs.Common.{◌≡◌, ◌++◌, ◌∷◌, [], List, ap, sym, subst, ◌∙◌, None, true, refl}
use Rattle.std.specs.String.{string_eq}
use Rattle.indexmap.specs.IndexMap.{insert_entry}
use Rattle.machine.specs.Tree.{Node, root}
use Rattle.group_tree.specs.Tables.{nodes_of}
use Rattle.group_tree.specs.Places.{IsWalkOf}
use Rattle.group_tree.proofs.PushLemmas.{nodes-root, AreTables-root}
use Rattle.group_tree.proofs.tree.Tree.open.Goals as goal

-- the table says that the root is there alone
seen : (c : goal.After-push_reserved) → nodes_of c.push_reserved.new.self.items ≡ root ∷ []
seen c =
    nodes-root _ _ c.in_ok-from_str.field-0 c.in_ok-path.path (record { 0 = 0 })
    (c.push_reserved.ensures.items ∙ ap (λ xs. xs ++ record { parent = None; path = c.in_ok-path.path; live = true } ∷ []) c.in_ok-groups.ensures.items)
    (c.in_ok-insert.ensures.entries ∙ ap (λ xs. insert_entry string_eq xs c.in_ok-from_str.field-0 (record { 0 = 0 })) c.new-by_path.ensures.empty)
    c.in_ok-from_str.ensures.ok c.in_ok-path.ensures.ok refl

pub invariant_of-result : goal.invariant_of-result
invariant_of-result c = (
  AreTables-root _ _ c.in_ok-from_str.field-0 c.in_ok-path.path (record { 0 = 0 })
      (c.push_reserved.ensures.items ∙ ap (λ xs. xs ++ record { parent = None; path = c.in_ok-path.path; live = true } ∷ []) c.in_ok-groups.ensures.items)
      (c.in_ok-insert.ensures.entries ∙ ap (λ xs. insert_entry string_eq xs c.in_ok-from_str.field-0 (record { 0 = 0 })) c.new-by_path.ensures.empty)
      c.in_ok-from_str.ensures.ok c.in_ok-path.ensures.ok refl,
  subst (λ (t : List Node). IsWalkOf t c.in_ok-walk.walk) (sym (seen c)) c.in_ok-walk.ensures,
)

pub returns : goal.returns
returns c = seen c
