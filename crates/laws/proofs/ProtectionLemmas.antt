-- How much of its protection a group has to share out below it.
use Rattle.std.proofs.Common.{◌≡◌, ◌≢◌, ℕ, ◌<◌, ◌≤◌, true, List, sym, ap, ◌∙◌, arith}
use Rattle.std.specs.Prelude.{count_by, sum_by}
use Rattle.machine.specs.Tree.{Node, IsTree, children, under}
use Rattle.machine.specs.Pages.{Pages, charged}
use Rattle.machine.specs.Protection.{setting_of}
use Rattle.machine.specs.State.{effective_in, usage}
use Rattle.group_tree.proofs.UnderLemmas.{under-not_above}
use Rattle.page_counter.proofs.ChildLemmas.{children-le, children_count-le}
use Rattle.protection.proofs.ShareLemmas.{pages_in, shares-within}
use Rattle.page_state.proofs.CountLemmas.{groups_of, charged-groups}
use Rattle.legal.proofs.SoundLemmas.{legal-sound}
use Rattle.laws.specs.Laws.{SharesStayWithin}

-- the pages that are charged to the children of a group are charged to the group
charged-children : (tree : List Node) → IsTree tree → (pages : Pages) (p : ℕ) → sum_by (charged tree pages) (children tree p) ≤ charged tree pages p
charged-children tree is pages p =
    let each = children-le tree p (charged tree pages) (λ c. count_by (λ x. under tree c x) (groups_of pages)) (λ c child. let same = charged-groups tree c pages in omega (arith, same)) in
    let all = children_count-le tree is (groups_of pages) p in
    let here = charged-groups tree p pages in
    omega (arith, each, all, here)

pub shares_stay_within : SharesStayWithin
shares_stay_within opening history s guard target p most legal below differs above =
    let falls = (legal-sound opening history s legal).1.falls in
    let over = under-not_above s.tree falls target p below in
    let shares =
    shares-within s.tree falls target s.opening.recursive (setting_of guard s.limits) (usage s) p most (λ same. differs (sym same)) (omega (arith, over, differs)) above (charged-children s.tree falls s.pages p) in (
      (λ g. pages_in (effective_in s guard target g)),
      shares.0,
      shares.1,
    )
