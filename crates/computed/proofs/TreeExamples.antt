-- Examples: the tree of groups, and paths.
use Rattle.std.proofs.Common.{◌≡◌, true, false, [], ◌∷◌, Some, None, refl}
use Rattle.std.specs.Prelude.{codes}
use Rattle.machine.specs.Names.{is_name, is_path, parent_path}
use Rattle.machine.specs.Tree.{chain_up, chain, under_at, under, chain_below, children, find_group, preorder_to, preorder}
use Rattle.machine.specs.Order.{one_page_of, asking_order}
use Rattle.machine.specs.State.{usage}
use Rattle.computed.proofs.ExampleStates.{tree, busy}

-- ---- paths

-- a group is not called ".."
names-dots : is_name (codes "..") ≡ false
names-dots = refl

-- 32 bytes are a name
names-longest : is_name (codes "0123456789abcdef0123456789ABCDEF") ≡ true
names-longest = refl

-- and 33 are none
names-too_long : is_name (codes "0123456789abcdef0123456789ABCDEF-") ≡ false
names-too_long = refl

-- the root's path is a slash
paths-root : is_path (codes "/") ≡ true
paths-root = refl

-- every other begins with a slash
paths-relative : is_path (codes "p/a") ≡ false
paths-relative = refl

-- and ends with none
paths-slash_at_end : is_path (codes "/p/") ≡ false
paths-slash_at_end = refl

-- the parent of "/p" is the root
parents-root : parent_path (codes "/p") ≡ codes "/"
parents-root = refl

-- ---- up

-- from /p/b up to the root
chains : chain tree (Some 3) ≡ 3 ∷ 1 ∷ 0 ∷ []
unfolding chain_up chain
chains = refl

-- for a reclaim of the root, the groups from /p/b up to the root's child
chains-below : chain_below tree 0 3 ≡ 3 ∷ 1 ∷ []
unfolding chain_up chain chain_below
chains-below = refl

-- a group is not under its sibling
under-sibling : under tree 2 3 ≡ false
unfolding chain_up chain under_at
under-sibling = refl

-- a removed group is still under the root
under-removed : under tree 0 4 ≡ true
unfolding chain_up chain under_at
under-removed = refl

-- ---- down

-- the removed group is no child
children-live : children tree 0 ≡ 1 ∷ 5 ∷ []
children-live = refl

-- the path of a removed group is no group's
find-removed : find_group tree (codes "/q") ≡ None
find-removed = refl

-- each group stands before those below it, children in order of making
down : preorder tree 0 ≡ 0 ∷ 1 ∷ 2 ∷ 3 ∷ 5 ∷ []
unfolding preorder_to
down = refl

-- ---- the order of asking

-- the next begins behind the group that was served last, and goes round to it
asks-round : asking_order false tree 0 (one_page_of 2) ≡ 3 ∷ 5 ∷ 0 ∷ 1 ∷ 2 ∷ []
unfolding preorder_to
asks-round = refl

-- behind the last group it begins at the target
asks-from_last : asking_order false tree 1 (one_page_of 3) ≡ 1 ∷ 2 ∷ 3 ∷ []
unfolding preorder_to
asks-from_last = refl

-- the group that was served last was removed: it begins at the target again
asks-removed : asking_order false tree 0 (one_page_of 4) ≡ 0 ∷ 1 ∷ 2 ∷ 3 ∷ 5 ∷ []
unfolding preorder_to
asks-removed = refl

-- ---- use

-- /p/a is charged for two pages in frames and for one that is being read in
uses-child : usage busy 2 ≡ 3
unfolding chain_up chain under_at
uses-child = refl

-- /p/b is charged for the page that is being written out, and not for the one on its block
uses-on_block : usage busy 3 ≡ 1
unfolding chain_up chain under_at
uses-on_block = refl
