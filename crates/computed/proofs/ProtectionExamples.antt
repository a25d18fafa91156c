-- Examples: effective protection. /p is 1, and its children are /p/a, which is 2, and /p/b, which is 3.
use Rattle.std.proofs.Common.{◌≡◌, ℕ, true, false, refl}
use Rattle.std.specs.Prelude.{◌==◌, if◌then◌else◌}
use Rattle.machine.specs.declared.amount.Amount.TheVariants.{Pages}
use Rattle.machine.specs.Tree.{chain_up, chain, chain_below}
use Rattle.machine.specs.Protection.{effective, effective_along}
use Rattle.computed.proofs.ExampleStates.{tree}

-- the settings, or the uses, of /p, /p/a and /p/b
abbrev these : {A : Type 0} → A → A → A → ℕ → A
these p a b g = if g == 1 then p else if g == 2 then a else b

-- ---- the children of one parent

-- /p has 4 pages for children that ask for 6 and 2, which is 8 together: 6 * 4 / 8 are /p/a's
shared-more : effective false tree (these (Pages 4) (Pages 6) (Pages 2)) (these 8 6 2) 0 2 ≡ Pages 3
unfolding chain_up chain chain_below effective_along
shared-more = refl

-- and 2 * 4 / 8 are /p/b's
shared-less : effective false tree (these (Pages 4) (Pages 6) (Pages 2)) (these 8 6 2) 0 3 ≡ Pages 1
unfolding chain_up chain chain_below effective_along
shared-less = refl

-- a child asks for no more than it uses: of 8 pages, 2 are asked for by each, though both have a min of 6
asks-use : effective false tree (these (Pages 8) (Pages 6) (Pages 6)) (these 4 2 2) 0 2 ≡ Pages 2
unfolding chain_up chain chain_below effective_along
asks-use = refl

-- parts are rounded down: 5 * 3 / 10 is 1, and a page of the 3 is nobody's
rounds : effective false tree (these (Pages 3) (Pages 5) (Pages 5)) (these 10 5 5) 0 2 ≡ Pages 1
unfolding chain_up chain chain_below effective_along
rounds = refl

-- what the parent's value suffices for, each has as it asks
enough : effective false tree (these (Pages 8) (Pages 6) (Pages 2)) (these 9 7 2) 0 2 ≡ Pages 6
unfolding chain_up chain chain_below effective_along
enough = refl

-- a parent without a min protects nothing below it
nothing : effective false tree (these (Pages 0) (Pages 6) (Pages 2)) (these 8 6 2) 0 2 ≡ Pages 0
unfolding chain_up chain chain_below effective_along
nothing = refl

-- ---- the target

-- a child of the target has its setting as it stands, used or not
child : effective false tree (these (Pages 4) (Pages 6) (Pages 2)) (these 3 2 1) 0 1 ≡ Pages 4
unfolding chain_up chain chain_below effective_along
child = refl

-- so has /p/a for a reclaim of /p, whose own min says nothing then
child-of_other : effective false tree (these (Pages 4) (Pages 6) (Pages 2)) (these 8 6 2) 1 2 ≡ Pages 6
unfolding chain_up chain chain_below effective_along
child-of_other = refl

-- the target has none from itself
target : effective false tree (these (Pages 4) (Pages 6) (Pages 2)) (these 8 6 2) 1 1 ≡ Pages 0
unfolding chain_up chain chain_below effective_along
target = refl

-- ---- recursive protection

-- 10 pages, of which the children ask for 2 and 2, and use 6 and 4. The rest is 10 - 4 = 6, and 10 - 4 = 6 pages are used beyond what is asked:
-- 4 by /p/a, which so has 2 + 6 * 4 / 6
rest-more : effective true tree (these (Pages 10) (Pages 2) (Pages 2)) (these 10 6 4) 0 2 ≡ Pages 6
unfolding chain_up chain chain_below effective_along
rest-more = refl

-- and 2 by /p/b, which so has 2 + 6 * 2 / 6
rest-less : effective true tree (these (Pages 10) (Pages 2) (Pages 2)) (these 10 6 4) 0 3 ≡ Pages 4
unfolding chain_up chain chain_below effective_along
rest-less = refl

-- with 8 pages the rest is 4, of which /p/a has 4 * 4 / 6, rounded down to 2
rest-rounds : effective true tree (these (Pages 8) (Pages 2) (Pages 2)) (these 10 6 4) 0 2 ≡ Pages 4
unfolding chain_up chain chain_below effective_along
rest-rounds = refl

-- where 4 of /p's 10 pages are of neither child, 6 are used beyond what is asked all the same, and 1 of them by /p/a: it has 2 + 6 * 1 / 6, and so /p/b
rest-other : effective true tree (these (Pages 10) (Pages 2) (Pages 2)) (these 10 3 3) 0 2 ≡ Pages 3
unfolding chain_up chain chain_below effective_along
rest-other = refl

-- a child with a min of 0 has its part of the rest, 6 * 4 / 8
rest-for_all : effective true tree (these (Pages 8) (Pages 2) (Pages 0)) (these 10 6 4) 0 3 ≡ Pages 3
unfolding chain_up chain chain_below effective_along
rest-for_all = refl

-- without the switch nobody has the rest
rest-off : effective false tree (these (Pages 10) (Pages 2) (Pages 2)) (these 10 6 4) 0 2 ≡ Pages 2
unfolding chain_up chain chain_below effective_along
rest-off = refl

-- where the children ask for more than there is, the switch changes nothing
rest-none : effective true tree (these (Pages 4) (Pages 6) (Pages 2)) (these 8 6 2) 0 2 ≡ Pages 3
unfolding chain_up chain chain_below effective_along
rest-none = refl
