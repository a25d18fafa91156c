use Rattle.std.proofs.Common.{◌≡◌, ◌≤◌, ◌<◌, ◌+◌, ◌&&◌, not, take, ℕ, suc, Bool, true, false, Option, Some, None, refl, ap, ◌∙◌, arith}
use Rattle.std.specs.Prelude.{IfSome}
use Rattle.machine.specs.Slots.{there_and, count_there}
use Rattle.machine.specs.Pages.{Page, Pages, page_at, is_anon, is_charged}
use Rattle.machine.proofs.SlotLemmas.{one_if, count_there-more}
use Rattle.page_state.proofs.CountLemmas.{count-below}
use Rattle.page_state.proofs.lookup.file_usage.Goals as goal
use Rattle.page_state.proofs.lookup.file_usage.Goals.{then-is_file_under, else-is_file_under}

pub loop-number-init : goal.loop-number-init
loop-number-init c = (refl, omega arith)

pub overflow_add-many : goal.overflow_add-many
overflow_add-many c =
    let few = c.loop-number.invariant.1 in
    let lt = c.loop-number-test.true in
    let most = c.numbers-number-end.type_inv in
    omega (arith, few, lt, most)

-- one page more
more : (test : Page → Bool) (pages : Pages) (k many many' : ℕ) (b : Bool) → many ≡ count_there test (take k pages) → many ≤ k → b ≡ there_and test (page_at pages k) → many' ≡ many + one_if b → (many' ≡ count_there test (take (k + 1) pages)) × (many' ≤ k + 1)
more test pages k many many' b before few is after =
    let step = count_there-more test pages k in
    let here = ap one_if is in
    let most : one_if b ≤ 1 = at_most b in
    let last : suc k ≡ k + 1 = omega arith in
    let all : many' ≡ count_there test (take (suc k) pages) = omega (arith, before, step, here, after) in
    (all ∙ ap (λ (n : ℕ). count_there test (take n pages)) last, omega (arith, few, most, after))
  where
    at_most : (c : Bool) → one_if c ≤ 1
    at_most true = omega arith
    at_most false = omega arith

pub loop-number-preserved : goal.loop-number-preserved
loop-number-preserved c =
    more (λ page. is_charged c.args.tree.now c.args.group.0 page && not (is_anon page.content)) c.args.pages.now.pages c.loop-number.number c.loop-number.many c.if-is_file_under.many c.is_file_under.result c.loop-number.invariant.0 c.loop-number.invariant.1
    c.is_file_under.ensures
    (elim c.if-is_file_under.branch [
      | then-is_file_under w ↦ (let many = w.many-is in let hit = ap one_if w.if-is_file_under.true in omega (arith, many, hit))
      | else-is_file_under w ↦ (let many = w.many-is in let miss = ap one_if w.if-is_file_under.false in omega (arith, many, miss))
    ])

pub returns : goal.returns
returns c =
    let over = c.loop-number-test.false in
    let end = c.numbers-number-end.ensures in
    c.loop-number.invariant.0
    ∙ count-below (λ page. is_charged c.args.tree.now c.args.group.0 page && not (is_anon page.content)) c.args.pages.now.pages c.loop-number.number
    (λ n beyond. none n (page_at c.args.pages.now.pages n) (λ lt. omega (arith, over, end, beyond, lt)) (c.are_numbered.ensures n))
  where
    none : (n : ℕ) (slot : Option Page) → (n < c.args.pages.now.numbers → ⊥) → IfSome slot (λ page. n < c.args.pages.now.numbers) → there_and (λ page. is_charged c.args.tree.now c.args.group.0 page && not (is_anon page.content)) slot ≡ false
    none n None over within = refl
    none n (Some page) over within = absurd (over within)
