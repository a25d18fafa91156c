-- Walks back through the entries: one entry more, and what is said there.
use Rattle.std.proofs.Common.{◌≡◌, ℕ, ◌+◌, ◌-◌, ◌<◌, ◌≤◌, List, [], ◌∷◌, length, reverse, take, get_or, sym, ap, ◌∙◌, subst, arith, Option}
use Rattle.std.proofs.lemmas.List.{take_more, take_all, reverse-append}
use Rattle.machine.specs.declared.entry.Entry.{Entry}
use Rattle.machine.specs.History.{Spot, says, follow, last, Fetched, fetched_by, fetch_of}
use Rattle.trace.specs.declared.fetch.Access.{Access}
use Rattle.trace.specs.declared.page.Page.{Page}
use Rattle.trace.specs.declared.last_written.Seen.{Seen}
use Rattle.machine.specs.Audit.{before}
use Rattle.trace.specs.Walks.{spot_in, looked, or_access}

-- before the next place stands this entry, and what was before it
pub before-more : (xs : List Entry) (k : ℕ) (e : Entry) → k < length xs → e ≡ get_or xs k e → before xs (k + 1) ≡ e ∷ before xs k
before-more xs k e lt is =
    ap reverse (take_more xs k e lt) ∙ (reverse-append (take k xs) (get_or xs k e ∷ []) ∙ ap (λ x. x ∷ before xs k) (sym is))

-- the same, one place lower
pub before-less : (xs : List Entry) (k : ℕ) (e : Entry) → 0 < k → k ≤ length xs → e ≡ get_or xs (k - 1) e → before xs k ≡ e ∷ before xs (k - 1)
before-less xs k e some within is =
    let up : k - 1 + 1 ≡ k = omega arith in
    subst (λ (n : ℕ). before xs n ≡ e ∷ before xs (k - 1)) up (before-more xs (k - 1) e (omega arith) is)

-- before the end stands all
pub before-all : (xs : List Entry) (k : ℕ) → length xs ≤ k → before xs k ≡ reverse xs
before-all xs k all = ap reverse (take_all k xs all)

-- the latest read-in, by whether this entry began it
pub fetch_of-less : (xs : List Entry) (k ticket : ℕ) (e : Entry) (access : Option Access) → 0 < k → k ≤ length xs → e ≡ get_or xs (k - 1) e
    → ((earlier : List Entry) (others : Option Fetched) → fetched_by ticket e.event e.reply earlier others ≡ or_access earlier access others)
    → fetch_of ticket (before xs k) ≡ or_access (before xs (k - 1)) access (fetch_of ticket (before xs (k - 1)))
fetch_of-less xs k ticket e access some within is begins =
    ap (fetch_of ticket) (before-less xs k e some within is) ∙ begins (before xs (k - 1)) (fetch_of ticket (before xs (k - 1)))

-- the byte last written, by what this entry tells of it
pub last-less : (first : Spot → ℕ) (xs : List Entry) (k : ℕ) (e : Entry) (page : Page) (o : ℕ) (seen : Seen) → 0 < k → k ≤ length xs → e ≡ get_or xs (k - 1) e
    → ((earlier : Spot → ℕ) → follow (says e.event e.reply (spot_in page o)) earlier (spot_in page o) ≡ looked seen earlier o)
    → last first (before xs k) (spot_in page o) ≡ looked seen (last first (before xs (k - 1))) o
last-less first xs k e page o seen some within is tells =
    ap (λ history. last first history (spot_in page o)) (before-less xs k e some within is) ∙ tells (last first (before xs (k - 1)))

-- before the first entry a byte is what it was at first
pub last-none : (first : Spot → ℕ) (xs : List Entry) (k : ℕ) (spot : Spot) → k ≤ 0 → last first (before xs k) spot ≡ first spot
last-none first xs k spot none = let e : k ≡ 0 = omega arith in ap (λ n. last first (before xs n) spot) e
