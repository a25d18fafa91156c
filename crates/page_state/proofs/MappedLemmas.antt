-- How pages and page tables agree after a change, and where the tasks' groups are.
use Rattle.std.proofs.Common.{◌≡◌, inl, inr, ℕ, ◌+◌, ◌<◌, ◌≤◌, ◌≢◌, ◌==◌, ◌&&◌, not, Bool, true, false, cond, [], Option, Some, None, List, eqb-true, eq-eqb, ne_eqb, refl, sym, ap, ◌∙◌, arith, subst}
use Rattle.std.specs.Prelude.{◌⊎◌, IsSome, IfSome}
use Rattle.std.proofs.lemmas.Bool.{and_right}
use Rattle.std.proofs.lemmas.Bool.Decides.{nat_tests}
use Rattle.machine.specs.declared.record.Life.{Life}
use Rattle.machine.specs.declared.record.Life.TheVariants.{Live}
use Rattle.machine.specs.declared.record.Task.{Task}
use Rattle.machine.specs.Slots.{Changes, there_and}
use Rattle.machine.specs.Tree.{Node, is_live}
use Rattle.machine.specs.Pages.{Content, Memory, OfFile, Residence, Held, Away, Page, Pages, page_at, is_anon, in_transfer_at, is_in_transfer}
use Rattle.machine.specs.Tasks.{Tasks, PageTables, task_at, is_live_life, is_live_task, lives, group_of, group_of_task, SetsTask, mapped_at, mappers, Shows, Copies}
use Rattle.machine.specs.Step.{still, or_gone, on_block_of}
use Rattle.machine.proofs.Values.{unlike}
use Rattle.machine.proofs.TreeLemmas.{eq_cases}
use Rattle.machine.proofs.SlotLemmas.{one_if}
use Rattle.machine.proofs.MappingLemmas.{mapped_at-mappers, mappers-alike, mappers-shows, copies-cases, shown_once}
use Rattle.machine.proofs.MappingLemmas.{Mapper, mappers_some}
use Rattle.pages.specs.declared.end.End.{End}
use Rattle.pages.specs.declared.end.End.TheVariants.{InFrame, OnBlock}
use Rattle.pages.specs.PagesOf.{Label, labelled}
use Rattle.pages.specs.Transfers.{on_block_as, page_after}
use Rattle.page_state.specs.Changes.{ended_as}
use Rattle.page_state.specs.Mapped.{AreMapped, is_settled}

-- ---- what stays

some_no_zero : (n : ℕ) → 1 ≤ n → (n == 0) ≡ false
some_no_zero n le = grind (arith, nat_tests, le)

-- a page that something maps stays
pub still-mapped : (tables : PageTables) (p : ℕ) (slot : Option Page) → 1 ≤ mappers tables p → still tables p slot ≡ slot
still-mapped tables p None le = refl
still-mapped tables p (Some page) le = by_tests (is_anon page.content) (mappers tables p == 0) (not (in_transfer_at page.residence)) (some_no_zero (mappers tables p) le)
  where
    by_tests : (a b c : Bool) → b ≡ false → cond (a && (b && c)) None (Some page) ≡ Some page
    by_tests true true c e = cc
    by_tests true false c e = refl
    by_tests false b c e = refl

-- one in no transfer is there or gone as after a transfer
pub still-rests : (tables : PageTables) (p : ℕ) (page : Page) → in_transfer_at page.residence ≡ false → still tables p (Some page) ≡ or_gone tables p page
still-rests tables p page rests = ap (λ b. cond (is_anon page.content && ((mappers tables p == 0) && not b)) None (Some page)) rests ∙ by_test (is_anon page.content) (mappers tables p == 0)
  where
    by_test : (a b : Bool) → cond (a && (b && true)) None (Some page) ≡ cond (a && b) None (Some page)
    by_test true true = refl
    by_test true false = refl
    by_test false b = refl

-- with fewer mappers, what goes at once goes in two steps
pub still-still : (tables tables' : PageTables) (p : ℕ) (slot : Option Page) → mappers tables' p ≤ mappers tables p → still tables' p (still tables p slot) ≡ still tables' p slot
still-still tables tables' p None less = refl
still-still tables tables' p (Some page) less = by_tests (is_anon page.content) (mappers tables p == 0) (not (in_transfer_at page.residence)) refl refl refl
  where
    none_left : (m n : ℕ) → n ≤ m → (m == 0) ≡ true → (n == 0) ≡ true
    none_left m n le e = (let zero_m = eqb-true m 0 e in let zero_n : n ≡ 0 = omega (arith, le, zero_m) in eq-eqb n 0 zero_n)

    by_tests : (a b c : Bool) → is_anon page.content ≡ a → (mappers tables p == 0) ≡ b → not (in_transfer_at page.residence) ≡ c
        → still tables' p (cond (a && (b && c)) None (Some page)) ≡ still tables' p (Some page)
    by_tests true true true anon none rests =
        sym (ap (λ x. cond (x && ((mappers tables' p == 0) && not (in_transfer_at page.residence))) None (Some page)) anon
        ∙ ap (λ x. cond (x && not (in_transfer_at page.residence)) None (Some page)) (none_left (mappers tables p) (mappers tables' p) less none) ∙ ap (λ x. cond x None (Some page)) rests)
    by_tests true true false anon none rests = refl
    by_tests true false c anon none rests = refl
    by_tests false b c anon none rests = refl

-- what is left was there
pub still-less : (tables : PageTables) (p : ℕ) (test : Page → Bool) (slot : Option Page) → there_and test (still tables p slot) ≡ true → there_and test slot ≡ true
still-less tables p test None e = e
still-less tables p test (Some page) e = by_test (is_anon page.content && ((mappers tables p == 0) && not (in_transfer_at page.residence))) e
  where
    by_test : (b : Bool) → there_and test (cond b None (Some page)) ≡ true → test page ≡ true
    by_test true e = cc
    by_test false e = e

-- and no page comes into transfer or out of it
pub still-moving : (tables : PageTables) (p : ℕ) (slot : Option Page) → there_and is_in_transfer (still tables p slot) ≡ there_and is_in_transfer slot
still-moving tables p None = refl
still-moving tables p (Some page) = by_tests (is_anon page.content) (mappers tables p == 0) (in_transfer_at page.residence) refl
  where
    by_tests : (a b c : Bool) → in_transfer_at page.residence ≡ c → there_and is_in_transfer (cond (a && (b && not c)) None (Some page)) ≡ in_transfer_at page.residence
    by_tests true true true e = refl
    by_tests true true false e = sym e
    by_tests true false c e = refl
    by_tests false b c e = refl

-- ---- what may stand at a number

-- a page of a file is there
abbrev pub is_cached : Option Page → Bool
is_cached slot = there_and (λ page. not (is_anon page.content)) slot

not_true : (b : Bool) → not b ≡ true → b ≡ false
not_true true e = cc
not_true false e = refl

-- a page that is there counts for one mapper at most
settled_one : (slot : Option Page) → is_settled slot ≤ 1
settled_one None = omega arith
settled_one (Some page) = elim (is_anon page.content && not (is_in_transfer page)) as (λ b. cond b 1 0 ≤ 1) [ true ↦ omega arith | false ↦ omega arith ]

-- one in transfer for none, and one of a file
settled_moving : (page : Page) → is_in_transfer page ≡ true → is_settled (Some page) ≡ 0
settled_moving page moves = ap (λ b. cond (is_anon page.content && not b) 1 0) moves ∙ ap (λ b. cond b 1 0) (and_right (is_anon page.content) false refl)

settled_file : (page : Page) → is_anon page.content ≡ false → is_settled (Some page) ≡ 0
settled_file page file = ap (λ b. cond (b && not (is_in_transfer page)) 1 0) file

-- this may stand at a number that has so many mappers
pub record FitsAt (tables : PageTables) (p : ℕ) (slot : Option Page) : Type 0 where
  pub none : slot ≡ None → mappers tables p ≡ 0
  pub least : is_settled slot ≤ mappers tables p
  pub cached : is_cached slot ≡ true → mappers tables p ≡ 0

some_of_none : (n : ℕ) → (n == 0) ≡ false → 1 ≤ n
some_of_none n e = grind (arith, nat_tests, e)

-- what is left of a page with these page tables
pub still-fits : (tables : PageTables) (p : ℕ) (slot : Option Page) → (slot ≡ None → mappers tables p ≡ 0) → (is_cached slot ≡ true → mappers tables p ≡ 0) → FitsAt tables p (still tables p slot)
still-fits tables p None none cached = record { none = none; least = omega arith; cached = cached }
still-fits tables p (Some page) none cached = by_tests (is_anon page.content) (mappers tables p == 0) (in_transfer_at page.residence) refl refl refl
  where
    by_tests : (a b c : Bool) → is_anon page.content ≡ a → (mappers tables p == 0) ≡ b → in_transfer_at page.residence ≡ c → FitsAt tables p (cond (a && (b && not c)) None (Some page))
    by_tests true true false anon zero rests = let unmapped = eqb-true (mappers tables p) 0 zero in record { none = λ e. unmapped; least = omega arith; cached = λ e. unmapped }
    by_tests true true true anon zero moves =
        let unmapped = eqb-true (mappers tables p) 0 zero in let settled = settled_moving page moves in record { none = λ e. unmapped; least = omega (arith, settled); cached = λ e. unmapped }
    by_tests true false c anon zero rests =
        let one = settled_one (Some page) in let some = some_of_none (mappers tables p) zero in record { none = λ e. absurd cc; least = omega (arith, one, some); cached = cached }
    by_tests false b c file zero rests = let settled = settled_file page file in record { none = λ e. absurd cc; least = omega (arith, settled); cached = cached }

-- what a page comes to at a transfer's end is what is left of it as it was settled
pub still-after : (end : End) (tables : PageTables) (p : ℕ) (label : Label) (from : Residence) (f b : ℕ) → still tables p (page_after end label f b) ≡ ended_as end tables p (labelled label from) f b
still-after InFrame tables p label from f b = still-rests tables p (labelled label (Held f)) refl
still-after OnBlock tables p label from f b = by_content label.content
  where
    by_content : (content : Content) → still tables p (on_block_as content label b) ≡ on_block_of content tables p (labelled label from) b
    by_content Memory = still-rests tables p (labelled label (Away b)) refl
    by_content (OfFile file q) = refl

-- a page of a file that is settled was one before
after-cached : (end : End) (label : Label) (from : Residence) (f b : ℕ) → is_cached (page_after end label f b) ≡ true → is_cached (Some (labelled label from)) ≡ true
after-cached InFrame label from f b e = e
after-cached OnBlock label from f b e = by_content label.content e
  where
    by_content : (content : Content) → is_cached (on_block_as content label b) ≡ true → not (is_anon label.content) ≡ true
    by_content Memory e = e
    by_content (OfFile file q) e = absurd cc

-- and so was one that is gone
after-none : (end : End) (label : Label) (from : Residence) (f b : ℕ) → page_after end label f b ≡ None → is_cached (Some (labelled label from)) ≡ true
after-none InFrame label from f b e = absurd cc
after-none OnBlock label from f b e = by_content label.content refl e
  where
    by_content : (content : Content) → label.content ≡ content → on_block_as content label b ≡ None → not (is_anon label.content) ≡ true
    by_content Memory is e = absurd cc
    by_content (OfFile file q) is e = ap (λ (c : Content). not (is_anon c)) is

-- ---- how they agree

-- a page of a file is mapped nowhere, said of what stands at a number
files_of : (tables : PageTables) (p : ℕ) (slot : Option Page) → (is_cached slot ≡ true → mappers tables p ≡ 0) → IfSome slot (λ page. is_anon page.content ≡ false → mappers tables p ≡ 0)
files_of tables p None cached = tt
files_of tables p (Some page) cached = λ file. cached (ap not file)

pub files_in : (tables : PageTables) (p : ℕ) (slot : Option Page) → IfSome slot (λ page. is_anon page.content ≡ false → mappers tables p ≡ 0) → is_cached slot ≡ true → mappers tables p ≡ 0
files_in tables p None files e = absurd cc
files_in tables p (Some page) files e = files (not_true (is_anon page.content) e)

pub mapped-fits : (pages : Pages) (tables : PageTables) → ((p : ℕ) → FitsAt tables p (page_at pages p)) → AreMapped pages tables
mapped-fits pages tables fits = record { there = λ p. (fits p).none; least = λ p. (fits p).least; files = λ p. files_of tables p (page_at pages p) (fits p).cached }

pub fits-mapped : (pages : Pages) (tables : PageTables) → AreMapped pages tables → (p : ℕ) → FitsAt tables p (page_at pages p)
fits-mapped pages tables mapped p = record { none = mapped.there p; least = mapped.least p; cached = files_in tables p (page_at pages p) (mapped.files p) }

pub mapped-open : (pages : Pages) (tables : PageTables) → pages ≡ [] → tables ≡ [] → AreMapped pages tables
mapped-open pages tables no_pages no_tables = rw (no_pages, no_tables) (record { there = λ p e. refl; least = λ p. omega arith; files = λ p. tt })

module _ (pages : Pages) (tables : PageTables) (mapped : AreMapped pages tables) where
  -- what something maps is there
  pub mappers_there : (p : ℕ) → 1 ≤ mappers tables p → IsSome (page_at pages p)
  mappers_there p some = by_slot (page_at pages p) refl
    where
      by_slot : (slot : Option Page) → page_at pages p ≡ slot → IsSome slot
      by_slot None e = absurd (let none = mapped.there p e in omega (arith, none, some))
      by_slot (Some page) e = refl

  pub mapped_there : (t v p : ℕ) → mapped_at tables t v ≡ Some p → IsSome (page_at pages p)
  mapped_there t v p e = mappers_there p (mapped_at-mappers tables t v p e)

  -- a page of a file is mapped nowhere
  pub file_unmapped : (p : ℕ) → is_cached (page_at pages p) ≡ true → mappers tables p ≡ 0
  file_unmapped p = files_in tables p (page_at pages p) (mapped.files p)

  -- memory more, at a place that showed nothing, or a page that others show too
  pub mapped-made : (pages' : Pages) (tables' : PageTables) (t v p : ℕ) (page : Page) → is_anon page.content ≡ true → page_at pages p ≡ None → Changes pages pages' p (Some page)
      → ((q : ℕ) → mapped_at tables t v ≡ Some q → 1 < mappers tables q) → Shows tables tables' t v (Some p) → AreMapped pages' tables'
  mapped-made pages' tables' t v p page memory free changes shared shows = mapped-fits pages' tables' (λ q. elim (eq_cases q p) [ inl same ↦ here q same | inr other ↦ elsewhere q other ])
    where
      counts : (q : ℕ) → mappers tables' q + shown_once (mapped_at tables t v) q ≡ mappers tables q + one_if (p == q)
      counts q = mappers-shows tables tables' t v q (Some p) shows

      -- what the place showed is shown elsewhere too
      was : (q : ℕ) → (shown_once (mapped_at tables t v) q ≡ 0) ⊎ ((shown_once (mapped_at tables t v) q ≡ 1) × (1 < mappers tables q))
      was q = by_shown (mapped_at tables t v) refl
        where
          by_test : (x : ℕ) (b : Bool) → (x == q) ≡ b → mapped_at tables t v ≡ Some x → (one_if b ≡ 0) ⊎ ((one_if b ≡ 1) × (1 < mappers tables q))
          by_test x true is shown = inr (refl, shared q (shown ∙ ap (λ (n : ℕ). Some n) (eqb-true x q is)))
          by_test x false is shown = inl refl

          by_shown : (shown : Option ℕ) → mapped_at tables t v ≡ shown → (shown_once shown q ≡ 0) ⊎ ((shown_once shown q ≡ 1) × (1 < mappers tables q))
          by_shown None e = inl refl
          by_shown (Some x) e = by_test x (x == q) refl e

      at_p : (q : ℕ) → q ≡ p → mappers tables' q ≡ 1
      at_p q same =
          let more = counts q in
          let hit : one_if (p == q) ≡ 1 = ap one_if (eq-eqb p q (sym same)) in
          let none = mapped.there q (ap (page_at pages) same ∙ free) in
          elim (was q) [ inl miss ↦ omega (arith, more, hit, none, miss) | inr two ↦ absurd (let many = two.1 in omega (arith, none, many)) ]

      is_now : (q : ℕ) → q ≡ p → page_at pages' q ≡ Some page
      is_now q same = ap (page_at pages') same ∙ changes.changed

      here : (q : ℕ) → q ≡ p → FitsAt tables' q (page_at pages' q)
      here q same =
          record {
            none = λ e. absurd (let wrong : Some page ≡ None = sym (is_now q same) ∙ e in cc);
            least = (let one = at_p q same in let now = settled_one (page_at pages' q) in omega (arith, one, now));
            cached = λ e. absurd (let wrong : false ≡ true = sym (ap not memory) ∙ sym (ap is_cached (is_now q same)) ∙ e in cc);
          }

      -- what nothing maps is no more mapped than it was
      unmapped : (q : ℕ) → q ≢ p → mappers tables q ≡ 0 → mappers tables' q ≡ 0
      unmapped q other none = let more = counts q in let miss : one_if (p == q) ≡ 0 = ap one_if (ne_eqb p q (λ e. other (sym e))) in omega (arith, more, miss, none)

      elsewhere : (q : ℕ) → q ≢ p → FitsAt tables' q (page_at pages' q)
      elsewhere q other =
          record {
            none = λ e. unmapped q other (mapped.there q (sym (changes.others q other) ∙ e));
            least = (let more = counts q in
                let miss : one_if (p == q) ≡ 0 = ap one_if (ne_eqb p q (λ e. other (sym e))) in
                let before = mapped.least q in
                let now = settled_one (page_at pages' q) in
                let slot = ap is_settled (changes.others q other) in
                elim (was q) [ inl none ↦ omega (arith, more, miss, before, slot, none) | inr two ↦ (let hit = two.0 in let many = two.1 in omega (arith, more, miss, now, hit, many)) ]);
            cached = λ e. unmapped q other (file_unmapped q (sym (ap is_cached (changes.others q other)) ∙ e));
          }

  -- a task more, that shows what another shows
  pub mapped-copied : (tasks : Tasks) (tables' : PageTables) (parent child : ℕ) → ((t v p : ℕ) → mapped_at tables t v ≡ Some p → lives tasks t ≡ true) → task_at tasks child ≡ None → Copies tables tables' parent child
      → AreMapped pages tables'
  mapped-copied tasks tables' parent child owners unused copies =
      mapped-fits pages tables' (λ p. record { none = λ e. unmapped p (mapped.there p e); least = least p; cached = λ e. unmapped p (file_unmapped p e) })
    where
      -- whoever shows a page from now on shows what was shown
      was_shown : (p : ℕ) → Mapper tables' p → 1 ≤ mappers tables p
      was_shown p by =
          elim (copies-cases tables tables' parent child copies by.task by.place) [
            | inl new ↦ mapped_at-mappers tables parent by.place p (sym new.1 ∙ by.mapped)
            | inr old ↦ mapped_at-mappers tables by.task by.place p (sym old.1 ∙ by.mapped)
          ]

      -- whoever showed a page is no new task, and shows it still
      still_shown : (p : ℕ) → Mapper tables p → 1 ≤ mappers tables' p
      still_shown p by = mapped_at-mappers tables' by.task by.place p (copies.others by.task by.place another ∙ by.mapped)
        where
          another : by.task ≢ child
          another same = unlike (lives tasks by.task) (owners by.task by.place p by.mapped) (ap (lives tasks) same ∙ ap (there_and is_live_task) unused)

      unmapped : (p : ℕ) → mappers tables p ≡ 0 → mappers tables' p ≡ 0
      unmapped p none = by_test (mappers tables' p == 0) refl
        where
          by_test : (b : Bool) → (mappers tables' p == 0) ≡ b → mappers tables' p ≡ 0
          by_test true is = eqb-true (mappers tables' p) 0 is
          by_test false is =
              absurd
              (let some : 1 ≤ mappers tables' p = some_of_none (mappers tables' p) is in
              let before = was_shown p (mappers_some tables' p some) in
              omega (arith, before, none))

      least : (p : ℕ) → is_settled (page_at pages p) ≤ mappers tables' p
      least p = by_test (mappers tables p == 0) refl
        where
          by_test : (b : Bool) → (mappers tables p == 0) ≡ b → is_settled (page_at pages p) ≤ mappers tables' p
          by_test true is = let before = mapped.least p in let none = eqb-true (mappers tables p) 0 is in omega (arith, before, none)
          by_test false is =
              let some : 1 ≤ mappers tables p = some_of_none (mappers tables p) is in
              let after = still_shown p (mappers_some tables p some) in
              let one = settled_one (page_at pages p) in
              omega (arith, after, one)

  -- something else at one number, with the page tables that were
  pub mapped-changed : (pages' : Pages) (p : ℕ) (to : Option Page) → Changes pages pages' p to → FitsAt tables p to → AreMapped pages' tables
  mapped-changed pages' p to changes fits =
      mapped-fits pages' tables
      (λ q.
      elim (eq_cases q p) [
        | inl same ↦ subst (λ (x : ℕ). FitsAt tables x (page_at pages' x)) (sym same) (subst (λ (slot : Option Page). FitsAt tables p slot) (sym changes.changed) fits)
        | inr other ↦ subst (λ (slot : Option Page). FitsAt tables q slot) (sym (changes.others q other)) (fits-mapped pages tables mapped q)
      ])

  -- a page that is in transfer from now on, and holds what it held
  pub mapped-begun : (pages' : Pages) (p : ℕ) (page page' : Page) → page_at pages p ≡ Some page → Changes pages pages' p (Some page') → is_in_transfer page' ≡ true → page'.content ≡ page.content → AreMapped pages' tables
  mapped-begun pages' p page page' is changes moves same =
      mapped-changed pages' p (Some page') changes
      (let settled = settled_moving page' moves in
      record {
        none = λ e. absurd cc;
        least = omega (arith, settled);
        cached = λ e. file_unmapped p (ap is_cached is ∙ sym (ap (λ (content : Content). not (is_anon content)) same) ∙ e);
      })

  -- a page in transfer at a number that was free
  pub mapped-new : (pages' : Pages) (p : ℕ) (page : Page) → page_at pages p ≡ None → Changes pages pages' p (Some page) → is_in_transfer page ≡ true → AreMapped pages' tables
  mapped-new pages' p page free changes moves =
      mapped-changed pages' p (Some page) changes (let settled = settled_moving page moves in record { none = λ e. mapped.there p free; least = omega (arith, settled); cached = λ e. mapped.there p free })

  -- a page of a file that is gone
  pub mapped-gone : (pages' : Pages) (p : ℕ) → is_cached (page_at pages p) ≡ true → Changes pages pages' p None → AreMapped pages' tables
  mapped-gone pages' p file changes =
      mapped-changed pages' p None changes (record { none = λ e. file_unmapped p file; least = omega arith; cached = λ e. file_unmapped p file })

  -- a page that holds what it held, where it was
  pub mapped-touched : (pages' : Pages) (p : ℕ) (page page' : Page) → page_at pages p ≡ Some page → Changes pages pages' p (Some page') → page'.content ≡ page.content → page'.residence ≡ page.residence → AreMapped pages' tables
  mapped-touched pages' p page page' is changes same stays =
      mapped-changed pages' p (Some page') changes
      (let before = mapped.least p in
      let settled : is_settled (Some page') ≡ is_settled (page_at pages p) = ap (λ (c : Content). cond (is_anon c && not (is_in_transfer page')) 1 0) same
      ∙ ap (λ (r : Residence). cond (is_anon page.content && not (in_transfer_at r)) 1 0) stays ∙ sym (ap is_settled is) in
      record {
        none = λ e. absurd cc;
        least = omega (arith, before, settled);
        cached = λ e. file_unmapped p (ap is_cached is ∙ sym (ap (λ (content : Content). not (is_anon content)) same) ∙ e);
      })

  -- one whose transfer ends: memory is gone where nothing maps it, and a page of a file where it is on its block
  pub mapped-ended : (pages' : Pages) (p : ℕ) (label : Label) (from : Residence) (end : End) (f b : ℕ) → page_at pages p ≡ Some (labelled label from) → Changes pages pages' p (ended_as end tables p (labelled label from) f b)
      → AreMapped pages' tables
  mapped-ended pages' p label from end f b is changes =
      mapped-changed pages' p (ended_as end tables p (labelled label from) f b) changes
      (subst (λ (slot : Option Page). FitsAt tables p slot) (still-after end tables p label from f b)
      (still-fits tables p (page_after end label f b) (λ e. unmapped (after-none end label from f b e)) (λ e. unmapped (after-cached end label from f b e))))
    where
      unmapped : is_cached (Some (labelled label from)) ≡ true → mappers tables p ≡ 0
      unmapped file = file_unmapped p (ap is_cached is ∙ file)

  -- memory that nothing maps any more is gone, but for that in transfer
  pub mapped-dropped : (pages' : Pages) (tables' : PageTables) → ((p : ℕ) → mappers tables' p ≤ mappers tables p) → ((p : ℕ) → page_at pages' p ≡ still tables' p (page_at pages p)) → AreMapped pages' tables'
  mapped-dropped pages' tables' less drops =
      mapped-fits pages' tables'
      (λ p.
      subst (λ (slot : Option Page). FitsAt tables' p slot) (sym (drops p)) (still-fits tables' p (page_at pages p) (λ e. unmapped p (mapped.there p e)) (λ e. unmapped p (file_unmapped p e))))
    where
      unmapped : (p : ℕ) → mappers tables p ≡ 0 → mappers tables' p ≡ 0
      unmapped p none = let fewer = less p in omega (arith, none, fewer)

-- places that show what they showed
pub mapped-alike : (pages : Pages) (tables tables' : PageTables) → AreMapped pages tables → ((t v : ℕ) → mapped_at tables' t v ≡ mapped_at tables t v) → AreMapped pages tables'
mapped-alike pages tables tables' mapped same =
    mapped-fits pages tables'
    (λ p.
    let alike = mappers-alike tables tables' p same in
    let least = mapped.least p in
    record { none = λ e. alike ∙ mapped.there p e; least = omega (arith, alike, least); cached = λ e. alike ∙ file_unmapped pages tables mapped p e })

-- a page that was settled, and then let go where nothing maps it
pub settled-then : (pages mid pages' : Pages) (tables : PageTables) (p : ℕ) (label : Label) (from : Residence) (end : End) (f b : ℕ) → Changes pages mid p (page_after end label f b)
    → Changes mid pages' p (still tables p (page_at mid p)) → Changes pages pages' p (ended_as end tables p (labelled label from) f b)
settled-then pages mid pages' tables p label from end f b settles goes =
    record {
      changed = goes.changed ∙ ap (still tables p) settles.changed ∙ still-after end tables p label from f b;
      others = λ q other. goes.others q other ∙ settles.others q other;
    }

-- ---- the groups of tasks

pub homes-open : (tree : List Node) (tasks : Tasks) → tasks ≡ [] → (t : ℕ) → lives tasks t ≡ true → is_live tree (group_of_task tasks t) ≡ true
homes-open tree tasks none t alive = absurd (let dead : lives tasks t ≡ false = ap (λ (ts : Tasks). lives ts t) none in cc)

-- the home of a task that begins is there
pub homes-started : (tree : List Node) (old new : Tasks) (t g : ℕ) → is_live tree g ≡ true → SetsTask old t g Live new → ((u : ℕ) → lives old u ≡ true → is_live tree (group_of_task old u) ≡ true)
    → (u : ℕ) → lives new u ≡ true → is_live tree (group_of_task new u) ≡ true
homes-started tree old new t g live sets homes u alive =
    elim (eq_cases u t) [
      | inl same ↦ ap (λ (x : ℕ). is_live tree (group_of_task new x)) same ∙ ap (λ (slot : Option Task). is_live tree (group_of slot)) sets.changed ∙ live
      | inr other ↦ ap (λ (slot : Option Task). is_live tree (group_of slot)) (sets.others u other) ∙ homes u (sym (ap (there_and is_live_task) (sets.others u other)) ∙ alive)
    ]

-- homes of live tasks that are still there
pub homes-ended : (tree : List Node) (old new : Tasks) (t g : ℕ) (ended : Life) → is_live_life ended ≡ false → SetsTask old t g ended new → ((u : ℕ) → lives old u ≡ true → is_live tree (group_of_task old u) ≡ true)
    → (u : ℕ) → lives new u ≡ true → is_live tree (group_of_task new u) ≡ true
homes-ended tree old new t g ended dead sets homes u alive =
    elim (eq_cases u t) [
      | inl same ↦ absurd (unlike (lives new u) alive (ap (λ (x : ℕ). lives new x) same ∙ ap (there_and is_live_task) sets.changed ∙ dead))
      | inr other ↦ ap (λ (slot : Option Task). is_live tree (group_of slot)) (sets.others u other) ∙ homes u (sym (ap (there_and is_live_task) (sets.others u other)) ∙ alive)
    ]
