-- In every legal history no two pages share a frame, a block or a ticket or hold one page of a file, each page is on a block that there is, a file's on its home, and the groups of pages and
-- of live tasks are there.
use Rattle.std.proofs.Common.{◌+◌, ◌<◌, ◌≡◌, ◌≢◌, inl, inr, ℕ, zero, suc, ◌≤◌, ◌==◌, ◌&&◌, not, Bool, true, false, cond, List, [], ◌∷◌, ◌++◌, length, Option, Some, None, eqb-true, eq-eqb, refl, sym, ap, ◌∙◌, subst, arith, length-append}
use Rattle.std.specs.Prelude.{◌⊎◌, ◌||◌, IfSome, slice_index, sum}
use Rattle.std.proofs.lemmas.Bool.{cases_Bool, cases_lt, and_parts}
use Rattle.std.proofs.lemmas.Bool.Decides.{nat_tests}
use Rattle.std.proofs.lemmas.List.{get_or_append_left}
use Rattle.std.proofs.Math.Seq.{get_or-append_seam}
use Rattle.std.specs.Str.{bytes_eq}
use Rattle.std.proofs.lemmas.List.Quantifiers.{position-Some}
use Rattle.std.proofs.Math.ListN.{get_or-eq_default}
use Rattle.machine.specs.declared.entry.Entry.{Entry}
use Rattle.machine.specs.declared.record.Life.{Life}
use Rattle.machine.specs.declared.record.Life.TheVariants.{Live}
use Rattle.machine.specs.declared.record.Task.{Task}
use Rattle.machine.specs.declared.event.Event.{Event}
use Rattle.machine.specs.declared.refusal.Refusal.TheVariants.{Busy, NoEntry}
use Rattle.machine.specs.declared.reply.Reply.{Reply}
use Rattle.machine.specs.Names.{parent_path}
use Rattle.machine.specs.Slots.{at, Changes, there_and, count_there, any_there}
use Rattle.machine.specs.Tree.{Node, no_node, root, node_at, is_live, is_parent, is_child, has_children, is_at_path, find_group, IsBelow, IsTree, without_group}
use Rattle.machine.specs.Pages.{Content, Memory, OfFile, is_page_of, file_page, home_block, IsAtHome, IsFiledAs, IsFiled, is_anon, in_transfer_at, Residence, Held, Coming, Going, Away, Page, Pages, page_at, frame_at, block_at, ticket_at, is_number, has_this_frame, is_frame_taken, is_swap_taken, is_ticket_taken}
use Rattle.machine.specs.declared.record.EventCounts.{EventCounts}
use Rattle.machine.specs.Tasks.{has_tasks, Tasks, task_at, is_live_life, is_live_task, lives, group_of, group_of_task, SetsTask, PageTables, mappers}
use Rattle.machine.specs.State.{Opening, State, first_state}
use Rattle.machine.specs.declared.refusal.Refusal.{Refusal}
use Rattle.machine.specs.Refusals.{group_refusal, rmdir_refusal, refusal, first_cause}
use Rattle.machine.specs.Step.{IsFreeBlock, still, EndsTasks, new_page, heir, regrouped, Removes}
use Rattle.machine.specs.Legal.{Legal}
use Rattle.machine.proofs.Values.{some_inj, never_some, unlike}
use Rattle.machine.proofs.TreeLemmas.{eq_cases, lt_cases, IsTree-push}
use Rattle.machine.proofs.RemovedLemmas.{no_child, without-parent, without-dead, without-other, without-falls}
use Rattle.page_lists.proofs.RegroupedLemmas.{elsewhere, heir-live, regrouped-test, regrouped-some}
use Rattle.machine.proofs.TestLemmas.{count-less, count-two, none_has}
use Rattle.machine.proofs.SlotLemmas.{one_if, count_there-none, count_there-changes}
use Rattle.machine.proofs.FileLemmas.{holds_page, is_page_of-true, IsSingle, single_fewer, single_changes, home_above, home_below, homes_differ}
use Rattle.legal.proofs.FileSteps.{AreFiled}
use Rattle.legal.proofs.Did.{GoesTo, ChargedTo, ItsOwn, ItsReaders, read_page, Moves, Rests, Comes, Goes, Lands, Lies, Did, Kept, Made, Moved, Cached, Dropped, Ended, Spawned, Forked, Freed, Attached, Removed, Grown, step_did}

-- ---- what is sound

abbrev pub has_this_block : ℕ → Page → Bool
has_this_block b page = is_anon page.content && is_number (block_at page.residence) b

abbrev pub has_this_ticket : ℕ → Page → Bool
has_this_ticket n page = is_number (ticket_at page.residence) n

-- one page at most passes the test of each number
abbrev pub Once : (ℕ → Page → Bool) → Pages → Type 0
Once test pages = (k : ℕ) → count_there (test k) pages ≤ 1

-- memory of tasks on a swap block that is there, or a page of a file at home; charged to a group that is there
pub record IsFit (swap : ℕ) (files : List ℕ) (tree : List Node) (page : Page) : Type 0 where
  pub filed : IsFiled swap files page
  pub live : is_live tree page.group ≡ true
  pub within : (b : ℕ) → is_anon page.content ≡ true → block_at page.residence ≡ Some b → b < swap

-- each frame, swap block and ticket is one page's at most, and so is each page of a file, each page is fit, and the groups of live tasks are there
pub record IsSound (swap : ℕ) (files : List ℕ) (pages : Pages) (tasks : Tasks) (tree : List Node) : Type 0 where
  pub frames : Once has_this_frame pages
  pub blocks : Once has_this_block pages
  pub tickets : Once has_this_ticket pages
  pub single : IsSingle pages
  pub fits : (p : ℕ) → IfSome (page_at pages p) (IsFit swap files tree)
  pub homes : (t : ℕ) → lives tasks t ≡ true → is_live tree (group_of_task tasks t) ≡ true
  pub above : (g p : ℕ) → is_live tree g ≡ true → (node_at tree g).parent ≡ Some p → is_live tree p ≡ true
  pub falls : IsTree tree
  pub rooted : is_live tree 0 ≡ true

-- a state of that opening
abbrev pub sound_in : Opening → State → Type 0
sound_in opening s = (s.opening ≡ opening) × IsSound opening.swap opening.files s.pages s.tasks s.tree

-- ---- tests of which each number has one page at most

-- what comes to stand there passes the test of no number, but of those that it passed, or that nobody had
abbrev Keeps : (ℕ → Page → Bool) → Pages → ℕ → Option Page → Type 0
Keeps test pages p to = (k : ℕ) → there_and (test k) to ≡ true → (there_and (test k) (at pages p) ≡ true) ⊎ (any_there (test k) pages ≡ false)

once-changed : (test : ℕ → Page → Bool) (pages pages' : Pages) (p : ℕ) (to : Option Page) → Once test pages → Changes pages pages' p to → Keeps test pages p to → Once test pages'
once-changed test pages pages' p to once changes keeps k = by_test (there_and (test k) to) refl
  where
    both : count_there (test k) pages' + one_if (there_and (test k) (at pages p)) ≡ count_there (test k) pages + one_if (there_and (test k) to)
    both = count_there-changes (test k) pages pages' p to changes

    by_test : (b : Bool) → there_and (test k) to ≡ b → count_there (test k) pages' ≤ 1
    by_test false is = let none : one_if (there_and (test k) to) ≡ 0 = ap one_if is in let before = once k in omega (arith, both, none, before)
    by_test true is =
        let one : one_if (there_and (test k) to) ≡ 1 = ap one_if is in
        elim (keeps k is) [
          | inl stood ↦ (let stood_one : one_if (there_and (test k) (at pages p)) ≡ 1 = ap one_if stood in let before = once k in omega (arith, both, one, stood_one, before))
          | inr free ↦ (let none = count_there-none (test k) pages (none_has (test k) pages free) in omega (arith, both, one, none))
        ]

once-fewer : (test : ℕ → Page → Bool) (pages pages' : Pages) → Once test pages → ((k n : ℕ) → there_and (test k) (at pages' n) ≡ true → there_and (test k) (at pages n) ≡ true) → Once test pages'
once-fewer test pages pages' once fewer k = let less = count-less (test k) pages pages' (fewer k) in let before = once k in omega (arith, less, before)

once-same : (test : ℕ → Page → Bool) (pages : Pages) (p q k : ℕ) → Once test pages → there_and (test k) (at pages p) ≡ true → there_and (test k) (at pages q) ≡ true → p ≡ q
once-same test pages p q k once first second =
    elim (eq_cases p q) [
      | inl same ↦ same
      | inr differs ↦ absurd (let two = count-two (test k) pages p q differs first second in let most = once k in omega (arith, two, most))
    ]

-- the number that a page has now is none, or what it was, or one that nobody had
abbrev Renumbers : Option ℕ → Option ℕ → (ℕ → Bool) → Type 0
Renumbers now was is_taken = (now ≡ None) ⊎ ((now ≡ was) ⊎ ((n : ℕ) × (now ≡ Some n) × (is_taken n ≡ false)))

-- no number passes but the page's own
keeps-number : (test : ℕ → Page → Bool) (pages : Pages) (p : ℕ) (page : Page) (now was : Option ℕ) → ((k : ℕ) → test k page ≡ true → is_number now k ≡ true)
    → ((k : ℕ) → now ≡ was → test k page ≡ true → there_and (test k) (at pages p) ≡ true) → Renumbers now was (λ n. any_there (test n) pages) → Keeps test pages p (Some page)
keeps-number test pages p page now was only same (inl none) k is = absurd (let e : is_number None k ≡ true = ap (λ o. is_number o k) (sym none) ∙ only k is in cc)
keeps-number test pages p page now was only same (inr (inl stood)) k is = inl (same k stood is)
keeps-number test pages p page now was only same (inr (inr free)) k is =
    let e : (free.0 == k) ≡ true = ap (λ o. is_number o k) (sym free.1) ∙ only k is in
    inr (ap (λ (n : ℕ). any_there (test n) pages) (sym (eqb-true free.0 k e)) ∙ free.2)

slot_is : (P : Page → Type 0) (slot slot' : Option Page) → slot ≡ slot' → IfSome slot' P → IfSome slot P
slot_is P slot slot' same h = subst (λ x. IfSome x P) (sym same) h

-- the file and the page of what a page holds
abbrev file_of : Content → ℕ
file_of Memory = 0
file_of (OfFile f q) = f

abbrev page_of : Content → ℕ
page_of Memory = 0
page_of (OfFile f q) = q

-- what stands where it stood, and is dirty where it was, is at home as it was
home_kept : (home : ℕ) (dirty dirty' : Bool) (r r' : Residence) → r' ≡ r → (dirty ≡ true → dirty' ≡ true) → IsAtHome home dirty r → IsAtHome home dirty' r'
home_kept home dirty dirty' r r' same still was = subst (IsAtHome home dirty') (sym same) (by_residence r was)
  where
    by_residence : (r : Residence) → IsAtHome home dirty r → IsAtHome home dirty' r
    by_residence (Held frame) h = tt
    by_residence (Coming frame block ticket) h = h
    by_residence (Going frame block ticket) h = (h.0, still h.1)
    by_residence (Away block) h = h

-- its block, if it has one, is its home
home_is : (home : ℕ) (dirty : Bool) (r : Residence) (b : ℕ) → IsAtHome home dirty r → block_at r ≡ Some b → b ≡ home
home_is home dirty (Held frame) b h on = cc
home_is home dirty (Coming frame block ticket) b h on = sym (some_inj on) ∙ h
home_is home dirty (Going frame block ticket) b h on = sym (some_inj on) ∙ h.0
home_is home dirty (Away block) b h on = absurd h

-- ---- one page changes

module _ (swap : ℕ) (files : List ℕ) (pages pages' : Pages) (tasks : Tasks) (tree : List Node) (p : ℕ) (sound : IsSound swap files pages tasks tree) where
  sound-changed : (to : Option Page) → Changes pages pages' p to → IfSome to (IsFit swap files tree) → Keeps has_this_frame pages p to → Keeps has_this_block pages p to → Keeps has_this_ticket pages p to
      → ((f q : ℕ) → holds_page f q to ≡ true → (holds_page f q (page_at pages p) ≡ true) ⊎ (file_page pages f q ≡ None)) → IsSound swap files pages' tasks tree
  sound-changed to changes fit frames blocks tickets holds =
      record {
        frames = once-changed has_this_frame pages pages' p to sound.frames changes frames;
        blocks = once-changed has_this_block pages pages' p to sound.blocks changes blocks;
        tickets = once-changed has_this_ticket pages pages' p to sound.tickets changes tickets;
        single = single_changes pages pages' p to changes holds sound.single;
        fits = λ q.
            elim (eq_cases q p) [
              | inl same ↦ slot_is (IsFit swap files tree) (page_at pages' q) to (ap (page_at pages') same ∙ changes.changed) fit
              | inr other ↦ slot_is (IsFit swap files tree) (page_at pages' q) (page_at pages q) (changes.others q other) (sound.fits q)
            ];
        homes = sound.homes;
        above = sound.above;
        falls = sound.falls;
        rooted = sound.rooted;
      }

  -- a page goes
  sound-gone : Changes pages pages' p None → IsSound swap files pages' tasks tree
  sound-gone changes = sound-changed None changes tt (λ k is. cc) (λ k is. cc) (λ k is. cc) (λ f q is. cc)

  -- a page comes into a frame that none had
  sound-placed : (g frame : ℕ) → is_live tree g ≡ true → is_frame_taken pages frame ≡ false → Changes pages pages' p (Some (new_page g frame)) → IsSound swap files pages' tasks tree
  sound-placed g frame live free changes =
      sound-changed (Some (new_page g frame)) changes (record { filed = refl; live = live; within = λ b memory e. cc })
      (keeps-number has_this_frame pages p (new_page g frame) (Some frame) None (λ k is. is) (λ k e is. cc) (inr (inr (frame, refl, free)))) (λ k is. cc) (λ k is. cc) (λ f q is. cc)

  -- a page of a file that none held is read in from its home
  sound-read : (g f q frame ticket : ℕ) → is_live tree g ≡ true → q < slice_index files f → file_page pages f q ≡ None → is_frame_taken pages frame ≡ false → is_ticket_taken pages ticket ≡ false
      → Changes pages pages' p (Some (read_page g f q (Coming frame (home_block swap files f q) ticket))) → IsSound swap files pages' tasks tree
  sound-read g f q frame ticket live within none free fresh changes =
      let page : Page = read_page g f q (Coming frame (home_block swap files f q) ticket) in
      sound-changed (Some page) changes (record { filed = (within, refl); live = live; within = λ b memory e. cc })
      (keeps-number has_this_frame pages p page (Some frame) None (λ k is. is) (λ k e is. cc) (inr (inr (frame, refl, free)))) (λ k is. cc)
      (keeps-number has_this_ticket pages p page (Some ticket) None (λ k is. is) (λ k e is. cc) (inr (inr (ticket, refl, fresh))))
      (λ f' q' is. inr (let same = is_page_of-true f' q' (OfFile f q) is in subst (λ (c : Content). file_page pages (file_of c) (page_of c) ≡ None) same none))

  fit_there : (page : Page) → page_at pages p ≡ Some page → IsFit swap files tree page
  fit_there page there = subst (λ slot. IfSome slot (IsFit swap files tree)) there (sound.fits p)

  -- a page comes to stand elsewhere
  sound-moved : (page : Page) (g : ℕ) (dirty : Bool) (r : Residence) → page_at pages p ≡ Some page → is_live tree g ≡ true
      → Changes pages pages' p (Some (record { content = page.content; group = g; dirty = dirty; residence = r })) → IsFiledAs swap files (record { content = page.content; group = g; dirty = dirty; residence = r }) page.content
      → ((b : ℕ) → is_anon page.content ≡ true → block_at r ≡ Some b → b < swap)
      → Renumbers (frame_at r) (frame_at page.residence) (is_frame_taken pages) → (is_anon page.content ≡ true → Renumbers (block_at r) (block_at page.residence) (is_swap_taken pages))
      → Renumbers (ticket_at r) (ticket_at page.residence) (is_ticket_taken pages) → IsSound swap files pages' tasks tree
  sound-moved page g dirty r there live changes filed within frames blocks tickets =
      let page' : Page = record { content = page.content; group = g; dirty = dirty; residence = r } in
      sound-changed (Some page') changes (record { filed = filed; live = live; within = within })
      (keeps-number has_this_frame pages p page' (frame_at r) (frame_at page.residence) (λ k is. is) (λ k e is. ap (there_and (has_this_frame k)) there ∙ (ap (λ o. is_number o k) (sym e) ∙ is)) frames)
      (λ k passes.
      keeps-number has_this_block pages p page' (block_at r) (block_at page.residence) (λ k is. (and_parts (is_anon page.content) (is_number (block_at r) k) is).1)
      (λ k e is. ap (there_and (has_this_block k)) there ∙ (ap (λ o. is_anon page.content && is_number o k) (sym e) ∙ is)) (blocks (and_parts (is_anon page.content) (is_number (block_at r) k) passes).0) k passes)
      (keeps-number has_this_ticket pages p page' (ticket_at r) (ticket_at page.residence) (λ k is. is) (λ k e is. ap (there_and (has_this_ticket k)) there ∙ (ap (λ o. is_number o k) (sym e) ∙ is)) tickets)
      (λ f q is. inl (ap (holds_page f q) there ∙ is))

-- ---- tasks and groups

pub still_passes : (tables : PageTables) (p : ℕ) (test : Page → Bool) (slot : Option Page) → there_and test (still tables p slot) ≡ true → there_and test slot ≡ true
still_passes tables p test None e = e
still_passes tables p test (Some page) e = by_test (is_anon page.content && ((mappers tables p == 0) && not (in_transfer_at page.residence))) e
  where
    by_test : (b : Bool) → there_and test (cond b None (Some page)) ≡ true → test page ≡ true
    by_test true h = cc
    by_test false h = h

still_some : (P : Page → Type 0) (tables : PageTables) (p : ℕ) (slot : Option Page) → IfSome slot P → IfSome (still tables p slot) P
still_some P tables p None h = h
still_some P tables p (Some page) h = by_test (is_anon page.content && ((mappers tables p == 0) && not (in_transfer_at page.residence)))
  where
    by_test : (b : Bool) → IfSome (cond b None (Some page)) P
    by_test true = tt
    by_test false = h

-- the pages that nothing maps any more go
sound-stilled : (swap : ℕ) (files : List ℕ) (tables : PageTables) (before after : Pages) (tasks : Tasks) (tree : List Node) → ((p : ℕ) → page_at after p ≡ still tables p (page_at before p)) → IsSound swap files before tasks tree
    → IsSound swap files after tasks tree
sound-stilled swap files tables before after tasks tree pages sound =
    record {
      frames = once-fewer has_this_frame before after sound.frames (λ k. passed (has_this_frame k));
      blocks = once-fewer has_this_block before after sound.blocks (λ k. passed (has_this_block k));
      tickets = once-fewer has_this_ticket before after sound.tickets (λ k. passed (has_this_ticket k));
      single = single_fewer before after (λ f q. passed (λ page. is_page_of f q page.content)) sound.single;
      fits = λ p. slot_is _ (page_at after p) _ (pages p) (still_some _ tables p (page_at before p) (sound.fits p));
      homes = sound.homes;
      above = sound.above;
      falls = sound.falls;
      rooted = sound.rooted;
    }
  where
    passed : (test : Page → Bool) (n : ℕ) → there_and test (at after n) ≡ true → there_and test (at before n) ≡ true
    passed test n e = still_passes tables n test (page_at before n) (sym (ap (there_and test) (pages n)) ∙ e)

-- each task is as it was, or is there, and if it lives its group is
sound-tasks : (swap : ℕ) (files : List ℕ) (pages : Pages) (tasks tasks' : Tasks) (tree : List Node)
    → ((u : ℕ) → (task_at tasks' u ≡ task_at tasks u) ⊎ ((task : Task) × (task_at tasks' u ≡ Some task) × (is_live_task task ≡ true → is_live tree task.group.0 ≡ true))) → IsSound swap files pages tasks tree
    → IsSound swap files pages tasks' tree
sound-tasks swap files pages tasks tasks' tree each sound =
    record {
      frames = sound.frames;
      blocks = sound.blocks;
      tickets = sound.tickets;
      single = sound.single;
      fits = sound.fits;
      homes = λ u alive.
          elim (each u) [
            | inl same ↦ ap (λ (slot : Option Task). is_live tree (group_of slot)) same ∙ sound.homes u (sym (ap (there_and is_live_task) same) ∙ alive)
            | inr here ↦ ap (λ (slot : Option Task). is_live tree (group_of slot)) here.1 ∙ here.2 (sym (ap (there_and is_live_task) here.1) ∙ alive)
          ];
      above = sound.above;
      falls = sound.falls;
      rooted = sound.rooted;
    }

-- the tasks of which a test holds end, and the pages that nothing maps any more go
sound-ended : (swap : ℕ) (files : List ℕ) (old new : State) (is_gone : ℕ → Bool) (ended : Life) (counted : List EventCounts) → is_live_life ended ≡ false → EndsTasks old is_gone ended counted new
    → IsSound swap files old.pages old.tasks old.tree → IsSound swap files new.pages new.tasks old.tree
sound-ended swap files old new is_gone ended counted dead ends sound =
    sound-tasks swap files new.pages old.tasks new.tasks old.tree
    (λ u.
    elim (cases_Bool (is_gone u)) [ inl gone ↦ inr (_, ends.ends u gone, λ lives_on. unlike (is_live_life ended) lives_on dead) | inr stays ↦ inl (ends.stays u stays) ])
    (sound-stilled swap files new.page_tables old.pages new.pages old.tasks old.tree ends.pages sound)

-- a task begins in a group that is there, or goes to it
sound-spawned : (swap : ℕ) (files : List ℕ) (pages : Pages) (tasks tasks' : Tasks) (tree : List Node) (t g : ℕ) → is_live tree g ≡ true → SetsTask tasks t g Live tasks' → IsSound swap files pages tasks tree → IsSound swap files pages tasks' tree
sound-spawned swap files pages tasks tasks' tree t g live sets sound =
    sound-tasks swap files pages tasks tasks' tree (λ u. elim (eq_cases u t) [ inl same ↦ inr (_, ap (task_at tasks') same ∙ sets.changed, λ alive. live) | inr other ↦ inl (sets.others u other) ]) sound

-- what a path finds is there
found_below : (tree : List Node) (path : List ℕ) → IsBelow (find_group tree path) (length tree)
found_below tree path = by_found (find_group tree path) refl
  where
    by_found : (found : Option ℕ) → find_group tree path ≡ found → IsBelow found (length tree)
    by_found None e = tt
    by_found (Some g) e = (position-Some (is_at_path path) tree g no_node e).0

-- a group more leaves the others there
pub live_push : (tree : List Node) (x : Node) (g : ℕ) → is_live tree g ≡ true → is_live (tree ++ x ∷ []) g ≡ true
live_push tree x g live =
    elim (cases_lt g (length tree)) [
      | inl lt ↦ ap (λ (n : Node). n.live) (get_or_append_left tree (x ∷ []) no_node g lt) ∙ live
      | inr beyond ↦ absurd (let none = ap (λ (n : Node). n.live) (get_or-eq_default tree no_node beyond) in cc)
    ]

some_push : (swap : ℕ) (files : List ℕ) (tree : List Node) (x : Node) (slot : Option Page) → IfSome slot (IsFit swap files tree) → IfSome slot (IsFit swap files (tree ++ x ∷ []))
some_push swap files tree x None h = h
some_push swap files tree x (Some page) h = record { filed = h.filed; live = live_push tree x page.group h.live; within = h.within }

-- and is live
found_live : (tree : List Node) (path : List ℕ) (g : ℕ) → find_group tree path ≡ Some g → is_live tree g ≡ true
found_live tree path g e = (and_parts (is_live tree g) (bytes_eq (node_at tree g).path path) (position-Some (is_at_path path) tree g no_node e).1).0

-- a group that is there stands in the list
pub live-below : (tree : List Node) (g : ℕ) → is_live tree g ≡ true → g < length tree
live-below tree g live =
    elim (cases_lt g (length tree)) [
      | inl below ↦ below
      | inr beyond ↦ absurd (let none = ap (λ (n : Node). n.live) (get_or-eq_default tree no_node beyond) in cc)
    ]

sound-grown : (swap : ℕ) (files : List ℕ) (pages : Pages) (tasks : Tasks) (tree : List Node) (x : Node) → IsBelow x.parent (length tree) → ((p : ℕ) → x.parent ≡ Some p → is_live tree p ≡ true) → IsSound swap files pages tasks tree
    → IsSound swap files pages tasks (tree ++ x ∷ [])
sound-grown swap files pages tasks tree x below parent sound =
    record {
      frames = sound.frames;
      blocks = sound.blocks;
      tickets = sound.tickets;
      single = sound.single;
      fits = λ p. some_push swap files tree x (page_at pages p) (sound.fits p);
      homes = λ t alive. live_push tree x (group_of_task tasks t) (sound.homes t alive);
      above = λ g p live hangs. live_push tree x p (by_place g p live hangs (lt_cases g (length tree)));
      falls = IsTree-push tree x sound.falls below;
      rooted = live_push tree x 0 sound.rooted;
    }
  where
    by_place : (g p : ℕ) → is_live (tree ++ x ∷ []) g ≡ true → (node_at (tree ++ x ∷ []) g).parent ≡ Some p → (g < length tree) ⊎ ((g ≡ length tree) ⊎ (length tree < g)) → is_live tree p ≡ true
    by_place g p live hangs (inl lt) =
        let same : node_at (tree ++ x ∷ []) g ≡ node_at tree g = get_or_append_left tree (x ∷ []) no_node g lt in
        sound.above g p (sym (ap (λ (n : Node). n.live) same) ∙ live) (sym (ap (λ (n : Node). n.parent) same) ∙ hangs)
    by_place g p live hangs (inr (inl same)) =
        let is : node_at (tree ++ x ∷ []) g ≡ x = ap (node_at (tree ++ x ∷ [])) same ∙ get_or-append_seam tree x [] _ in
        parent p (sym (ap (λ (n : Node). n.parent) is) ∙ hangs)
    by_place g p live hangs (inr (inr beyond)) =
        absurd
        (let below' = live-below (tree ++ x ∷ []) g live in
        let len = length-append tree (x ∷ []) in
        omega (arith, below', len, beyond))

-- a group goes that has neither children nor tasks
sound-removed : (swap : ℕ) (files : List ℕ) (old new : State) (g : ℕ) → is_live old.tree g ≡ true → has_children old.tree g ≡ false → has_tasks old.tasks g ≡ false → Removes old g new → IsSound swap files old.pages old.tasks old.tree
    → IsSound swap files new.pages old.tasks (without_group old.tree g)
sound-removed swap files old new g live childless taskless removes sound =
    record {
      frames = once-fewer has_this_frame old.pages new.pages sound.frames (λ k n. passed (has_this_frame k) (λ page. refl) n);
      blocks = once-fewer has_this_block old.pages new.pages sound.blocks (λ k n. passed (has_this_block k) (λ page. refl) n);
      tickets = once-fewer has_this_ticket old.pages new.pages sound.tickets (λ k n. passed (has_this_ticket k) (λ page. refl) n);
      single = single_fewer old.pages new.pages (λ f q n. passed (λ page. is_page_of f q page.content) (λ page. refl) n) sound.single;
      fits = λ p. slot_is _ (page_at new.pages p) _ (removes.pages p) (regrouped-some (IsFit swap files old.tree) (IsFit swap files (without_group old.tree g)) old.opening.placement g removes.parent fit (page_at old.pages p) (sound.fits p));
      homes = λ t alive. stays (group_of_task old.tasks t) (elsewhere old.tasks g t taskless alive) (sound.homes t alive);
      above = above;
      falls = without-falls old.tree g sound.falls;
      rooted = root_stays;
    }
  where
    passed : (test : Page → Bool) → ((page : Page) → test (regrouped old.opening.placement g removes.parent page) ≡ test page) → (n : ℕ) → there_and test (at new.pages n) ≡ true → there_and test (at old.pages n) ≡ true
    passed test same n e = sym (regrouped-test test old.opening.placement g removes.parent same (page_at old.pages n)) ∙ sym (ap (there_and test) (removes.pages n)) ∙ e

    stays : (h : ℕ) → h ≢ g → is_live old.tree h ≡ true → is_live (without_group old.tree g) h ≡ true
    stays h other alive = ap (λ (n : Node). n.live) (without-other old.tree g h other) ∙ alive

    parent_stays : is_live (without_group old.tree g) removes.parent ≡ true
    parent_stays = stays removes.parent (λ same. let less = sound.falls.falls g removes.parent removes.below in omega (arith, less, same)) (sound.above g removes.parent live removes.below)

    root_stays : is_live (without_group old.tree g) 0 ≡ true
    root_stays = stays 0 (λ same. let less = sound.falls.falls g removes.parent removes.below in omega (arith, less, same)) sound.rooted

    fit : (page : Page) → IsFit swap files old.tree page → IsFit swap files (without_group old.tree g) (regrouped old.opening.placement g removes.parent page)
    fit page is = record { filed = is.filed; live = by_group (page.group == g) refl; within = is.within }
      where
        by_group : (b : Bool) → (page.group == g) ≡ b → is_live (without_group old.tree g) (cond b (heir old.opening.placement removes.parent page.residence) page.group) ≡ true
        by_group true same = heir-live old.opening.placement (without_group old.tree g) removes.parent page.residence root_stays parent_stays
        by_group false other = stays page.group (λ e. unlike (page.group == g) (eq-eqb page.group g e) other) is.live

    above : (h p : ℕ) → is_live (without_group old.tree g) h ≡ true → (node_at (without_group old.tree g) h).parent ≡ Some p → is_live (without_group old.tree g) p ≡ true
    above h p alive hangs = stays p not_removed (sound.above h p alive' hangs')
      where
        another : h ≢ g
        another same = unlike (is_live (without_group old.tree g) h) alive (ap (is_live (without_group old.tree g)) same ∙ without-dead old.tree g)

        alive' : is_live old.tree h ≡ true
        alive' = sym (ap (λ (n : Node). n.live) (without-other old.tree g h another)) ∙ alive

        hangs' : (node_at old.tree h).parent ≡ Some p
        hangs' = sym (without-parent old.tree g h) ∙ hangs

        not_removed : p ≢ g
        not_removed same =
            unlike (is_child g (node_at old.tree h))
            (ap (λ (b : Bool). b && is_parent (node_at old.tree h).parent g) alive' ∙ ap (λ (o : Option ℕ). is_parent o g) hangs' ∙ eq-eqb p g same)
            (no_child old.tree g h childless)

-- ---- steps

module _ (opening : Opening) (old new : State) (sound : sound_in opening old) where
  -- with new pages and counts, and the tasks and the groups as they were
  pages_sound : {counted : List EventCounts} {tables : PageTables} → new ≡ record old { pages = new.pages; counted = counted; page_tables = tables } → IsSound opening.swap opening.files new.pages old.tasks old.tree → sound_in opening new
  pages_sound e h = subst (sound_in opening) (sym e) (sound.0, h)

  swap_is : (b : ℕ) → b < old.opening.swap → b < opening.swap
  swap_is b lt = subst (λ (o : Opening). b < o.swap) sound.0 lt

  fit_at : (p : ℕ) (page : Page) → page_at old.pages p ≡ Some page → IsFit opening.swap opening.files old.tree page
  fit_at p page there = fit_there opening.swap opening.files old.pages new.pages old.tasks old.tree p sound.1 page there

  homes_are : (f q : ℕ) → home_block old.opening.swap old.opening.files f q ≡ home_block opening.swap opening.files f q
  homes_are f q = ap (λ (o : Opening). home_block o.swap o.files f q) sound.0

  moved_sound : (what : Event) (answer : Reply) (p : ℕ) (page : Page) (g : ℕ) (dirty : Bool) (now : Residence) → page_at old.pages p ≡ Some page → ChargedTo old what page g
      → Changes old.pages new.pages p (Some (record { content = page.content; group = g; dirty = dirty; residence = now })) → Moves old what answer page dirty now
      → IsSound opening.swap opening.files new.pages old.tasks old.tree
  moved_sound what answer p page g dirty now there whose placed moves = by_move moves
    where
      fit : IsFit opening.swap opening.files old.tree page
      fit = fit_at p page there

      now_page : Page
      now_page = record { content = page.content; group = g; dirty = dirty; residence = now }

      -- whoever is charged is there
      live : ChargedTo old what page g → is_live old.tree g ≡ true
      live (ItsOwn same) = ap (is_live old.tree) same ∙ fit.live
      live (ItsReaders t block access alive away reads) = ap (is_live old.tree) reads ∙ sound.1.homes t alive

      -- memory is clean, and a page of a file at home
      filed : (page.content ≡ Memory → dirty ≡ page.dirty ⊎ dirty ≡ false)
          → ((f q : ℕ) → page.content ≡ OfFile f q → IsAtHome (home_block opening.swap opening.files f q) page.dirty page.residence → IsAtHome (home_block opening.swap opening.files f q) dirty now)
          → IsFiledAs opening.swap opening.files now_page page.content
      filed clean at_home = by_content page.content refl fit.filed
        where
          by_content : (content : Content) → page.content ≡ content → IsFiledAs opening.swap opening.files page content → IsFiledAs opening.swap opening.files now_page content
          by_content Memory is was = elim (clean is) [ inl same ↦ same ∙ was | inr not_dirty ↦ not_dirty ]
          by_content (OfFile f q) is was = (was.0, at_home f q is was.1)

      stands : IsFiledAs opening.swap opening.files now_page page.content → ((b : ℕ) → is_anon page.content ≡ true → block_at now ≡ Some b → b < opening.swap)
          → Renumbers (frame_at now) (frame_at page.residence) (is_frame_taken old.pages)
          → (is_anon page.content ≡ true → Renumbers (block_at now) (block_at page.residence) (is_swap_taken old.pages)) → Renumbers (ticket_at now) (ticket_at page.residence) (is_ticket_taken old.pages)
          → IsSound opening.swap opening.files new.pages old.tasks old.tree
      stands = sound-moved opening.swap opening.files old.pages new.pages old.tasks old.tree p sound.1 page g dirty now there (live whose) placed

      -- on the block that it had
      on_its_block : block_at now ≡ block_at page.residence → (b : ℕ) → is_anon page.content ≡ true → block_at now ≡ Some b → b < opening.swap
      on_its_block same b memory e = fit.within b memory (sym same ∙ e)

      -- memory goes to a block of its own
      own_block : (block : ℕ) → GoesTo old page block page.content → is_anon page.content ≡ true → IsFreeBlock old block
      own_block block goes memory = by_content page.content goes memory
        where
          by_content : (content : Content) → GoesTo old page block content → is_anon content ≡ true → IsFreeBlock old block
          by_content Memory goes memory = goes
          by_content (OfFile f q) goes memory = cc

      by_move : Moves old what answer page dirty now → IsSound opening.swap opening.files new.pages old.tasks old.tree
      by_move (Rests is clean dirty_still) =
          stands (filed (λ memory. inl (clean (ap is_anon memory))) (λ f q of_file was. home_kept _ page.dirty dirty page.residence now is dirty_still was))
          (on_its_block (ap block_at is)) (inr (inl (ap frame_at is))) (λ memory. inr (inl (ap block_at is))) (inr (inl (ap ticket_at is)))
      by_move (Comes frame block ticket access out away is clean unused free) =
          let same : block_at now ≡ block_at page.residence = ap block_at is ∙ sym (ap block_at away) in
          stands (filed (λ memory. inr clean) (λ f q of_file was. absurd (subst (IsAtHome _ page.dirty) away was)))
          (on_its_block same) (inr (inr (frame, ap frame_at is, unused))) (λ memory. inr (inl same)) (inr (inr (ticket, ap ticket_at is, free)))
      by_move (Goes frame block ticket held is as_it_was goes fresh) =
          stands
          (filed (λ memory. inl as_it_was)
          (λ f q of_file was.
          let to = subst (GoesTo old page block) of_file goes in subst (IsAtHome _ dirty) (sym is) (to.0 ∙ homes_are f q, as_it_was ∙ to.1)))
          (λ b memory e. (let same : block ≡ b = some_inj (sym (ap block_at is) ∙ e) in subst (λ (n : ℕ). n < opening.swap) same (swap_is block (own_block block goes memory).in_range)))
          (inr (inl (ap frame_at is ∙ sym (ap frame_at held)))) (λ memory. inr (inr (block, ap block_at is, (own_block block goes memory).unused))) (inr (inr (ticket, ap ticket_at is, fresh)))
      by_move (Lands frame out framed is as_it_was arrives) =
          stands (filed (λ memory. inl as_it_was) (λ f q of_file was. subst (IsAtHome _ dirty) (sym is) tt))
          (λ b memory e. (let none : None ≡ Some b = sym (ap block_at is) ∙ e in cc)) (inr (inl (ap frame_at is ∙ sym framed))) (λ memory. inl (ap block_at is)) (inl (ap ticket_at is))
      by_move (Lies frame block out framed on is as_it_was anon) =
          stands (filed (λ memory. inl as_it_was) (λ f q of_file was. absurd (let e : true ≡ false = sym anon ∙ ap is_anon of_file in cc)))
          (on_its_block (ap block_at is ∙ sym on)) (inl (ap frame_at is)) (λ memory. inr (inl (ap block_at is ∙ sym on))) (inl (ap ticket_at is))

  -- a group that nothing refuses is there
  live_group : (g : ℕ) (others : Option Refusal) → group_refusal old.tree g others ≡ None → is_live old.tree g ≡ true
  live_group g others none = by_live (is_live old.tree g) refl none
    where
      by_live : (b : Bool) → is_live old.tree g ≡ b → first_cause (not b) NoEntry others ≡ None → is_live old.tree g ≡ true
      by_live true is e = is
      by_live false is e = cc

  -- a group that nothing keeps is there, and has neither children nor tasks
  may_be_removed : (g : ℕ) → rmdir_refusal old g ≡ None → (is_live old.tree g ≡ true) × (has_children old.tree g ≡ false) × (has_tasks old.tasks g ≡ false)
  may_be_removed g none = (live_group g _ none, kept.0, kept.1)
    where
      by_tests : (live root children tasks : Bool) → first_cause (not live) NoEntry (first_cause (root || (children || tasks)) Busy None) ≡ None → (children ≡ false) × (tasks ≡ false)
      by_tests false root children tasks e = cc
      by_tests true true children tasks e = cc
      by_tests true false true tasks e = cc
      by_tests true false false true e = cc
      by_tests true false false false e = (refl, refl)

      kept : (has_children old.tree g ≡ false) × (has_tasks old.tasks g ≡ false)
      kept = by_tests (is_live old.tree g) (g == 0) (has_children old.tree g) (has_tasks old.tasks g) none

  did_sound : (what : Event) (answer : Reply) → refusal old what ≡ None → Did old what answer new → sound_in opening new
  did_sound what answer none (Kept limits flags counted e) = subst (sound_in opening) (sym e) (sound.0, sound.1)
  did_sound what answer none (Made t v p frame access out alive shared within free unused placed shown e) =
      pages_sound e (sound-placed opening.swap opening.files old.pages new.pages old.tasks old.tree p sound.1 (group_of_task old.tasks t) frame (sound.1.homes t alive) unused placed)
  did_sound what answer none (Moved p page to dirty now counted there whose placed moves mapped e) = pages_sound e (moved_sound what answer p page to dirty now there whose placed moves)
  did_sound what answer none (Cached t f q p frame ticket access out alive unread within free unused fresh filed placed e) =
      pages_sound e
      (sound-read opening.swap opening.files old.pages new.pages old.tasks old.tree p sound.1 (group_of_task old.tasks t) f q frame ticket (sound.1.homes t alive)
      (subst (λ (o : Opening). q < slice_index o.files f) sound.0 (filed none)) unread unused fresh
      (subst (λ (home : ℕ). Changes old.pages new.pages p (Some (read_page (group_of_task old.tasks t) f q (Coming frame home ticket)))) (homes_are f q) placed))
  did_sound what answer none (Dropped p page counted out there may_go went gone e) = pages_sound e (sound-gone opening.swap opening.files old.pages new.pages old.tasks old.tree p sound.1 gone)
  did_sound what answer none (Ended is_gone ending counted out dead ends) = subst (sound_in opening) (sym ends.state) (sound.0, sound-ended opening.swap opening.files old new is_gone ending counted dead ends sound.1)
  did_sound what answer none (Spawned t g is sets shown e) =
      subst (sound_in opening) (sym e) (sound.0, sound-spawned opening.swap opening.files old.pages old.tasks new.tasks old.tree t.0 g.0 (live_group g.0 _ (sym (ap (refusal old) is) ∙ none)) sets sound.1)
  did_sound what answer none (Forked t child is out alive sets copies e) =
      subst (sound_in opening) (sym e) (sound.0, sound-spawned opening.swap opening.files old.pages old.tasks new.tasks old.tree child.0 (group_of_task old.tasks t.0) (sound.1.homes t.0 alive) sets sound.1)
  did_sound what answer none (Freed t v is out alive frees) =
      subst (sound_in opening) (sym frees.state) (sound.0, sound-stilled opening.swap opening.files new.page_tables old.pages new.pages old.tasks old.tree frees.pages sound.1)
  did_sound what answer none (Attached t g is out sets e) =
      subst (sound_in opening) (sym e) (sound.0, sound-spawned opening.swap opening.files old.pages old.tasks new.tasks old.tree t.0 g.0 (live_group g.0 _ (sym (ap (refusal old) is) ∙ none)) sets sound.1)
  did_sound what answer none (Removed g is out removes) =
      let may = may_be_removed g.0 (sym (ap (refusal old) is) ∙ none) in
      subst (sound_in opening) (sym removes.state) (sound.0, sound-removed opening.swap opening.files old new g.0 may.0 may.1 may.2 removes sound.1)
  did_sound what answer none (Grown path is out e) =
      subst (sound_in opening) (sym e) (sound.0, sound-grown opening.swap opening.files old.pages old.tasks old.tree _ (found_below old.tree (parent_path path)) (found_live old.tree (parent_path path)) sound.1)

-- ---- legal histories

root_falls : (g p : ℕ) → (node_at (root ∷ []) g).parent ≡ Some p → p < g
root_falls zero p e = cc
root_falls (suc g) p e = cc

root_hangs : (g p : ℕ) → (node_at (root ∷ []) g).parent ≡ Some p → ⊥
root_hangs zero p e = absurd (let none : None ≡ Some p = e in never_some {P = ⊥} {T = ℕ} None refl none)
root_hangs (suc g) p e = absurd (let none : None ≡ Some p = e in never_some {P = ⊥} {T = ℕ} None refl none)

first_sound : (opening : Opening) → sound_in opening (first_state opening)
first_sound opening = (
  refl,
  record { frames = λ f. omega arith; blocks = λ b. omega arith; tickets = λ n. omega arith; single = record { single = λ f q p p' page page' there there' holds holds'. cc }; fits = λ p. tt; homes = λ t alive. cc; above = λ g p live hangs. absurd (root_hangs g p hangs); falls = record { falls = root_falls }; rooted = refl },
)

pub legal-sound : (opening : Opening) (history : List Entry) (s : State) → Legal opening history s → sound_in opening s
legal-sound opening [] s legal = subst (sound_in opening) (sym legal) (first_sound opening)
legal-sound opening (entry ∷ earlier) s legal = did_sound opening legal.0 s (legal-sound opening earlier legal.0 legal.1) entry.event entry.reply legal.2.unrefused (step_did legal.0 s entry.event entry.reply legal.2.steps)

-- ---- pages of such a state

own_number : (key : Option ℕ) (n : ℕ) → key ≡ Some n → is_number key n ≡ true
own_number key n e = ap (λ o. is_number o n) e ∙ own n
  where
    own : (m : ℕ) → (m == m) ≡ true
    own m = grind (arith, nat_tests)

pub pages_share_no_frame : (opening : Opening) (history : List Entry) (s : State) → Legal opening history s
    → (p q f : ℕ) (page other : Page) → page_at s.pages p ≡ Some page → page_at s.pages q ≡ Some other → frame_at page.residence ≡ Some f → frame_at other.residence ≡ Some f → p ≡ q
pages_share_no_frame opening history s legal p q f page other first second framed framed' =
    once-same has_this_frame s.pages p q f (legal-sound opening history s legal).1.frames (ap (there_and (has_this_frame f)) first ∙ own_number _ f framed) (ap (there_and (has_this_frame f)) second ∙ own_number _ f framed')

-- no two pages hold one page of a file
pub file_pages_are_one : (opening : Opening) (history : List Entry) (s : State) → Legal opening history s
    → (f q p p' : ℕ) (page page' : Page) → page_at s.pages p ≡ Some page → page_at s.pages p' ≡ Some page' → page.content ≡ OfFile f q → page'.content ≡ OfFile f q → p ≡ p'
file_pages_are_one opening history s legal = (legal-sound opening history s legal).1.single.single

-- where a page has its block: a swap block, or the home of the page of a file that it holds
data Stands (swap : ℕ) (files : List ℕ) (page : Page) (b : ℕ) : Type 0 where
  InSwap : is_anon page.content ≡ true → b < swap → Stands swap files page b
  AtHome : (f q : ℕ) → page.content ≡ OfFile f q → q < slice_index files f → b ≡ home_block swap files f q → Stands swap files page b

stands_so : (swap : ℕ) (files : List ℕ) (tree : List Node) (page : Page) (b : ℕ) → IsFit swap files tree page → block_at page.residence ≡ Some b → Stands swap files page b
stands_so swap files tree page b fit on = by_content page.content refl fit.filed
  where
    by_content : (content : Content) → page.content ≡ content → IsFiledAs swap files page content → Stands swap files page b
    by_content Memory is filed = InSwap (ap is_anon is) (fit.within b (ap is_anon is) on)
    by_content (OfFile f q) is filed = AtHome f q is filed.0 (home_is (home_block swap files f q) page.dirty page.residence b filed.1 on)

-- no two pages share a block, be it one of swap or a home
pub pages_share_no_block : (opening : Opening) (history : List Entry) (s : State) → Legal opening history s
    → (p q b : ℕ) (page other : Page) → page_at s.pages p ≡ Some page → page_at s.pages q ≡ Some other → block_at page.residence ≡ Some b → block_at other.residence ≡ Some b → p ≡ q
pages_share_no_block opening history s legal p q b page other first second on on' =
    by_kinds (stands_so opening.swap opening.files s.tree page b (fits p page first) on) (stands_so opening.swap opening.files s.tree other b (fits q other second) on')
  where
    fits : (n : ℕ) (x : Page) → page_at s.pages n ≡ Some x → IsFit opening.swap opening.files s.tree x
    fits n x there = subst (λ slot. IfSome slot (IsFit opening.swap opening.files s.tree)) there ((legal-sound opening history s legal).1.fits n)

    passes : (n : ℕ) (x : Page) → page_at s.pages n ≡ Some x → is_anon x.content ≡ true → block_at x.residence ≡ Some b → there_and (has_this_block b) (at s.pages n) ≡ true
    passes n x there anon on = ap (there_and (has_this_block b)) there ∙ (ap (λ a. a && is_number (block_at x.residence) b) anon ∙ own_number _ b on)

    by_kinds : Stands opening.swap opening.files page b → Stands opening.swap opening.files other b → p ≡ q
    by_kinds (InSwap memory below) (InSwap memory' below') =
        once-same has_this_block s.pages p q b (legal-sound opening history s legal).1.blocks (passes p page first memory on) (passes q other second memory' on')
    by_kinds (InSwap memory below) (AtHome f' q' is' within' home') = absurd (let above = home_above opening.swap opening.files f' q' in omega (arith, above, below, home'))
    by_kinds (AtHome f n is within home) (InSwap memory' below') = absurd (let above = home_above opening.swap opening.files f n in omega (arith, above, below', home))
    by_kinds (AtHome f n is within home) (AtHome f' n' is' within' home') =
        let one = homes_differ opening.swap opening.files f n f' n' within within' (sym home ∙ home') in
        file_pages_are_one opening history s legal f n p q page other first second is
        (is' ∙ ap (λ (x : ℕ). OfFile x n') (sym one.0) ∙ ap (λ (x : ℕ). OfFile f x) (sym one.1))

-- the block of a page is one of those that the device has for the machine
pub block_below : (opening : Opening) (history : List Entry) (s : State) → Legal opening history s
    → (p b : ℕ) (page : Page) → page_at s.pages p ≡ Some page → block_at page.residence ≡ Some b → b < opening.swap + sum opening.files
block_below opening history s legal p b page there on = by_kind (stands_so opening.swap opening.files s.tree page b fit on)
  where
    fit : IsFit opening.swap opening.files s.tree page
    fit = subst (λ slot. IfSome slot (IsFit opening.swap opening.files s.tree)) there ((legal-sound opening history s legal).1.fits p)

    by_kind : Stands opening.swap opening.files page b → b < opening.swap + sum opening.files
    by_kind (InSwap memory below) = omega (arith, below)
    by_kind (AtHome f q is within home) = let below = home_below opening.swap opening.files f q within in omega (arith, below, home)

pub pages_share_no_ticket : (opening : Opening) (history : List Entry) (s : State) → Legal opening history s
    → (p q n : ℕ) (page other : Page) → page_at s.pages p ≡ Some page → page_at s.pages q ≡ Some other → ticket_at page.residence ≡ Some n → ticket_at other.residence ≡ Some n → p ≡ q
pages_share_no_ticket opening history s legal p q n page other first second under under' =
    once-same has_this_ticket s.pages p q n (legal-sound opening history s legal).1.tickets (ap (there_and (has_this_ticket n)) first ∙ own_number _ n under) (ap (there_and (has_this_ticket n)) second ∙ own_number _ n under')

-- each page of a state that a legal history leads to
pub legal-fit : (opening : Opening) (history : List Entry) (s : State) → Legal opening history s → (p : ℕ) (page : Page) → page_at s.pages p ≡ Some page → IsFit opening.swap opening.files s.tree page
legal-fit opening history s legal p page there = subst (λ slot. IfSome slot (IsFit opening.swap opening.files s.tree)) there ((legal-sound opening history s legal).1.fits p)

-- and no two of them hold one page of a file
pub legal-single : (opening : Opening) (history : List Entry) (s : State) → Legal opening history s → IsSingle s.pages
legal-single opening history s legal = (legal-sound opening history s legal).1.single

-- and pages of files are at home
pub legal-files : (opening : Opening) (history : List Entry) (s : State) → Legal opening history s → AreFiled s
legal-files opening history s legal =
    record {
      single = (legal-sound opening history s legal).1.single;
      filed = λ p page there. subst (λ (o : Opening). IsFiled o.swap o.files page) (sym (legal-sound opening history s legal).0) (legal-fit opening history s legal p page there).filed;
    }
