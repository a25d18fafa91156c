-- What one step does to the pages of files: what each holds, and whether its home block holds its bytes.
use Rattle.std.proofs.Common.{◌≡◌, inl, inr, ℕ, ◌==◌, ◌&&◌, not, Bool, true, false, cond, Option, Some, None, eqb-true, refl, sym, ap, ◌∙◌, subst}
use Rattle.std.specs.Prelude.{◌⊎◌, ◌||◌, option_map}
use Rattle.std.proofs.lemmas.Bool.{and_parts}
use Rattle.machine.specs.declared.id.TaskId.{TaskId}
use Rattle.machine.specs.declared.id.TicketId.{TicketId}
use Rattle.machine.specs.declared.record.Life.{Life}
use Rattle.machine.specs.declared.record.Life.TheVariants.{Live, Exited, Killed}
use Rattle.machine.specs.declared.record.Task.{Task}
use Rattle.machine.specs.declared.event.Place.TheVariants.{Virtual, File}
use Rattle.machine.specs.declared.event.Op.TheVariants.{Read, Write}
use Rattle.machine.specs.declared.event.Event.{Event}
use Rattle.machine.specs.declared.event.Event.TheVariants as event
use Rattle.machine.specs.declared.reply.Reply.{Reply}
use Rattle.machine.specs.declared.reply.Reply.TheVariants as reply
use Rattle.machine.specs.Slots.{Changes}
use Rattle.machine.specs.Pages.{Content, Memory, OfFile, Residence, Held, Coming, Going, Away, Page, Pages, page_at, is_anon, is_page_of, is_held_at, in_transfer_at, file_page, home_block, IsAtHome, IsFiledAs, IsFiled}
use Rattle.machine.specs.Tasks.{PageTables, task_at, mappers}
use Rattle.machine.specs.State.{State, over_in, is_frame_free}
use Rattle.machine.specs.Access.{Meeting, Hits, Transferring, NeedsRead, Dangling, meets}
use Rattle.machine.specs.Step.{ChargeStep, ReadsFile, MeetStep, LifeStep, TaskStep, touched, still, regrouped, Step}
use Rattle.machine.specs.History.{InFile, is_spot, Byte, Nothing, says_if, says}
use Rattle.machine.proofs.Values.{some_inj, never_some, unlike}
use Rattle.machine.proofs.TreeLemmas.{eq_cases}
use Rattle.machine.proofs.FileLemmas.{holds_page, holds_page-some, holds_page-there, file_page-there, file_page-alike, file_page-beside, file_page-is, IsSingle}
use Rattle.legal.proofs.MoveLemmas.{MetFile, met_file}
use Rattle.legal.proofs.Did.{Arrives, Went, WasMemory, WasClean, WasComing, WasGoing, Moves, Rests, Comes, Goes, Lands, Lies, Did, Kept, Made, Moved, Cached, Dropped, Ended, Spawned, Forked, Freed, Attached, Removed, Grown, step_did}

-- ---- words

-- what stands at a number that may be none
abbrev pub slot_in : Pages → Option ℕ → Option Page
slot_in pages None = None
slot_in pages (Some p) = page_at pages p

-- the page that holds this page of a file, if one does
abbrev pub slot_of : State → ℕ → ℕ → Option Page
slot_of s f q = slot_in s.pages (file_page s.pages f q)

abbrev pub is_home_at : Bool → Residence → Bool
is_home_at dirty (Held frame) = not dirty
is_home_at dirty (Coming frame block ticket) = true
is_home_at dirty (Going frame block ticket) = false
is_home_at dirty (Away block) = false

-- the home block of this page of a file holds its bytes, as far as the machine can tell: no page holds it, or one that is read in, or a clean one
abbrev pub is_home : Option Page → Bool
is_home None = true
is_home (Some page) = is_home_at page.dirty page.residence

-- it was written to where it is held
abbrev pub is_written : Option Page → Bool
is_written None = false
is_written (Some page) = is_held_at page.residence && page.dirty

-- the frame has the page's bytes
abbrev pub is_filled_at : Residence → Bool
is_filled_at (Held frame) = true
is_filled_at (Coming frame block ticket) = false
is_filled_at (Going frame block ticket) = true
is_filled_at (Away block) = false

-- no two pages hold one page of a file, memory is clean, and pages of files are at home
pub record AreFiled (s : State) : Type 0 where
  pub single : IsSingle s.pages
  pub filed : (p : ℕ) (page : Page) → page_at s.pages p ≡ Some page → IsFiled s.opening.swap s.opening.files page

-- the write-out of the page ended, to its home block
pub record LeftHome (old : State) (what : Event) (f q : ℕ) : Type 0 where
  pub p : ℕ
  pub page : Page
  pub frame : ℕ
  pub block : ℕ
  pub ticket : TicketId
  pub is : what ≡ event.Left ticket
  pub there : page_at old.pages p ≡ Some page
  pub holds : page.content ≡ OfFile f q
  pub going : page.residence ≡ Going frame block ticket.0
  pub home : block ≡ home_block old.opening.swap old.opening.files f q

-- a home block that holds a page's bytes held them before, or was written to just now; only a write where the page is held says anything of its bytes; a page that stays holds
-- what it did; and one that was being read in has its bytes only where they arrived
pub record FilesGo (old : State) (what : Event) (answer : Reply) (new : State) : Type 0 where
  pub home : (f q : ℕ) → is_home (slot_of new f q) ≡ true → (is_home (slot_of old f q) ≡ true) ⊎ LeftHome old what f q
  pub silent : (f q o : ℕ) → is_written (slot_of new f q) ≡ false → says what answer (InFile f q o) ≡ Nothing
  pub contents : (p : ℕ) (before page : Page) → page_at old.pages p ≡ Some before → page_at new.pages p ≡ Some page → page.content ≡ before.content
  pub arrives : (p frame block n : ℕ) (before page : Page) → page_at old.pages p ≡ Some before → page_at new.pages p ≡ Some page → before.residence ≡ Coming frame block n → is_filled_at page.residence ≡ true
      → Arrives what n

-- what is home was not just written to
pub home-unwritten : (slot : Option Page) → is_home slot ≡ true → is_written slot ≡ false
home-unwritten None e = refl
home-unwritten (Some page) e = by_residence page.dirty page.residence e
  where
    by_residence : (dirty : Bool) (r : Residence) → is_home_at dirty r ≡ true → (is_held_at r && dirty) ≡ false
    by_residence true (Held frame) e = cc
    by_residence false (Held frame) e = refl
    by_residence dirty (Coming frame block ticket) e = refl
    by_residence dirty (Going frame block ticket) e = cc
    by_residence dirty (Away block) e = cc

-- nor is what is in transfer
pub transfer-unwritten : (page : Page) → in_transfer_at page.residence ≡ true → is_written (Some page) ≡ false
transfer-unwritten page e = by_residence page.residence e
  where
    by_residence : (r : Residence) → in_transfer_at r ≡ true → (is_held_at r && page.dirty) ≡ false
    by_residence (Held frame) e = cc
    by_residence (Coming frame block ticket) e = refl
    by_residence (Going frame block ticket) e = refl
    by_residence (Away block) e = refl

-- where a page holds it, that is what stands for it
pub slot_of-is : (s : State) → IsSingle s.pages → (f q p : ℕ) (page : Page) → page_at s.pages p ≡ Some page → page.content ≡ OfFile f q → slot_of s f q ≡ Some page
slot_of-is s single f q p page there holds = ap (slot_in s.pages) (file_page-is s.pages single f q p page there holds) ∙ there

-- what stands for it is there, and holds it
pub slot_of-there : (s : State) (f q : ℕ) (page : Page) → slot_of s f q ≡ Some page → (p : ℕ) × (file_page s.pages f q ≡ Some p) × (page_at s.pages p ≡ Some page) × (page.content ≡ OfFile f q)
slot_of-there s f q page e = by_found (file_page s.pages f q) refl e
  where
    by_found : (found : Option ℕ) → file_page s.pages f q ≡ found → slot_in s.pages found ≡ Some page → (p : ℕ) × (file_page s.pages f q ≡ Some p) × (page_at s.pages p ≡ Some page) × (page.content ≡ OfFile f q)
    by_found None is e = cc
    by_found (Some p) is e =
        let stands = file_page-there s.pages f q p is in
        (p, is, e, ap (λ (x : Page). x.content) (some_inj (sym e ∙ stands.1)) ∙ stands.2)

-- ---- home blocks

-- what the end of a task, or of a mapping, leaves of a page of a file is all
still_file : (tables : PageTables) (p : ℕ) (page : Page) → is_anon page.content ≡ false → still tables p (Some page) ≡ Some page
still_file tables p page of_file = by_kind (is_anon page.content) of_file
  where
    by_kind : (b : Bool) → b ≡ false → cond (b && ((mappers tables p == 0) && not (in_transfer_at page.residence))) None (Some page) ≡ Some page
    by_kind true e = cc
    by_kind false e = refl

still_holds : (tables : PageTables) (p f q : ℕ) (slot : Option Page) → holds_page f q (still tables p slot) ≡ holds_page f q slot
still_holds tables p f q None = refl
still_holds tables p f q (Some page) = by_content page.content refl
  where
    gone : page.content ≡ Memory → (b : Bool) → holds_page f q (cond b None (Some page)) ≡ holds_page f q (Some page)
    gone is true = sym (ap (is_page_of f q) is)
    gone is false = refl

    by_content : (content : Content) → page.content ≡ content → holds_page f q (still tables p (Some page)) ≡ holds_page f q (Some page)
    by_content Memory is = gone is (is_anon page.content && ((mappers tables p == 0) && not (in_transfer_at page.residence)))
    by_content (OfFile f' q') is = ap (holds_page f q) (still_file tables p page (ap is_anon is))

still_same_file : (tables : PageTables) (p f q : ℕ) (slot : Option Page) → holds_page f q slot ≡ true → still tables p slot ≡ slot
still_same_file tables p f q slot holds =
    let stands = holds_page-there f q slot holds in
    subst (λ (x : Option Page). still tables p x ≡ x) (sym stands.1) (still_file tables p stands.0 (ap is_anon stands.2))

module _ (old new : State) (files : AreFiled old) where
  -- where the pages that hold it are what they were, so is what stands for it
  slots_alike : (f q : ℕ) → ((n : ℕ) → holds_page f q (page_at new.pages n) ≡ holds_page f q (page_at old.pages n)) → ((n : ℕ) → holds_page f q (page_at old.pages n) ≡ true → page_at new.pages n ≡ page_at old.pages n)
      → slot_of new f q ≡ slot_of old f q
  slots_alike f q same stays = ap (slot_in new.pages) (file_page-alike old.pages new.pages f q same) ∙ by_found (file_page old.pages f q) refl
    where
      by_found : (found : Option ℕ) → file_page old.pages f q ≡ found → slot_in new.pages found ≡ slot_in old.pages found
      by_found None is = refl
      by_found (Some n) is = let stands = file_page-there old.pages f q n is in stays n (holds_page-some f q (page_at old.pages n) stands.0 stands.1 stands.2)

  slots_same : (f q : ℕ) → new.pages ≡ old.pages → slot_of new f q ≡ slot_of old f q
  slots_same f q e = ap (λ (ps : Pages). slot_in ps (file_page ps f q)) e

  -- one page changes that does not hold it
  slots_beside : (p : ℕ) (to : Option Page) (f q : ℕ) → Changes old.pages new.pages p to → holds_page f q (page_at old.pages p) ≡ false → holds_page f q to ≡ false → slot_of new f q ≡ slot_of old f q
  slots_beside p to f q changes before after =
      slots_alike f q
      (λ n. elim (eq_cases n p) [
        | inl here ↦ ap (λ (x : ℕ). holds_page f q (page_at new.pages x)) here ∙ ap (holds_page f q) changes.changed ∙ after ∙ sym (ap (λ (x : ℕ). holds_page f q (page_at old.pages x)) here ∙ before)
        | inr other ↦ ap (holds_page f q) (changes.others n other)
      ])
      (λ n holds. changes.others n (λ here. unlike (holds_page f q (page_at old.pages p)) (sym (ap (λ (x : ℕ). holds_page f q (page_at old.pages x)) here) ∙ holds) before))

  -- the home block held the bytes before, or was written to
  abbrev HomeGoes : Event → ℕ → ℕ → Type 0
  HomeGoes what f q = is_home (slot_of new f q) ≡ true → (is_home (slot_of old f q) ≡ true) ⊎ LeftHome old what f q

  home_same : (what : Event) (f q : ℕ) → slot_of new f q ≡ slot_of old f q → HomeGoes what f q
  home_same what f q same home = inl (sym (ap is_home same) ∙ home)

  -- by what a page comes to, where it holds the page of the file
  home_moved : (what : Event) (answer : Reply) (f q p : ℕ) (page : Page) (dirty : Bool) (now : Residence) → page_at old.pages p ≡ Some page → page.content ≡ OfFile f q → Moves old what answer page dirty now
      → is_home_at dirty now ≡ true → is_home_at page.dirty page.residence ≡ true
  home_moved what answer f q p page dirty now there holds moves home = by_move moves
    where
      filed : IsAtHome (home_block old.opening.swap old.opening.files f q) page.dirty page.residence
      filed = (subst (IsFiledAs old.opening.swap old.opening.files page) holds (files.filed p page there)).1

      rests : (d d' : Bool) (r : Residence) → (d ≡ true → d' ≡ true) → is_home_at d' r ≡ true → is_home_at d r ≡ true
      rests true d' (Held frame) still h = ap not (sym (still refl)) ∙ h
      rests false d' (Held frame) still h = refl
      rests d d' (Coming frame block ticket) still h = refl
      rests d d' (Going frame block ticket) still h = h
      rests d d' (Away block) still h = h

      lands : (home : ℕ) (d : Bool) (r : Residence) → IsAtHome home d r → not d ≡ true → is_home_at d r ≡ true
      lands home d (Held frame) at h = h
      lands home d (Coming frame block ticket) at h = refl
      lands home d (Going frame block ticket) at h = unlike d at.1 (by_not d h)
        where
          by_not : (d : Bool) → not d ≡ true → d ≡ false
          by_not true e = cc
          by_not false e = refl
      lands home d (Away block) at h = absurd at

      by_move : Moves old what answer page dirty now → is_home_at page.dirty page.residence ≡ true
      by_move (Rests is clean still_dirty) = rests page.dirty dirty page.residence still_dirty (ap (is_home_at dirty) (sym is) ∙ home)
      by_move (Comes frame block ticket access out away is clean unused free) = absurd (subst (IsAtHome _ page.dirty) away filed)
      by_move (Goes frame block ticket held is as_it_was goes fresh) = absurd (let wrong : false ≡ true = ap (is_home_at dirty) (sym is) ∙ home in cc)
      by_move (Lands frame out framed is as_it_was arrives) = lands _ page.dirty page.residence filed (ap not (sym as_it_was) ∙ ap (is_home_at dirty) (sym is) ∙ home)
      by_move (Lies frame block out framed on is as_it_was anon) = absurd (let wrong : true ≡ false = sym anon ∙ ap is_anon holds in cc)

  -- one page changes, and either does not hold it before or after, or is found for it
  home_one : (what : Event) (p : ℕ) (to : Option Page) (f q : ℕ) → Changes old.pages new.pages p to → (holds_page f q (page_at old.pages p) ≡ false → holds_page f q to ≡ true → HomeGoes what f q)
      → ((page : Page) → page_at old.pages p ≡ Some page → page.content ≡ OfFile f q → HomeGoes what f q) → HomeGoes what f q
  home_one what p to f q changes comes held = by_tests (holds_page f q (page_at old.pages p)) (holds_page f q to) refl refl
    where
      by_tests : (before after : Bool) → holds_page f q (page_at old.pages p) ≡ before → holds_page f q to ≡ after → HomeGoes what f q
      by_tests true after was is = let stands = holds_page-there f q (page_at old.pages p) was in held stands.0 stands.1 stands.2
      by_tests false true was is = comes was is
      by_tests false false was is = home_same what f q (slots_beside p to f q changes was is)

  did_home : (what : Event) (answer : Reply) → Did old what answer new → (f q : ℕ) → HomeGoes what f q
  did_home what answer (Kept limits flags counted e) f q = home_same what f q (slots_same f q (ap (λ (s : State). s.pages) e))
  did_home what answer (Made t v p frame access out alive shared within free unused placed shown e) f q =
      home_one what p _ f q placed (λ before after. absurd (let wrong : false ≡ true = after in cc)) (λ page there holds. never_some (page_at old.pages p) free there)
  did_home what answer (Moved p page to dirty now counted there whose placed moves mapped e) f q =
      home_one what p _ f q placed
      (λ before after. unlike (is_page_of f q page.content) after (sym (ap (holds_page f q) there) ∙ before))
      (λ page' there' holds home.
      let one : page ≡ page' = some_inj (sym there ∙ there') in
      let of_file : page.content ≡ OfFile f q = ap (λ (x : Page). x.content) one ∙ holds in
      let found : file_page old.pages f q ≡ Some p = file_page-is old.pages files.single f q p page there of_file in
      let found' : file_page new.pages f q ≡ Some p = file_page-beside old.pages new.pages p _ placed f q (sym (ap (holds_page f q) there)) ∙ found in
      let stands' = ap (slot_in new.pages) found' ∙ placed.changed in
      let stood = ap (slot_in old.pages) found ∙ there in
      inl (ap is_home stood ∙ home_moved what answer f q p page dirty now there of_file moves (sym (ap is_home stands') ∙ home)))
  did_home what answer (Cached t f' q' p frame ticket access out alive unread within free unused fresh filed placed e) f q =
      home_one what p _ f q placed (λ before after home. inl (ap is_home (ap (slot_in old.pages) (unread_one after)))) (λ page there holds. never_some (page_at old.pages p) free there)
    where
      unread_one : is_page_of f q (OfFile f' q') ≡ true → file_page old.pages f q ≡ None
      unread_one is =
          let both = and_parts (f' == f) (q' == q) is in
          ap (λ (x : ℕ). file_page old.pages x q) (sym (eqb-true f' f both.0)) ∙ ap (λ (x : ℕ). file_page old.pages f' x) (sym (eqb-true q' q both.1)) ∙ unread
  did_home what answer (Dropped p page counted out there may_go went gone e) f q =
      home_one what p None f q gone (λ before after. absurd (let wrong : false ≡ true = after in cc))
      (λ page' there' holds home.
      let of_file : page.content ≡ OfFile f q = ap (λ (x : Page). x.content) (some_inj (sym there ∙ there')) ∙ holds in by_why of_file went)
    where
      by_why : page.content ≡ OfFile f q → Went what page → (is_home (slot_of old f q) ≡ true) ⊎ LeftHome old what f q
      by_why of_file (WasMemory anon) = absurd (let wrong : true ≡ false = sym anon ∙ ap is_anon of_file in cc)
      by_why of_file (WasClean frame held clean) =
          inl (ap is_home (slot_of-is old files.single f q p page there of_file) ∙ ap (is_home_at page.dirty) held ∙ ap not clean)
      by_why of_file (WasComing frame block ticket coming) = inl (ap is_home (slot_of-is old files.single f q p page there of_file) ∙ ap (is_home_at page.dirty) coming)
      by_why of_file (WasGoing frame block ticket is going) =
          inr
          (record {
            p = p;
            page = page;
            frame = frame;
            block = block;
            ticket = ticket;
            is = is;
            there = there;
            holds = of_file;
            going = going;
            home = (subst (IsAtHome _ page.dirty) going (subst (IsFiledAs old.opening.swap old.opening.files page) of_file (files.filed p page there)).1).0;
          })
  did_home what answer (Ended is_gone ending counted out dead ends) f q =
      home_same what f q
      (slots_alike f q (λ n. ap (holds_page f q) (ends.pages n) ∙ still_holds new.page_tables n f q (page_at old.pages n))
      (λ n holds. ends.pages n ∙ still_same_file new.page_tables n f q (page_at old.pages n) holds))
  did_home what answer (Spawned t g is sets shown e) f q = home_same what f q (slots_same f q (ap (λ (s : State). s.pages) e))
  did_home what answer (Forked t child is out alive sets copies e) f q = home_same what f q (slots_same f q (ap (λ (s : State). s.pages) e))
  did_home what answer (Freed t v is out alive frees) f q =
      home_same what f q
      (slots_alike f q (λ n. ap (holds_page f q) (frees.pages n) ∙ still_holds new.page_tables n f q (page_at old.pages n))
      (λ n holds. frees.pages n ∙ still_same_file new.page_tables n f q (page_at old.pages n) holds))
  did_home what answer (Attached t g is out sets e) f q = home_same what f q (slots_same f q (ap (λ (s : State). s.pages) e))
  did_home what answer (Removed g is out removes) f q = λ home. inl (sym homes ∙ home)
    where
      holds_as : (slot : Option Page) → holds_page f q (option_map (regrouped old.opening.placement g.0 removes.parent) slot) ≡ holds_page f q slot
      holds_as None = refl
      holds_as (Some page) = refl

      home_as : (slot : Option Page) → is_home (option_map (regrouped old.opening.placement g.0 removes.parent) slot) ≡ is_home slot
      home_as None = refl
      home_as (Some page) = refl

      by_found : (found : Option ℕ) → is_home (slot_in new.pages found) ≡ is_home (slot_in old.pages found)
      by_found None = refl
      by_found (Some n) = ap is_home (removes.pages n) ∙ home_as (page_at old.pages n)

      homes : is_home (slot_of new f q) ≡ is_home (slot_of old f q)
      homes =
          ap (λ (found : Option ℕ). is_home (slot_in new.pages found)) (file_page-alike old.pages new.pages f q (λ n. ap (holds_page f q) (removes.pages n) ∙ holds_as (page_at old.pages n)))
          ∙ by_found (file_page old.pages f q)
  did_home what answer (Grown path is out e) f q = home_same what f q (slots_same f q (ap (λ (s : State). s.pages) e))

-- ---- what pages hold

module _ (old new : State) where
  -- a page that stays at a number holds what it did
  abbrev Contents : ℕ → Type 0
  Contents p = (before page : Page) → page_at old.pages p ≡ Some before → page_at new.pages p ≡ Some page → page.content ≡ before.content

  contents_same : new.pages ≡ old.pages → (p : ℕ) → Contents p
  contents_same e p before page was is = ap (λ (x : Page). x.content) (some_inj (sym is ∙ ap (λ (ps : Pages). page_at ps p) e ∙ was))

  contents_one : (n : ℕ) (to : Option Page) → Changes old.pages new.pages n to → ((before page : Page) → page_at old.pages n ≡ Some before → to ≡ Some page → page.content ≡ before.content) → (p : ℕ) → Contents p
  contents_one n to changes here p before page was is =
      elim (eq_cases p n) [
        | inl same ↦ here before page (ap (page_at old.pages) (sym same) ∙ was) (sym changes.changed ∙ ap (page_at new.pages) (sym same) ∙ is)
        | inr other ↦ ap (λ (x : Page). x.content) (some_inj (sym is ∙ changes.others p other ∙ was))
      ]

  contents_still : (tables : PageTables) → ((p : ℕ) → page_at new.pages p ≡ still tables p (page_at old.pages p)) → (p : ℕ) → Contents p
  contents_still tables pages p before page was is =
      by_test (is_anon before.content && ((mappers tables p == 0) && not (in_transfer_at before.residence))) (ap (still tables p) (sym was) ∙ sym (pages p) ∙ is)
    where
      by_test : (b : Bool) → cond b None (Some before) ≡ Some page → page.content ≡ before.content
      by_test true e = cc
      by_test false e = ap (λ (x : Page). x.content) (sym (some_inj e))

  did_contents : (what : Event) (answer : Reply) → Did old what answer new → (p : ℕ) → Contents p
  did_contents what answer (Kept limits flags counted e) = contents_same (ap (λ (s : State). s.pages) e)
  did_contents what answer (Made t v p frame access out alive shared within free unused placed shown e) = contents_one p _ placed (λ before page was is. never_some (page_at old.pages p) free was)
  did_contents what answer (Moved p page to dirty now counted there whose placed moves mapped e) =
      contents_one p _ placed (λ before after was is. ap (λ (x : Page). x.content) (sym (some_inj is)) ∙ ap (λ (x : Page). x.content) (some_inj (sym there ∙ was)))
  did_contents what answer (Cached t f q p frame ticket access out alive unread within free unused fresh filed placed e) = contents_one p _ placed (λ before page was is. never_some (page_at old.pages p) free was)
  did_contents what answer (Dropped p page counted out there may_go went gone e) = contents_one p None gone (λ before after was is. cc)
  did_contents what answer (Ended is_gone ending counted out dead ends) = contents_still new.page_tables ends.pages
  did_contents what answer (Spawned t g is sets shown e) = contents_same (ap (λ (s : State). s.pages) e)
  did_contents what answer (Forked t child is out alive sets copies e) = contents_same (ap (λ (s : State). s.pages) e)
  did_contents what answer (Freed t v is out alive frees) = contents_still new.page_tables frees.pages
  did_contents what answer (Attached t g is out sets e) = contents_same (ap (λ (s : State). s.pages) e)
  did_contents what answer (Removed g is out removes) = λ p before page was after.
      ap (λ (x : Page). x.content) (some_inj (sym after ∙ removes.pages p ∙ ap (option_map (regrouped old.opening.placement g.0 removes.parent)) was))
  did_contents what answer (Grown path is out e) = contents_same (ap (λ (s : State). s.pages) e)

-- ---- arrivals

module _ (old new : State) (what : Event) where
  -- a page that was being read in has its bytes
  abbrev Filled : ℕ → Type 0
  Filled p = (frame block n : ℕ) (before page : Page) → page_at old.pages p ≡ Some before → page_at new.pages p ≡ Some page → before.residence ≡ Coming frame block n → is_filled_at page.residence ≡ true → Arrives what n

  -- it stands where it stood
  unfilled : {P : Type 0} (frame block n : ℕ) (before now : Residence) → now ≡ before → before ≡ Coming frame block n → is_filled_at now ≡ true → P
  unfilled frame block n before now same coming filled = absurd (let wrong : false ≡ true = sym (ap is_filled_at (same ∙ coming)) ∙ filled in cc)

  filled_same : new.pages ≡ old.pages → (p : ℕ) → Filled p
  filled_same e p frame block n before page was is coming filled =
      unfilled frame block n before.residence page.residence (ap (λ (x : Page). x.residence) (some_inj (sym is ∙ ap (λ (ps : Pages). page_at ps p) e ∙ was))) coming filled

  filled_one : (k : ℕ) (to : Option Page) → Changes old.pages new.pages k to
      → ((frame block n : ℕ) (before page : Page) → page_at old.pages k ≡ Some before → to ≡ Some page → before.residence ≡ Coming frame block n → is_filled_at page.residence ≡ true → Arrives what n) → (p : ℕ) → Filled p
  filled_one k to changes here p frame block n before page was is coming filled =
      elim (eq_cases p k) [
        | inl same ↦ here frame block n before page (ap (page_at old.pages) (sym same) ∙ was) (sym changes.changed ∙ ap (page_at new.pages) (sym same) ∙ is) coming filled
        | inr other ↦ unfilled frame block n before.residence page.residence (ap (λ (x : Page). x.residence) (some_inj (sym is ∙ changes.others p other ∙ was))) coming filled
      ]

  filled_still : (tables : PageTables) → ((p : ℕ) → page_at new.pages p ≡ still tables p (page_at old.pages p)) → (p : ℕ) → Filled p
  filled_still tables pages p frame block n before page was is coming filled =
      by_test (is_anon before.content && ((mappers tables p == 0) && not (in_transfer_at before.residence))) (ap (still tables p) (sym was) ∙ sym (pages p) ∙ is)
    where
      by_test : (b : Bool) → cond b None (Some before) ≡ Some page → Arrives what n
      by_test true e = cc
      by_test false e = unfilled frame block n before.residence page.residence (ap (λ (x : Page). x.residence) (sym (some_inj e))) coming filled

  moves_filled : (answer : Reply) (page : Page) (dirty : Bool) (now : Residence) → Moves old what answer page dirty now → (frame block n : ℕ) → page.residence ≡ Coming frame block n → is_filled_at now ≡ true → Arrives what n
  moves_filled answer page dirty now (Rests is clean still_dirty) frame block n coming filled = unfilled frame block n page.residence now is coming filled
  moves_filled answer page dirty now (Comes f b m access out away is clean unused free) frame block n coming filled = absurd (let wrong : Away b ≡ Coming frame block n = sym away ∙ coming in cc)
  moves_filled answer page dirty now (Goes f b m held is as_it_was goes fresh) frame block n coming filled = absurd (let wrong : Held f ≡ Coming frame block n = sym held ∙ coming in cc)
  moves_filled answer page dirty now (Lands f out framed is as_it_was arrives) frame block n coming filled = arrives frame block n coming
  moves_filled answer page dirty now (Lies f b out framed on is as_it_was anon) frame block n coming filled = absurd (let wrong : false ≡ true = sym (ap is_filled_at is) ∙ filled in cc)

  did_filled : (answer : Reply) → Did old what answer new → (p : ℕ) → Filled p
  did_filled answer (Kept limits flags counted e) = filled_same (ap (λ (s : State). s.pages) e)
  did_filled answer (Made t v p frame access out alive shared within free unused placed shown e) = filled_one p _ placed (λ f b n before page was is coming filled. never_some (page_at old.pages p) free was)
  did_filled answer (Moved p page to dirty now counted there whose placed moves mapped e) =
      filled_one p _ placed
      (λ f b n before after was is coming filled.
      moves_filled answer page dirty now moves f b n (ap (λ (x : Page). x.residence) (some_inj (sym there ∙ was)) ∙ coming) (ap (λ (x : Page). is_filled_at x.residence) (some_inj is) ∙ filled))
  did_filled answer (Cached t f q p frame ticket access out alive unread within free unused fresh filed placed e) = filled_one p _ placed (λ f' b n before page was is coming filled. never_some (page_at old.pages p) free was)
  did_filled answer (Dropped p page counted out there may_go went gone e) = filled_one p None gone (λ f b n before after was is coming filled. cc)
  did_filled answer (Ended is_gone ending counted out dead ends) = filled_still new.page_tables ends.pages
  did_filled answer (Spawned t g is sets shown e) = filled_same (ap (λ (s : State). s.pages) e)
  did_filled answer (Forked t child is out alive sets copies e) = filled_same (ap (λ (s : State). s.pages) e)
  did_filled answer (Freed t v is out alive frees) = filled_still new.page_tables frees.pages
  did_filled answer (Attached t g is out sets e) = filled_same (ap (λ (s : State). s.pages) e)
  did_filled answer (Removed g is out removes) = λ p frame block n before page was after coming filled.
      unfilled frame block n before.residence page.residence (ap (λ (x : Page). x.residence) (some_inj (sym after ∙ removes.pages p ∙ ap (option_map (regrouped old.opening.placement g.0 removes.parent)) was))) coming filled
  did_filled answer (Grown path is out e) = filled_same (ap (λ (s : State). s.pages) e)

-- ---- what is said of files

-- a write to this byte of a file
abbrev is_file_write : Event → Bool
is_file_write (event.Access t (File f q o) (Write b)) = true
is_file_write what = false

-- nothing else says anything of files
says_no_file : (what : Event) (answer : Reply) (f q o : ℕ) → is_file_write what ≡ false → says what answer (InFile f q o) ≡ Nothing
says_no_file (event.Access t (Virtual v o') Read) answer f q o other = refl
says_no_file (event.Access t (Virtual v o') (Write b)) (reply.Done byte hit) f q o other = refl
says_no_file (event.Access t (Virtual v o') (Write b)) answer f q o other = refl
says_no_file (event.Access t (File f' q' o') Read) answer f q o other = refl
says_no_file (event.Access t (File f' q' o') (Write b)) answer f q o other = cc
says_no_file (event.Spawn t g) reply.Ok f q o other = refl
says_no_file (event.Fork t child) reply.Ok f q o other = refl
says_no_file (event.Free t page) reply.Ok f q o other = refl
says_no_file what answer f q o other = refl

module _ (old new : State) (t : TaskId) (f' q' o' b : ℕ) where
  abbrev Unsaid : Reply → ℕ → ℕ → ℕ → Type 0
  Unsaid answer f q o = is_written (slot_of new f q) ≡ false → says (event.Access t (File f' q' o') (Write b)) answer (InFile f q o) ≡ Nothing

  -- the page is held, and dirty from then on
  writes : (p frame byte : ℕ) (page : Page) → file_page old.pages f' q' ≡ Some p → page_at old.pages p ≡ Some page → page.residence ≡ Held frame → page.content ≡ OfFile f' q'
      → Changes old.pages new.pages p (Some (touched page (Write b))) → (f q o : ℕ) → is_written (slot_of new f q) ≡ false → says_if (is_spot (InFile f' q' o') (InFile f q o)) (Byte b) ≡ Nothing
  writes p frame byte page found there held holds changes f q o unwritten = by_spot (is_spot (InFile f' q' o') (InFile f q o)) refl
    where
      stands : slot_of new f' q' ≡ Some (touched page (Write b))
      stands = ap (slot_in new.pages) (file_page-beside old.pages new.pages p _ changes f' q' (sym (ap (holds_page f' q') there)) ∙ found) ∙ changes.changed

      dirty : is_written (Some (touched page (Write b))) ≡ true
      dirty = ap (λ (r : Residence). is_held_at r && (not (is_anon page.content) || page.dirty)) held ∙ ap (λ (c : Content). not (is_anon c) || page.dirty) holds

      by_spot : (same : Bool) → is_spot (InFile f' q' o') (InFile f q o) ≡ same → says_if same (Byte b) ≡ Nothing
      by_spot false is = refl
      by_spot true is =
          let file = and_parts (f' == f) ((q' == q) && (o' == o)) is in
          let number = and_parts (q' == q) (o' == o) file.1 in
          let one : slot_of new f' q' ≡ slot_of new f q = ap (λ (x : ℕ). slot_of new x q') (eqb-true f' f file.0) ∙ ap (λ (x : ℕ). slot_of new f x) (eqb-true q' q number.0) in
          unlike (is_written (slot_of new f q)) (ap is_written (sym one ∙ stands) ∙ dirty) unwritten

  meets_unsaid : (g : ℕ) (answer : Reply) (meeting : Meeting) → MetFile old f' q' meeting → MeetStep old t.0 g (Write b) meeting answer new → (f q o : ℕ) → Unsaid answer f q o
  meets_unsaid g (reply.Done byte hit) (Hits p page frame) known h f q o = writes p frame byte page known.0 known.1 known.2 known.3 h.2 f q o
  meets_unsaid g (reply.Done byte hit) Transferring known h f q o = absurd (let wrong = h.0 in cc)
  meets_unsaid g (reply.Done byte hit) (NeedsRead f1 q1) known h f q o = by_over (over_in old g) (is_frame_free old) h
    where
      by_over : (low : Option ℕ) (free : Bool) → ChargeStep old low free (ReadsFile old f1 q1 g (reply.Done byte hit) new) (reply.Done byte hit) new → Unsaid (reply.Done byte hit) f q o
      by_over (Some low) free h = absurd (let wrong = h.0 in cc)
      by_over None true h = absurd (let wrong = h.fetch.answers in cc)
      by_over None false h = absurd (let wrong = h.0 in cc)
  meets_unsaid g (reply.Done byte hit) Dangling known h f q o = absurd h
  meets_unsaid g (reply.Done byte hit) meeting known h f q o = absurd known
  meets_unsaid g answer meeting known h f q o = λ unwritten. refl

  task_unsaid : (answer : Reply) (slot : Option Task) → TaskStep old slot (λ task. MeetStep old t.0 task.group.0 (Write b) (meets old t.0 (File f' q' o') (Write b)) answer new) answer new → (f q o : ℕ) → Unsaid answer f q o
  task_unsaid answer None h f q o = absurd h
  task_unsaid answer (Some task) h f q o = by_life task.life h
    where
      killed : (answer : Reply) → answer ≡ reply.Killed → Unsaid answer f q o
      killed (reply.Done byte hit) e = cc
      killed answer e = λ unwritten. refl

      by_life : (life : Life) → LifeStep old life (MeetStep old t.0 task.group.0 (Write b) (meets old t.0 (File f' q' o') (Write b)) answer new) answer new → Unsaid answer f q o
      by_life Live h = meets_unsaid task.group.0 answer (meets old t.0 (File f' q' o') (Write b)) (met_file old t.0 f' q' o' (Write b)) h f q o
      by_life Exited h = absurd h
      by_life Killed h = killed answer h.0

step_silent : (old new : State) (what : Event) (answer : Reply) → Step old what answer new → (f q o : ℕ) → is_written (slot_of new f q) ≡ false → says what answer (InFile f q o) ≡ Nothing
step_silent old new (event.Access t (File f' q' o') (Write b)) answer step f q o = task_unsaid old new t f' q' o' b answer (task_at old.tasks t.0) step f q o
step_silent old new (event.Access t (File f' q' o') Read) answer step f q o = λ unwritten. refl
step_silent old new (event.Access t (Virtual v o') op) answer step f q o = λ unwritten. says_no_file (event.Access t (Virtual v o') op) answer f q o refl
step_silent old new what answer step f q o = λ unwritten. says_no_file what answer f q o refl

-- what a step does to the pages of files
pub files_go : (old new : State) (what : Event) (answer : Reply) → AreFiled old → Step old what answer new → FilesGo old what answer new
files_go old new what answer files step = record { home = did_home old new files what answer (step_did old new what answer step); silent = step_silent old new what answer step; contents = did_contents old new what answer (step_did old new what answer step); arrives = λ p. did_filled old new what answer (step_did old new what answer step) p }
