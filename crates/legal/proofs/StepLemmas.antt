-- What each step leaves of where pages belong, and of a page that an access hits.
use Rattle.std.proofs.Common.{◌≡◌, inl, inr, ℕ, ◌<◌, ◌==◌, ◌&&◌, not, Bool, true, false, cond, List, [], ◌∷◌, length, Option, Some, None, refl, sym, ap, ◌∙◌, subst}
use Rattle.std.specs.Prelude.{IfSome}
use Rattle.std.proofs.Math.ListN.{get_or-eq_default}
use Rattle.std.proofs.lemmas.Bool.{cases_lt}
use Rattle.machine.specs.declared.id.TaskId.{TaskId}
use Rattle.machine.specs.declared.id.FrameId.{FrameId}
use Rattle.machine.specs.declared.record.Kind.{Kind}
use Rattle.machine.specs.declared.record.Life.{Life}
use Rattle.machine.specs.declared.record.Life.TheVariants.{Live, Exited, Killed}
use Rattle.machine.specs.declared.record.Task.{Task}
use Rattle.machine.specs.declared.entry.Entry.{Entry}
use Rattle.machine.specs.declared.event.Op.{Op}
use Rattle.machine.specs.declared.event.Op.TheVariants.{Read, Write}
use Rattle.machine.specs.declared.event.Place.{Place}
use Rattle.machine.specs.declared.event.Place.TheVariants.{Virtual, File}
use Rattle.machine.specs.declared.event.Event.{Event}
use Rattle.machine.specs.declared.event.Event.TheVariants as event
use Rattle.machine.specs.declared.reply.Reply.{Reply}
use Rattle.machine.specs.declared.reply.Reply.TheVariants as reply
use Rattle.machine.specs.Slots.{Changes, there_and}
use Rattle.machine.specs.Tree.{Node, no_node, is_live}
use Rattle.machine.specs.Pages.{Held, Residence, Coming, frame_at, is_some_number, home_block, Page, Pages, page_at, is_held, is_held_at, is_held_in, is_anon, in_transfer_at}
use Rattle.machine.specs.Tasks.{PageTables, mappers, task_at, group_of_task}
use Rattle.machine.specs.State.{Opening, State, page_numbers, over_in, is_frame_free}
use Rattle.machine.specs.Access.{Meeting, Unmapped, Hits, Transferring, NeedsPage, NeedsCopy, NeedsSwapIn, NeedsRead, Dangling, meets}
use Rattle.machine.specs.Step.{touched, ChargeStep, HitStep, UnmappedStep, MeetStep, LifeStep, TaskStep, still, new_page, Step}
use Rattle.machine.specs.Generations.{of_kind}
use Rattle.machine.specs.Legal.{Legal}
use Rattle.machine.specs.Lists.{HeldLists, is_held_of, shown_at}
use Rattle.machine.proofs.Values.{some_inj, unlike}
use Rattle.machine.proofs.TreeLemmas.{eq_cases}
use Rattle.legal.proofs.MoveLemmas.{Met, met, MetFile, met_file}
use Rattle.legal.proofs.Did.{is_rmdir, same_group, read_page, Did, Kept, Made, Moved, Cached, Dropped, Ended, Spawned, Forked, Freed, Attached, Removed, Grown, step_did}
use Rattle.page_lists.proofs.RegroupedLemmas.{held-framed, regrouped-some}
use Rattle.legal.proofs.SoundLemmas.{IsFit, legal-sound}
use Rattle.page_lists.proofs.HeldLemmas.{SamePlaces, HasLists}

-- ---- groups and types

-- two pages that are held, of one group and one content
abbrev AreAlike : Option Page → Option Page → Type 0
AreAlike before after = there_and is_held before ≡ true → there_and is_held after ≡ true → (g : ℕ) (kind : Kind) → there_and (is_held_of g kind) after ≡ there_and (is_held_of g kind) before

alike-same : (before after : Option Page) → after ≡ before → AreAlike before after
alike-same before after e was is g kind = ap (there_and (is_held_of g kind)) e

-- one page stands elsewhere
alike-moved : (page : Page) (to : ℕ) (dirty : Bool) (now : Residence) → (is_some_number (frame_at page.residence) ≡ true → to ≡ page.group)
    → AreAlike (Some page) (Some (record { content = page.content; group = to; dirty = dirty; residence = now }))
alike-moved page to dirty now stays was is g kind =
    ap (λ (n : ℕ). is_held_at now && ((n == g) && of_kind kind (is_anon page.content) (not (is_anon page.content)))) (stays (held-framed page.residence was))
    ∙ ap (λ (b : Bool). b && ((page.group == g) && of_kind kind (is_anon page.content) (not (is_anon page.content)))) (is ∙ sym was)

-- a page that goes is not held then
alike-gone : (before : Option Page) → AreAlike before None
alike-gone before was is g kind = unlike false is refl

-- a page that comes was not held before
alike-new : (after : Option Page) → AreAlike None after
alike-new after was is g kind = unlike false was refl

alike-still : (tables : PageTables) (p : ℕ) (before : Option Page) → AreAlike before (still tables p before)
alike-still tables p None = alike-gone None
alike-still tables p (Some page) = by_test (is_anon page.content && ((mappers tables p == 0) && not (in_transfer_at page.residence)))
  where
    by_test : (b : Bool) → AreAlike (Some page) (cond b None (Some page))
    by_test true = alike-gone (Some page)
    by_test false = alike-same (Some page) (Some page) refl

module _ (old new : State) where
  places : ((p : ℕ) → AreAlike (page_at old.pages p) (page_at new.pages p)) → SamePlaces old.pages new.pages
  places alike = record { same = alike }

  -- no page changes
  places-same : new.pages ≡ old.pages → SamePlaces old.pages new.pages
  places-same e = places (λ p. alike-same (page_at old.pages p) (page_at new.pages p) (ap (λ (ps : Pages). page_at ps p) e))

  -- one page changes
  places-one : (q : ℕ) (before to : Option Page) → page_at old.pages q ≡ before → Changes old.pages new.pages q to → AreAlike before to → SamePlaces old.pages new.pages
  places-one q before to there changes alike =
      places (λ p.
      elim (eq_cases p q) [
        | inl same ↦
            subst (λ (i : ℕ). AreAlike (page_at old.pages i) (page_at new.pages i)) (sym same)
            (subst (λ (o : Option Page). AreAlike o (page_at new.pages q)) (sym there) (subst (λ (o : Option Page). AreAlike before o) (sym changes.changed) alike))
        | inr other ↦ alike-same (page_at old.pages p) (page_at new.pages p) (changes.others p other)
      ])

  did-places : (what : Event) (answer : Reply) → is_rmdir what ≡ false → Did old what answer new → SamePlaces old.pages new.pages
  did-places what answer stays (Kept limits flags counted e) = places-same (ap (λ (s : State). s.pages) e)
  did-places what answer stays (Made t v p frame access out alive shared within free unused placed shown e) = let made : Option Page = Some (new_page (group_of_task old.tasks t) frame) in places-one p None made free placed (alike-new made)
  did-places what answer stays (Moved p page to dirty now counted there whose placed moves mapped e) = let moved : Option Page = Some (record { content = page.content; group = to; dirty = dirty; residence = now }) in places-one p (Some page) moved there placed (alike-moved page to dirty now (λ framed. same_group old what page to framed whose))
  did-places what answer stays (Cached t f q p frame ticket access out alive unread within free unused fresh filed placed e) = let read : Option Page = Some (read_page (group_of_task old.tasks t) f q (Coming frame (home_block old.opening.swap old.opening.files f q) ticket)) in places-one p None read free placed (alike-new read)
  did-places what answer stays (Dropped p page counted out there may_go went gone e) = places-one p (Some page) None there gone (alike-gone (Some page))
  did-places what answer stays (Ended is_gone ending counted out dead ends) =
      places (λ p. subst (λ (o : Option Page). AreAlike (page_at old.pages p) o) (sym (ends.pages p)) (alike-still new.page_tables p (page_at old.pages p)))
  did-places what answer stays (Spawned t g is sets shown e) = places-same (ap (λ (s : State). s.pages) e)
  did-places what answer stays (Forked t child is out alive sets copies e) = places-same (ap (λ (s : State). s.pages) e)
  did-places what answer stays (Freed t v is out alive frees) =
      places (λ p. subst (λ (o : Option Page). AreAlike (page_at old.pages p) o) (sym (frees.pages p)) (alike-still new.page_tables p (page_at old.pages p)))
  did-places what answer stays (Attached t g is out sets e) = places-same (ap (λ (s : State). s.pages) e)
  did-places what answer stays (Removed g is out removes) = unlike (is_rmdir what) (ap is_rmdir is) stays
  did-places what answer stays (Grown path is out e) = places-same (ap (λ (s : State). s.pages) e)

-- a page that is held before a step and after it keeps its type, and its group too, but where a group is removed
pub step-places : (old : State) (what : Event) (answer : Reply) (new : State) → is_rmdir what ≡ false → Step old what answer new → SamePlaces old.pages new.pages
step-places old what answer new stays step = did-places old new what answer stays (step_did old new what answer step)

-- a group more, and no page changes
pub mkdir-pages : (old new : State) (path : List ℕ) (answer : Reply) → Step old (event.Mkdir path) answer new → new.pages ≡ old.pages
mkdir-pages old new path reply.Ok h = ap (λ (s : State). s.pages) h
mkdir-pages old new path answer h = absurd h

-- ---- the groups of pages

live-below : (tree : List Node) (g : ℕ) → is_live tree g ≡ true → g < length tree
live-below tree g live =
    elim (cases_lt g (length tree)) [
      | inl below ↦ below
      | inr beyond ↦ absurd (let none = ap (λ (n : Node). n.live) (get_or-eq_default tree no_node beyond) in cc)
    ]

-- in whatever state a legal history ends, each page is of a group that has lists, where there are lists for each
pub legal-lists : (opening : Opening) (history : List Entry) (s : State) (held : HeldLists) → Legal opening history s → length held.groups ≡ length s.tree → HasLists s.pages held
legal-lists opening history s held legal same = record { group = λ p. below (page_at s.pages p) ((legal-sound opening history s legal).1.fits p) }
  where
    below : (slot : Option Page) → IfSome slot (IsFit opening.swap opening.files s.tree) → IfSome slot (λ page. page.group < length held.groups)
    below None fit = tt
    below (Some page) fit = subst (λ (n : ℕ). page.group < n) (sym same) (live-below s.tree page.group fit.live)

-- ---- the numbers of pages

-- each page has one of so many numbers
pub record IsNumbered (many : ℕ) (pages : Pages) : Type 0 where
  pub below : (p : ℕ) → IfSome (page_at pages p) (λ page. p < many)

numbered-still : (many : ℕ) (tables : PageTables) (p : ℕ) (slot : Option Page) → IfSome slot (λ page. p < many) → IfSome (still tables p slot) (λ page. p < many)
numbered-still many tables p None h = tt
numbered-still many tables p (Some page) h = by_test (is_anon page.content && ((mappers tables p == 0) && not (in_transfer_at page.residence)))
  where
    by_test : (b : Bool) → IfSome (cond b None (Some page)) (λ x. p < many)
    by_test true = tt
    by_test false = h

module _ (old new : State) (many : ℕ) (numbers : page_numbers old.opening ≡ many) (was : IsNumbered many old.pages) where
  numbered-same : new.pages ≡ old.pages → IsNumbered many new.pages
  numbered-same e = subst (IsNumbered many) (sym e) was

  numbered-one : (q : ℕ) (to : Option Page) → Changes old.pages new.pages q to → IfSome to (λ page. q < many) → IsNumbered many new.pages
  numbered-one q to changes below = record {
    below = λ p.
        elim (eq_cases p q) [
          | inl same ↦ subst (λ (i : ℕ). IfSome (page_at new.pages i) (λ page. i < many)) (sym same) (subst (λ (o : Option Page). IfSome o (λ page. q < many)) (sym changes.changed) below)
          | inr other ↦ subst (λ (o : Option Page). IfSome o (λ page. p < many)) (sym (changes.others p other)) (was.below p)
        ];
  }

  did-numbered : (what : Event) (answer : Reply) → Did old what answer new → IsNumbered many new.pages
  did-numbered what answer (Kept limits flags counted e) = numbered-same (ap (λ (s : State). s.pages) e)
  did-numbered what answer (Made t v p frame access out alive shared within free unused placed shown e) = numbered-one p _ placed (subst (λ (n : ℕ). p < n) numbers within)
  did-numbered what answer (Moved p page to dirty now counted there whose placed moves mapped e) = numbered-one p _ placed (subst (λ (o : Option Page). IfSome o (λ x. p < many)) there (was.below p))
  did-numbered what answer (Cached t f q p frame ticket access out alive unread within free unused fresh filed placed e) = numbered-one p _ placed (subst (λ (n : ℕ). p < n) numbers within)
  did-numbered what answer (Dropped p page counted out there may_go went gone e) = numbered-one p None gone tt
  did-numbered what answer (Ended is_gone ending counted out dead ends) =
      record { below = λ p. subst (λ (o : Option Page). IfSome o (λ page. p < many)) (sym (ends.pages p)) (numbered-still many new.page_tables p (page_at old.pages p) (was.below p)) }
  did-numbered what answer (Spawned t g is sets shown e) = numbered-same (ap (λ (s : State). s.pages) e)
  did-numbered what answer (Forked t child is out alive sets copies e) = numbered-same (ap (λ (s : State). s.pages) e)
  did-numbered what answer (Freed t v is out alive frees) =
      record { below = λ p. subst (λ (o : Option Page). IfSome o (λ page. p < many)) (sym (frees.pages p)) (numbered-still many new.page_tables p (page_at old.pages p) (was.below p)) }
  did-numbered what answer (Attached t g is out sets e) = numbered-same (ap (λ (s : State). s.pages) e)
  did-numbered what answer (Removed g is out removes) =
      record {
        below = λ p.
            subst (λ (o : Option Page). IfSome o (λ page. p < many)) (sym (removes.pages p))
            (regrouped-some (λ page. p < many) (λ page. p < many) old.opening.placement g.0 removes.parent (λ page lt. lt) (page_at old.pages p) (was.below p));
      }
  did-numbered what answer (Grown path is out e) = numbered-same (ap (λ (s : State). s.pages) e)

-- in whatever state a legal history ends, each page has one of the numbers that the opening gives
pub legal-numbered : (opening : Opening) (history : List Entry) (s : State) → Legal opening history s → IsNumbered (page_numbers opening) s.pages
legal-numbered opening [] s legal = subst (λ (x : State). IsNumbered (page_numbers opening) x.pages) (sym legal) (record { below = λ p. tt })
legal-numbered opening (entry ∷ earlier) s legal =
    did-numbered legal.0 s (page_numbers opening) (ap (λ (o : Opening). page_numbers o) (legal-sound opening earlier legal.0 legal.1).0) (legal-numbered opening earlier legal.0 legal.1) entry.event entry.reply
    (step_did legal.0 s entry.event entry.reply legal.2.steps)

-- ---- a hit

-- the frame that an answer says was hit
abbrev frame_hit : Reply → Option FrameId
frame_hit (reply.Done byte hit) = hit
frame_hit answer = None

-- the place shows a page, of a task's memory or of a file, which stands in this frame, before and after
pub record IsHit (old : State) (t : ℕ) (place : Place) (frame : FrameId) (new : State) : Type 0 where
  pub p : ℕ
  pub shown : shown_at old t place ≡ Some p
  pub before : is_held_in old.pages p ≡ true
  pub page : Page
  pub there : page_at new.pages p ≡ Some page
  pub stands : page.residence ≡ Held frame.0

module _ (old new : State) (t : TaskId) (place : Place) (op : Op) (frame : FrameId) (answer : Reply) (hit : frame_hit answer ≡ Some frame) where
  other_answer : {P : Type 0} (said : Reply) → frame_hit said ≡ None → answer ≡ said → P
  other_answer said other e = absurd (let wrong : None ≡ Some frame = sym (ap frame_hit e ∙ other) ∙ hit in cc)

  charged : (low : Option ℕ) (free : Bool) (Granted : Type 0) → (Granted → IsHit old t.0 place frame new) → ChargeStep old low free Granted answer new → IsHit old t.0 place frame new
  charged (Some low) free Granted granted h = other_answer _ refl h.0
  charged None true Granted granted h = granted h
  charged None false Granted granted h = other_answer _ refl h.0

  unmapped : (said : Reply) → answer ≡ said → UnmappedStep old said new → IsHit old t.0 place frame new
  unmapped (reply.Done byte at) e h = other_answer (reply.Done byte None) refl (e ∙ ap (reply.Done byte) h.0)
  unmapped said e h = absurd h

  same_frame : (f : ℕ) (at : Option FrameId) → at ≡ Some (record { 0 = f }) → at ≡ Some frame → f ≡ frame.0
  same_frame f at one two = ap (λ (x : FrameId). x.0) (some_inj (sym one ∙ two))

  hits : (p : ℕ) (page : Page) (f : ℕ) (op : Op) (said : Reply) → answer ≡ said → shown_at old t.0 place ≡ Some p → page_at old.pages p ≡ Some page → page.residence ≡ Held f → HitStep old p page f op said new → IsHit old t.0 place frame new
  hits p page f Read (reply.Done byte at) e shown there held h =
      record {
        p = p;
        shown = shown;
        before = ap (there_and is_held) there ∙ ap is_held_at held;
        page = page;
        there = ap (λ (s : State). page_at s.pages p) h.1 ∙ there;
        stands = held ∙ ap Held (same_frame f at h.0 (sym (ap frame_hit e) ∙ hit));
      }
  hits p page f (Write b) (reply.Done byte at) e shown there held h =
      record {
        p = p;
        shown = shown;
        before = ap (there_and is_held) there ∙ ap is_held_at held;
        page = touched page (Write b);
        there = h.2.changed;
        stands = held ∙ ap Held (same_frame f at h.1 (sym (ap frame_hit e) ∙ hit));
      }
  hits p page f op said e shown there held h = absurd h

  -- a page that it hits is one that the place shows, in its frame
  shows_hit : (p : ℕ) (page : Page) (f : ℕ) → meets old t.0 place op ≡ Hits p page f → (shown_at old t.0 place ≡ Some p) × (page_at old.pages p ≡ Some page) × (page.residence ≡ Held f)
  shows_hit p page f is = by_place place is
    where
      by_place : (place : Place) → meets old t.0 place op ≡ Hits p page f → (shown_at old t.0 place ≡ Some p) × (page_at old.pages p ≡ Some page) × (page.residence ≡ Held f)
      by_place (Virtual v o) e = let found : Met old t.0 v op (Hits p page f) = subst (Met old t.0 v op) e (met old t.0 v o op) in (found.0, found.1, found.2)
      by_place (File file q o) e = let found : MetFile old file q (Hits p page f) = subst (MetFile old file q) e (met_file old t.0 file q o op) in (found.0, found.1, found.2)

  meeting : (g : ℕ) (met : Meeting) → meets old t.0 place op ≡ met → MeetStep old t.0 g op met answer new → IsHit old t.0 place frame new
  meeting g Unmapped is h = unmapped answer refl h
  meeting g (Hits p page f) is h = let found = shows_hit p page f is in hits p page f op answer refl found.0 found.1 found.2 h
  meeting g Transferring is h = other_answer _ refl h.0
  meeting g (NeedsPage w) is h = charged (over_in old g) (is_frame_free old) _ (λ made. other_answer _ refl made.answers) h
  meeting g (NeedsCopy w) is h = charged (over_in old g) (is_frame_free old) _ (λ made. other_answer _ refl made.answers) h
  meeting g (NeedsSwapIn p page block) is h = charged (over_in old _) (is_frame_free old) _ (λ begun. other_answer _ refl begun.answers) h
  meeting g (NeedsRead f q) is h = charged (over_in old g) (is_frame_free old) _ (λ begun. other_answer _ refl begun.fetch.answers) h
  meeting g Dangling is h = absurd h

  access : (slot : Option Task) → TaskStep old slot (λ task. MeetStep old t.0 task.group.0 op (meets old t.0 place op) answer new) answer new → IsHit old t.0 place frame new
  access None h = absurd h
  access (Some task) h = by_life task.life h
    where
      by_life : (life : Life) → LifeStep old life (MeetStep old t.0 task.group.0 op (meets old t.0 place op) answer new) answer new → IsHit old t.0 place frame new
      by_life Live h = meeting task.group.0 (meets old t.0 place op) refl h
      by_life Exited h = absurd h
      by_life Killed h = other_answer _ refl h.0

-- an access that is answered by a hit hits the page that its place shows, in the frame that the answer says
pub access-hits : (old new : State) (t : TaskId) (place : Place) (op : Op) (byte : ℕ) (frame : FrameId) → Step old (event.Access t place op) (reply.Done byte (Some frame)) new → IsHit old t.0 place frame new
access-hits old new t place op byte frame step = access old new t place op frame (reply.Done byte (Some frame)) refl (task_at old.tasks t.0) step
