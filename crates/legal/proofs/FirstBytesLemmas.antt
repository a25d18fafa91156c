-- What files had at first is what their first arrivals brought: nothing writes to a page of a file before it arrived.
use Rattle.std.proofs.Common.{◌≡◌, inl, inr, ℕ, ◌<◌, ◌==◌, ◌&&◌, Bool, true, false, cond, List, [], ◌∷◌, Option, Some, None, eqb-true, eq-eqb, refl, sym, ap, ◌∙◌, subst}
use Rattle.std.specs.Prelude.{◌⊎◌, not, nat_lt, is_some, option_map, slice_index}
use Rattle.std.proofs.lemmas.Bool.{and_parts, ltb-true}
use Rattle.machine.specs.declared.id.TaskId.{TaskId}
use Rattle.machine.specs.declared.id.FrameId.{FrameId}
use Rattle.machine.specs.declared.record.Life.{Life}
use Rattle.machine.specs.declared.record.Life.TheVariants.{Live, Exited, Killed}
use Rattle.machine.specs.declared.record.Task.{Task}
use Rattle.machine.specs.declared.event.Event.{Event}
use Rattle.machine.specs.declared.event.Event.TheVariants as event
use Rattle.machine.specs.declared.event.Op.TheVariants.{Read, Write}
use Rattle.machine.specs.declared.event.Place.TheVariants.{Virtual, File}
use Rattle.machine.specs.declared.reply.Reply.{Reply}
use Rattle.machine.specs.declared.reply.Reply.TheVariants as reply
use Rattle.machine.specs.declared.entry.Entry.{Entry}
use Rattle.machine.specs.declared.refusal.Refusal.TheVariants.{BadPlace}
use Rattle.machine.specs.Slots.{Changes}
use Rattle.machine.specs.Pages.{OfFile, is_anon, Residence, Held, Coming, Going, Away, Page, Pages, page_at, is_held_at, ticket_at, is_ticket_taken, home_block, IsAtHome, IsFiledAs}
use Rattle.machine.specs.Tasks.{PageTables, task_at}
use Rattle.machine.specs.State.{Opening, State, over_in, is_frame_free}
use Rattle.machine.specs.Access.{page_size, is_place, Meeting, Hits, Transferring, NeedsRead, Dangling, meets}
use Rattle.machine.specs.Step.{ChargeStep, ReadsFile, MeetStep, LifeStep, TaskStep, still, regrouped, Step}
use Rattle.machine.specs.History.{Spot, InTask, InFile, Says, Byte, As, is_spot, spot_of, says_if, says, follow, at_offset, at_first, last, Fetched, fetched_by, fetch_of, HoldsLast, IsHonest, Honest, IsRight, Right}
use Rattle.machine.specs.FirstBytes.{is_of_file, is_read_of, brought_by, or_else, first_arrival, byte_or_zero, files_of, first_of}
use Rattle.machine.specs.Refusals.{first_cause, life_refusal, task_refusal, refusal}
use Rattle.machine.specs.Legal.{Legal}
use Rattle.machine.proofs.Values.{some_inj, never_some, unlike}
use Rattle.machine.proofs.TreeLemmas.{eq_cases}
use Rattle.legal.proofs.SoundLemmas.{legal-files}
use Rattle.legal.proofs.ShownLemmas.{shows_pages-legal}
use Rattle.legal.proofs.MoveLemmas.{MetFile, met_file}
use Rattle.legal.proofs.Did.{Arrives, Did, Kept, Made, Moved, Cached, Dropped, Ended, Spawned, Forked, Freed, Attached, Removed, Grown, step_did}
use Rattle.legal.proofs.FileSteps.{slot_of, slot_of-there, is_written, is_filled_at}
use Rattle.legal.proofs.Effects.{Fetches, ReadsIn, Stood, InFrame, ItStays, ItFetches, ItReads, ItLeaves, OnBlock, Effect}
use Rattle.legal.proofs.SharedLemmas.{legal-effect, last-unwritten, fetch_other, ticket_taken}

-- ---- small facts

or_else-left : (one other : Option (List ℕ)) → is_some one ≡ true → is_some (or_else one other) ≡ true
or_else-left None other e = cc
or_else-left (Some bytes) other e = refl

or_else-right : (one other : Option (List ℕ)) → is_some other ≡ true → is_some (or_else one other) ≡ true
or_else-right None other e = e
or_else-right (Some bytes) other e = refl

or_else-none : (one other : Option (List ℕ)) → or_else one other ≡ None → one ≡ None
or_else-none None other e = refl
or_else-none (Some bytes) other e = cc

of_file-own : (f q o : ℕ) → is_of_file f q (InFile f q o) ≡ true
of_file-own f q o = ap (λ (b : Bool). b && (q == q)) (eq-eqb f f refl) ∙ eq-eqb q q refl

-- a byte of this page of the file, at another offset
of_file-at : (f q o : ℕ) (spot : Spot) → is_of_file f q spot ≡ true → at_offset o spot ≡ InFile f q o
of_file-at f q o (InTask t v o') is = cc
of_file-at f q o (InFile f' q' o') is =
    let both = and_parts (f' == f) (q' == q) is in
    ap (λ (x : ℕ). InFile x q' o) (eqb-true f' f both.0) ∙ ap (λ (x : ℕ). InFile f x o) (eqb-true q' q both.1)

-- ---- what last writes are by what files had

-- what an entry makes of a byte, where the bytes of tasks were one, and this byte too
follow-alike : (before before' : Spot → ℕ) (what : Event) (answer : Reply) (spot : Spot) → ((t v o : ℕ) → before (InTask t v o) ≡ before' (InTask t v o)) → before spot ≡ before' spot
    → follow (says what answer spot) before spot ≡ follow (says what answer spot) before' spot
follow-alike before before' what answer spot tasks same = by_entry what answer spot same
  where
    if_so : (spot : Spot) (b : Bool) (said : Says) → before spot ≡ before' spot → follow said before spot ≡ follow said before' spot → follow (says_if b said) before spot ≡ follow (says_if b said) before' spot
    if_so spot true said same alike = alike
    if_so spot false said same alike = same

    by_entry : (what : Event) (answer : Reply) (spot : Spot) → before spot ≡ before' spot → follow (says what answer spot) before spot ≡ follow (says what answer spot) before' spot
    by_entry (event.Access t place (Write b)) (reply.Done byte hit) spot same = if_so spot (is_spot (spot_of t.0 place) spot) (Byte b) same refl
    by_entry (event.Spawn t g) reply.Ok (InTask t' v o) same = if_so (InTask t' v o) (t.0 == t') (Byte 0) same refl
    by_entry (event.Spawn t g) reply.Ok (InFile f q o) same = same
    by_entry (event.Fork t child) reply.Ok (InTask t' v o) same = if_so (InTask t' v o) (child.0 == t') (As (InTask t.0 v o)) same (tasks t.0 v o)
    by_entry (event.Fork t child) reply.Ok (InFile f q o) same = same
    by_entry (event.Free t page) reply.Ok (InTask t' v o) same = if_so (InTask t' v o) (t.0 == t') (says_if (page == v) (Byte 0)) same (if_so (InTask t' v o) (page == v) (Byte 0) same refl)
    by_entry (event.Free t page) reply.Ok (InFile f q o) same = same
    by_entry what answer spot same = same

-- the bytes of tasks are the same whatever files had
last-task : (a b : ℕ → ℕ → ℕ → ℕ) (history : List Entry) (t v o : ℕ) → last (at_first a) history (InTask t v o) ≡ last (at_first b) history (InTask t v o)
last-task a b [] t v o = refl
last-task a b (entry ∷ earlier) t v o =
    follow-alike (last (at_first a) earlier) (last (at_first b) earlier) entry.event entry.reply (InTask t v o) (λ t' v' o'. last-task a b earlier t' v' o') (last-task a b earlier t v o)

-- and a byte of a file is by what this byte was at first alone
last-file_byte : (a b : ℕ → ℕ → ℕ → ℕ) (history : List Entry) (f q o : ℕ) → a f q o ≡ b f q o → last (at_first a) history (InFile f q o) ≡ last (at_first b) history (InFile f q o)
last-file_byte a b [] f q o same = same
last-file_byte a b (entry ∷ earlier) f q o same =
    follow-alike (last (at_first a) earlier) (last (at_first b) earlier) entry.event entry.reply (InFile f q o) (λ t v o'. last-task a b earlier t v o') (last-file_byte a b earlier f q o same)

-- ---- what is read in

-- the read-in under the ticket of a page of a file that is being read in is of this page of the file
legal-reads : (opening : Opening) (history : List Entry) (s : State) → Legal opening history s
    → (p frame block ticket f q : ℕ) (page : Page) → page_at s.pages p ≡ Some page → page.residence ≡ Coming frame block ticket → page.content ≡ OfFile f q → is_read_of f q (fetch_of ticket history) ≡ true
legal-reads opening [] s legal p frame block ticket f q page there coming holds = (let none : page_at s.pages p ≡ None = ap (λ (x : State). page_at x.pages p) legal in cc)
legal-reads opening (entry ∷ earlier) s legal p frame block ticket f q page there coming holds =
    by_stood (legal-reads opening earlier legal.0 legal.1 p frame block ticket f q) (effect.pages.stood p page there)
  where
    effect : Effect legal.0 entry.event entry.reply s
    effect = legal-effect opening entry earlier s legal

    stayed : (before : Page) → page_at legal.0.pages p ≡ Some before → before.residence ≡ Coming frame block ticket → is_read_of f q (fetch_of ticket earlier) ≡ true → is_read_of f q (fetch_of ticket (entry ∷ earlier)) ≡ true
    stayed before was flew h =
        ap (is_read_of f q)
        (fetch_other ticket entry.event entry.reply earlier (fetch_of ticket earlier)
        (λ given. unlike (is_ticket_taken legal.0.pages ticket) (ticket_taken legal.0 p ticket before was (ap ticket_at flew)) (effect.fresh ticket given))) ∙ h

    -- memory holds no page of a file
    fetches : Fetches legal.0 entry.event entry.reply p page.residence → is_read_of f q (fetch_of ticket (entry ∷ earlier)) ≡ true
    fetches h =
        unlike (is_anon page.content)
        (ap is_anon (effect.files.contents p h.before page h.there there) ∙ (shows_pages-legal opening earlier legal.0 legal.1).memory h.task.0 h.v p h.before h.mapped h.there) (ap is_anon holds)

    reads : ReadsIn legal.0 entry.event entry.reply page → is_read_of f q (fetch_of ticket (entry ∷ earlier)) ≡ true
    reads h =
        let one : OfFile f q ≡ OfFile h.file h.q = sym holds ∙ h.holds in
        let file : h.file ≡ f = cc in
        let number : h.q ≡ q = cc in
        ap (is_read_of f q)
        (ap (λ (what : Event). fetched_by ticket what entry.reply earlier (fetch_of ticket earlier)) h.is
        ∙ ap (λ (answer : Reply). fetched_by ticket (event.Access h.task (File h.file h.q h.offset) h.op) answer earlier (fetch_of ticket earlier)) h.answers
        ∙ ap (λ (b : Bool). cond b (Some (record { spot = InFile h.file h.q h.offset; earlier = earlier })) (fetch_of ticket earlier)) (eq-eqb h.ticket.0 ticket (some_inj (ap ticket_at (sym h.coming ∙ coming)))))
        ∙ ap (λ (x : ℕ). is_of_file f q (InFile x h.q h.offset)) file ∙ ap (λ (x : ℕ). is_of_file f q (InFile f x h.offset)) number ∙ of_file-own f q h.offset

    by_stood : ((before : Page) → page_at legal.0.pages p ≡ Some before → before.residence ≡ Coming frame block ticket → before.content ≡ OfFile f q → is_read_of f q (fetch_of ticket earlier) ≡ true)
        → Stood legal.0 entry.event entry.reply p page → is_read_of f q (fetch_of ticket (entry ∷ earlier)) ≡ true
    by_stood before (InFrame frame' is) = (let e : Held frame' ≡ Coming frame block ticket = sym is ∙ coming in cc)
    by_stood before (ItStays h) = (let flew = sym h.same ∙ coming in stayed h.before h.there flew (before h.before h.there flew (sym h.content ∙ holds)))
    by_stood before (ItFetches h) = fetches h
    by_stood before (ItReads h) = reads h
    by_stood before (ItLeaves h) = (let e : Going h.frame h.block h.ticket.0 ≡ Coming frame block ticket = sym h.going ∙ coming in cc)
    by_stood before (OnBlock direction h) = (let e : Away h.block ≡ Coming frame block ticket = sym h.away ∙ coming in cc)

-- ---- pages of files come without their bytes

module _ (old new : State) where
  -- a page of a file that stands where none stood has no bytes yet
  abbrev ComesEmpty : ℕ → Type 0
  ComesEmpty p = (page : Page) → page_at old.pages p ≡ None → page_at new.pages p ≡ Some page → is_anon page.content ≡ false → is_filled_at page.residence ≡ false

  empty_same : new.pages ≡ old.pages → (p : ℕ) → ComesEmpty p
  empty_same e p page none is of_file = never_some (page_at old.pages p) none (sym (ap (λ (ps : Pages). page_at ps p) e) ∙ is)

  empty_one : (n : ℕ) (to : Option Page) → Changes old.pages new.pages n to
      → ((page : Page) → page_at old.pages n ≡ None → to ≡ Some page → is_anon page.content ≡ false → is_filled_at page.residence ≡ false) → (p : ℕ) → ComesEmpty p
  empty_one n to changes here p page none is of_file =
      elim (eq_cases p n) [
        | inl same ↦ here page (ap (page_at old.pages) (sym same) ∙ none) (sym changes.changed ∙ ap (page_at new.pages) (sym same) ∙ is) of_file
        | inr other ↦ never_some (page_at old.pages p) none (sym (changes.others p other) ∙ is)
      ]

  empty_still : (tables : PageTables) → ((p : ℕ) → page_at new.pages p ≡ still tables p (page_at old.pages p)) → (p : ℕ) → ComesEmpty p
  empty_still tables pages p page none is of_file = never_some (page_at new.pages p) (pages p ∙ ap (still tables p) none) is

  did_empty : (what : Event) (answer : Reply) → Did old what answer new → (p : ℕ) → ComesEmpty p
  did_empty what answer (Kept limits flags counted e) = empty_same (ap (λ (s : State). s.pages) e)
  did_empty what answer (Made t v p frame access out alive shared within free unused placed shown e) =
      empty_one p _ placed (λ page none is of_file. unlike (is_anon page.content) (ap (λ (x : Page). is_anon x.content) (sym (some_inj is))) of_file)
  did_empty what answer (Moved p page to dirty now counted there whose placed moves mapped e) = empty_one p _ placed (λ after none is of_file. never_some (page_at old.pages p) none there)
  did_empty what answer (Cached t f q p frame ticket access out alive unread within free unused fresh filed placed e) =
      empty_one p _ placed (λ page none is of_file. ap (λ (x : Page). is_filled_at x.residence) (sym (some_inj is)))
  did_empty what answer (Dropped p page counted out there may_go went gone e) = empty_one p None gone (λ after none is of_file. cc)
  did_empty what answer (Ended is_gone ending counted out dead ends) = empty_still new.page_tables ends.pages
  did_empty what answer (Spawned t g is sets shown e) = empty_same (ap (λ (s : State). s.pages) e)
  did_empty what answer (Forked t child is out alive sets copies e) = empty_same (ap (λ (s : State). s.pages) e)
  did_empty what answer (Freed t v is out alive frees) = empty_still new.page_tables frees.pages
  did_empty what answer (Attached t g is out sets e) = empty_same (ap (λ (s : State). s.pages) e)
  did_empty what answer (Removed g is out removes) = λ p page none after of_file.
      never_some (page_at new.pages p) (removes.pages p ∙ ap (option_map (regrouped old.opening.placement g.0 removes.parent)) none) after
  did_empty what answer (Grown path is out e) = empty_same (ap (λ (s : State). s.pages) e)

-- ---- arrivals

-- a page of a file that has its bytes arrived
pub legal-arrived : (opening : Opening) (history : List Entry) (s : State) → Legal opening history s
    → (f q p : ℕ) (page : Page) → page_at s.pages p ≡ Some page → page.content ≡ OfFile f q → is_filled_at page.residence ≡ true → is_some (first_arrival f q history) ≡ true
legal-arrived opening [] s legal f q p page there holds filled = (let none : page_at s.pages p ≡ None = ap (λ (x : State). page_at x.pages p) legal in cc)
legal-arrived opening (entry ∷ earlier) s legal f q p page there holds filled = by_slot (legal-arrived opening earlier legal.0 legal.1 f q p) (page_at legal.0.pages p) refl
  where
    effect : Effect legal.0 entry.event entry.reply s
    effect = legal-effect opening entry earlier s legal

    -- it arrived now, or before
    arrives : (frame block n : ℕ) (before : Page) → page_at legal.0.pages p ≡ Some before → before.content ≡ OfFile f q → before.residence ≡ Coming frame block n → Arrives entry.event n
        → is_some (first_arrival f q (entry ∷ earlier)) ≡ true
    arrives frame block n before was held coming h =
        or_else-right (first_arrival f q earlier) (brought_by f q entry.event earlier)
        (ap is_some
        (ap (λ (what : Event). brought_by f q what earlier) h.is
        ∙ ap (λ (ticket : ℕ). cond (is_read_of f q (fetch_of ticket earlier)) (Some h.bytes) None) h.number
        ∙ ap (λ (b : Bool). cond b (Some h.bytes) None) (legal-reads opening earlier legal.0 legal.1 p frame block n f q before was coming held)))

    by_residence : (before : Page) (r : Residence) → page_at legal.0.pages p ≡ Some before → before.content ≡ OfFile f q → before.residence ≡ r → (is_filled_at r ≡ true → is_some (first_arrival f q earlier) ≡ true)
        → is_some (first_arrival f q (entry ∷ earlier)) ≡ true
    by_residence before (Held frame) was held stood arrived = or_else-left (first_arrival f q earlier) (brought_by f q entry.event earlier) (arrived refl)
    by_residence before (Coming frame block n) was held stood arrived = arrives frame block n before was held stood (effect.files.arrives p frame block n before page was there stood filled)
    by_residence before (Going frame block n) was held stood arrived = or_else-left (first_arrival f q earlier) (brought_by f q entry.event earlier) (arrived refl)
    by_residence before (Away block) was held stood arrived =
        absurd
        (subst (IsAtHome (home_block legal.0.opening.swap legal.0.opening.files f q) before.dirty) stood
        (subst (IsFiledAs legal.0.opening.swap legal.0.opening.files before) held ((legal-files opening earlier legal.0 legal.1).filed p before was)).1)

    by_slot : ((before : Page) → page_at legal.0.pages p ≡ Some before → before.content ≡ OfFile f q → is_filled_at before.residence ≡ true → is_some (first_arrival f q earlier) ≡ true)
        → (slot : Option Page) → page_at legal.0.pages p ≡ slot → is_some (first_arrival f q (entry ∷ earlier)) ≡ true
    by_slot arrived None was =
        unlike (is_filled_at page.residence) filled
        (did_empty legal.0 s entry.event entry.reply (step_did legal.0 s entry.event entry.reply legal.2.steps) p page was there (ap is_anon holds))
    by_slot arrived (Some before) was =
        let held : before.content ≡ OfFile f q = sym (effect.files.contents p before page was there) ∙ holds in
        by_residence before before.residence was held refl (arrived before was held)

-- before a page of a file arrived nothing was written to it
pub last-unarrived : (opening : Opening) (first : Spot → ℕ) (history : List Entry) (s : State) → Legal opening history s
    → (f q o : ℕ) → first_arrival f q history ≡ None → last first history (InFile f q o) ≡ first (InFile f q o)
last-unarrived opening first [] s legal f q o none = refl
last-unarrived opening first (entry ∷ earlier) s legal f q o none =
    last-unwritten first opening entry earlier s legal f q o (unwritten (slot_of s f q) refl)
    ∙ last-unarrived opening first earlier legal.0 legal.1 f q o (or_else-none (first_arrival f q earlier) (brought_by f q entry.event earlier) none)
  where
    by_residence : (page : Page) (r : Residence) → slot_of s f q ≡ Some page → page.residence ≡ r → (is_held_at r && page.dirty) ≡ false
    by_residence page (Held frame) is stands =
        let found = slot_of-there s f q page is in
        unlike (is_some (first_arrival f q (entry ∷ earlier))) (legal-arrived opening (entry ∷ earlier) s legal f q found.0 page found.2 found.3 (ap is_filled_at stands)) (ap is_some none)
    by_residence page (Coming frame block ticket) is stands = refl
    by_residence page (Going frame block ticket) is stands = refl
    by_residence page (Away block) is stands = refl

    unwritten : (slot : Option Page) → slot_of s f q ≡ slot → is_written (slot_of s f q) ≡ false
    unwritten None is = ap is_written is
    unwritten (Some page) is = ap is_written is ∙ by_residence page page.residence is refl

-- ---- read-ins before the first arrival

-- a read-in began at an older entry, or at this one
fetched-cases : (ticket : ℕ) (what : Event) (answer : Reply) (earlier : List Entry) (others : Option Fetched) (fetch : Fetched) → fetched_by ticket what answer earlier others ≡ Some fetch
    → (others ≡ Some fetch) ⊎ (fetch.earlier ≡ earlier)
fetched-cases ticket (event.Access t place op) (reply.Fetch n) earlier others fetch is = by_test (n.0 == ticket) is
  where
    by_test : (b : Bool) → cond b (Some (record { spot = spot_of t.0 place; earlier = earlier })) others ≡ Some fetch → (others ≡ Some fetch) ⊎ (fetch.earlier ≡ earlier)
    by_test true e = inr (ap (λ (x : Fetched). x.earlier) (sym (some_inj e)))
    by_test false e = inl e
fetched-cases ticket what answer earlier others fetch is = inl is

-- where a page of a file did not arrive yet, it was what it was at first when the read-in began
fetch-unarrived : (opening : Opening) (first : Spot → ℕ) (history : List Entry) (s : State) → Legal opening history s
    → (ticket f q o : ℕ) (fetch : Fetched) → fetch_of ticket history ≡ Some fetch → first_arrival f q history ≡ None → last first fetch.earlier (InFile f q o) ≡ first (InFile f q o)
fetch-unarrived opening first [] s legal ticket f q o fetch is none = cc
fetch-unarrived opening first (entry ∷ earlier) s legal ticket f q o fetch is none =
    by_case (fetch-unarrived opening first earlier legal.0 legal.1 ticket f q o fetch) (fetched-cases ticket entry.event entry.reply earlier (fetch_of ticket earlier) fetch is)
  where
    none_before : first_arrival f q earlier ≡ None
    none_before = or_else-none (first_arrival f q earlier) (brought_by f q entry.event earlier) none

    by_case : (fetch_of ticket earlier ≡ Some fetch → first_arrival f q earlier ≡ None → last first fetch.earlier (InFile f q o) ≡ first (InFile f q o)) → (fetch_of ticket earlier ≡ Some fetch) ⊎ (fetch.earlier ≡ earlier)
        → last first fetch.earlier (InFile f q o) ≡ first (InFile f q o)
    by_case before (inl older) = before older none_before
    by_case before (inr now) = ap (λ (h : List Entry). last first h (InFile f q o)) now ∙ last-unarrived opening first earlier legal.0 legal.1 f q o none_before

-- where each arrival brought what was last written, the first of a page of a file brought what the file had at first
pub first-arrived : (opening : Opening) (history : List Entry) (s : State) → Legal opening history s → (files : ℕ → ℕ → ℕ → ℕ) → Honest (at_first files) history
    → (f q o : ℕ) (bytes : List ℕ) → first_arrival f q history ≡ Some bytes → o < page_size → slice_index bytes o ≡ files f q o
first-arrived opening [] s legal files honest f q o bytes is below = cc
first-arrived opening (entry ∷ earlier) s legal files honest f q o bytes is below =
    by_first (first-arrived opening earlier legal.0 legal.1 files honest.0 f q o bytes) (first_arrival f q earlier) refl is
  where
    by_fetch : (ticket : ℕ) (brought : List ℕ) → first_arrival f q earlier ≡ None → (slot : Option Fetched) → fetch_of ticket earlier ≡ slot → cond (is_read_of f q slot) (Some brought) None ≡ Some bytes
        → HoldsLast (at_first files) brought slot → slice_index bytes o ≡ files f q o
    by_fetch ticket brought none None began e holds = absurd holds
    by_fetch ticket brought none (Some fetch) began e holds = by_test (is_of_file f q fetch.spot) refl e
      where
        by_test : (b : Bool) → is_of_file f q fetch.spot ≡ b → cond b (Some brought) None ≡ Some bytes → slice_index bytes o ≡ files f q o
        by_test true of_file e =
            ap (λ (x : List ℕ). slice_index x o) (sym (some_inj e)) ∙ holds o below ∙ ap (last (at_first files) fetch.earlier) (of_file-at f q o fetch.spot of_file)
            ∙ fetch-unarrived opening (at_first files) earlier legal.0 legal.1 ticket f q o fetch began none
        by_test false of_file e = cc

    brings : first_arrival f q earlier ≡ None → (what : Event) → brought_by f q what earlier ≡ Some bytes → IsHonest (at_first files) earlier what → slice_index bytes o ≡ files f q o
    brings none (event.Arrived ticket brought) e holds = by_fetch ticket.0 brought none (fetch_of ticket.0 earlier) refl e holds
    brings none what e holds = cc

    by_first : (first_arrival f q earlier ≡ Some bytes → o < page_size → slice_index bytes o ≡ files f q o) → (one : Option (List ℕ)) → first_arrival f q earlier ≡ one
        → or_else one (brought_by f q entry.event earlier) ≡ Some bytes → slice_index bytes o ≡ files f q o
    by_first before (Some older) was e = before (was ∙ e) below
    by_first before None was e = brings was entry.event e honest.1

-- ---- honest histories

-- the files had the same bytes in each page that arrived
abbrev Agrees : (ℕ → ℕ → ℕ → ℕ) → (ℕ → ℕ → ℕ → ℕ) → List Entry → Type 0
Agrees a b history = (f q o : ℕ) → is_some (first_arrival f q history) ≡ true → o < page_size → a f q o ≡ b f q o

-- a history is honest for what files had at first by the pages that arrived alone
honest-alike : (a b : ℕ → ℕ → ℕ → ℕ) (history : List Entry) → Agrees a b history → Honest (at_first a) history → Honest (at_first b) history
honest-alike a b [] agrees honest = tt
honest-alike a b (entry ∷ earlier) agrees honest = (
  honest-alike a b earlier (λ f q o arrived below. agrees f q o (or_else-left (first_arrival f q earlier) (brought_by f q entry.event earlier) arrived) below) honest.0,
  by_event entry.event (λ f q o brought below. agrees f q o (or_else-right (first_arrival f q earlier) (brought_by f q entry.event earlier) brought) below) honest.1,
)
  where
    by_spot : (spot : Spot) (older : List Entry) (o : ℕ) → ((f q : ℕ) → is_of_file f q spot ≡ true → a f q o ≡ b f q o) → last (at_first a) older (at_offset o spot) ≡ last (at_first b) older (at_offset o spot)
    by_spot (InTask t v o') older o same = last-task a b older t v o
    by_spot (InFile f q o') older o same = last-file_byte a b older f q o (same f q (of_file-own f q o'))

    by_fetch : (bytes : List ℕ) (slot : Option Fetched) → ((f q o : ℕ) → is_some (cond (is_read_of f q slot) (Some bytes) None) ≡ true → o < page_size → a f q o ≡ b f q o)
        → HoldsLast (at_first a) bytes slot → HoldsLast (at_first b) bytes slot
    by_fetch bytes None same holds = holds
    by_fetch bytes (Some fetch) same holds = λ o below.
        holds o below ∙ by_spot fetch.spot fetch.earlier o (λ f q of_file. same f q o (ap (λ (x : Bool). is_some (cond x (Some bytes) None)) of_file) below)

    by_event : (what : Event) → ((f q o : ℕ) → is_some (brought_by f q what earlier) ≡ true → o < page_size → a f q o ≡ b f q o) → IsHonest (at_first a) earlier what → IsHonest (at_first b) earlier what
    by_event (event.Arrived ticket bytes) same holds = by_fetch bytes (fetch_of ticket.0 earlier) same holds
    by_event what same holds = holds

-- where it is honest, what it tells that files had is what they had, in each page that arrived
agrees-first : (opening : Opening) (history : List Entry) (s : State) → Legal opening history s → (files : ℕ → ℕ → ℕ → ℕ) → Honest (at_first files) history → Agrees files (files_of history) history
agrees-first opening history s legal files honest f q o arrived below = by_first (first_arrival f q history) refl arrived
  where
    by_first : (one : Option (List ℕ)) → first_arrival f q history ≡ one → is_some one ≡ true → files f q o ≡ byte_or_zero one o
    by_first None is arrived = cc
    by_first (Some bytes) is arrived = sym (first-arrived opening history s legal files honest f q o bytes is below)

-- where each arrival brought what was last written, whatever files had at first, it did so too with what the history tells that they had
pub honest-first : (opening : Opening) (history : List Entry) (s : State) → Legal opening history s → (files : ℕ → ℕ → ℕ → ℕ) → Honest (at_first files) history → Honest (first_of history) history
honest-first opening history s legal files honest = honest-alike files (files_of history) history (agrees-first opening history s legal files honest) honest

-- ---- right histories

-- a read of a file that was done hit its page, at an offset inside the page
module _ (old new : State) (t : TaskId) (f q o byte : ℕ) (hit : Option FrameId) where
  abbrev HasBytes : Type 0
  HasBytes = (p : ℕ) × (page : Page) × (page_at old.pages p ≡ Some page) × (page.content ≡ OfFile f q) × (is_filled_at page.residence ≡ true)

  meets_bytes : (g : ℕ) (meeting : Meeting) → MetFile old f q meeting → MeetStep old t.0 g Read meeting (reply.Done byte hit) new → HasBytes
  meets_bytes g (Hits p page frame) known h = (p, page, known.1, known.3, ap is_filled_at known.2)
  meets_bytes g Transferring known h = absurd (let wrong = h.0 in cc)
  meets_bytes g (NeedsRead f' q') known h = by_over (over_in old g) (is_frame_free old) h
    where
      by_over : (low : Option ℕ) (free : Bool) → ChargeStep old low free (ReadsFile old f' q' g (reply.Done byte hit) new) (reply.Done byte hit) new → HasBytes
      by_over (Some low) free h = absurd (let wrong = h.0 in cc)
      by_over None true h = absurd (let wrong = h.fetch.answers in cc)
      by_over None false h = absurd (let wrong = h.0 in cc)
  meets_bytes g Dangling known h = absurd h
  meets_bytes g meeting known h = absurd known

  inside : (b : Bool) → first_cause (not (b && nat_lt o page_size)) BadPlace None ≡ None → o < page_size
  inside b none = by_tests b (nat_lt o page_size) refl none
    where
      by_tests : (b c : Bool) → nat_lt o page_size ≡ c → first_cause (not (b && c)) BadPlace None ≡ None → o < page_size
      by_tests true true is e = ltb-true o page_size is
      by_tests true false is e = cc
      by_tests false c is e = cc

  read_hits : refusal old (event.Access t (File f q o) Read) ≡ None → Step old (event.Access t (File f q o) Read) (reply.Done byte hit) new → HasBytes × (o < page_size)
  read_hits none step = by_slot (task_at old.tasks t.0) none step
    where
      by_life : (g : ℕ) (life : Life) → life_refusal life (first_cause (not (is_place old.opening (File f q o))) BadPlace None) ≡ None
          → LifeStep old life (MeetStep old t.0 g Read (meets old t.0 (File f q o) Read) (reply.Done byte hit) new) (reply.Done byte hit) new → HasBytes × (o < page_size)
      by_life g Live none h = (meets_bytes g (meets old t.0 (File f q o) Read) (met_file old t.0 f q o Read) h, inside (nat_lt q (slice_index old.opening.files f)) none)
      by_life g Exited none h = absurd h
      by_life g Killed none h = absurd (let wrong = h.0 in cc)

      by_slot : (slot : Option Task) → task_refusal slot (first_cause (not (is_place old.opening (File f q o))) BadPlace None) ≡ None
          → TaskStep old slot (λ task. MeetStep old t.0 task.group.0 Read (meets old t.0 (File f q o) Read) (reply.Done byte hit) new) (reply.Done byte hit) new → HasBytes × (o < page_size)
      by_slot None none h = absurd h
      by_slot (Some task) none h = by_life task.group.0 task.life none h

-- a history is right for what files had at first by the pages that arrived alone
right-alike : (opening : Opening) (history : List Entry) (s : State) → Legal opening history s → (a b : ℕ → ℕ → ℕ → ℕ) → Agrees a b history → Right (at_first a) history → Right (at_first b) history
right-alike opening [] s legal a b agrees right = tt
right-alike opening (entry ∷ earlier) s legal a b agrees right = (right-alike opening earlier legal.0 legal.1 a b before right.0, by_event entry.event entry.reply legal.2.unrefused legal.2.steps right.1)
  where
    before : Agrees a b earlier
    before f q o arrived below = agrees f q o (or_else-left (first_arrival f q earlier) (brought_by f q entry.event earlier) arrived) below

    by_event : (what : Event) (answer : Reply) → refusal legal.0 what ≡ None → Step legal.0 what answer s → IsRight (at_first a) earlier what answer → IsRight (at_first b) earlier what answer
    by_event (event.Access t (Virtual v o) Read) (reply.Done byte hit) none step is = is ∙ last-task a b earlier t.0 v o
    by_event (event.Access t (File f q o) Read) (reply.Done byte hit) none step is =
        let hits = read_hits legal.0 s t f q o byte hit none step in
        let has = hits.0 in
        is ∙ last-file_byte a b earlier f q o (before f q o (legal-arrived opening earlier legal.0 legal.1 f q has.0 has.1 has.2 has.3 has.4) hits.1)
    by_event what answer none step is = is

-- where it is honest, a history that is right for what files had at first is right for what it tells that they had
pub right-first : (opening : Opening) (history : List Entry) (s : State) → Legal opening history s → (files : ℕ → ℕ → ℕ → ℕ) → Honest (at_first files) history → Right (at_first files) history → Right (first_of history) history
right-first opening history s legal files honest right = right-alike opening history s legal files (files_of history) (agrees-first opening history s legal files honest) right
