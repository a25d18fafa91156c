-- What holds of shared pages in every legal history: whoever shows a page is live; the places that show one page have one last write; and a page that is read in is read in for all of them.
use Rattle.std.proofs.Common.{◌≡◌, inl, inr, ℕ, ◌==◌, ◌&&◌, Bool, true, false, List, [], ◌∷◌, Option, Some, None, cond, eqb-true, eq-eqb, ne_eqb, refl, sym, ap, ◌∙◌, subst}
use Rattle.std.specs.Prelude.{◌⊎◌}
use Rattle.std.proofs.lemmas.Bool.{and_parts}
use Rattle.machine.specs.declared.event.Event.{Event}
use Rattle.machine.specs.declared.event.Event.TheVariants as event
use Rattle.machine.specs.declared.event.Place.TheVariants.{Virtual, File}
use Rattle.machine.specs.declared.reply.Reply.{Reply}
use Rattle.machine.specs.declared.reply.Reply.TheVariants as reply
use Rattle.machine.specs.declared.entry.Entry.{Entry}
use Rattle.machine.specs.Slots.{there_and}
use Rattle.machine.specs.Pages.{OfFile, is_anon, in_transfer_at, Held, Coming, Going, Away, Page, page_at, is_held_at, ticket_at, is_number, is_ticket_taken}
use Rattle.machine.specs.Tasks.{mapped_at}
use Rattle.machine.specs.State.{Opening, State}
use Rattle.machine.specs.History.{Spot, InTask, InFile, follow, at_offset, spot_of, last, Fetched, fetched_by, fetch_of, ticket_given}
use Rattle.machine.specs.Legal.{Legal}
use Rattle.machine.proofs.Values.{some_inj, unlike}
use Rattle.machine.proofs.TestLemmas.{none_has}
use Rattle.legal.proofs.SoundLemmas.{legal-files}
use Rattle.legal.proofs.ShownLemmas.{ShowsPages, shows_pages-legal}
use Rattle.legal.proofs.FileSteps.{slot_of, slot_of-is, is_home, is_written, home-unwritten, transfer-unwritten}
use Rattle.legal.proofs.Effects.{AllLive, ComesFrom, Fetches, ReadsIn, Stood, InFrame, ItStays, ItFetches, ItReads, ItLeaves, OnBlock, Effect, step_effect}

-- ---- what each entry does

-- in whatever state a legal history ends, whoever shows a page is live
pub legal-live : (opening : Opening) (history : List Entry) (s : State) → Legal opening history s → AllLive s.page_tables s.tasks
legal-live opening [] s legal = subst (λ (x : State). AllLive x.page_tables x.tasks) (sym legal) (λ t v p at. cc)
legal-live opening (entry ∷ earlier) s legal =
    (step_effect legal.0 s (legal-live opening earlier legal.0 legal.1) (shows_pages-legal opening earlier legal.0 legal.1) (legal-files opening earlier legal.0 legal.1) entry.event entry.reply legal.2.unrefused legal.2.steps).places.live

-- and so the newest entry did what a step does
pub legal-effect : (opening : Opening) (entry : Entry) (earlier : List Entry) (s : State) (legal : Legal opening (entry ∷ earlier) s) → Effect legal.0 entry.event entry.reply s
legal-effect opening entry earlier s legal =
    step_effect legal.0 s (legal-live opening earlier legal.0 legal.1) (shows_pages-legal opening earlier legal.0 legal.1) (legal-files opening earlier legal.0 legal.1) entry.event entry.reply legal.2.unrefused legal.2.steps

-- ---- bytes

-- the bytes of a place that comes from another are those of the other before
pub last-comes : (first : Spot → ℕ) (old : State) (entry : Entry) (earlier : List Entry) (t v p : ℕ) (from : ComesFrom old entry.event entry.reply t v p) (o : ℕ)
    → last first (entry ∷ earlier) (InTask t v o) ≡ last first earlier (InTask from.task v o)
last-comes first old entry earlier t v p from o = from.follows (last first earlier) o

-- two places that show one page have one last write
pub shared_bytes_agree : (opening : Opening) (first : Spot → ℕ) (history : List Entry) (s : State) → Legal opening history s
    → (t v t' v' p o : ℕ) → mapped_at s.page_tables t v ≡ Some p → mapped_at s.page_tables t' v' ≡ Some p → last first history (InTask t v o) ≡ last first history (InTask t' v' o)
shared_bytes_agree opening first [] s legal t v t' v' p o at at' = (let none : mapped_at s.page_tables t v ≡ None = ap (λ (x : State). mapped_at x.page_tables t v) legal in cc)
shared_bytes_agree opening first (entry ∷ earlier) s legal t v t' v' p o at at' =
    by_case (shared_bytes_agree opening first earlier legal.0 legal.1) ((legal-effect opening entry earlier s legal).places.shared t v t' v' p at at')
  where
    by_case : ((t v t' v' p o : ℕ) → mapped_at legal.0.page_tables t v ≡ Some p → mapped_at legal.0.page_tables t' v' ≡ Some p → last first earlier (InTask t v o) ≡ last first earlier (InTask t' v' o))
        → (((t == t') && (v == v')) ≡ true) ⊎ (ComesFrom legal.0 entry.event entry.reply t v p × ComesFrom legal.0 entry.event entry.reply t' v' p)
        → last first (entry ∷ earlier) (InTask t v o) ≡ last first (entry ∷ earlier) (InTask t' v' o)
    by_case before (inl one) =
        let both = and_parts (t == t') (v == v') one in
        ap (λ (x : ℕ). last first (entry ∷ earlier) (InTask x v o)) (eqb-true t t' both.0) ∙ ap (λ (x : ℕ). last first (entry ∷ earlier) (InTask t' x o)) (eqb-true v v' both.1)
    by_case before (inr come) =
        last-comes first legal.0 entry earlier t v p come.0 o ∙ before come.0.task v come.1.task v' p o come.0.mapped come.1.mapped ∙ sym (last-comes first legal.0 entry earlier t' v' p come.1 o)

-- a byte of a page of a file that was not just written to is what it was before
pub last-unwritten : (first : Spot → ℕ) (opening : Opening) (entry : Entry) (earlier : List Entry) (s : State) → Legal opening (entry ∷ earlier) s → (f q o : ℕ) → is_written (slot_of s f q) ≡ false
    → last first (entry ∷ earlier) (InFile f q o) ≡ last first earlier (InFile f q o)
last-unwritten first opening entry earlier s legal f q o unwritten =
    ap (λ said. follow said (last first earlier) (InFile f q o)) ((legal-effect opening entry earlier s legal).files.silent f q o unwritten)

-- so it is where the page is in transfer
pub last-file : (first : Spot → ℕ) (opening : Opening) (entry : Entry) (earlier : List Entry) (s : State) → Legal opening (entry ∷ earlier) s → (p f q o : ℕ) (page : Page) → page_at s.pages p ≡ Some page
    → page.content ≡ OfFile f q → in_transfer_at page.residence ≡ true → last first (entry ∷ earlier) (InFile f q o) ≡ last first earlier (InFile f q o)
last-file first opening entry earlier s legal p f q o page there holds moving =
    last-unwritten first opening entry earlier s legal f q o
    (ap is_written (slot_of-is s (legal-files opening (entry ∷ earlier) s legal).single f q p page there holds) ∙ transfer-unwritten page moving)

-- and where its home block holds its bytes
pub last-home : (first : Spot → ℕ) (opening : Opening) (entry : Entry) (earlier : List Entry) (s : State) → Legal opening (entry ∷ earlier) s → (f q o : ℕ) → is_home (slot_of s f q) ≡ true
    → last first (entry ∷ earlier) (InFile f q o) ≡ last first earlier (InFile f q o)
last-home first opening entry earlier s legal f q o home = last-unwritten first opening entry earlier s legal f q o (home-unwritten (slot_of s f q) home)

-- ---- read-ins

-- an answer that gives another ticket, or none, began no read-in under this one
pub fetch_other : (ticket : ℕ) (what : Event) (answer : Reply) (earlier : List Entry) (others : Option Fetched) → (ticket_given answer ≡ Some ticket → ⊥) → fetched_by ticket what answer earlier others ≡ others
fetch_other ticket (event.Access t place op) (reply.Fetch n) earlier others other = ap (λ (b : Bool). cond b (Some (record { spot = spot_of t.0 place; earlier = earlier })) others) (ne_eqb n.0 ticket (λ e. other (ap (λ (x : ℕ). Some x) e)))
fetch_other ticket what answer earlier others other = refl

-- the page is being read in under the ticket, and the bytes that were last written where the read-in began are those that each place which shows the page has, or the page of a file that it holds
pub record FetchedSo (first : Spot → ℕ) (history : List Entry) (s : State) (p ticket : ℕ) : Type 0 where
  pub fetch : Fetched
  pub is : fetch_of ticket history ≡ Some fetch
  pub same : (t v o : ℕ) → mapped_at s.page_tables t v ≡ Some p → last first history (InTask t v o) ≡ last first fetch.earlier (at_offset o fetch.spot)
  pub of_file : (f q o : ℕ) (page : Page) → page_at s.pages p ≡ Some page → page.content ≡ OfFile f q → last first history (InFile f q o) ≡ last first fetch.earlier (at_offset o fetch.spot)

-- a page in transfer has its ticket
pub ticket_taken : (s : State) (p n : ℕ) (page : Page) → page_at s.pages p ≡ Some page → ticket_at page.residence ≡ Some n → is_ticket_taken s.pages n ≡ true
ticket_taken s p n page there ticket = by_taken (is_ticket_taken s.pages n) refl
  where
    passes : there_and (λ (page : Page). is_number (ticket_at page.residence) n) (page_at s.pages p) ≡ true
    passes = ap (there_and (λ (page : Page). is_number (ticket_at page.residence) n)) there ∙ ap (λ k. is_number k n) ticket ∙ eq-eqb n n refl

    by_taken : (b : Bool) → is_ticket_taken s.pages n ≡ b → is_ticket_taken s.pages n ≡ true
    by_taken true is = is
    by_taken false is = unlike _ passes (none_has (λ (page : Page). is_number (ticket_at page.residence) n) s.pages is p)

-- in whatever state a legal history ends, so it is with each page that is being read in
pub legal-fetched : (opening : Opening) (first : Spot → ℕ) (history : List Entry) (s : State) → Legal opening history s
    → (p frame block ticket : ℕ) (page : Page) → page_at s.pages p ≡ Some page → page.residence ≡ Coming frame block ticket → FetchedSo first history s p ticket
legal-fetched opening first [] s legal p frame block ticket page there coming = (let none : page_at s.pages p ≡ None = ap (λ (x : State). page_at x.pages p) legal in cc)
legal-fetched opening first (entry ∷ earlier) s legal p frame block ticket page there coming =
    by_stood (legal-fetched opening first earlier legal.0 legal.1 p frame block ticket) (effect.pages.stood p page there)
  where
    effect : Effect legal.0 entry.event entry.reply s
    effect = legal-effect opening entry earlier s legal

    -- each place that shows it comes from one that did
    comes : (t v : ℕ) → mapped_at s.page_tables t v ≡ Some p → ComesFrom legal.0 entry.event entry.reply t v p
    comes t v at = effect.places.place t v p page at there (ap is_held_at coming)

    -- what stands there is this page
    one_page : (page' : Page) → page_at s.pages p ≡ Some page' → page' ≡ page
    one_page page' there' = some_inj (sym there' ∙ there)

    -- the bytes of a page of a file that it holds are what they were
    stays_last : (f q o : ℕ) → page.content ≡ OfFile f q → last first (entry ∷ earlier) (InFile f q o) ≡ last first earlier (InFile f q o)
    stays_last f q o holds = last-file first opening entry earlier s legal p f q o page there holds (ap in_transfer_at coming)

    -- a page that a place shows is of no file
    of_no_file : {P : Type 0} (t v f q : ℕ) (state : State) (shown : Page) → ShowsPages state → mapped_at state.page_tables t v ≡ Some p → page_at state.pages p ≡ Some shown → shown.content ≡ OfFile f q → P
    of_no_file t v f q state shown shows at stands holds = unlike (is_anon shown.content) (shows.memory t v p shown at stands) (ap is_anon holds)

    stayed : (before : Page) → page_at legal.0.pages p ≡ Some before → before.residence ≡ Coming frame block ticket → FetchedSo first earlier legal.0 p ticket → FetchedSo first (entry ∷ earlier) s p ticket
    stayed before was flew h =
        record {
          fetch = h.fetch;
          is =
              fetch_other ticket entry.event entry.reply earlier (fetch_of ticket earlier)
              (λ given. unlike (is_ticket_taken legal.0.pages ticket) (ticket_taken legal.0 p ticket before was (ap ticket_at flew)) (effect.fresh ticket given)) ∙ h.is;
          same = λ t v o at. let from = comes t v at in last-comes first legal.0 entry earlier t v p from o ∙ h.same from.task v o from.mapped;
          of_file = λ f q o page' there' holds.
              let now : page.content ≡ OfFile f q = ap (λ (x : Page). x.content) (sym (one_page page' there')) ∙ holds in
              stays_last f q o now ∙ h.of_file f q o before was (sym (effect.files.contents p before page was there) ∙ now);
        }

    -- it began now
    began : Fetches legal.0 entry.event entry.reply p page.residence → FetchedSo first (entry ∷ earlier) s p ticket
    began h =
        record {
          fetch = record { spot = InTask h.task.0 h.v h.offset; earlier = earlier };
          is =
              ap (λ (what : Event). fetched_by ticket what entry.reply earlier (fetch_of ticket earlier)) h.is
              ∙ ap (λ (answer : Reply). fetched_by ticket (event.Access h.task (Virtual h.v h.offset) h.op) answer earlier (fetch_of ticket earlier)) h.answers
              ∙ ap (λ (b : Bool). cond b (Some (record { spot = InTask h.task.0 h.v h.offset; earlier = earlier })) (fetch_of ticket earlier)) (eq-eqb h.ticket.0 ticket one_ticket);
          same = λ t v o at.
              let from = comes t v at in
              last-comes first legal.0 entry earlier t v p from o ∙ shared_bytes_agree opening first earlier legal.0 legal.1 from.task v h.task.0 h.v p o from.mapped h.mapped;
          of_file = λ f q o page' there' holds.
              of_no_file h.task.0 h.v f q legal.0 h.before (shows_pages-legal opening earlier legal.0 legal.1) h.mapped h.there
              (sym (effect.files.contents p h.before page' h.there there') ∙ holds);
        }
      where
        one_ticket : h.ticket.0 ≡ ticket
        one_ticket = some_inj (ap ticket_at (sym h.coming ∙ coming))

    -- a page of a file begins to be read in now
    reads : ReadsIn legal.0 entry.event entry.reply page → FetchedSo first (entry ∷ earlier) s p ticket
    reads h =
        record {
          fetch = record { spot = InFile h.file h.q h.offset; earlier = earlier };
          is =
              ap (λ (what : Event). fetched_by ticket what entry.reply earlier (fetch_of ticket earlier)) h.is
              ∙ ap (λ (answer : Reply). fetched_by ticket (event.Access h.task (File h.file h.q h.offset) h.op) answer earlier (fetch_of ticket earlier)) h.answers
              ∙ ap (λ (b : Bool). cond b (Some (record { spot = InFile h.file h.q h.offset; earlier = earlier })) (fetch_of ticket earlier)) (eq-eqb h.ticket.0 ticket one_ticket);
          same = λ t v o at. of_no_file t v h.file h.q s page (shows_pages-legal opening (entry ∷ earlier) s legal) at there h.holds;
          of_file = λ f q o page' there' holds.
              let one : OfFile f q ≡ OfFile h.file h.q = sym holds ∙ ap (λ (x : Page). x.content) (one_page page' there') ∙ h.holds in
              let file : f ≡ h.file = cc in
              let number : q ≡ h.q = cc in
              ap (λ (x : ℕ). last first (entry ∷ earlier) (InFile x q o)) file ∙ ap (λ (x : ℕ). last first (entry ∷ earlier) (InFile h.file x o)) number ∙ stays_last h.file h.q o h.holds;
        }
      where
        one_ticket : h.ticket.0 ≡ ticket
        one_ticket = some_inj (ap ticket_at (sym h.coming ∙ coming))

    by_stood : ((before : Page) → page_at legal.0.pages p ≡ Some before → before.residence ≡ Coming frame block ticket → FetchedSo first earlier legal.0 p ticket) → Stood legal.0 entry.event entry.reply p page
        → FetchedSo first (entry ∷ earlier) s p ticket
    by_stood before (InFrame f is) = (let e : Held f ≡ Coming frame block ticket = sym is ∙ coming in cc)
    by_stood before (ItStays h) = (let flew = sym h.same ∙ coming in stayed h.before h.there flew (before h.before h.there flew))
    by_stood before (ItFetches h) = began h
    by_stood before (ItReads h) = reads h
    by_stood before (ItLeaves h) = (let e : Going h.frame h.block h.ticket.0 ≡ Coming frame block ticket = sym h.going ∙ coming in cc)
    by_stood before (OnBlock direction h) = (let e : Away h.block ≡ Coming frame block ticket = sym h.away ∙ coming in cc)
