-- What was decided and done is an answer to every event that the decision is one for.
use Rattle.std.proofs.Common.{true, Bool, List, cond, not, ◌≡◌, ◌∙◌, ℕ, false, Some, None, refl, sym, ap, subst}
use Rattle.machine.specs.declared.event.Goal.{Goal}
use Rattle.machine.specs.declared.id.GroupId.{GroupId}
use Rattle.machine.specs.declared.id.TaskId.{TaskId}
use Rattle.machine.specs.declared.id.PageId.{PageId}
use Rattle.machine.specs.declared.record.Key.TheVariants as key
use Rattle.machine.specs.declared.record.Life.TheVariants.{Killed}
use Rattle.machine.specs.declared.event.Setting.{Setting}
use Rattle.machine.specs.declared.event.Cause.{Cause}
use Rattle.machine.specs.declared.event.Event.{Event}
use Rattle.machine.specs.declared.event.Event.TheVariants as event
use Rattle.machine.specs.Pages.{Coming, Away, Page, page_at, block_at, home_block, is_in_transfer}
use Rattle.machine.specs.Slots.{there_and}
use Rattle.machine.specs.Counts.{with_events}
use Rattle.machine.specs.Tasks.{group_of_task}
use Rattle.machine.specs.State.{State, page_numbers}
use Rattle.machine.proofs.Values.{some_inj}
use Rattle.machine.specs.declared.record.EventCounts.{EventCounts}
use Rattle.machine.specs.declared.record.Key.TheVariants as key
use Rattle.machine.specs.Counts.{with_event}
use Rattle.machine.specs.Reclaim.{target_of, has_open, has_takeable, has_transfer, counted_at_take}
use Rattle.reclaim.specs.declared.cursors.Served.{Served}
use Rattle.machine.specs.Victim.{is_candidate, IsVictim, kill_group_of, killed_with, counts_of_group_kill}
use Rattle.machine.specs.Step.{Step, TriesCharge, FetchesSwapped}
use Rattle.machine.specs.History.{InTask}
use Rattle.files.specs.Files.{FilesOf}
use Rattle.pages.specs.PagesOf.{Label, memory_of, of_file, HasResidence, AreFiled, labelled}
use Rattle.pages.specs.Tickets.{TicketOf, new_ticket}
use Rattle.page_state.specs.declared.room.NoRoom.TheVariants as lacks
use Rattle.page_state.specs.States.{StateOf}
use Rattle.page_state.specs.Mapped.{AreMapped}
use Rattle.pages.specs.declared.source.Source.{Source}
use Rattle.pages.specs.declared.source.Source.TheVariants as source
use Rattle.pages.specs.Transfers.{ReadsFrom}
use Rattle.page_state.specs.Changes.{files_of, counts_event, counts_events, MakesPage, BeginsReadIn, BeginsRead, BeginsWriteOut, DropsClean, EndsTask, EndsTasks, sets_in}
use Rattle.book_events.specs.declared.event.Reply.{Reply as Given}
use Rattle.book_events.specs.declared.event.Reply.TheVariants as given
use Rattle.book.specs.declared.decision.Meeting.{Meeting}
use Rattle.book.specs.declared.decision.Meeting.TheVariants as meeting
use Rattle.book.specs.declared.decision.Decision.TheVariants as decision
use Rattle.book_events.specs.Events.{reply_of}
use Rattle.book_events.specs.Replies.{IsAccessReply, IsReliefReply, IsReclaimReply}
use Rattle.book.specs.Effects.{knows}
use Rattle.book.specs.MakesStep.{MakesStep, GivesTicket, RepliesTo}
use Rattle.book.proofs.EndLemmas.{IsStuck, makes_step-kill, makes_step-kill_all}
use Rattle.book.specs.declared.decision.PageFault.{PageFault}
use Rattle.book.specs.Decisions.{with_counted, counted_for, MeetsSource, offset_at, IsFault, met_by, MeetsSo, HasRoomFor, LacksRoomFor, IsIdleFor, IsOfKilled, AsksPage, WantsRoom, HasItsRoom, FindsNothing, AnswersTo, Carries}
use Rattle.book.proofs.StepLemmas.{InOrder, still-self, still-counts, held-known, over_step, frameless_step, granted_step, makes_step-set, makes_step-killed, makes_step-undone, met_step, tries_charge, makes_step-room, makes_step-wait, makes_step-no_victim, makes_step-nothing}
use Rattle.book.proofs.MoveLemmas.{moves-pages, filed-single, holders-beside, holders-new, makes_step-fetch, makes_step-out, makes_step-dropped}
use Rattle.book.proofs.TouchLemmas.{makes_step-made}
use Rattle.page_state.specs.declared.room.NoRoom.{NoRoom}
use Rattle.machine.proofs.FileLemmas.{holds_page}
use Rattle.machine.specs.declared.reply.Reply.{Reply}
use Rattle.machine.specs.declared.reply.Reply.TheVariants as reply
use Rattle.book.proofs.JudgeLemmas.{room-for}

-- to an event that is this one
pub answers : (old new : StateOf) (what other : Event) (said : Given) → what ≡ other → MakesStep old other (reply_of said) new → GivesTicket new said → RepliesTo other said → AnswersTo old what said new
answers old new what other said same makes_step gives replies = subst (λ (w : Event). AnswersTo old w said new) (sym same) (record { makes_step = makes_step; gives = gives; replies = replies })

-- ---- tasks that were killed

pub carries-killed : (s : StateOf) → InOrder s → Carries s decision.Killed given.Killed s
carries-killed s listed what is = record { makes_step = makes_step-killed s what is.fits listed; gives = tt; replies = by_event what is.fits }
  where
    by_event : (what : Event) → IsOfKilled s.tables what → RepliesTo what given.Killed
    by_event (event.Access t place op) life = tt
    by_event (event.Fork t child) life = tt
    by_event (event.Free t v) life = tt
    by_event (event.Exit t) life = tt
    by_event other life = absurd life

-- ---- accesses

pub carries-access : (old new : StateOf) (fault : PageFault) (met : Meeting) (said : Given) → MakesStep old (event.Access fault.task fault.place fault.op) (reply_of said) new → GivesTicket new said → IsAccessReply said → Carries old (decision.Access fault met) said new
carries-access old new fault met said makes_step gives replies what is =
    answers old new what (event.Access fault.task fault.place fault.op) said is.fits makes_step gives replies

-- a page of zeros is made
pub carries-made : (old new : StateOf) (fault : PageFault) (v byte : ℕ) → AreMapped old.tables.pages old.tables.page_tables → IsFault old.tables fault → MeetsSo old.tables fault (meeting.NeedsPage v byte) → HasRoomFor old.tables fault
    → MakesPage old new fault.task.0 v fault.group.0 (offset_at fault) byte → Carries old (decision.Access fault (meeting.NeedsPage v byte)) (given.Done byte None) new
carries-made old new fault v byte mapped is meets has makes =
    let room = room-for old.tables fault _ fault.group.0 has meets.0 refl in
    carries-access old new fault (meeting.NeedsPage v byte) (given.Done byte None)
    (makes_step-made old new fault _ v byte mapped is meets.1 meets.0 (λ u w k. ap (knows old (InTask u w k)) meets.2) (granted_step old.tables _ _ _ _ _ room.under room.free) makes)
    tt tt

-- or a copy
pub carries-copied : (old new : StateOf) (fault : PageFault) (v : ℕ) (page : PageId) (byte : ℕ) → AreMapped old.tables.pages old.tables.page_tables → IsFault old.tables fault → MeetsSo old.tables fault (meeting.NeedsCopy v page byte)
    → HasRoomFor old.tables fault → MakesPage old new fault.task.0 v fault.group.0 (offset_at fault) byte → Carries old (decision.Access fault (meeting.NeedsCopy v page byte)) (given.Done byte None) new
carries-copied old new fault v page byte mapped is meets has makes =
    let room = room-for old.tables fault _ fault.group.0 has meets.0 refl in
    carries-access old new fault (meeting.NeedsCopy v page byte) (given.Done byte None)
    (makes_step-made old new fault _ v byte mapped is meets.1 meets.0
    (λ u w k. ap (knows old (InTask u w k)) meets.2.shown ∙ held-known old.tables.pages page.0 meets.2.held) (granted_step old.tables _ _ _ _ _ room.under room.free) makes)
    tt tt

-- the ticket of a page that begins to be read in
gives-in : (old new : StateOf) (p block : ℕ) (label : Label) (ticket : TicketOf) → BeginsReadIn old new p label block ticket → GivesTicket new (given.Fetch ticket)
gives-in old new p block label ticket begins = (
  p,
  label,
  begins.frame,
  subst (λ (b : ℕ). HasResidence new.tables.pages p label (Coming begins.frame b ticket.number)) (sym (ap (λ (t : TicketOf). t.block) begins.begins.given)) begins.begins.placed.changed,
  subst (λ (b : ℕ). ticket ≡ new_ticket ticket.number b ticket.bytes) (sym (ap (λ (t : TicketOf). t.block) begins.begins.given)) begins.begins.given,
)

-- a page is read in
pub carries-fetch : (old new : StateOf) (fault : PageFault) (from : Source) (g : GroupId) (ticket : TicketOf) → IsFault old.tables fault → MeetsSource old.tables fault from g → HasRoomFor old.tables fault
    → BeginsRead old new from g.0 ticket → Carries old (decision.Access fault (meeting.NeedsFetch from g)) (given.Fetch ticket) new
carries-fetch old new fault from g ticket is meets has fetch =
    carries-access old new fault (meeting.NeedsFetch from g) (given.Fetch ticket) (by_source from meets fetch.reads) (gives-in old new fetch.page fetch.block fetch.label ticket fetch.begins) tt
  where
    by_source : (x : Source) → MeetsSource old.tables fault x g → ReadsFrom old.tables.pages (page_numbers old.tables.opening) (files_of old.tables.opening) x g.0 fetch.page fetch.label fetch.block
        → MakesStep old (event.Access fault.task fault.place fault.op) (reply_of (given.Fetch ticket)) new
    by_source (source.Swapped page) meets reads =
        let same : labelled (memory_of meets.0) (Away meets.1) ≡ labelled (memory_of reads.2) (Away fetch.block) = some_inj (sym meets.4 ∙ ap (page_at old.tables.pages) reads.0 ∙ reads.3) in
        let block : Some meets.1 ≡ Some fetch.block = ap (λ (x : Page). block_at x.residence) same in
        let begins : BeginsReadIn old new page.0 (memory_of g.0) meets.1 ticket =
        subst (λ (p : ℕ). BeginsReadIn old new p (memory_of g.0) meets.1 ticket) (sym reads.0)
        (subst (λ (l : Label). BeginsReadIn old new fetch.page l meets.1 ticket) reads.1 (subst (λ (b : ℕ). BeginsReadIn old new fetch.page fetch.label b ticket) (sym (some_inj block)) fetch.begins)) in
        makes_step-fetch old new fault _ g.0 page.0 meets.1 (memory_of g.0) ticket is has meets.3 refl (ap (λ (n : ℕ). Some n) (sym meets.2)) (ap (there_and is_in_transfer) meets.4) refl begins
        (λ room starts.
        subst (λ (n : ℕ). FetchesSwapped old.tables page.0 (labelled (memory_of meets.0) (Away meets.1)) meets.1 n (reply.Fetch (record { 0 = ticket.number })) new.tables) meets.2
        (granted_step old.tables _ _ _ _ _ room.under room.free starts))
        (holders-beside old new (moves-pages old.tables new.tables begins.tables) page.0 (Some (labelled (memory_of g.0) (Coming begins.frame meets.1 ticket.number))) begins.begins.placed (λ f q. sym (ap (holds_page f q) meets.4)))
    by_source (source.File at) meets reads =
        let home = home_block old.tables.opening.swap old.tables.opening.files at.file at.page in
        let label = of_file at.file at.page fault.group.0 false in
        let own : g.0 ≡ fault.group.0 = ap (λ (x : GroupId). x.0) meets.3 in
        let begins : BeginsReadIn old new fetch.page label home ticket =
        subst (λ (l : Label). BeginsReadIn old new fetch.page l home ticket) (reads.1 ∙ ap (λ (x : ℕ). of_file at.file at.page x false) own) (subst (λ (b : ℕ). BeginsReadIn old new fetch.page fetch.label b ticket) reads.2 fetch.begins) in
        makes_step-fetch old new fault _ fault.group.0 fetch.page home label ticket is has meets.0 refl refl (ap (there_and is_in_transfer) reads.3) refl begins
        (λ room starts. granted_step old.tables _ _ _ _ _ room.under room.free (record { page = fetch.page; in_range = reads.0; slot_free = reads.3; fetch = starts }))
        (holders-new old new (moves-pages old.tables new.tables begins.tables) fetch.page at.file at.page (labelled label (Coming begins.frame home ticket.number)) begins.begins.placed reads.3 refl meets.2 refl)

-- a charge is refused
lacked : (old : StateOf) (fault : PageFault) (why : NoRoom) (answer : Reply) (new : State) → IsFault old.tables fault → (lacks : LacksRoomFor old.tables fault why) → ((Granted : Type 0) → TriesCharge old.tables lacks.0 Granted answer new)
    → Step old.tables (event.Access fault.task fault.place fault.op) answer new
lacked old fault why answer new is lacks tries = met_step old.tables fault _ answer new is refl (tries_charge old.tables fault.task.0 fault.group.0 lacks.0 fault.op (met_by old.tables fault) answer new lacks.1 tries)

pub carries-over : (old new : StateOf) (fault : PageFault) (a : GroupId) → InOrder old → IsFault old.tables fault → LacksRoomFor old.tables fault (lacks.Over a) → new ≡ counts_event old a.0 key.Max
    → Carries old (decision.Lacks fault (lacks.Over a)) (given.Over a) new
carries-over old new fault a listed is lack counts what for =
    answers old new what (event.Access fault.task fault.place fault.op) (given.Over a) for.fits (makes_step-undone old new fault.task.0 fault.place fault.op (reply.Over a) refl refl (still-counts old new a.0 key.Max counts) (subst (λ (s : StateOf). Step old.tables (event.Access fault.task fault.place fault.op) (reply.Over a) s.tables) (sym counts) (lacked old fault (lacks.Over a) (reply.Over a) _ is lack (λ Granted. over_step old.tables _ _ Granted a.0 lack.2.0))) listed (ap (λ (s : StateOf). s.order) counts)) tt tt

pub carries-no_frame : (s : StateOf) (fault : PageFault) → InOrder s → IsFault s.tables fault → LacksRoomFor s.tables fault lacks.NoFrame → Carries s (decision.Lacks fault lacks.NoFrame) given.NoFrame s
carries-no_frame s fault listed is lack what for =
    answers s s what (event.Access fault.task fault.place fault.op) given.NoFrame for.fits (makes_step-undone s s fault.task.0 fault.place fault.op reply.NoFrame refl refl (still-self s) (lacked s fault lacks.NoFrame reply.NoFrame s.tables is lack (λ Granted. frameless_step s.tables _ _ Granted lack.2.0 lack.2.1)) listed refl) tt tt

-- ---- reclaim

pub carries-room : (s : StateOf) → InOrder s → Carries s decision.Room given.Room s
carries-room s listed what is = by_event what is.fits
  where
    by_event : (what : Event) → HasItsRoom s.tables what → AnswersTo s what given.Room s
    by_event (event.Relieve why) met = record { makes_step = makes_step-room s why met listed; gives = tt; replies = tt }
    by_event other met = absurd met

replies-asked : (s : State) (what : Event) (target : ℕ) (said : Given) → AsksPage s what target → IsReliefReply said → IsReclaimReply said → RepliesTo what said
replies-asked s (event.Relieve why) target said asks relieves reclaims = relieves
replies-asked s (event.ReclaimOne g) target said asks relieves reclaims = reclaims
replies-asked s other target said asks relieves reclaims = absurd asks

-- what is counted for the group that is served is what the machine counts
counts-so : (s : StateOf) (target : GroupId) (found : Served) → found.low_reclaim ≡ not (has_open s.tables target.0) → counted_for s.tables found ≡ counted_at_take s.tables target.0 found.group.0
counts-so s target found low = ap (λ (b : Bool). let cs : List EventCounts = cond b (with_event s.tables.counted found.group.0 key.Low) s.tables.counted in cs) low ∙ by_test (has_open s.tables target.0)
  where
    by_test : (b : Bool) → cond (not b) (with_event s.tables.counted found.group.0 key.Low) s.tables.counted ≡ cond b s.tables.counted (with_event s.tables.counted found.group.0 key.Low)
    by_test true = refl
    by_test false = refl

pub carries-out : (old new : StateOf) (goal : Goal) (target : GroupId) (found : Served) (ticket : TicketOf) → BeginsWriteOut (with_counted old (counted_for old.tables found)) new goal target.0 found.group.0 ticket → Carries old (decision.Take goal target found) (given.Out ticket) new
carries-out old new goal target found ticket begins what is =
    record {
      makes_step = makes_step-out old new (counted_for old.tables found) goal target.0 found.group.0 ticket begins (counts-so old target found is.sound.4) what is.fits.0 is.fits.1;
      gives = (begins.p, begins.label, begins.frame, begins.begins.placed.changed, begins.begins.given, begins.holds);
      replies = replies-asked old.tables what target.0 (given.Out ticket) is.fits.0 tt tt;
    }

pub carries-dropped : (old new : StateOf) (files : FilesOf) (goal : Goal) (target : GroupId) (found : Served) → AreFiled files old.tables.pages → DropsClean (with_counted old (counted_for old.tables found)) new goal target.0 found.group.0 → Carries old (decision.Take goal target found) given.Dropped new
carries-dropped old new files goal target found filed drops what is =
    record {
      makes_step = makes_step-dropped old new (counted_for old.tables found) goal target.0 found.group.0 (filed-single files old.tables.pages filed) drops (counts-so old target found is.sound.4) what is.fits.0 is.fits.1;
      gives = tt;
      replies = replies-asked old.tables what target.0 given.Dropped is.fits.0 tt tt;
    }

pub carries-wait : (s : StateOf) → InOrder s → Carries s decision.Wait given.Wait s
carries-wait s listed what is =
    record { makes_step = makes_step-wait s what is.fits.0 is.fits.1 is.fits.2 is.fits.3 listed; gives = tt; replies = replies-asked s.tables what is.fits.0 given.Wait is.fits.1 tt tt }

pub carries-nothing : (s : StateOf) → InOrder s → Carries s decision.Nothing given.Nothing s
carries-nothing s listed what is = record { makes_step = makes_step-nothing s what is.fits listed; gives = tt; replies = by_event what is.fits }
  where
    by_event : (what : Event) → FindsNothing s.tables what → RepliesTo what given.Nothing
    by_event (event.ReclaimOne g) idle = tt
    by_event other idle = absurd idle

pub carries-no_victim : (old new : StateOf) (limit : GroupId) → InOrder old → new ≡ counts_event old limit.0 key.Oom → Carries old (decision.NoVictim limit) given.NoVictim new
carries-no_victim old new limit listed counts what is = by_event what is.fits
  where
    idle : IsIdleFor old.tables limit.0
    idle = is.sound.1

    by_event : (what : Event) → WantsRoom old.tables what limit.0 → AnswersTo old what given.NoVictim new
    by_event (event.Relieve why) wants =
        record {
          makes_step = makes_step-no_victim old new why wants.0 (ap (has_takeable old.tables) wants.1 ∙ idle.untakeable) (ap (has_transfer old.tables) wants.1 ∙ idle.settled)
              (subst (λ (l : ℕ). IsVictim old.tables.tree old.tables.tasks old.tables.page_tables l None) (sym wants.1) is.sound.2)
              (subst (λ (l : ℕ). new ≡ counts_event old l key.Oom) (sym wants.1) counts) listed;
          gives = tt;
          replies = tt;
        }
    by_event other wants = absurd wants

-- where room is wanted under a limit, a kill is an answer if it is one for each cause of that limit
carries-killing : (old new : StateOf) (limit : GroupId) (said : Given) (Killing : ℕ → Type 0) → IsIdleFor old.tables limit.0 → Killing limit.0
    → ((why : Cause) → IsStuck old.tables why → Killing (target_of why) → MakesStep old (event.Relieve why) (reply_of said) new) → GivesTicket new said → IsReliefReply said
    → (what : Event) → WantsRoom old.tables what limit.0 → AnswersTo old what said new
carries-killing old new limit said Killing idle kills makes gives replies (event.Relieve why) wants =
    record {
      makes_step = makes why (record { wants = wants.0; untakeable = ap (has_takeable old.tables) wants.1 ∙ idle.untakeable; settled = ap (has_transfer old.tables) wants.1 ∙ idle.settled }) (subst Killing (sym wants.1) kills);
      gives = gives;
      replies = replies;
    }
carries-killing old new limit said Killing idle kills makes gives replies other wants = absurd wants

-- for room under a limit this task dies, alone
abbrev KillsOne : StateOf → StateOf → ℕ → ℕ → Type 0
KillsOne old new t limit =
    IsVictim old.tables.tree old.tables.tasks old.tables.page_tables limit (Some t) × (kill_group_of old.tables.tree old.tables.flags old.tables.tasks limit t ≡ None)
    × EndsTask (with_counted old (with_event (with_event old.tables.counted limit key.Oom) (group_of_task old.tables.tasks t) key.OomKill)) new t Killed

-- or with all tasks of this group
abbrev KillsAll : StateOf → StateOf → ℕ → ℕ → ℕ → Type 0
KillsAll old new victim h limit =
    IsVictim old.tables.tree old.tables.tasks old.tables.page_tables limit (Some victim) × (kill_group_of old.tables.tree old.tables.flags old.tables.tasks limit victim ≡ Some h)
    × EndsTasks (with_counted old (with_events old.tables.counted (counts_of_group_kill old.tables.opening.placement old.tables.tree old.tables.tasks limit victim h))) new (is_candidate old.tables.tree old.tables.tasks h) Killed

-- a task is killed, alone: two events are counted, and then it ends
pub carries-kill : (old first second new : StateOf) (limit : GroupId) (t : TaskId) (g : ℕ) → first ≡ counts_event old limit.0 key.Oom → second ≡ counts_event first g key.OomKill → group_of_task old.tables.tasks t.0 ≡ g
    → EndsTask second new t.0 Killed → Carries old (decision.Kill limit t) (given.KilledTask t) new
carries-kill old first second new limit t g oom kills home ends what is =
    carries-killing old new limit (given.KilledTask t) (KillsOne old new t.0) is.sound.1 (is.sound.2, is.sound.3, ended) (λ why stuck killing. makes_step-kill old new why t.0 stuck killing.0 killing.1 killing.2) tt tt what is.fits
  where
    ended : EndsTask (with_counted old (with_event (with_event old.tables.counted limit.0 key.Oom) (group_of_task old.tables.tasks t.0) key.OomKill)) new t.0 Killed
    ended =
        subst (λ (s : StateOf). EndsTask s new t.0 Killed)
        (kills ∙ ap (λ (s : StateOf). counts_event s g key.OomKill) oom ∙ ap (λ (h : ℕ). counts_event (counts_event old limit.0 key.Oom) h key.OomKill) (sym home)) ends

-- a group is killed: all of its events are counted, and then all of its tasks end
pub carries-kill_all : (old counts new : StateOf) (limit : GroupId) (victim : TaskId) (h : GroupId) (tasks : ℕ) → tasks ≡ killed_with old.tables.tree old.tables.tasks h.0
    → counts ≡ counts_events old (counts_of_group_kill old.tables.opening.placement old.tables.tree old.tables.tasks limit.0 victim.0 h.0) → EndsTasks counts new (is_candidate counts.tables.tree counts.tables.tasks h.0) Killed
    → Carries old (decision.KillAll limit victim h) (given.KilledAll victim h tasks) new
carries-kill_all old counts new limit victim h tasks many counted ends what is =
    carries-killing old new limit (given.KilledAll victim h tasks) (KillsAll old new victim.0 h.0) is.sound.1 (is.sound.2, is.sound.3, ended)
    (λ why stuck killing. makes_step-kill_all old new why victim.0 h.0 tasks stuck killing.0 killing.1 many killing.2) tt tt what is.fits
  where
    ended : EndsTasks (with_counted old (with_events old.tables.counted (counts_of_group_kill old.tables.opening.placement old.tables.tree old.tables.tasks limit.0 victim.0 h.0))) new (is_candidate old.tables.tree old.tables.tasks h.0) Killed
    ended = subst (λ (s : StateOf). EndsTasks s new (is_candidate s.tables.tree s.tables.tasks h.0) Killed) counted ends

-- ---- tasks and groups

pub carries-set : (old new : StateOf) (g : GroupId) (setting : Setting) → InOrder old → new ≡ sets_in old g.0 setting → Carries old (decision.Set g setting) given.Ok new
carries-set old new g setting listed sets what is =
    answers old new what (event.Set g setting) given.Ok is.fits (makes_step-set old new g.0 setting (ap (λ (s : StateOf). s.tables) sets) (ap (λ (s : StateOf). s.bytes) sets) (ap (λ (s : StateOf). s.flights) sets) listed (ap (λ (s : StateOf). s.order) sets)) tt tt
