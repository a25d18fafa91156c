-- Examples of pages of files: a read of one that is not in memory, turn by turn; and what a command makes of a page that is dropped, or in transfer.
use Rattle.std.proofs.Common.{◌≡◌, ◌≢◌, ℕ, zero, suc, ◌/◌, ◌%◌, ◌==◌, ◌&&◌, ◌||◌, Bool, true, false, cond, List, [], ◌∷◌, ◌++◌, Some, None, inl, inr, refl, sym, ap, ◌∙◌, ne_eqb, arith}
use Rattle.std.specs.Int.{bit_at}
use Rattle.std.proofs.lemmas.Nat.Bits.{bit_at-pow_other}
use Rattle.std.proofs.lemmas.Bool.Decides.{eqb_tells}
use Rattle.std.specs.Prelude.{Ok, Err, codes, if◌then◌else◌}
use Rattle.machine.specs.declared.record.OomGroup.TheVariants.{Single, Whole}
use Rattle.machine.specs.declared.amount.Amount.TheVariants as amount
use Rattle.machine.specs.declared.event.Cause.TheVariants as cause
use Rattle.machine.specs.declared.config.Watermarks.{Watermarks}
use Rattle.machine.specs.declared.config.Placement.TheVariants.{Own, Linux}
use Rattle.machine.specs.declared.command.Actor.TheVariants as actor
use Rattle.machine.specs.declared.command.Answer.TheVariants as answer
use Rattle.machine.specs.declared.command.Command.TheVariants as command
use Rattle.machine.specs.declared.command.Word.TheVariants as word
use Rattle.machine.specs.declared.event.Event.TheVariants as event
use Rattle.machine.specs.declared.event.Op.TheVariants.{Read}
use Rattle.machine.specs.declared.event.Place.TheVariants.{File}
use Rattle.machine.specs.declared.event.Query.TheVariants as query
use Rattle.machine.specs.declared.id.TicketId.{TicketId}
use Rattle.machine.specs.declared.record.Life.TheVariants.{Live}
use Rattle.machine.specs.declared.refusal.Refusal.TheVariants.{Invalid}
use Rattle.machine.specs.declared.reply.Reply.TheVariants as reply
use Rattle.machine.specs.Slots.{at, there_and}
use Rattle.machine.specs.Tree.{chain_up, chain, under_at, chain_below, preorder_to}
use Rattle.machine.specs.Protection.{effective_along}
use Rattle.machine.specs.Pages.{OfFile, Residence, Held, Coming, Page, Pages, page_at, is_held_in, is_number}
use Rattle.machine.specs.Counts.{no_limits, no_counts, over_at}
use Rattle.machine.specs.Tasks.{task_of}
use Rattle.machine.specs.State.{Opening, State}
use Rattle.machine.specs.Generations.{Gens, Listed, new_gens}
use Rattle.machine.specs.Aging.{is_marked}
use Rattle.machine.specs.Order.{no_cursor, one_page_of}
use Rattle.machine.specs.Lists.{HeldLists, Youngest, SecondYoungest, GoesOn, is_fresh, is_in_bits, is_marking, MergesMarks, PicksOf}
use Rattle.machine.specs.Call.{Past, entries_of}
use Rattle.block_store.specs.Device.{Disk}
use Rattle.pages.specs.Tickets.{TicketOf}
use Rattle.book_events.specs.declared.event.Event.TheVariants as asks
use Rattle.book_events.specs.declared.event.Reply.TheVariants as says
use Rattle.turns.specs.declared.turn.Access.{Access}
use Rattle.driver.specs.declared.seat.Activity.{Activity}
use Rattle.driver.specs.declared.seat.Activity.TheVariants.{Rests, Begun, Does}
use Rattle.driver.specs.declared.seat.Outcome.TheVariants.{Goes, Ends}
use Rattle.turns.specs.declared.turn.Pending.TheVariants as pending
use Rattle.turns.specs.declared.turn.Resume.TheVariants as resume
use Rattle.turns.specs.declared.turn.Stage.TheVariants as stage
use Rattle.turns.specs.declared.turn.Transition.TheVariants as transition
use Rattle.turns.specs.declared.turn.Want.TheVariants as want
use Rattle.turns.specs.Turns.{wants, Told, resumes_at, arrived, judged}
use Rattle.driver.specs.Schedule.{World, Turn, outcome_of, left_of}
use Rattle.computed_turns.proofs.TurnExamples.{lists, order, caller, disk as no_disk, after, stay_unhit, own_unhit}
use Rattle.computed_turns.proofs.TaskExamples.{r, tree}

-- ---- a read of a page that is not in memory

-- the page of the file, which /r is charged for
abbrev cached : Residence → Page
cached residence = record { content = OfFile 0 0; group = 1; dirty = false; residence = residence }

abbrev opening : Opening
opening = record { frames = 2; swap = 0; files = 1 ∷ []; watermarks = record { low = 0; high = 0 }; trace_limit = 8; recursive = false; placement = Own; page_size = 4096 }

-- 2 frames, no swap, and one file of one page, whose home is the device's first block; task 1 is of /r
abbrev with_pages : Pages → State
with_pages pages = record {
  opening = opening;
  tree = tree;
  limits = no_limits ∷ no_limits ∷ [];
  flags = Single ∷ Single ∷ [];
  pages = pages;
  tasks = None ∷ Some (task_of 1 Live) ∷ [];
  page_tables = [] ∷ [] ∷ [];
  counted = no_counts ∷ no_counts ∷ [];
}

abbrev coming : Pages
coming = Some (cached (Coming 0 0 0)) ∷ []

abbrev held : Pages
held = Some (cached (Held 0)) ∷ []

abbrev access : Access
access = record { task = record { 0 = 1 }; place = File 0 0 5; op = Read; fetched = false }

abbrev number : TicketId
number = record { 0 = 0 }

-- what the file has at first is any
module _ (bytes : List ℕ) where
  abbrev disk : Disk
  disk = record { contents = bytes ∷ []; failures = 0; fault_limit = 0; plan = None }

  abbrev ticket_with : List ℕ → TicketOf
  ticket_with filled = record { number = 0; worker = 0; entry = 1; block = 0; handed = false; bytes = filled }

  abbrev opened : Past
  opened = record { state = with_pages []; history = []; order = order; passes = 1 }

  abbrev once_fetched : Past
  once_fetched = after opened (event.Access access.task access.place Read) (reply.Fetch number) (with_pages coming)

  -- the page that came is in the second youngest generation of /r, among pages of files
  abbrev with_file : Gens
  with_file = record { max_seq = 3; anon = record { min_seq = 0; pages = [] }; file = record { min_seq = 0; pages = record { page = 0; seq = 2 } ∷ [] } }

  abbrev filed : HeldLists
  filed = record { groups = new_gens ∷ with_file ∷ []; marks = false ∷ false ∷ []; hits = [] }

  abbrev once_arrived : Past
  once_arrived = record {
    state = with_pages held;
    history = entries_of caller once_fetched.history (event.Arrived number bytes) reply.Ok ++ once_fetched.history;
    order = record { held = filed; cursors = no_cursor ∷ no_cursor ∷ [] };
    passes = 1;
  }

  -- and then it is marked
  abbrev once_read : ℕ → Past
  once_read byte = record {
    state = with_pages held;
    history = entries_of caller once_arrived.history (event.Access access.task access.place Read) (reply.Done byte (Some (record { 0 = 0 }))) ++ once_arrived.history;
    order = record { held = record { groups = new_gens ∷ with_file ∷ []; marks = true ∷ false ∷ []; hits = [] }; cursors = no_cursor ∷ no_cursor ∷ [] };
    passes = 1;
  }

  abbrev world : Past → Activity → World
  world past what = record { past = past; caller = caller; disk = disk; seats = record { actor = actor.Task 1; activity = what } ∷ []; turns = 1000 }

  begins_to_come : GoesOn Youngest [] lists coming lists
  begins_to_come = record { fresh = None; which = which; groups = refl; size = refl; marks = marks; counts = refl; hits = stay_unhit Youngest refl [] coming }
    where
      which : (p : ℕ) → is_number None p ≡ is_fresh [] coming p
      which zero = refl
      which (suc p) = refl

      marks : (p : ℕ) → is_marked lists.marks p ≡ (is_held_in [] p && is_held_in coming p && is_marked lists.marks p)
      marks zero = refl
      marks (suc zero) = refl
      marks (suc (suc p)) = refl

  came : (m : ℕ) → m ≢ 0 → at coming m ≡ at [] m
  came zero other = absurd (other refl)
  came (suc m) other = refl

  -- the page has no record: one comes, from the file's home, and the access goes on with its ticket
  fetches : Turn (world opened (Begun (command.Access access.place Read))) (actor.Task 1) Goes (world once_fetched (Does (stage.Read access (ticket_with []))))
  unfolding chain_up chain under_at over_at
  fetches = record {
    transition = transition.Goes (stage.Read access (ticket_with []));
    turns = (
      record {
        said = says.Fetch (ticket_with []);
        mid = once_fetched;
        called = record {
          steps = record {
            page = 0;
            in_range = omega arith;
            slot_free = refl;
            fetch = record { frame = 0; ticket = 0; frame_free = record { in_range = omega arith; unused = refl }; ticket_free = refl; placed = record { changed = refl; others = came }; answers = refl; state = refl };
          };
          order = (begins_to_come, refl);
          history = refl;
          passes = refl;
        };
        gives = record { p = 0; page = cached (Coming 0 0 0); frame = 0; there = refl; coming = refl; own = refl; entry = refl; fresh = refl };
        keeps = tt;
        told = refl;
        marks = refl;
      },
      refl,
    );
    shows = refl;
    leaves = refl;
    same = refl;
    limit = refl;
  }

  -- the home block is read
  reads : Turn (world once_fetched (Does (stage.Read access (ticket_with [])))) (actor.Task 1) Goes (world once_fetched (Does (stage.Arrive access (ticket_with bytes))))
  reads = record {
    transition = transition.Goes (stage.Arrive access (ticket_with bytes));
    turns = (record { answered = Ok tt; filled = ticket_with bytes; reads = record { planned = tt; gives = refl; counts = refl }; same = refl; goes = refl }, refl);
    shows = refl;
    leaves = refl;
    same = refl;
    limit = refl;
  }

  arrives_listed : GoesOn SecondYoungest coming lists held filed
  arrives_listed = record { fresh = Some 0; which = which; groups = refl; size = refl; marks = marks; counts = refl; hits = stay_unhit SecondYoungest refl coming held }
    where
      which : (p : ℕ) → is_number (Some 0) p ≡ is_fresh coming held p
      which zero = refl
      which (suc p) = ne_eqb 0 (suc p) (λ e. absurd (omega (arith, e)))

      marks : (p : ℕ) → is_marked filed.marks p ≡ (is_held_in coming p && is_held_in held p && is_marked lists.marks p)
      marks zero = refl
      marks (suc zero) = refl
      marks (suc (suc p)) = refl

  stands : (m : ℕ) → m ≢ 0 → at held m ≡ at coming m
  stands zero other = absurd (other refl)
  stands (suc m) other = refl

  -- the book is told, and the page stands in its frame, clean
  arrives : Turn (world once_fetched (Does (stage.Arrive access (ticket_with bytes)))) (actor.Task 1) Goes (world once_arrived (Does (stage.Try (arrived access))))
  arrives = record {
    transition = transition.Goes (stage.Try (arrived access));
    turns = (
      record {
        said = says.Ok;
        mid = once_arrived;
        called = record {
          steps = record { p = 0; page = cached (Coming 0 0 0); frame = 0; block = 0; there = refl; moves = refl; placed = record { changed = refl; others = stands }; answers = refl; state = refl };
          order = (arrives_listed, refl);
          history = refl;
          passes = refl;
        };
        gives = tt;
        keeps = tt;
        told = refl;
        marks = refl;
      },
      refl,
    );
    shows = refl;
    leaves = refl;
    same = refl;
    limit = refl;
  }

  -- the hit leaves the lists as they are
  is_hit : GoesOn Youngest held filed held filed
  is_hit = record { fresh = None; which = which; groups = refl; size = refl; marks = marks; counts = refl; hits = stay_unhit Youngest refl held held }
    where
      which : (p : ℕ) → is_number None p ≡ is_fresh held held p
      which zero = refl
      which (suc p) = refl

      marks : (p : ℕ) → is_marked filed.marks p ≡ (is_held_in held p && is_held_in held p && is_marked filed.marks p)
      marks zero = refl
      marks (suc zero) = refl
      marks (suc (suc p)) = refl

  -- the bit of frame 0 is the first of word 0, and no other frame of the word has one
  first_bit : (f : ℕ) → f / 64 ≡ 0 → bit_at 1 (f % 64) ≡ (if f == 0 then 1 else 0)
  first_bit f within =
      elim (eqb_tells f 0) [
        | inl same ↦ ap (λ (n : ℕ). bit_at 1 (n % 64)) same.1 ∙ sym (ap (λ (b : Bool). cond b 1 0) same.0)
        | inr other ↦ bit_at-pow_other 0 (f % 64) (λ e. other.1 (omega (arith, e, within))) ∙ sym (ap (λ (b : Bool). cond b 1 0) other.0)
      ]

  -- its merge marks the page that is held in frame 0
  is_marked_now : MergesMarks Own held 0 1 filed (record { groups = filed.groups; marks = true ∷ false ∷ []; hits = [] })
  is_marked_now = record { groups = refl; size = refl; marks = marks; counts = refl; hits = own_unhit (is_in_bits 0 1) filed.marks held }
    where
      marks : (p : ℕ) → is_marked (true ∷ false ∷ []) p ≡ (is_marked filed.marks p || is_marking Own (is_in_bits 0 1) 0 (page_at held p))
      marks zero = refl
      marks (suc zero) = refl
      marks (suc (suc p)) = refl

  -- the book once the access was answered, and before its page is marked
  abbrev once_hit : ℕ → Past
  once_hit byte = record (once_read byte) { order = once_arrived.order }

  -- the access is tried again, hits the page, and is told a byte: that it is the home's, a whole run says. The page is marked in the same turn
  hits : (byte : ℕ) → Turn (world once_arrived (Does (stage.Try (arrived access)))) (actor.Task 1) (Ends (answer.Byte byte)) (world (once_read byte) Rests)
  unfolding chain_up chain under_at over_at
  hits byte = record {
    transition = transition.Ends (answer.Byte byte);
    turns = (
      record {
        said = says.Done byte (Some (record { 0 = 0 }));
        mid = once_hit byte;
        called = record { steps = (refl, refl); order = (is_hit, refl); history = refl; passes = refl };
        gives = tt;
        keeps = tt;
        told = refl;
        marks = record { bits = 1; one = first_bit; merged = record { steps = refl; order = (is_marked_now, refl); history = refl; passes = refl } };
      },
      refl,
    );
    shows = refl;
    leaves = refl;
    same = refl;
    limit = refl;
  }

-- ---- a page that is dropped

-- nothing has to be written, and the access is tried again
drops-for_access : Told 4096 (pending.MakeRoom access (cause.Charge r)) says.Dropped (transition.Goes (stage.Try access))
drops-for_access = refl

-- a max that is lowered goes on
drops-for_max : Told 4096 (pending.Lower r) says.Dropped (transition.Goes (stage.Lower r))
drops-for_max = refl

-- and so does the daemon
drops-for_daemon : Told 4096 pending.Balance says.Dropped (transition.Goes stage.Balance)
drops-for_daemon = refl

-- lists of files' pages of /r, whose oldest generation is the second before the youngest
abbrev old_file : List Listed → Gens
old_file pages = record { max_seq = 5; anon = record { min_seq = 4; pages = [] }; file = record { min_seq = 3; pages = pages } }

abbrev old_lists : List Listed → HeldLists
old_lists pages = record { groups = new_gens ∷ old_file pages ∷ []; marks = false ∷ false ∷ []; hits = [] }

abbrev first_listed : Listed
first_listed = record { page = 0; seq = 3 }

-- the clean page of the file is old
abbrev cached_once : Past
cached_once = record { state = with_pages held; history = []; order = record { held = old_lists (first_listed ∷ []); cursors = no_cursor ∷ no_cursor ∷ [] }; passes = 1 }

-- it is gone, and /r was served last for itself
abbrev once_dropped : Past
once_dropped = record {
  state = with_pages (None ∷ []);
  history = entries_of caller [] (event.ReclaimOne r) reply.Dropped ++ [];
  order = record { held = old_lists []; cursors = no_cursor ∷ one_page_of 1 ∷ [] };
  passes = 1;
}

abbrev shell_at : Past → Activity → World
shell_at past what = record { past = past; caller = caller; disk = no_disk; seats = record { actor = actor.Shell; activity = what } ∷ []; turns = 1000 }

picks : PicksOf false (old_lists (first_listed ∷ [])) 1 (Some 0) (old_lists (first_listed ∷ []))
picks = record {
  seen = _;
  picks = record { times = 0; none_before = λ n less. absurd (omega (arith, less)); first = first_listed; others = []; old = refl; answers = refl; leaves = refl };
  lists = refl;
}

leaves_list : GoesOn Youngest held (old_lists (first_listed ∷ [])) (None ∷ []) (old_lists [])
leaves_list = record { fresh = None; which = which; groups = refl; size = refl; marks = marks; counts = refl; hits = stay_unhit Youngest refl held (None ∷ []) }
  where
    which : (p : ℕ) → is_number None p ≡ is_fresh held (None ∷ []) p
    which zero = refl
    which (suc p) = refl

    marks : (p : ℕ) → is_marked (false ∷ false ∷ []) p ≡ (is_held_in held p && is_held_in (None ∷ []) p && is_marked (false ∷ false ∷ []) p)
    marks zero = refl
    marks (suc zero) = refl
    marks (suc (suc p)) = refl

goes_alone : (m : ℕ) → m ≢ 0 → at {T = Page} (None ∷ []) m ≡ at held m
goes_alone zero other = absurd (other refl)
goes_alone (suc m) other = refl

-- a reclaim of two pages takes it: nothing is written, and one page less is wanted
drops : Turn (shell_at cached_once (Does (stage.Reclaim r 2))) actor.Shell Goes (shell_at once_dropped (Does (stage.Reclaim r 1)))
unfolding chain_up chain under_at chain_below effective_along preorder_to
drops = record {
  transition = transition.Goes (stage.Reclaim r 1);
  turns = (
    record {
      said = says.Dropped;
      mid = once_dropped;
      called = record {
        steps = record { p = 0; page = cached (Held 0); there = refl; next = refl; leaves = record { answers = refl; gone = record { changed = refl; others = goes_alone }; state = refl } };
        order = record { g = 1; next = refl; p = 0; looked = old_lists (first_listed ∷ []); picked = picks; was = refl; taken = refl; leaves = leaves_list; moves = refl };
        history = refl;
        passes = refl;
      };
      gives = tt;
      keeps = tt;
      told = refl;
      marks = refl;
    },
    refl,
  );
  shows = refl;
  leaves = refl;
  same = refl;
  limit = refl;
}

-- /r is full, so that an access of its task has to make room
abbrev full : Pages → State
full pages = record (with_pages pages) { limits = no_limits ∷ record no_limits { max = amount.Pages 1 } ∷ [] }

abbrev full_once : Past
full_once = record cached_once { state = full held }

abbrev once_roomy : Past
once_roomy = record once_dropped { state = full (None ∷ []); history = entries_of caller [] (event.Relieve (cause.Charge r)) reply.Dropped ++ [] }

abbrev task_at : Past → Activity → World
task_at past what = record { past = past; caller = caller; disk = no_disk; seats = record { actor = actor.Task 1; activity = what } ∷ []; turns = 1000 }

-- it drops the page, and is tried again
makes_room : Turn (task_at full_once (Does (stage.MakeRoom access (cause.Charge r)))) (actor.Task 1) Goes (task_at once_roomy (Does (stage.Try access)))
unfolding chain_up chain under_at chain_below effective_along preorder_to over_at
makes_room = record {
  transition = transition.Goes (stage.Try access);
  turns = (
    record {
      said = says.Dropped;
      mid = once_roomy;
      called = record {
        steps = record { p = 0; page = cached (Held 0); there = refl; next = refl; leaves = record { answers = refl; gone = record { changed = refl; others = goes_alone }; state = refl } };
        order = record { g = 1; next = refl; p = 0; looked = old_lists (first_listed ∷ []); picked = picks; was = refl; taken = refl; leaves = leaves_list; moves = refl };
        history = refl;
        passes = refl;
      };
      gives = tt;
      keeps = tt;
      told = refl;
      marks = refl;
    },
    refl,
  );
  shows = refl;
  leaves = refl;
  same = refl;
  limit = refl;
}

-- a reclaim of two pages takes one, and has one less to take when that was dropped
reclaims-two : (marks : Watermarks) → wants marks 0 (stage.Reclaim r 2) ≡ want.Call (pending.Reclaim r 2) (asks.ReclaimOne r)
reclaims-two marks = refl

drops-for_reclaim : Told 4096 (pending.Reclaim r 2) says.Dropped (transition.Goes (stage.Reclaim r 1))
drops-for_reclaim = refl

-- with the second the reclaim is done
drops-last : Told 4096 (pending.Reclaim r 1) says.Dropped (transition.Goes (stage.Reclaim r 0))
drops-last = refl

ends-well : (marks : Watermarks) → wants marks 0 (stage.Reclaim r 0) ≡ want.End answer.Done
ends-well marks = refl

-- and no third page is taken
drops-not_more : Told 4096 (pending.Reclaim r 2) says.Dropped (transition.Goes (stage.Reclaim r 2)) → ⊥
drops-not_more e = cc

-- ---- a page that is in transfer

-- the access that met it is tried again once a transfer has ended
waits-for_page : Told 4096 (pending.Try access) says.Busy (transition.Waits (resume.Try access))
waits-for_page = refl

-- one that wants room wants it again, and for the same cause
waits-for_room : Told 4096 (pending.MakeRoom access (cause.Charge r)) says.Wait (transition.Waits (resume.MakeRoom access (cause.Charge r)))
waits-for_room = refl

wants_room-again : resumes_at (resume.MakeRoom access (cause.Charge r)) ≡ stage.MakeRoom access (cause.Charge r)
wants_room-again = refl

-- a reclaim of two pages wants two again
waits-for_reclaim : Told 4096 (pending.Reclaim r 2) says.Wait (transition.Waits (resume.Reclaim r 2))
waits-for_reclaim = refl

-- in a schedule each of them is answered busy, and has ended
busy-in_schedule : outcome_of (transition.Waits (resume.Try access)) ≡ Ends (answer.Word word.Busy)
busy-in_schedule = refl

ended-in_schedule : left_of (transition.Waits (resume.Try access)) ≡ Rests
ended-in_schedule = refl

-- ---- memory.stat

-- it is read
stat-read : judged opening tree actor.Shell (command.Cat (codes "/r") (codes "memory.stat")) ≡ Ok (stage.Show (query.Stat r))
stat-read = refl

-- and not written
stat-written : judged opening tree actor.Shell (command.Set (codes "/r") (codes "memory.stat") (codes "0")) ≡ Err Invalid
stat-written = refl

-- ---- memory.oom.group

-- by our own placement 01 is no flag
flag-own : judged opening tree actor.Shell (command.Set (codes "/r") (codes "memory.oom.group") (codes "01")) ≡ Err Invalid
flag-own = refl

-- and by Linux's it is one
flag-linux : judged (record opening { placement = Linux }) tree actor.Shell (command.Set (codes "/r") (codes "memory.oom.group") (codes "01")) ≡ Ok (stage.SetOomGroup r Whole)
flag-linux = refl
