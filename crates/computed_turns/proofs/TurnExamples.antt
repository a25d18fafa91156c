-- An example of a finish: a max is set in one turn, and in the next one nothing has to leave.
use Rattle.std.proofs.Common.{◌≡◌, ℕ, zero, suc, inl, Bool, true, false, cond, List, [], ◌∷◌, ◌++◌, Option, Some, None, refl, sym, arith}
use Rattle.std.specs.Prelude.{codes}
use Rattle.machine.specs.declared.config.Placement.TheVariants.{Own}
use Rattle.machine.specs.declared.record.OomGroup.TheVariants.{Single}
use Rattle.machine.specs.declared.amount.Amount.TheVariants as amount
use Rattle.machine.specs.declared.command.Actor.TheVariants as actor
use Rattle.machine.specs.declared.command.Command.{Command}
use Rattle.machine.specs.declared.command.Command.TheVariants as command
use Rattle.machine.specs.declared.command.Answer.TheVariants as answer
use Rattle.machine.specs.declared.event.Cause.TheVariants as cause
use Rattle.machine.specs.declared.event.Event.TheVariants as event
use Rattle.machine.specs.declared.event.Setting.TheVariants as setting
use Rattle.machine.specs.declared.reply.Reply.TheVariants as reply
use Rattle.machine.specs.declared.event.Event.{Event as Plain_event}
use Rattle.machine.specs.declared.id.GroupId.{GroupId}
use Rattle.machine.specs.declared.reply.Reply.{Reply as Plain_reply}
use Rattle.machine.specs.declared.record.Kind.{Kind}
use Rattle.machine.specs.Tree.{root, chain_up, chain, under_at}
use Rattle.machine.specs.Counts.{no_limits, no_counts}
use Rattle.machine.specs.State.{State}
use Rattle.machine.specs.Generations.{new_gens}
use Rattle.machine.specs.Aging.{is_marked}
use Rattle.machine.specs.Pages.{Page, Pages, page_at, is_held_in}
use Rattle.machine.specs.Order.{no_cursor}
use Rattle.machine.specs.Lists.{HeldLists, Order, Generation, Youngest, GoesOn, kind_at, hits_at_entry, hits_kept, hits_after, hits_with}
use Rattle.machine.specs.Call.{Past, Caller, entries_of}
use Rattle.block_store.specs.Device.{Disk}
use Rattle.book_events.specs.declared.event.Reply.TheVariants as says
use Rattle.turns.specs.declared.turn.Stage.TheVariants as stage
use Rattle.driver.specs.declared.seat.Outcome.TheVariants.{Goes, Ends}
use Rattle.turns.specs.declared.turn.Transition.TheVariants as transition
use Rattle.driver.specs.declared.seat.Activity.{Activity}
use Rattle.driver.specs.declared.seat.Activity.TheVariants.{Rests, Begun, Does}
use Rattle.driver.specs.Schedule.{World, Turn, Finishes}
use Rattle.turns.specs.Turns.{answer_by}

-- where no hit counts, none does later; and by our own placement a hit marks, and none counts
pub stay_unhit : (generation : Generation) → hits_at_entry generation ≡ 0 → (before after : Pages) (p : ℕ) → 0 ≡ hits_kept generation (is_held_in before p) (is_held_in after p) 0
stay_unhit generation none before after p = by_held (is_held_in before p) (is_held_in after p)
  where
    by_held : (b c : Bool) → 0 ≡ hits_kept generation b c 0
    by_held true true = refl
    by_held false true = sym none
    by_held b false = refl

pub own_unhit : (test : Page → Bool) (marks : List Bool) (pages : Pages) (p : ℕ) → 0 ≡ hits_with Own test (is_marked marks p) 0 (page_at pages p)
own_unhit test marks pages p = by_slot (page_at pages p)
  where
    by_test : (kind : Kind) (b m : Bool) → 0 ≡ cond b (hits_after Own kind m 0) 0
    by_test kind true true = refl
    by_test kind true false = refl
    by_test kind false m = refl

    by_slot : (slot : Option Page) → 0 ≡ hits_with Own test (is_marked marks p) 0 slot
    by_slot None = refl
    by_slot (Some page) = by_test (kind_at page.content) (test page) (is_marked marks p)

abbrev r : GroupId
r = record { 0 = 1 }

-- the root, and /r below it, which is group 1. Nobody has a page
abbrev empty : State
empty = record {
  opening = record { frames = 2; swap = 0; files = []; watermarks = record { low = 0; high = 0 }; trace_limit = 8; recursive = false; placement = Own; page_size = 4096 };
  tree = root ∷ record { parent = Some 0; path = codes "/r"; live = true } ∷ [];
  limits = no_limits ∷ no_limits ∷ [];
  flags = Single ∷ Single ∷ [];
  pages = [];
  tasks = [];
  page_tables = [];
  counted = no_counts ∷ no_counts ∷ [];
}

-- no page on a list, and none marked
abbrev pub lists : HeldLists
lists = record { groups = new_gens ∷ new_gens ∷ []; marks = false ∷ false ∷ []; hits = [] }

abbrev pub order : Order
order = record { held = lists; cursors = no_cursor ∷ no_cursor ∷ [] }

abbrev pub caller : Caller
caller = record { worker = 0 }

abbrev opened : Past
opened = record { state = empty; history = []; order = order; passes = 1 }

-- the past after an event that was answered so: its entry, and this state
abbrev pub after : Past → Plain_event → Plain_reply → State → Past
after old what said new = record { state = new; history = entries_of caller old.history what said ++ old.history; order = order; passes = 1 }

abbrev set_max : Command
set_max = command.Set (codes "/r") (codes "memory.max") (codes "4096")

abbrev pub disk : Disk
disk = record { contents = []; failures = 0; fault_limit = 0; plan = None }

-- the shell is at this, and nobody else has a command
abbrev world : Past → Activity → World
world at what = record { past = at; caller = caller; disk = disk; seats = record { actor = actor.Shell; activity = what } ∷ []; turns = 1000 }

abbrev limited : State
limited = record empty { limits = no_limits ∷ record no_limits { max = amount.Pages 1 } ∷ [] }

abbrev once_set : Past
once_set = after opened (event.Set r (setting.Max (amount.Pages 1))) reply.Ok limited

abbrev once_lowered : Past
once_lowered = after once_set (event.Relieve (cause.Lower r)) reply.Room limited

unmarked : (p : ℕ) → is_marked lists.marks p ≡ false
unmarked zero = refl
unmarked (suc zero) = refl
unmarked (suc (suc p)) = refl

unchanged : GoesOn Youngest [] lists [] lists
unchanged = record { fresh = None; which = λ p. refl; groups = refl; size = refl; marks = unmarked; counts = refl; hits = stay_unhit Youngest refl [] [] }

-- the first turn sets the max, and the command goes on
sets : Turn (world opened (Begun set_max)) actor.Shell Goes (world once_set (Does (stage.Lower r)))
unfolding chain_up chain under_at
sets = record {
  transition = transition.Goes (stage.Lower r);
  turns = (
    record {
      said = says.Ok;
      mid = once_set;
      called = record { steps = refl; order = (unchanged, refl); history = refl; passes = refl };
      gives = tt;
      keeps = tt;
      told = refl;
      marks = refl;
    },
    refl,
  );
  shows = refl;
  leaves = refl;
  same = refl;
  limit = refl;
}

-- the second finds room, and ends it
lowers : Turn (world once_set (Does (stage.Lower r))) actor.Shell (Ends answer.Done) (world once_lowered Rests)
unfolding chain_up chain under_at
lowers = record {
  transition = transition.Ends answer.Done;
  turns = (
    record {
      said = says.Room;
      mid = once_lowered;
      called = record { steps = (refl, refl); order = (unchanged, refl); history = refl; passes = refl };
      gives = tt;
      keeps = tt;
      told = refl;
      marks = refl;
    },
    refl,
  );
  shows = refl;
  leaves = refl;
  same = refl;
  limit = refl;
}

-- the whole finish: two turns, and the answer of the second
finishes : Finishes (world opened (Begun set_max)) actor.Shell (answer_by actor.Shell answer.Done) (world once_lowered Rests)
finishes = (
  Goes ∷ [],
  world once_set (Does (stage.Lower r)),
  (world once_set (Does (stage.Lower r)), sets, refl, refl),
  inl (record { last = Ends answer.Done; turn = lowers; ends = refl; within = omega arith; answers_are = refl }),
)
