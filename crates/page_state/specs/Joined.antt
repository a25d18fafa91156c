-- What the fields of the joined parts mean, and how the parts agree. No public clause cites it.
use Rattle.std.specs.Prelude.{◌≡◌, ℕ, ◌+◌, true, length}
use Rattle.machine.specs.Tree.{is_live}
use Rattle.machine.specs.Tasks.{lives, group_of_task}
use Rattle.machine.specs.State.{sizes_of, opening_of, is_config}
use Rattle.group_tree.specs.Kin.{AreKin}
use Rattle.page_state.specs.declared.joined.State.TheInside.{Inside}
use Rattle.page_state.specs.States.{StateOf}
use Rattle.page_state.specs.Owned.{PartsAgree}
use Rattle.page_state.specs.Mapped.{AreMapped}

abbrev pub joined_of : Inside → StateOf
joined_of s =
    record {
      tables = record {
        opening = opening_of s.config;
        tree = s.tree;
        limits = s.parts.counters.limits;
        flags = s.flags.flags;
        pages = s.parts.pages.pages;
        tasks = s.spaces.tasks;
        page_tables = s.spaces.page_tables;
        counted = s.events.counted;
      };
      order = record { held = s.parts.held.lists; cursors = s.cursors.cursors };
      bytes = s.parts.pages.bytes;
      flights = s.parts.pages.flights;
    }

pub record IsJoined (s : Inside) : Type 0 where
  pub sized : is_config s.config ≡ true
  pub agree : PartsAgree s.parts
  pub frames : s.parts.pool.frames ≡ s.config.frames
  pub swap : s.parts.slots.blocks ≡ s.config.swap
  pub files : s.parts.pages.files.sizes ≡ sizes_of s.config.files
  pub held_kin : AreKin s.parts.counters.tree s.tree
  pub counted_kin : AreKin s.events.tree s.tree
  pub mapped : AreMapped s.parts.pages.pages s.spaces.page_tables
  -- there is a page number for each frame and each swap block
  pub page_numbers : s.parts.pages.numbers ≡ s.config.frames + s.config.swap
  -- each page has its count of mappers
  pub numbers : s.spaces.numbers ≡ s.parts.pages.numbers
  -- the group of a live task is there
  pub homes : (t : ℕ) → lives s.spaces.tasks t ≡ true → is_live s.tree (group_of_task s.spaces.tasks t) ≡ true
  -- each group has its flag
  pub flagged : length s.flags.flags ≡ length s.tree
  -- and its cursor
  pub cursors : length s.cursors.cursors ≡ length s.tree
  -- and its number of live tasks
  pub populated : s.spaces.groups ≡ length s.tree
