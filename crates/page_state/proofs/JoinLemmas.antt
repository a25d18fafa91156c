-- Constructors of the joined record: what each kind of change leaves of the parts' agreement.
use Rattle.std.proofs.Common.{◌≡◌, ◌∙◌, ◌+◌, ◌<◌, ◌++◌, ◌∷◌, [], ℕ, true, false, List, length, Some, None, refl, sym, ap, subst, arith}
use Rattle.std.specs.Prelude.{nat_lt}
use Rattle.machine.specs.declared.record.OomGroup.TheVariants.{Single}
use Rattle.machine.specs.Tree.{Node, is_live, find_group}
use Rattle.machine.specs.Names.{parent_path}
use Rattle.machine.specs.Pages.{Pages, used_frames, charged}
use Rattle.machine.specs.State.{over_in, is_frame_free}
use Rattle.std.proofs.lemmas.Bool.Decides.{nat_tests}
use Rattle.std.proofs.lemmas.List.{length-append}
use Rattle.machine.specs.Tasks.{lives, group_of_task}
use Rattle.machine.specs.Step.{new_node}
use Rattle.machine.specs.Order.{no_cursor}
use Rattle.page_lists.proofs.CursorLemmas.{cursors-push}
use Rattle.files.specs.Files.{FilesOf}
use Rattle.group_tree.specs.Flags.{FlagsOf}
use Rattle.group_tree.specs.Kin.{AreKin}
use Rattle.group_tree.specs.Lineages.{bare, IsLineage}
use Rattle.group_tree.proofs.LineageLemmas.{live-within}
use Rattle.memory_events.specs.Tables.{EventTable}
use Rattle.reclaim.specs.Cursors.{CursorsOf}
use Rattle.spaces.specs.Space.{Space}
use Rattle.page_state.specs.declared.joined.State.TheInside.{Inside}
use Rattle.page_state.specs.declared.parts.Parts.{Parts}
use Rattle.page_state.specs.Parts.{Stays, over_of, IsGranted}
use Rattle.page_state.specs.Owned.{PartsAgree}
use Rattle.page_state.specs.States.{StateOf}
use Rattle.page_state.specs.Changes.{files_of, HasRoom}
use Rattle.page_state.specs.Joined.{joined_of, IsJoined}
use Rattle.page_state.specs.Mapped.{AreMapped}
use Rattle.page_state.proofs.KinLemmas.{kin-push, live-push, kin-over, over-live}

-- the files are those of the opening
pub files-opened : (s : Inside) → IsJoined s → s.parts.pages.files ≡ files_of (joined_of s).tables.opening
files-opened s is =
    ap (λ (n : ℕ). let files : FilesOf = record { first = n; sizes = s.parts.pages.files.sizes } in files) (is.agree.homes ∙ is.swap) ∙ ap (λ (sizes : List ℕ). let files : FilesOf = record { first = s.config.swap; sizes = sizes } in files) is.files

-- pages changed, and what shows them with them; the cursors of as many groups, and no group
pub joined-pages : (s : Inside) → IsJoined s → (h : Parts) (cursors : CursorsOf) (spaces : Space) → PartsAgree h → Stays s.parts h
    → AreMapped h.pages.pages spaces.page_tables → spaces.numbers ≡ s.spaces.numbers → spaces.groups ≡ s.spaces.groups → ((t : ℕ) → lives spaces.tasks t ≡ true → is_live s.tree (group_of_task spaces.tasks t) ≡ true)
    → length cursors.cursors ≡ length s.cursors.cursors
    → IsJoined (record s { parts = h; cursors = cursors; spaces = spaces })
joined-pages s is h cursors spaces agree stays mapped numbers groups homes numbered =
    record {
      sized = is.sized;
      agree = agree;
      frames = stays.frames ∙ is.frames;
      swap = stays.blocks ∙ is.swap;
      files = ap (λ (files : FilesOf). files.sizes) stays.files ∙ is.files;
      held_kin = subst (λ (k : List Node). AreKin k s.tree) (sym stays.groups.tree) is.held_kin;
      counted_kin = is.counted_kin;
      mapped = mapped;
      numbers = numbers ∙ is.numbers ∙ sym stays.numbers;
      homes = homes;
      page_numbers = stays.numbers ∙ is.page_numbers;
      flagged = is.flagged;
      cursors = numbered ∙ is.cursors;
      populated = groups ∙ is.populated;
    }

-- tasks began or ended, and what they map is what was mapped
pub joined-tasks : (s : Inside) → IsJoined s → (spaces : Space) → AreMapped s.parts.pages.pages spaces.page_tables → spaces.numbers ≡ s.spaces.numbers → spaces.groups ≡ s.spaces.groups
    → ((t : ℕ) → lives spaces.tasks t ≡ true → is_live s.tree (group_of_task spaces.tasks t) ≡ true) → IsJoined (record s { spaces = spaces })
joined-tasks s is spaces mapped numbers groups homes =
    record {
      sized = is.sized;
      agree = is.agree;
      frames = is.frames;
      swap = is.swap;
      files = is.files;
      held_kin = is.held_kin;
      counted_kin = is.counted_kin;
      mapped = mapped;
      numbers = numbers ∙ is.numbers;
      homes = homes;
      page_numbers = is.page_numbers;
      flagged = is.flagged;
      cursors = is.cursors;
      populated = groups ∙ is.populated;
    }

-- a group more, below one that is there
pub joined-group : (s : Inside) → IsJoined s → (path : List ℕ) (parent : ℕ) → find_group s.tree (parent_path path) ≡ Some parent
    → (tree : List Node) (flags : FlagsOf) (h : Parts) (cursors : CursorsOf) (events : EventTable) (room : ℕ) → tree ≡ s.tree ++ new_node s.tree path ∷ [] → flags.flags ≡ s.flags.flags ++ Single ∷ []
    → PartsAgree h → h.counters.tree ≡ s.parts.counters.tree ++ bare (Some parent) ∷ [] → events.tree ≡ s.events.tree ++ bare (Some parent) ∷ []
    → h.pages.pages ≡ s.parts.pages.pages → h.pool.frames ≡ s.parts.pool.frames → h.slots.blocks ≡ s.parts.slots.blocks → h.pages.numbers ≡ s.parts.pages.numbers → h.pages.files ≡ s.parts.pages.files
    → cursors.cursors ≡ s.cursors.cursors ++ no_cursor ∷ [] → IsJoined (record s { tree = tree; flags = flags; parts = h; cursors = cursors; events = events; spaces = record (s.spaces) { groups = s.spaces.groups + 1; room = room } })
joined-group s is path parent found tree flags h cursors events room more flags_more agree kin counted pages frames swap numbers files numbered =
    record {
      sized = is.sized;
      agree = agree;
      frames = frames ∙ is.frames;
      swap = swap ∙ is.swap;
      files = ap (λ (files : FilesOf). files.sizes) files ∙ is.files;
      numbers = is.numbers ∙ sym numbers;
      page_numbers = numbers ∙ is.page_numbers;
      held_kin = rw (kin, more) (kin-push s.parts.counters.tree s.tree parent (new_node s.tree path) is.held_kin found refl);
      counted_kin = rw (counted, more) (kin-push s.events.tree s.tree parent (new_node s.tree path) is.counted_kin found refl);
      mapped = subst (λ (ps : Pages). AreMapped ps s.spaces.page_tables) (sym pages) is.mapped;
      homes = λ t alive. rw more (live-push s.tree (new_node s.tree path) (group_of_task s.spaces.tasks t) (is.homes t alive));
      flagged = rw more (ap length flags_more ∙ length-append s.flags.flags (Single ∷ []) ∙ ap (λ n. n + 1) is.flagged ∙ sym (length-append s.tree (new_node s.tree path ∷ [])));
      cursors = rw more (cursors-push s.tree (new_node s.tree path) s.cursors.cursors cursors.cursors is.cursors numbered);
      populated = rw more (let sized = is.populated in let longer = length-append s.tree (new_node s.tree path ∷ []) in omega (arith, sized, longer));
    }

-- the number of a live group's tasks is kept
pub group-kept : (s : Inside) → IsJoined s → (g : ℕ) → is_live s.tree g ≡ true → g < s.spaces.groups
group-kept s is g live = let within = live-within s.tree g live in let sized = is.populated in omega (arith, within, sized)

-- ---- room

free-true : (used frames config : ℕ) → used < frames → frames ≡ config → nat_lt used config ≡ true
free-true used frames config lt same = grind (arith, nat_tests, lt, same)

free-false : (used frames config : ℕ) → used ≡ frames → frames ≡ config → nat_lt used config ≡ false
free-false used frames config full same = grind (arith, nat_tests, full, same)

free-less : (used frames config : ℕ) → nat_lt used config ≡ true → frames ≡ config → used < frames
free-less used frames config free same = grind (arith, nat_tests, free, same)

module _ (s : Inside) (is : IsJoined s) (g : ℕ) where
  same_over : over_in (joined_of s).tables g ≡ over_of s.parts g
  same_over = sym (kin-over s.parts.counters.tree s.tree is.held_kin s.parts.counters.limits s.parts.pages.pages g)

  -- what is granted in the parts has room in the tables
  pub room-granted : IsGranted s.parts g → HasRoom (joined_of s).tables g
  room-granted granted = record { under = same_over ∙ granted.under; free = free-true (used_frames s.parts.pages.pages) s.parts.pool.frames s.config.frames granted.free is.frames }

  pub granted-room : HasRoom (joined_of s).tables g → IsGranted s.parts g
  granted-room room = record { under = sym same_over ∙ room.under; free = free-less (used_frames s.parts.pages.pages) s.parts.pool.frames s.config.frames room.free is.frames }

  -- no room for it in the lowest group from there up, which is a live one
  pub room-over : (a : ℕ) → IsLineage s.parts.counters.tree → is_live s.tree g ≡ true → over_of s.parts g ≡ Some a → (over_in (joined_of s).tables g ≡ Some a) × (is_live s.tree a ≡ true)
  room-over a lineage live over = (
    same_over ∙ over,
    sym (is.held_kin.living a) ∙ over-live s.parts.counters.tree lineage s.parts.counters.limits (charged s.parts.counters.tree s.parts.pages.pages) a g (is.held_kin.living g ∙ live) over,
  )

  -- or no frame
  pub room-full : over_of s.parts g ≡ None → used_frames s.parts.pages.pages ≡ s.parts.pool.frames → (over_in (joined_of s).tables g ≡ None) × (is_frame_free (joined_of s).tables ≡ false)
  room-full over full = (same_over ∙ over, free-false (used_frames s.parts.pages.pages) s.parts.pool.frames s.config.frames full is.frames)

-- what a caller sees of a group is so in the parts
module _ (s : Inside) (is : IsJoined s) (seen : StateOf) (same : joined_of s ≡ seen) (g : ℕ) where
  pub seen-live : is_live seen.tables.tree g ≡ true → is_live s.parts.counters.tree g ≡ true
  seen-live live = is.held_kin.living g ∙ subst (λ (v : StateOf). is_live v.tables.tree g ≡ true) (sym same) live

  pub seen-granted : HasRoom seen.tables g → IsGranted s.parts g
  seen-granted room = granted-room s is g (subst (λ (v : StateOf). HasRoom v.tables g) (sym same) room)
