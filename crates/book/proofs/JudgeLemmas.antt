-- What is judged of an event before anything changes.
use Rattle.std.proofs.Common.{inl, inr, ◌≡◌, ℕ, arith, Bool, true, Option, Some, None, refl, sym, ap, subst, ◌∙◌, false}
use Rattle.std.specs.Prelude.{IsSome, IfSome, nat_lt, option_map, slice_index}
use Rattle.std.proofs.lemmas.Bool.Decides.{nat_tests}
use Rattle.std.proofs.lemmas.Bool.{and_parts}
use Rattle.machine.specs.declared.id.FrameId.{FrameId}
use Rattle.machine.specs.declared.id.GroupId.{GroupId}
use Rattle.machine.specs.declared.record.Task.{Task}
use Rattle.machine.specs.Pages.{Content, Memory, OfFile, Residence, Held, Away, Page, Pages, page_at, file_page, IsFiled, IsFiledAs}
use Rattle.machine.specs.Slots.{there_and}
use Rattle.machine.specs.Tree.{is_live}
use Rattle.machine.specs.Tasks.{Tasks, task_at, is_live_task, lives, group_of, group_of_task, mapped_at}
use Rattle.machine.proofs.Values.{some_inj}
use Rattle.page_lists.proofs.RegroupedLemmas.{swap-either}
use Rattle.machine.proofs.FileLemmas.{file_page-there}
use Rattle.files.specs.Files.{FilesOf}
use Rattle.pages.specs.PagesOf.{Label, labelled, label_of, memory_of, HasResidence, residence_of, AreFiled}
use Rattle.pages.specs.declared.residence.Residence.{Residence as Code_residence}
use Rattle.pages.specs.declared.residence.Residence.TheVariants as code
use Rattle.machine.specs.State.{State}
use Rattle.machine.specs.declared.event.Place.{Place}
use Rattle.machine.specs.declared.event.Place.TheVariants.{Virtual, File}
use Rattle.machine.specs.declared.event.Op.{Op}
use Rattle.machine.specs.Access as plain
use Rattle.machine.specs.Access.{page_size, is_place, is_shared_write, meets, charged_from_swap, charges}
use Rattle.machine.specs.History.{spot_of}
use Rattle.book_events.specs.Spots.{holder}
use Rattle.page_state.specs.Mapped.{AreMapped}
use Rattle.page_state.proofs.MappedLemmas.{mapped_there}
use Rattle.book.specs.declared.decision.PageFault.{PageFault}
use Rattle.book.specs.Decisions.{offset_at, IsFault, Finds, HasRoomFor, MeetsSource, met_by}
use Rattle.pages.specs.declared.source.Source.{Source}
use Rattle.pages.specs.declared.source.Source.TheVariants as source
use Rattle.pages.specs.Transfers.{IsReadable}
use Rattle.page_state.specs.Changes.{files_of, HasRoom}

pub known-home : (tasks : Tasks) (t : ℕ) (task : Task) → task_at tasks t ≡ Some task → group_of_task tasks t ≡ task.group.0
known-home tasks t task known = ap group_of known

-- ---- where a page is

-- a page that is there is where the code says it is
pub residence-some : (pages : Pages) (p : ℕ) (found : Code_residence) → Some found ≡ option_map (λ (page : Page). residence_of page.residence) (page_at pages p)
    → (label : Label) × (r : Residence) × HasResidence pages p label r × (residence_of r ≡ found)
residence-some pages p found e = by_slot (page_at pages p) refl e
  where
    by_slot : (slot : Option Page) → page_at pages p ≡ slot → Some found ≡ option_map (λ (page : Page). residence_of page.residence) slot
        → (label : Label) × (r : Residence) × HasResidence pages p label r × (residence_of r ≡ found)
    by_slot None is e = cc
    by_slot (Some page) is e = (label_of page, page.residence, is, sym (some_inj e))

pub residence-none : (slot : Option Page) → IsSome slot → option_map (λ (page : Page). residence_of page.residence) slot ≡ None → ⊥
residence-none slot there e = grind (arith, there, e)

-- in that frame, or on that block
pub is-held : (r : Residence) (frame : FrameId) → residence_of r ≡ code.Held frame → r ≡ Held frame.0
is-held r frame said = grind (arith, said)

pub is-away : (r : Residence) (b : ℕ) → residence_of r ≡ code.Away b → r ≡ Away b
is-away r b said = grind (arith, said)

-- ---- what an access needs

-- the charge that it needs is granted
pub room-for : (s : State) (fault : PageFault) (met : plain.Meeting) (g : ℕ) → HasRoomFor s fault → met_by s fault ≡ met → charges s.opening.placement met fault.group.0 ≡ Some g → HasRoom s g
room-for s fault met g has meeting needs = has g (ap (λ (m : plain.Meeting). charges s.opening.placement m fault.group.0) meeting ∙ needs)

-- ---- what an access meets that finds a page

-- a write to memory that others map too
abbrev pub is_shared_write_at : State → Place → ℕ → Op → Bool
is_shared_write_at s (Virtual v o) p op = is_shared_write s.page_tables p op
is_shared_write_at s (File file q o) p op = false

-- in a frame, where it may use the page as it is
pub meets-held : (s : State) (t p f : ℕ) (place : Place) (op : Op) (label : Label) → holder s (spot_of t place) ≡ Some p → HasResidence s.pages p label (Held f) → is_shared_write_at s place p op ≡ false
    → meets s t place op ≡ plain.Hits p (labelled label (Held f)) f
meets-held s t p f (Virtual v o) op label found stands alone = rw found (rw stands (rw alone refl))
meets-held s t p f (File file q o) op label found stands alone = rw found (rw stands refl)

-- ---- pages of files

module _ (files : FilesOf) (pages : Pages) (filed : AreFiled files pages) where
  filed_at : (p : ℕ) (page : Page) → page_at pages p ≡ Some page → IsFiled files.first files.sizes page
  filed_at p page there = subst (λ (slot : Option Page). IfSome slot (IsFiled files.first files.sizes)) there (filed.filed p)

  -- a page on its block alone is memory
  away-memory : (p b : ℕ) (label : Label) → HasResidence pages p label (Away b) → (g : ℕ) × HasResidence pages p (memory_of g) (Away b)
  away-memory p b label stands = by_content label.content refl (filed_at p (labelled label (Away b)) stands)
    where
      by_content : (content : Content) → label.content ≡ content → IsFiledAs files.first files.sizes (labelled label (Away b)) content → (g : ℕ) × HasResidence pages p (memory_of g) (Away b)
      by_content Memory is clean = (
        label.group,
        stands ∙ ap (λ (c : Content). Some (labelled (record { content = c; group = label.group; dirty = label.dirty }) (Away b))) is
            ∙ ap (λ (d : Bool). Some (labelled (record { content = Memory; group = label.group; dirty = d }) (Away b))) clean,
      )
      by_content (OfFile f q) is home = absurd (home.1)

  -- a page of a file never is
  cached-never_away : (f q p b : ℕ) (label : Label) → file_page pages f q ≡ Some p → HasResidence pages p label (Away b) → ⊥
  cached-never_away f q p b label cached stands =
      let there = file_page-there pages f q p cached in
      let one : Some there.0 ≡ Some (labelled label (Away b)) = sym there.1 ∙ stands in
      let holds : label.content ≡ OfFile f q = sym (ap (λ (page : Page). page.content) (some_inj one)) ∙ there.2 in
      let home : IsFiledAs files.first files.sizes (labelled label (Away b)) (OfFile f q) =
      subst (λ (c : Content). IsFiledAs files.first files.sizes (labelled label (Away b)) c) holds (filed_at p (labelled label (Away b)) stands) in
      home.1

-- a page that is found is there
pub found-there : (s : State) (t p : ℕ) (place : Place) → AreMapped s.pages s.page_tables → holder s (spot_of t place) ≡ Some p → IsSome (page_at s.pages p)
found-there s t p (Virtual v o) mapped found = mapped_there s.pages s.page_tables mapped t v p found
found-there s t p (File f q o) mapped found = (let there = file_page-there s.pages f q p found in subst (λ (slot : Option Page). IsSome slot) (sym there.1) refl)

-- on its block alone, where it is memory
pub meets-away : (files : FilesOf) (s : State) (fault : PageFault) (p b : ℕ) (h g : GroupId) → AreFiled files s.pages → Finds s fault p (Away b) → option_map (λ (page : Page). page.group) (page_at s.pages p) ≡ Some h.0
    → g.0 ≡ charged_from_swap s.opening.placement h.0 fault.group.0 → MeetsSource s fault (source.Swapped (record { 0 = p })) g
meets-away files s fault p b h g filed finds group charged = by_place fault.place refl
  where
    by_place : (place : Place) → fault.place ≡ place → MeetsSource s fault (source.Swapped (record { 0 = p })) g
    by_place (Virtual v o) is =
        let memory = away-memory files s.pages filed p b finds.label finds.stands in
        let own : memory.0 ≡ h.0 = some_inj (sym (ap (option_map (λ (page : Page). page.group)) memory.1) ∙ group) in
        let found : mapped_at s.page_tables fault.task.0 v ≡ Some p = sym (ap (λ (x : Place). holder s (spot_of fault.task.0 x)) is) ∙ finds.found in
        let stands : HasResidence s.pages p (memory_of h.0) (Away b) = subst (λ (x : ℕ). HasResidence s.pages p (memory_of x) (Away b)) own memory.1 in
        (h.0, b, charged, ap (λ (x : Place). meets s fault.task.0 x fault.op) is ∙ rw found (rw stands refl), stands)
    by_place (File f q o) is = absurd (cached-never_away files s.pages filed f q p b finds.label (sym (ap (λ (x : Place). holder s (spot_of fault.task.0 x)) is) ∙ finds.found) finds.stands)

-- what is read in can be
pub source-readable : (s : State) (fault : PageFault) (from : Source) (g : GroupId) → IsFault s fault → MeetsSource s fault from g → IsReadable s.pages (files_of s.opening) from
source-readable s fault (source.Swapped p) g is met = (met.0, met.1, met.4)
source-readable s fault (source.File at) g is met =
    let within = (and_parts (nat_lt at.page (slice_index s.opening.files at.file)) (nat_lt (offset_at fault) page_size) (sym (ap (is_place s.opening) met.1) ∙ is.there)).0 in (grind (arith, nat_tests, within), met.2)

-- and the group that is charged for it is there
pub source-live : (s : State) (fault : PageFault) (from : Source) (g : GroupId) → ((t : ℕ) → lives s.tasks t ≡ true → is_live s.tree (group_of_task s.tasks t) ≡ true)
    → ((p : ℕ) → IfSome (page_at s.pages p) (λ page. is_live s.tree page.group ≡ true)) → IsFault s fault → MeetsSource s fault from g → is_live s.tree g.0 ≡ true
source-live s fault from g homes groups is meets = by_source from meets
  where
    home : is_live s.tree fault.group.0 ≡ true
    home = subst (λ (n : ℕ). is_live s.tree n ≡ true) (known-home s.tasks fault.task.0 _ is.known) (homes fault.task.0 (ap (there_and is_live_task) is.known))

    by_source : (x : Source) → MeetsSource s fault x g → is_live s.tree g.0 ≡ true
    by_source (source.Swapped p) meets =
        ap (is_live s.tree) meets.2
        ∙ elim (swap-either s.opening.placement meets.0 fault.group.0) [
          | inl own ↦ ap (is_live s.tree) own ∙ subst (λ (slot : Option Page). IfSome slot (λ page. is_live s.tree page.group ≡ true)) meets.4 (groups p.0)
          | inr reads ↦ ap (is_live s.tree) reads ∙ home
        ]
    by_source (source.File at) meets = subst (λ (x : GroupId). is_live s.tree x.0 ≡ true) (sym meets.3) home

-- it is the one that the access charges
pub source-charges : (s : State) (fault : PageFault) (from : Source) (g : GroupId) → MeetsSource s fault from g → charges s.opening.placement (met_by s fault) fault.group.0 ≡ Some g.0
source-charges s fault (source.Swapped p) g meets = ap (λ (m : plain.Meeting). charges s.opening.placement m fault.group.0) meets.3 ∙ ap (λ (n : ℕ). Some n) (sym meets.2)
source-charges s fault (source.File at) g meets = ap (λ (m : plain.Meeting). charges s.opening.placement m fault.group.0) meets.0 ∙ ap (λ (x : GroupId). Some x.0) (sym meets.3)

-- and has room for it
pub source-room : (s : State) (fault : PageFault) (from : Source) (g : GroupId) → HasRoomFor s fault → MeetsSource s fault from g → HasRoom s g.0
source-room s fault from g has meets = has g.0 (source-charges s fault from g meets)
