-- What the opening of a run fixed, behind each of its steps; and what the pages of groups hold on a machine without files.
use Rattle.std.proofs.Common.{◌≡◌, ℕ, ◌&&◌, not, Bool, true, false, List, [], ◌∷◌, Option, Some, None, refl, sym, ap, ◌∙◌, append-nil, subst, arith}
use Rattle.std.specs.Prelude.{option_map, slice_index}
use Rattle.machine.specs.declared.config.Config.{Config}
use Rattle.machine.specs.declared.command.Step.{Step}
use Rattle.machine.specs.declared.command.Reply.{Reply}
use Rattle.machine.specs.declared.record.MemoryStat.{MemoryStat}
use Rattle.machine.specs.Slots.{there_and}
use Rattle.machine.specs.Tree.{find_group}
use Rattle.machine.specs.Pages.{Content, Memory, OfFile, Page, page_at, is_anon, is_charged, charged_anon, charged_file, IsFiledAs, IsFiled}
use Rattle.machine.specs.State.{Opening, State, opening_of, stat_of, usage}
use Rattle.machine.specs.Call.{Past}
use Rattle.machine.proofs.SlotLemmas.{count_there-none}
use Rattle.machine.proofs.RemovedLemmas.{count-alike}
use Rattle.block_store.specs.Device.{Disk}
use Rattle.book.specs.declared.looks.GroupLook.{GroupLook}
use Rattle.book.specs.Looks.{group_look, look_at, stat_at}
use Rattle.legal.proofs.FileSteps.{AreFiled}
use Rattle.legal.proofs.SoundLemmas.{legal-sound}
use Rattle.driver.specs.Schedule.{World, first_world, RunsThrough}
use Rattle.driver.proofs.Keeps.{runs_keep}
use Rattle.driver.proofs.Tickets.{Tickets, tickets_rest, tickets_turn, tickets_first}
use Rattle.charts.specs.declared.watching.Machine.{Machine}
use Rattle.charts.specs.declared.watching.Sizes.{Sizes}
use Rattle.charts.specs.WatchLaws.{IsOpened, AreOpened}

-- ---- the opening

-- a book of this opening was opened for a machine of these sizes
abbrev pub Fits : Sizes → Opening → Type 0
Fits sizes opening = (opening.frames ≡ sizes.frames) × (opening.swap ≡ sizes.swap) × (sizes.has_files ≡ false → opening.files ≡ [])

opened-at : (sizes : Sizes) (opening : Opening) (past : Past) → Fits sizes opening → past.state.opening ≡ opening → IsOpened sizes past
opened-at sizes opening past fits same =
    record {
      frames = ap (λ (o : Opening). o.frames) same ∙ fits.0;
      swap = ap (λ (o : Opening). o.swap) same ∙ fits.1;
      files = λ none. ap (λ (o : Opening). o.files) same ∙ fits.2 none;
    }

through-opened : (sizes : Sizes) (opening : Opening) (old new : World) (steps : List Step) (answers : List Reply) (pasts : List Past) → Fits sizes opening → RunsThrough old steps answers pasts new → Tickets opening old → AreOpened sizes pasts
through-opened sizes opening old new [] answers pasts fits runs tickets = subst (AreOpened sizes) (sym runs.1) tt
through-opened sizes opening old new (step ∷ steps) answers pasts fits runs tickets =
    let here : List Reply = runs.0 in
    let mid : World = runs.3 in
    let kept : Tickets opening mid = (runs_keep (Tickets opening) (tickets_rest opening) (tickets_turn opening) old mid (step ∷ []) here (here, [], mid, runs.4, (refl, refl), sym (append-nil here)) tickets).0 in
    let same : mid.past.state.opening ≡ opening = (legal-sound opening mid.past.history mid.past.state kept.legal).0 in
    subst (AreOpened sizes) (sym runs.7) (opened-at sizes opening mid.past fits same, through-opened sizes opening mid new steps runs.1 runs.2 fits runs.5 kept)

pub runs-opened : (sizes : Sizes) (config : Config) (before : Disk) (end : World) (steps : List Step) (answers : List Reply) (pasts : List Past)
    → Fits sizes (opening_of config) → RunsThrough (first_world config before) steps answers pasts end → AreOpened sizes pasts
runs-opened sizes config before end steps answers pasts fits runs = through-opened sizes (opening_of config) (first_world config before) end steps answers pasts fits runs (tickets_first config before)

-- ---- the machine

pub machine-alike : (used used' free free' swap swap' : ℕ) → used ≡ used' → free ≡ free' → swap ≡ swap' → Path Machine (record { used = used; free = free; swap = swap }) (record { used = used'; free = free'; swap = swap' })
machine-alike used used' free free' swap swap' a b c = rw (a, b, c) refl

-- ---- no files

-- a page of a file is one that the file has
filed-anon : (swap : ℕ) (files : List ℕ) (page : Page) → files ≡ [] → IsFiled swap files page → is_anon page.content ≡ true
filed-anon swap files page none filed = by_content page.content filed
  where
    by_content : (content : Content) → IsFiledAs swap files page content → is_anon content ≡ true
    by_content Memory h = refl
    by_content (OfFile file q) h =
        let size : slice_index files file ≡ 0 = ap (λ (fs : List ℕ). slice_index fs file) none in
        let within = h.0 in
        absurd (omega (arith, size, within))

module _ (s : State) (filed : AreFiled s) (none : s.opening.files ≡ []) where
  anon-there : (p : ℕ) (slot : Option Page) → page_at s.pages p ≡ slot → (test : Page → Bool) → there_and (λ page. test page && is_anon page.content) slot ≡ there_and test slot
  anon-there p None is test = refl
  anon-there p (Some page) is test = rw (filed-anon s.opening.swap s.opening.files page none (filed.filed p page is)) (and-true (test page))
    where
      and-true : (b : Bool) → (b && true) ≡ b
      and-true true = refl
      and-true false = refl

  file-there : (p : ℕ) (slot : Option Page) → page_at s.pages p ≡ slot → (test : Page → Bool) → there_and (λ page. test page && not (is_anon page.content)) slot ≡ false
  file-there p None is test = refl
  file-there p (Some page) is test = rw (filed-anon s.opening.swap s.opening.files page none (filed.filed p page is)) (and-false (test page))
    where
      and-false : (b : Bool) → (b && false) ≡ false
      and-false true = refl
      and-false false = refl

  no_file : (g : ℕ) → charged_file s.tree s.pages g ≡ 0
  no_file g = count_there-none (λ (page : Page). is_charged s.tree g page && not (is_anon page.content)) s.pages (λ p. file-there p (page_at s.pages p) refl (is_charged s.tree g))

  all_anon : (g : ℕ) → charged_anon s.tree s.pages g ≡ usage s g
  all_anon g = count-alike (is_charged s.tree g) (λ (page : Page). is_charged s.tree g page && is_anon page.content) s.pages s.pages (λ p. anon-there p (page_at s.pages p) refl (is_charged s.tree g))

  stat-is : (g : ℕ) → stat_of s g ≡ record { anon = (group_look s g).usage; file = 0 }
  stat-is g = rw (all_anon g, no_file g) refl

  -- what the pages of a group hold is what it is charged with
  pub stat-looked : (path : List ℕ) → option_map (λ (g : GroupLook). record { anon = g.usage; file = 0 }) (look_at s path) ≡ stat_at s path
  stat-looked path = by_group (find_group s.tree path)
    where
      by_group : (found : Option ℕ) → option_map (λ (g : GroupLook). record { anon = g.usage; file = 0 }) (option_map (group_look s) found) ≡ option_map (stat_of s) found
      by_group None = refl
      by_group (Some g) = ap (λ (stat : MemoryStat). Some stat) (sym (stat-is g))
