-- Pages that are read in and written, in all joined parts.
use Rattle.std.proofs.Common.{◌≡◌, ℕ, true, List, Option, Some, None, refl, ap, subst}
use Rattle.machine.specs.declared.event.Op.TheVariants.{Write}
use Rattle.machine.specs.Slots.{Changes, there_and}
use Rattle.machine.specs.Pages.{Coming, Away, Page, page_at, is_held, is_held_in}
use Rattle.machine.specs.Step.{touched}
use Rattle.machine.specs.State.{page_numbers}
use Rattle.files.specs.Files.{FilesOf}
use Rattle.pages.specs.declared.source.Source.{Source}
use Rattle.pages.specs.declared.source.Source.TheVariants as source
use Rattle.pages.specs.Transfers.{ReadsFrom}
use Rattle.pages.specs.PagesOf.{Label, labelled, memory_of}
use Rattle.page_state.specs.declared.joined.State.TheInside.{Inside}
use Rattle.page_state.specs.declared.parts.Parts.{Parts}
use Rattle.page_state.specs.Owned.{PartsAgree}
use Rattle.page_state.specs.Parts.{Stays}
use Rattle.machine.specs.declared.record.Limits.{Limits}
use Rattle.page_state.specs.States.{StateOf}
use Rattle.page_state.specs.Changes.{files_of}
use Rattle.page_state.specs.Joined.{joined_of, IsJoined}
use Rattle.page_state.specs.Mapped.{AreMapped}
use Rattle.page_state.proofs.MappedLemmas.{mapped-begun, mapped-new, mapped-touched}
use Rattle.page_state.proofs.JoinLemmas.{files-opened, joined-pages}

module _ (s : Inside) (is : IsJoined s) (now : Parts) (agree : PartsAgree now) (stays : Stays s.parts now) where
  -- only what is stored of the pages is another
  pub tables-same : (joined_of (record s { parts = now })).tables ≡ record ((joined_of s).tables) { pages = now.pages.pages }
  tables-same = let old : StateOf = joined_of s in ap (λ (limits : List Limits). record (old.tables) { limits = limits; pages = now.pages.pages }) stays.groups.limits

  -- ---- read in

  -- what is read in by the files and the numbers of the opening
  pub reads-same : (from : Source) (g p : ℕ) (label : Label) (block : ℕ) → ReadsFrom s.parts.pages.pages s.parts.pages.numbers s.parts.pages.files from g p label block
      → ReadsFrom s.parts.pages.pages (page_numbers (joined_of s).tables.opening) (files_of (joined_of s).tables.opening) from g p label block
  reads-same from g p label block reads =
      subst (λ (n : ℕ). ReadsFrom s.parts.pages.pages n (files_of (joined_of s).tables.opening) from g p label block) is.page_numbers
      (subst (λ (files : FilesOf). ReadsFrom s.parts.pages.pages s.parts.pages.numbers files from g p label block) (files-opened s is) reads)

  -- a page that was there, and holds what it held; or one under a number that was free
  pub joined-read : (from : Source) (g p : ℕ) (label : Label) (frame block n : ℕ) → ReadsFrom s.parts.pages.pages s.parts.pages.numbers s.parts.pages.files from g p label block
      → Changes s.parts.pages.pages now.pages.pages p (Some (labelled label (Coming frame block n))) → IsJoined (record s { parts = now })
  joined-read from g p label frame block n reads placed = joined-pages s is now s.cursors s.spaces agree stays (by_source from reads) refl refl is.homes refl
    where
      by_source : (x : Source) → ReadsFrom s.parts.pages.pages s.parts.pages.numbers s.parts.pages.files x g p label block → AreMapped now.pages.pages s.spaces.page_tables
      by_source (source.Swapped page) reads = mapped-begun s.parts.pages.pages s.spaces.page_tables is.mapped now.pages.pages p (labelled (memory_of reads.2) (Away block)) (labelled label (Coming frame block n)) reads.3 placed refl
          (ap (λ (l : Label). l.content) reads.1)
      by_source (source.File at) reads = mapped-new s.parts.pages.pages s.spaces.page_tables is.mapped now.pages.pages p _ reads.3 placed refl

  -- ---- written

  pub joined-written : (p byte : ℕ) → is_held_in s.parts.pages.pages p ≡ true → ((x : Page) → page_at s.parts.pages.pages p ≡ Some x → Changes s.parts.pages.pages now.pages.pages p (Some (touched x (Write byte)))) → IsJoined (record s { parts = now })
  joined-written p byte held placed = joined-pages s is now s.cursors s.spaces agree stays (by_slot (page_at s.parts.pages.pages p) refl held) refl refl is.homes refl
    where
      by_slot : (slot : Option Page) → page_at s.parts.pages.pages p ≡ slot → there_and is_held slot ≡ true → AreMapped now.pages.pages s.spaces.page_tables
      by_slot None there e = absurd cc
      by_slot (Some page) there e = mapped-touched s.parts.pages.pages s.spaces.page_tables is.mapped now.pages.pages p page (touched page (Write byte)) there (placed page there) refl refl
