-- What is read in: memory that is on its slot alone, or a page of a file that is none yet.
use Rattle.std.proofs.Common.{◌≡◌, ℕ, false, List, Option, Some, refl}
use Rattle.machine.specs.Slots.{there_and}
use Rattle.machine.specs.Tree.{Node}
use Rattle.machine.specs.Pages.{Coming, Page, Pages, page_at, is_charged, has_frame, has_this_frame, has_swap, is_held, is_in_transfer}
use Rattle.files.specs.Files.{FilesOf}
use Rattle.pages.specs.declared.source.Source.{Source}
use Rattle.pages.specs.declared.source.Source.TheVariants as source
use Rattle.pages.specs.PagesOf.{Label, labelled}
use Rattle.pages.specs.Transfers.{ReadsFrom}
use Rattle.page_state.specs.Owned.{has_this_block, is_going}

-- before it is read in it has no frame, and the swap block that it has then, if it has one
pub record IsFetched (slot : Option Page) (label : Label) (block g : ℕ) : Type 0 where
  pub group : label.group ≡ g
  pub held : there_and is_held slot ≡ false
  pub moving : there_and is_in_transfer slot ≡ false
  pub going : there_and is_going slot ≡ false
  pub framed : there_and has_frame slot ≡ false
  pub frame : (f : ℕ) → there_and (has_this_frame f) slot ≡ false
  pub charged : (tree : List Node) (a : ℕ) → there_and (is_charged tree a) slot ≡ false
  pub blocks : (f n b : ℕ) → there_and (has_this_block b) (Some (labelled label (Coming f block n))) ≡ there_and (has_this_block b) slot
  pub swap : (f n : ℕ) → there_and has_swap (Some (labelled label (Coming f block n))) ≡ there_and has_swap slot

pub fetched : (pages : Pages) (numbers : ℕ) (files : FilesOf) (from : Source) (g p : ℕ) (label : Label) (block : ℕ) → ReadsFrom pages numbers files from g p label block → IsFetched (page_at pages p) label block g
fetched pages numbers files (source.Swapped page) g p label block reads =
    rw (reads.3, reads.1) (record { group = refl; held = refl; moving = refl; going = refl; framed = refl; frame = λ f. refl; charged = λ tree a. refl; blocks = λ f n b. refl; swap = λ f n. refl })
fetched pages numbers files (source.File at) g p label block reads =
    rw (reads.3, reads.1) (record { group = refl; held = refl; moving = refl; going = refl; framed = refl; frame = λ f. refl; charged = λ tree a. refl; blocks = λ f n b. refl; swap = λ f n. refl })
