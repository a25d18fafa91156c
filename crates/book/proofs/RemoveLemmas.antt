-- What a group's removal is to the plain machine.
use Rattle.std.proofs.Common.{◌≡◌, inr, ℕ, zero, suc, List, [], ◌∷◌, Option, Some, None, refl, sym, ap, ◌∙◌, subst, arith}
use Rattle.std.specs.Prelude.{option_map}
use Rattle.machine.specs.declared.event.Event.TheVariants as event
use Rattle.machine.specs.declared.reply.Reply.TheVariants as reply
use Rattle.machine.specs.Slots.{there_and}
use Rattle.machine.specs.Pages.{Page, page_at, file_page, is_in_transfer, in_transfer}
use Rattle.machine.specs.Tasks.{mapped_at}
use Rattle.machine.specs.State.{State}
use Rattle.machine.specs.Generations.{Gens, taken_over, emptied, gens_at, with_gens, handed_over}
use Rattle.machine.specs.Lists.{Order, RemovesLists}
use Rattle.machine.specs.Step.{Removes, regrouped}
use Rattle.page_lists.proofs.RegroupedLemmas.{count-regrouped, regrouped-test}
use Rattle.machine.proofs.FileLemmas.{file_page-same}
use Rattle.page_state.specs.States.{StateOf}
use Rattle.page_state.specs.Changes.{RemovesGroup}
use Rattle.book_events.specs.Spots.{offset_of}
use Rattle.book.specs.Effects.{is_in_memory}
use Rattle.book.specs.MakesStep.{AgesByThree, MakesStep}
use Rattle.book.proofs.StepLemmas.{there-same, holder-same, stays-was, flights-kept}

-- ---- the lists

-- lists of the same youngest generation take another's place, and every group has the youngest that it had
youngest-set : (groups : List Gens) (g h : ℕ) (gens : Gens) → gens.max_seq ≡ (gens_at groups g).max_seq → (gens_at (with_gens groups g gens) h).max_seq ≡ (gens_at groups h).max_seq
youngest-set [] g h gens e = refl
youngest-set (x ∷ groups) zero zero gens e = e
youngest-set (x ∷ groups) zero (suc h) gens e = refl
youngest-set (x ∷ groups) (suc g) zero gens e = refl
youngest-set (x ∷ groups) (suc g) (suc h) gens e = youngest-set groups g h gens e

-- no group begins a generation where lists go over
youngest-handed : (groups : List Gens) (from to h : ℕ) → (gens_at (handed_over from to groups) h).max_seq ≡ (gens_at groups h).max_seq
youngest-handed groups from to h = youngest-set first from h (emptied (gens_at groups from)) (sym (taken from)) ∙ taken h
  where
    first : List Gens
    first = with_gens groups to (taken_over (gens_at groups from) (gens_at groups to))

    taken : (k : ℕ) → (gens_at first k).max_seq ≡ (gens_at groups k).max_seq
    taken k = youngest-set groups to k (taken_over (gens_at groups from) (gens_at groups to)) refl

-- ---- the step

module _ (old new : StateOf) (g : ℕ) (removes : RemovesGroup old new g) where
  -- each page is where it was
  memory_kept : (p : ℕ) → there_and (λ (page : Page). is_in_memory page.residence) (page_at new.tables.pages p) ≡ there_and (λ (page : Page). is_in_memory page.residence) (page_at old.tables.pages p)
  memory_kept p =
      ap (there_and (λ (page : Page). is_in_memory page.residence)) (removes.pages p) ∙ regrouped-test (λ (page : Page). is_in_memory page.residence) old.tables.opening.placement g removes.parent (λ page. refl) (page_at old.tables.pages p)

  moving_kept : in_transfer new.tables.pages ≡ in_transfer old.tables.pages
  moving_kept = count-regrouped old.tables.opening.placement g removes.parent old.tables.pages new.tables.pages removes.pages is_in_transfer (λ page. refl)

  -- and each place shows what it did
  same_place : (t v : ℕ) → mapped_at new.tables.page_tables t v ≡ mapped_at old.tables.page_tables t v
  same_place t v = ap (λ (s : State). mapped_at s.page_tables t v) removes.tables

  -- and each page of a file is where it was
  same_found : (f q : ℕ) → file_page new.tables.pages f q ≡ file_page old.tables.pages f q
  same_found f q = file_page-same old.tables.pages new.tables.pages (λ p. ap (option_map (λ (page : Page). page.content)) (removes.pages p) ∙ same_content (page_at old.tables.pages p)) f q
    where
      same_content : (slot : Option Page) → option_map (λ (page : Page). page.content) (option_map (regrouped old.tables.opening.placement g removes.parent) slot) ≡ option_map (λ (page : Page). page.content) slot
      same_content None = refl
      same_content (Some page) = refl

  pub makes_step-rmdir : MakesStep old (event.Rmdir (record { 0 = g })) reply.Ok new
  makes_step-rmdir =
      record {
        steps = removed;
        orders = subst (λ (above : Option ℕ). RemovesLists above g old.order new.order) (sym removes.below) removes.order;
        ages = aged;
        reads = tt;
        bytes = λ spot there known. inr
            (stays-was old new spot (there-same old.tables new.tables spot (ap (λ (s : State). s.tasks) removes.tables) there) (holder-same old.tables new.tables spot same_place same_found)
            (λ p at now. (sym (memory_kept p) ∙ now, removes.bytes p (offset_of spot))) known);
        flights = flights-kept old new reply.Ok removes.flights;
        kept = (let same = moving_kept in omega (arith, same));
        given = refl;
        opening = ap (λ (s : State). s.opening) removes.tables;
      }
    where
      removed : Removes old.tables g new.tables
      removed = record { parent = removes.parent; below = removes.below; pages = removes.pages; state = removes.tables }

      aged : AgesByThree old new
      aged h =
          let same : (gens_at new.order.held.groups h).max_seq ≡ (gens_at old.order.held.groups h).max_seq =
          ap (λ (o : Order). (gens_at o.held.groups h).max_seq) removes.order ∙ youngest-handed old.order.held.groups g removes.parent h in
          omega (arith, same)
