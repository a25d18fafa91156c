-- A page that a reclaim takes leaves its frame, in all joined parts.
use Rattle.std.proofs.Common.{◌≡◌, ◌∙◌, ◌+◌, ◌<◌, ◌≤◌, ℕ, Bool, false, true, Option, Some, None, refl, sym, ap, subst, arith}
use Rattle.std.specs.Prelude.{nat_lt, slice_set}
use Rattle.std.proofs.lemmas.Bool.Decides.{nat_tests}
use Rattle.machine.specs.declared.event.Goal.{Goal}
use Rattle.machine.specs.Slots.{there_and}
use Rattle.machine.specs.Pages.{Content, Memory, OfFile, Page, Held, Going, page_at, home_block, is_anon, is_held, is_held_in, used_swap}
use Rattle.machine.specs.Reclaim.{is_next}
use Rattle.page_lists.proofs.TakeableLemmas.{next-takeable}
use Rattle.machine.specs.Generations.{is_listed, gens_at}
use Rattle.machine.specs.Lists.{Youngest, AreGenerations, GoesOn, PicksOf, TakesNext, served, cursor_served}
use Rattle.machine.specs.State.{is_swap_free}
use Rattle.machine.proofs.Values.{some_inj}
use Rattle.page_lists.proofs.CursorLemmas.{cursors-set}
use Rattle.page_lists.proofs.HeldLemmas.{goes-max}
use Rattle.pages.specs.declared.way.WayOut.TheVariants as way
use Rattle.pages.specs.Tickets.{TicketOf}
use Rattle.pages.specs.PagesOf.{Label, labelled, of_file, HasResidence, way_of}
use Rattle.reclaim.specs.Cursors.{CursorsOf}
use Rattle.page_state.specs.declared.joined.State.TheInside.{Inside}
use Rattle.page_state.specs.declared.parts.Parts.{Parts}
use Rattle.page_state.specs.Owned.{PartsAgree}
use Rattle.page_state.specs.Parts.{Stays, GoesTo, BeginsOut, Drops, LeavesSo}
use Rattle.page_state.specs.Mapped.{AreMapped}
use Rattle.held_pages.specs.Held.{HeldOf, KeepsRows}
use Rattle.page_state.specs.Changes.{IsWrittenTo, BeginsWriteOut, DropsClean, TakesPage}
use Rattle.page_state.specs.Joined.{joined_of, IsJoined}
use Rattle.page_state.proofs.MappedLemmas.{is_cached, mapped-begun, mapped-gone}
use Rattle.page_state.proofs.JoinLemmas.{joined-pages}
use Rattle.page_state.proofs.PartsLemmas.{agree-counted, stays-then}
use Rattle.page_state.proofs.AccessLemmas.{tables-same}
use Rattle.page_state.proofs.NextLemmas.{held-searched, listed-stands, given-takes, takeable-swap}

-- what is dropped is a page of a file that was not written to
pub dropped-file : (content : Content) (dirty : Bool) → way_of content dirty ≡ way.Dropped → (file : ℕ) × (q : ℕ) × (content ≡ OfFile file q) × (dirty ≡ false)
dropped-file Memory dirty e = absurd cc
dropped-file (OfFile file q) true e = absurd cc
dropped-file (OfFile file q) false e = (file, q, refl, refl)

same-label : (label : Label) (file q : ℕ) → label.content ≡ OfFile file q → label.dirty ≡ false → label ≡ of_file file q label.group false
same-label label file q holds clean =
    ap (λ (c : Content). let l : Label = record { content = c; group = label.group; dirty = label.dirty } in l) holds ∙ ap (λ (d : Bool). of_file file q label.group d) clean

-- the page that a group gives, and the lists after the search for it
pub record Picks (s : Inside) (looked : HeldOf) (g p : ℕ) : Type 0 where
  pub label : Label
  pub frame : ℕ
  pub stands : HasResidence s.parts.pages.pages p label (Held frame)
  pub group : label.group ≡ g
  pub picked : PicksOf (is_swap_free (joined_of s).tables) s.parts.held.lists g (Some p) looked.lists
  pub rows : KeepsRows s.parts.held.lists looked.lists
  -- three generations more are begun at most
  pub ages : (h : ℕ) → (gens_at looked.lists.groups h).max_seq ≤ (gens_at s.parts.held.lists.groups h).max_seq + 3
  pub others : looked ≡ record (s.parts.held) { lists = looked.lists }

pub picks-of : (s : Inside) → IsJoined s → (looked : HeldOf) (g p : ℕ) (free : Bool) → free ≡ is_swap_free (joined_of s).tables → PicksOf free s.parts.held.lists g (Some p) looked.lists → is_listed (gens_at s.parts.held.lists.groups g) p ≡ true
    → KeepsRows s.parts.held.lists looked.lists → ((h : ℕ) → (gens_at looked.lists.groups h).max_seq ≤ (gens_at s.parts.held.lists.groups h).max_seq + 3) → looked ≡ record (s.parts.held) { lists = looked.lists } → Picks s looked g p
picks-of s is looked g p free same picked listed rows ages others =
    let h = s.parts in
    let stands = listed-stands h.pages.pages h.held.lists is.agree.held g p listed in
    record {
      label = stands.0;
      frame = stands.1;
      stands = stands.2;
      group = stands.3;
      picked = subst (λ (b : Bool). PicksOf b h.held.lists g (Some p) looked.lists) same picked;
      rows = rows;
      ages = ages;
      others = others;
    }

module _ (s : Inside) (is : IsJoined s) (sound : AreGenerations s.parts.held.lists) (goal : Goal) (target g : ℕ) (serves : served (joined_of s).tables (joined_of s).order goal target ≡ Some g) (looked : HeldOf) (p : ℕ) (picks : Picks s looked g p) where
  abbrev searched : Parts
  searched = record (s.parts) { held = looked }

  pub agree-searched : PartsAgree searched
  agree-searched =
      let h = s.parts in
      agree-counted h h.counters looked h.pages.groups h.pages.room is.agree.kept.counted (held-searched h.pages.pages h.held.lists is.agree.held looked.lists picks.rows) (picks.rows.groups ∙ is.agree.held_groups) is.agree.page_groups
      (ap (λ (held : HeldOf). held.numbers) picks.others) is.agree

  may : is_next (joined_of s).tables target (labelled picks.label (Held picks.frame)) ≡ true
  may = given-takes (joined_of s).tables target g (joined_of s).order goal serves is.agree.held sound p looked.lists picks.label picks.frame picks.group picks.stands picks.picked

  -- for memory a swap block is free
  pub leaves-swap : (x : Page) → page_at s.parts.pages.pages p ≡ Some x → is_anon x.content ≡ true → used_swap s.parts.pages.pages < s.parts.slots.blocks
  leaves-swap x there anon =
      let free = takeable-swap (joined_of s).tables target (labelled picks.label (Held picks.frame)) (next-takeable (joined_of s).tables target (labelled picks.label (Held picks.frame)) may) (ap (λ (y : Page). is_anon y.content) (some_inj (sym picks.stands ∙ there)) ∙ anon) in
      less (used_swap s.parts.pages.pages) s.config.swap s.parts.slots.blocks free is.swap
    where
      less : (used config blocks : ℕ) → nat_lt used config ≡ true → blocks ≡ config → used < blocks
      less used config blocks free same = grind (arith, nat_tests, free, same)

  -- it is taken of its list, and the target's cursor names the group
  module _ (now : Parts) (agree : PartsAgree now) (stays : Stays searched now) (cursors : CursorsOf) (moves : cursors.cursors ≡ slice_set s.cursors.cursors target (cursor_served (joined_of s).tables (joined_of s).order goal target g)) where
    abbrev after : Inside
    after = record s { parts = now; cursors = cursors }

    stays_all : Stays s.parts now
    stays_all =
        stays-then s.parts searched now
        (record {
          groups = record { tree = refl; limits = refl; room = refl };
          frames = refl;
          most_spares = refl;
          blocks = refl;
          numbers = refl;
          page_groups = refl;
          page_frames = refl;
          held_numbers = ap (λ (held : HeldOf). held.numbers) picks.others;
          moving_room = refl;
          files = refl;
        })
        stays

    joined_after : AreMapped now.pages.pages s.spaces.page_tables → IsJoined after
    joined_after mapped = joined-pages s is now cursors s.spaces agree stays_all mapped refl refl is.homes (cursors-set s.cursors.cursors cursors.cursors target _ moves)

    module _ (held : GoesOn Youngest s.parts.pages.pages looked.lists now.pages.pages now.held.lists) where
      next : is_held_in now.pages.pages p ≡ false → TakesNext (joined_of s).tables (joined_of s).order goal target (joined_of after).tables (joined_of after).order
      next taken = record { g = g; next = serves; p = p; looked = looked.lists; picked = picks.picked; was = ap (there_and is_held) picks.stands; taken = taken; leaves = held; moves = moves }

      ages : (h : ℕ) → (gens_at now.held.lists.groups h).max_seq ≤ (gens_at s.parts.held.lists.groups h).max_seq + 3
      ages h = subst (λ (n : ℕ). n ≤ (gens_at s.parts.held.lists.groups h).max_seq + 3) (sym (goes-max Youngest s.parts.pages.pages now.pages.pages looked.lists now.held.lists held h)) (picks.ages h)

  module _ (now : Parts) (agree : PartsAgree now) (cursors : CursorsOf) (moves : cursors.cursors ≡ slice_set s.cursors.cursors target (cursor_served (joined_of s).tables (joined_of s).order goal target g)) where
    -- it begins to be written out
    module _ (ticket : TicketOf) (out : BeginsOut searched now p picks.label picks.frame ticket) where
      goes-to : (content : Content) (dirty : Bool) → GoesTo searched content dirty ticket.block → IsWrittenTo (joined_of s).tables content dirty ticket.block
      goes-to Memory dirty free = record { in_range = subst (λ n. ticket.block < n) is.swap free.0; unused = free.1 }
      goes-to (OfFile file q) dirty home =
          (home.0, home.1 ∙ ap (λ (n : ℕ). home_block n s.parts.pages.files.sizes file q) is.swap ∙ ap (λ sizes. home_block s.config.swap sizes file q) is.files)

      joined-out : IsJoined (record s { parts = now; cursors = cursors })
      joined-out =
          joined_after now agree out.stays cursors moves
          (mapped-begun s.parts.pages.pages s.spaces.page_tables is.mapped now.pages.pages p (labelled picks.label (Held picks.frame)) (labelled picks.label (Going picks.frame ticket.block ticket.number)) picks.stands out.begins.placed refl refl)

      begins-out : BeginsWriteOut (joined_of s) (joined_of (record s { parts = now; cursors = cursors })) goal target g ticket
      begins-out =
          record {
            p = p;
            label = picks.label;
            own = picks.group;
            frame = picks.frame;
            stood = picks.stands;
            may = may;
            block = goes-to picks.label.content picks.label.dirty out.block;
            begins = record { ticket_free = out.begins.ticket_free; given = out.begins.given; placed = out.begins.placed; listed = out.begins.listed };
            holds = λ o within. out.holds o within ∙ sym (out.bytes p o);
            tables = tables-same s is now agree (stays_all now agree out.stays cursors moves);
            bytes = out.bytes;
            next = next now agree out.stays cursors moves out.held (ap (there_and is_held) out.begins.placed.changed);
            ages = ages now agree out.stays cursors moves out.held;
          }

    -- or it is gone, a page of a file as its home block has it
    module _ (file q : ℕ) (holds : picks.label.content ≡ OfFile file q) (clean : picks.label.dirty ≡ false) (gone : Drops searched now p) where
      is_file : is_cached (page_at s.parts.pages.pages p) ≡ true
      is_file = ap is_cached picks.stands ∙ ap (λ (c : Content). is_cached (Some (labelled (record { content = c; group = picks.label.group; dirty = picks.label.dirty }) (Held picks.frame)))) holds

      joined-gone : IsJoined (record s { parts = now; cursors = cursors })
      joined-gone = joined_after now agree gone.stays cursors moves (mapped-gone s.parts.pages.pages s.spaces.page_tables is.mapped now.pages.pages p is_file gone.drops.gone)

      drops-clean : DropsClean (joined_of s) (joined_of (record s { parts = now; cursors = cursors })) goal target g
      drops-clean =
          record {
            p = p;
            file = file;
            q = q;
            g = picks.label.group;
            own = picks.group;
            frame = picks.frame;
            stood = subst (λ (l : Label). HasResidence s.parts.pages.pages p l (Held picks.frame)) (same-label picks.label file q holds clean) picks.stands;
            may = subst (λ (l : Label). is_next (joined_of s).tables target (labelled l (Held picks.frame)) ≡ true) (same-label picks.label file q holds clean) may;
            drops = record { gone = gone.drops.gone; others = gone.drops.others; flights = gone.drops.flights };
            tables = tables-same s is now agree (stays_all now agree gone.stays cursors moves);
            next = next now agree gone.stays cursors moves gone.held (ap (there_and is_held) gone.drops.gone.changed);
            ages = ages now agree gone.stays cursors moves gone.held;
          }

    pub joined-left : (result : Option TicketOf) → LeavesSo searched now p picks.label picks.frame result → IsJoined (record s { parts = now; cursors = cursors })
    joined-left (Some ticket) out = joined-out ticket out
    joined-left None gone = let is_clean = dropped-file picks.label.content picks.label.dirty gone.0 in joined-gone is_clean.0 is_clean.1 is_clean.2 is_clean.3 gone.1

    pub takes-page : (result : Option TicketOf) → LeavesSo searched now p picks.label picks.frame result → TakesPage (joined_of s) (joined_of (record s { parts = now; cursors = cursors })) goal target g result
    takes-page (Some ticket) out = begins-out ticket out
    takes-page None gone = let is_clean = dropped-file picks.label.content picks.label.dirty gone.0 in drops-clean is_clean.0 is_clean.1 is_clean.2 is_clean.3 gone.1
