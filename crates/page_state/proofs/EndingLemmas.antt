-- A transfer's end in all joined parts: the page is settled, and goes where nothing maps it.
use Rattle.std.proofs.Common.{◌≡◌, inl, inr, ◌∙◌, ℕ, true, List, Option, Some, refl, sym, ap, subst}
use Rattle.std.specs.Prelude.{is_some, option_map}
use Rattle.machine.specs.declared.record.Direction.{Direction}
use Rattle.machine.specs.declared.record.Direction.TheVariants.{In, Out}
use Rattle.machine.specs.Slots.{at, Changes, there_and}
use Rattle.machine.specs.Pages.{Pages, page_at, is_held, is_held_in, is_in_flight}
use Rattle.machine.proofs.TreeLemmas.{eq_cases}
use Rattle.machine.specs.Lists.{Youngest, entry_after, AreGenerations, GoesOn}
use Rattle.machine.proofs.Values.{some_inj}
use Rattle.pages.specs.declared.flight.Flight.{Flight}
use Rattle.pages.specs.declared.end.End.{End}
use Rattle.pages.specs.PagesOf.{Label, labelled, HasResidence, byte_in, moving, is_direction, is_flight_to, IsInTransfer, AreInFlight}
use Rattle.pages.specs.Transfers.{page_after}
use Rattle.pages.proofs.FlightLemmas.{under-moving}
use Rattle.page_state.specs.declared.joined.State.TheInside.{Inside}
use Rattle.page_state.specs.declared.parts.Parts.{Parts}
use Rattle.page_state.specs.Owned.{PartsAgree}
use Rattle.page_state.specs.Parts.{Stays, Settles, DropsUnmapped}
use Rattle.page_state.specs.Changes.{ended_as, EndsTransfer}
use Rattle.page_state.specs.Joined.{joined_of, IsJoined}
use Rattle.page_state.proofs.MappedLemmas.{mapped-ended, settled-then}
use Rattle.page_lists.proofs.HeldChanges.{goes-on-then}
use Rattle.page_state.proofs.DropLemmas.{still-stays}
use Rattle.page_state.proofs.PartsLemmas.{stays-then}
use Rattle.page_state.proofs.AccessLemmas.{tables-same}
use Rattle.page_state.proofs.JoinLemmas.{joined-pages}

-- ---- the page of a flight

-- the flight of a ticket is that of a page which is in transfer under it, in the direction that was asked for
pub flies-so : (pages : Pages) (n : ℕ) (f : Flight) (d : Direction) → IsInTransfer pages n f → is_in_flight d pages n ≡ is_flight_to d (Some f) → is_in_flight d pages n ≡ true
    → (label : Label) × (r : ℕ) × (b : ℕ) × HasResidence pages f.page.0 label (moving d r b n)
flies-so pages n f d here tells is = (here.label, here.frame, here.block, subst (λ x. HasResidence pages f.page.0 here.label (moving x here.frame here.block n)) (alike d f.direction (sym tells ∙ is)) here.stands)
  where
    alike : (d e : Direction) → is_direction d e ≡ true → e ≡ d
    alike In In so = refl
    alike Out Out so = refl
    alike In Out so = cc
    alike Out In so = cc

-- and no other page is
pub flies-alone : (pages : Pages) (flights : List (Option Flight)) (n : ℕ) (f : Flight) (d : Direction) (p : ℕ) (label : Label) (r b : ℕ) → AreInFlight pages flights → Some f ≡ at flights n
    → HasResidence pages p label (moving d r b n) → f.page.0 ≡ p
flies-alone pages flights n f d p label r b are is stands = some_inj (ap (option_map (λ (f : Flight). f.page.0)) is ∙ are.listed p n (under-moving (page_at pages p) d label r b n stands))

-- ---- the page is settled

-- and then goes, where nothing maps it
module _ (s : Inside) (is : IsJoined s) (sound : AreGenerations s.parts.held.lists) (settled now : Parts) (p : ℕ) (agree : PartsAgree now) (drops : DropsUnmapped settled now s.spaces.page_tables p) where
  module _ (d : Direction) (label : Label) (n : ℕ) (end : End) (r b : ℕ) (stood : HasResidence s.parts.pages.pages p label (moving d r b n)) (settles : Settles s.parts settled s.config.placement d p n (page_after end label r b)) where
    stays : Stays s.parts now
    stays = stays-then s.parts settled now settles.stays drops.stays

    -- what is still held is as it was settled
    as_settled : (q : ℕ) → is_held_in now.pages.pages q ≡ true → page_at now.pages.pages q ≡ page_at settled.pages.pages q
    as_settled q held =
        elim (eq_cases q p) [
          | inl same ↦ ap (page_at now.pages.pages) same ∙ drops.pages.changed
              ∙ still-stays s.spaces.page_tables p (page_at settled.pages.pages p) (sym (ap (there_and is_held) (ap (page_at now.pages.pages) same ∙ drops.pages.changed)) ∙ held)
              ∙ sym (ap (page_at settled.pages.pages) same)
          | inr other ↦ drops.pages.others q other
        ]

    goes : GoesOn (entry_after s.config.placement d) s.parts.pages.pages s.parts.held.lists now.pages.pages now.held.lists
    goes = goes-on-then (entry_after s.config.placement d) Youngest _ _ _ _ _ _ settles.held drops.held sound as_settled

    placed : Changes s.parts.pages.pages now.pages.pages p (ended_as end s.spaces.page_tables p (labelled label (moving d r b n)) r b)
    placed = settled-then s.parts.pages.pages settled.pages.pages now.pages.pages s.spaces.page_tables p label (moving d r b n) end r b settles.settles.placed drops.pages

    pub joined-ended : IsJoined (record s { parts = now })
    joined-ended =
        joined-pages s is now s.cursors s.spaces agree stays
        (mapped-ended s.parts.pages.pages s.spaces.page_tables is.mapped now.pages.pages p label (moving d r b n) end r b stood placed) refl refl is.homes refl

    transfer-ended : EndsTransfer (joined_of s) (joined_of (record s { parts = now })) d p n (ended_as end s.spaces.page_tables p (labelled label (moving d r b n)) r b)
    transfer-ended =
        record {
          settles = record {
            placed = placed;
            unlisted = record {
              changed = ap (λ (fs : List (Option Flight)). at fs n) drops.flights ∙ settles.settles.unlisted.changed;
              others = λ m other. ap (λ (fs : List (Option Flight)). at fs m) drops.flights ∙ settles.settles.unlisted.others m other;
            };
            others = λ q k other. drops.others q k other ∙ settles.settles.others q k other;
          };
          tables = tables-same s is now agree stays;
          held = goes;
          cursors = refl;
        }

-- whichever page is in transfer under the ticket, its transfer ends
module _ (s : Inside) (is : IsJoined s) (sound : AreGenerations s.parts.held.lists) (settled now : Parts) (q n : ℕ) (d : Direction) (end : End)
    (alone : (p : ℕ) (label : Label) (r b : ℕ) → HasResidence s.parts.pages.pages p label (moving d r b n) → q ≡ p)
    (settles : (label : Label) (r b : ℕ) → HasResidence s.parts.pages.pages q label (moving d r b n) → Settles s.parts settled s.config.placement d q n (page_after end label r b)) (agree : PartsAgree now) (drops : DropsUnmapped settled now s.spaces.page_tables q) where
  pub joined-settled : (label : Label) (r b : ℕ) → HasResidence s.parts.pages.pages q label (moving d r b n) → IsJoined (record s { parts = now })
  joined-settled label r b stood = joined-ended s is sound settled now q agree drops d label n end r b stood (settles label r b stood)

  module _ (p : ℕ) (label : Label) (r b : ℕ) (stood : HasResidence s.parts.pages.pages p label (moving d r b n)) where
    here : HasResidence s.parts.pages.pages q label (moving d r b n)
    here = subst (λ x. HasResidence s.parts.pages.pages x label (moving d r b n)) (sym (alone p label r b stood)) stood

    pub any-ended : EndsTransfer (joined_of s) (joined_of (record s { parts = now })) d p n (ended_as end s.spaces.page_tables p (labelled label (moving d r b n)) r b)
    any-ended =
        subst (λ x. EndsTransfer (joined_of s) (joined_of (record s { parts = now })) d x n (ended_as end s.spaces.page_tables x (labelled label (moving d r b n)) r b)) (alone p label r b stood)
        (transfer-ended s is sound settled now q agree drops d label n end r b here (settles label r b here))

    -- and where it is there still its bytes are those that it was settled with
    pub any-bytes : is_some (page_at now.pages.pages p) ≡ true → (k : ℕ) → byte_in now.pages.bytes p k ≡ byte_in settled.pages.bytes q k
    any-bytes there k =
        let same = alone p label r b stood in ap (λ x. byte_in now.pages.bytes x k) (sym same) ∙ drops.bytes q k (ap (λ x. is_some (page_at now.pages.pages x)) same ∙ there)
