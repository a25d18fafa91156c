-- Transfers end: a page is in its frame, or on its block alone.
use Rattle.std.proofs.Common.{◌≡◌, ◌≢◌, ℕ, ◌+◌, ◌<◌, ◌==◌, ◌&&◌, Bool, true, false, List, length, Option, Some, refl, sym, ap, ◌∙◌, subst, arith}
use Rattle.std.specs.Prelude.{IfSome}
use Rattle.machine.specs.Slots.{Changes, there_and}
use Rattle.machine.specs.Tree.{is_live, under, IsTree}
use Rattle.machine.specs.Pages.{Content, Memory, OfFile, Held, Page, Pages, is_anon, has_frame, has_this_frame, has_swap, frame_at, block_at, is_number, is_some_number, is_held_at, in_transfer_at, is_held, is_in_transfer}
use Rattle.machine.proofs.SlotLemmas.{one_if}
use Rattle.std.proofs.lemmas.Bool.{true≢false}
use Rattle.counts.specs.Numbers.{times}
use Rattle.frames.specs.Pool.{PoolOf}
use Rattle.block_store.specs.Slots.{SlotsOf}
use Rattle.page_counter.specs.Counts.{Counts, Charges, SameGroups, IsOut}
use Rattle.pages.specs.declared.end.End.{End}
use Rattle.pages.specs.declared.end.End.TheVariants.{InFrame, OnBlock}
use Rattle.machine.specs.declared.config.Placement.{Placement}
use Rattle.machine.specs.declared.record.Direction.{Direction}
use Rattle.machine.specs.declared.record.Direction.TheVariants.{In, Out}
use Rattle.pages.specs.PagesOf.{Label, labelled, HasResidence, byte_in, moving}
use Rattle.pages.specs.Transfers.{on_block_as, page_after, Ends}
use Rattle.page_state.specs.declared.parts.Parts.{Parts}
use Rattle.held_pages.specs.Held.{HeldOf}
use Rattle.page_state.specs.Relists.{JoinsAtEnd, LeavesQueue}
use Rattle.page_state.specs.Room.{LacksFrame}
use Rattle.machine.specs.Generations.{is_listed_in}
use Rattle.machine.specs.Lists.{HeldLists, kind_at, entry_after, GoesOn}
use Rattle.page_state.specs.Parts.{Stays, Settles}
use Rattle.page_state.specs.Owned.{has_this_block, is_leaving_at, AreKept, PartsAgree}
use Rattle.page_state.proofs.BalanceLemmas.{Trades}
use Rattle.page_state.proofs.CountLemmas.{uncharge-usage, uncharged-at, page-out}
use Rattle.page_state.proofs.PartsLemmas.{kept-step, frame-out, block-out, agree-step, relists-out, not-going, absent-unlisted, goes-at, goes-in}
use Rattle.page_state.proofs.GrantLemmas.{stands-live, group-listed}

-- a page in transfer has a frame and a block, and is not held
pub moving-is : (d : Direction) (f b n : ℕ)
    → (frame_at (moving d f b n) ≡ Some f) × (block_at (moving d f b n) ≡ Some b) × (in_transfer_at (moving d f b n) ≡ true) × (is_held_at (moving d f b n) ≡ false)
moving-is In f b n = (refl, refl, refl, refl)
moving-is Out f b n = (refl, refl, refl, refl)

-- ---- a page whose transfer ended on its block

module _ (label : Label) (b : ℕ) where
  -- it has no frame, and is neither held nor in transfer
  off-frame : (content : Content) → (there_and has_frame (on_block_as content label b) ≡ false) × (there_and is_held (on_block_as content label b) ≡ false) × (there_and is_in_transfer (on_block_as content label b) ≡ false)
  off-frame Memory = (refl, refl, refl)
  off-frame (OfFile file q) = (refl, refl, refl)

  off-frames : (content : Content) (m : ℕ) → one_if (there_and (has_this_frame m) (on_block_as content label b)) ≡ 0
  off-frames Memory m = refl
  off-frames (OfFile file q) m = refl

  -- memory has the block still
  on-blocks : (content : Content) → label.content ≡ content → (test : Option ℕ → Bool) → one_if (there_and (λ page. is_anon page.content && test (block_at page.residence)) (on_block_as content label b)) ≡ one_if (is_anon label.content && test (Some b))
  on-blocks Memory same test = refl
  on-blocks (OfFile file q) same test = sym (ap (λ c. one_if (is_anon c && test (Some b))) same)

  off-live : (P : ℕ → Type 0) (content : Content) → P label.group → IfSome (on_block_as content label b) (λ page. P page.group)
  off-live P Memory live = live
  off-live P (OfFile file q) live = tt

-- ---- what the page owns no more goes back

module _ (c : Counts) (pool : PoolOf) (slots : SlotsOf) (pages : Pages) (d : Direction) (p : ℕ) (label : Label) (f b n : ℕ) (stood : HasResidence pages p label (moving d f b n)) (kept : AreKept c pool slots pages) where
  abbrev is : (frame_at (moving d f b n) ≡ Some f) × (block_at (moving d f b n) ≡ Some b) × (in_transfer_at (moving d f b n) ≡ true) × (is_held_at (moving d f b n) ≡ false)
  is = moving-is d f b n

  pub settled-block : (x : ℕ) → is_anon label.content ≡ true → x ≡ b → (times slots.free x ≡ 0) × (x < slots.blocks)
  settled-block x anon same = subst (λ y. (times slots.free y ≡ 0) × (y < slots.blocks)) (sym same) (block-out c pool slots pages p label (moving d f b n) b stood anon is.1 kept)

  pub settled-frame : (x : ℕ) → x ≡ f → (times pool.free x ≡ 0) × (x < pool.frames)
  settled-frame x same = subst (λ y. (times pool.free y ≡ 0) × (y < pool.frames)) (sym same) (frame-out c pool slots pages p label (moving d f b n) f stood is.0 kept)

  pub settled-charge : (pages' : Pages) (x : ℕ) → x ≡ label.group → IsTree c.tree → Changes pages pages' p (page_after OnBlock label f b) → IsOut c x
  settled-charge pages' x same tree placed =
      subst (IsOut c) (sym same)
      (page-out c pages pages' p (labelled label (moving d f b n)) (page_after OnBlock label f b) tree stood (ap is_some_number is.0) placed (off-frame label b label.content).0
      (off-live label b (λ g. is_live c.tree g ≡ true) label.content (stands-live c pages p label (moving d f b n) stood kept.counted)) kept.counted)

  -- in its frame it keeps that and its charge, and its block changes so
  kept_framed : (pages' : Pages) (slots' : SlotsOf) → Changes pages pages' p (page_after InFrame label f b) → Trades has_this_block has_swap slots.free slots'.free (Some (labelled label (moving d f b n))) (Some (labelled label (Held f))) → slots'.blocks ≡ slots.blocks
      → AreKept c pool slots' pages'
  kept_framed pages' slots' placed cut blocks =
      kept-step c c pool pool slots slots' pages pages' p (Some (labelled label (moving d f b n))) (Some (labelled label (Held f))) stood placed refl
      (record {
        counts = λ m. (let here = ap (λ (o : Option ℕ). one_if (is_number o m)) is.0 in omega (arith, here));
        len = (let here = ap (λ (o : Option ℕ). one_if (is_some_number o)) is.0 in omega (arith, here));
      })
      blocks cut
      (record {
        tree = refl;
        usage = λ a lt. (let here = ap (λ (o : Option ℕ). one_if (is_some_number o && under c.tree a label.group)) is.0 in omega (arith, here));
        live = stands-live c pages p label (moving d f b n) stood kept.counted;
      })
      kept

  -- the slot of memory goes back
  pub kept-in_frame : (pages' : Pages) (slots' : SlotsOf) (x : ℕ) → is_anon label.content ≡ true → x ≡ b → Changes pages pages' p (page_after InFrame label f b)
      → ((m : ℕ) → times slots'.free m ≡ times slots.free m + one_if (x == m)) → length slots'.free ≡ length slots.free + 1 → slots'.blocks ≡ slots.blocks → AreKept c pool slots' pages'
  kept-in_frame pages' slots' x anon same placed given more blocks =
      kept_framed pages' slots' placed
      (record {
        counts = λ m.
            (let k = given m in
            let own = ap (λ y. one_if (y == m)) same in
            let here = ap (λ (o : Option ℕ). one_if (is_anon label.content && is_number o m)) is.1 in
            let mine = ap (λ (a : Bool). one_if (a && (b == m))) anon in
            let none = ap (λ (a : Bool). one_if (a && false)) anon in
            omega (arith, k, own, here, mine, none));
        len = (let here = ap (λ (o : Option ℕ). one_if (is_anon label.content && is_some_number o)) is.1 in let mine = ap (λ (a : Bool). one_if (a && true)) anon in let none = ap (λ (a : Bool). one_if (a && false)) anon in omega (arith, more, here, mine, none));
      })
      blocks

  -- a page of a file had none
  pub kept-at_home : (pages' : Pages) → is_anon label.content ≡ false → Changes pages pages' p (page_after InFrame label f b) → AreKept c pool slots pages'
  kept-at_home pages' file placed =
      kept_framed pages' slots placed
      (record {
        counts = λ m. (let was = ap (λ (a : Bool). one_if (a && is_number (block_at (moving d f b n)) m)) file in let none = ap (λ (a : Bool). one_if (a && false)) file in omega (arith, was, none));
        len = (let was = ap (λ (a : Bool). one_if (a && is_some_number (block_at (moving d f b n)))) file in let none = ap (λ (a : Bool). one_if (a && false)) file in omega (arith, was, none));
      })
      refl

  -- its frame and its charge go back
  pub kept-on_block : (pages' : Pages) (counters' : Counts) (pool' : PoolOf) (x charge : ℕ) → x ≡ f → charge ≡ label.group → Changes pages pages' p (page_after OnBlock label f b) → LacksFrame pool' pool x → Charges counters' c charge
      → AreKept counters' pool' slots pages'
  kept-on_block pages' counters' pool' x charge same own placed back charged =
      let uncharged = subst (Charges counters' c) own charged in
      let off = (off-frame label b label.content).0 in
      kept-step c counters' pool pool' slots slots pages pages' p (Some (labelled label (moving d f b n))) (page_after OnBlock label f b) stood placed (sym back.frames)
      (record {
        counts = λ m. (let k = back.counts m in let own = ap (λ y. one_if (y == m)) same in let here = ap (λ (o : Option ℕ). one_if (is_number o m)) is.0 in let none = off-frames label b label.content m in omega (arith, k, own, here, none));
        len = (let k = back.fewer in let here = ap (λ (o : Option ℕ). one_if (is_some_number o)) is.0 in let none = ap one_if off in omega (arith, k, here, none));
      })
      refl
      (record {
        counts = λ m.
            (let here = ap (λ (o : Option ℕ). one_if (is_anon label.content && is_number o m)) is.1 in let now = on-blocks label b label.content refl (λ (o : Option ℕ). is_number o m) in omega (arith, here, now));
        len = (let here = ap (λ (o : Option ℕ). one_if (is_anon label.content && is_some_number o)) is.1 in let now = on-blocks label b label.content refl is_some_number in omega (arith, here, now));
      })
      (record {
        tree = sym uncharged.groups.tree;
        usage = λ a lt.
            (let u = uncharge-usage c counters' label.group a uncharged lt in
            let here = ap (λ (o : Option ℕ). one_if (is_some_number o && under c.tree a label.group)) is.0 in
            let none = uncharged-at c.tree a (page_after OnBlock label f b) off in
            omega (arith, u, here, none));
        live = off-live label b (λ g. is_live c.tree g ≡ true) label.content (stands-live c pages p label (moving d f b n) stood kept.counted);
      })
      kept

-- ---- the parts

-- a page is settled, and the lists with it
pub record Lands (h h' : Parts) (p : ℕ) (label : Label) (f b n : ℕ) (placement : Placement) (d : Direction) (end : End) : Type 0 where
  pub stood : HasResidence h.pages.pages p label (moving d f b n)
  -- the bytes as the transfer ends
  pub filled : List (Option (List ℕ))
  pub others : (q o : ℕ) → q ≢ p → byte_in filled q o ≡ byte_in h.pages.bytes q o
  pub ended : Ends (record (h.pages) { bytes = filled }) h'.pages p label f b n end
  pub kept : AreKept h'.counters h'.pool h'.slots h'.pages.pages
  pub groups : SameGroups h.counters h'.counters
  pub frames : h'.pool.frames ≡ h.pool.frames
  pub spares : h'.pool.spares ≡ h.pool.spares + one_if (is_leaving_at (moving d f b n))
  pub most_spares : h'.pool.most_spares ≡ h.pool.most_spares
  pub blocks : h'.slots.blocks ≡ h.slots.blocks
  pub held : JoinsAtEnd placement d end h.held h'.held label.group (kind_at label.content) p
  pub counted : p < length h.held.lists.hits
  pub moving : LeavesQueue h.moving h'.moving p

-- the page that is settled may be held again, in its group
pub relist-fits : (h : Parts) → PartsAgree h → (d : Direction) (p : ℕ) (label : Label) (f b n x : ℕ) → HasResidence h.pages.pages p label (moving d f b n) → x ≡ label.group → (is_listed_in h.held.lists.groups p ≡ false) × (x < length h.held.lists.groups)
relist-fits h is d p label f b n x stood same = (
  absent-unlisted h.pages.pages h.held.lists is.held p (ap (there_and is_held) stood ∙ (moving-is d f b n).3),
  group-listed h is x (subst (λ y. is_live h.counters.tree y ≡ true) (sym same) (stands-live h.counters h.pages.pages p label (moving d f b n) stood is.kept.counted)),
)

-- after its transfer a page is in none
settled : (label : Label) (end : End) (f b : ℕ) → there_and is_in_transfer (page_after end label f b) ≡ false
settled label InFrame f b = refl
settled label OnBlock f b = (off-frame label b label.content).2

module _ (h h' : Parts) (is : PartsAgree h) (p : ℕ) (label : Label) (f b n : ℕ) (placement : Placement) (d : Direction) where
  abbrev from : Option Page
  from = Some (labelled label (moving d f b n))

  abbrev to : End → Option Page
  to end = page_after end label f b

  -- the lists of those held go on to have them
  held-lands : (end : End) → Lands h h' p label f b n placement d end → GoesOn (entry_after placement d) h.pages.pages h.held.lists h'.pages.pages h'.held.lists × (h'.held.numbers ≡ h.held.numbers)
  held-lands InFrame lands = (
    subst (λ (held : HeldLists). GoesOn (entry_after placement d) h.pages.pages h.held.lists h'.pages.pages held) (sym (ap (λ (held : HeldOf). held.lists) lands.held))
        (goes-in h.pages.pages h.held.lists is.held p (entry_after placement d) h'.pages.pages from label f lands.stood (moving-is d f b n).3 lands.ended.placed lands.counted),
    ap (λ (held : HeldOf). held.numbers) lands.held,
  )
  held-lands OnBlock lands = (
    subst (λ (held : HeldLists). GoesOn (entry_after placement d) h.pages.pages h.held.lists h'.pages.pages held) (sym (ap (λ (held : HeldOf). held.lists) lands.held))
        (goes-at h.pages.pages h.held.lists is.held p (entry_after placement d) h'.pages.pages from (to OnBlock) lands.stood lands.ended.placed ((off-frame label b label.content).1 ∙ sym (moving-is d f b n).3)),
    ap (λ (held : HeldOf). held.numbers) lands.held,
  )

  stays-landed : (end : End) → Lands h h' p label f b n placement d end → Stays h h'
  stays-landed end lands = record { groups = lands.groups; frames = lands.frames; most_spares = lands.most_spares; blocks = lands.blocks; numbers = lands.ended.numbers; page_groups = lands.ended.groups; page_frames = lands.ended.frames; held_numbers = (held-lands end lands).1; moving_room = lands.moving.room; files = lands.ended.files }

  pub agree-lands : (end : End) → Lands h h' p label f b n placement d end → PartsAgree h'
  agree-lands end lands =
      let held = held-lands end lands in
      let spares = lands.spares in
      let tickets = lands.ended.more in
      let going = not-going (to end) (settled label end f b) in
      let none = ap one_if (settled label end f b) in
      let moved = ap one_if (moving-is d f b n).2 in
      agree-step h h' p from (to end)
      (record {
        stood = lands.stood;
        changes = lands.ended.placed;
        kept = lands.kept;
        stays = stays-landed end lands;
        generation = entry_after placement d;
        goes = held.0;
        apart = λ was now. true≢false (sym was ∙ (moving-is d f b n).3);
        moving = relists-out is_in_transfer h.moving.numbers h'.moving.numbers h.pages.pages p p from (to end) refl lands.stood (settled label end f b) is.moving lands.moving.counts lands.moving.fewer;
        spares = omega (arith, spares, going);
        tickets = omega (arith, tickets, none, moved);
      })
      is

  pub lands-settles : (end : End) → Lands h h' p label f b n placement d end → Settles h h' placement d p n (page_after end label f b)
  lands-settles end lands =
      record {
        settles = record { placed = lands.ended.placed; unlisted = lands.ended.unlisted; others = λ q o other. lands.ended.others q o other ∙ lands.others q o other };
        held = (held-lands end lands).0;
        stays = stays-landed end lands;
      }
