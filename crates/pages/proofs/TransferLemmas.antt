-- Pages after the change of what one of them owns, as transfers begin and end.
use Rattle.std.proofs.Common.{◌≡◌, ◌≢◌, ℕ, ◌+◌, ◌<◌, ◌==◌, true, false, List, [], ◌∷◌, ◌++◌, length, map, set, Option, Some, None, is_some, refl, sym, ap, ◌∙◌, subst, inl, inr, arith}
use Rattle.std.specs.Prelude.{option_map, IfSome, IsSome, slice_index}
use Rattle.std.proofs.lemmas.Bool.{eqb-true}
use Rattle.std.proofs.lemmas.Bool.Decides.{eqb_tells}
use Rattle.std.proofs.lemmas.List.{length-map, length-set}
use Rattle.slab.specs.Slab.{Slab, get, slab_len, HasRoomFor, Updates}
use Rattle.machine.specs.Slots.{at, there_and, Changes}
use Rattle.machine.specs.Pages.{Content, Memory, OfFile, Residence, Going, Page, Pages, page_at, is_held, in_transfer_at, frame_at, block_at, is_number, is_frame_taken, is_page_of, IsFiled}
use Rattle.machine.specs.declared.id.PageId.{PageId}
use Rattle.machine.proofs.Values.{some_inj, unlike}
use Rattle.machine.proofs.FileLemmas.{holds_page}
use Rattle.pages.specs.declared.end.End.{End}
use Rattle.pages.specs.declared.end.End.TheVariants.{InFrame, OnBlock}
use Rattle.pages.specs.declared.end.Freed.{Freed}
use Rattle.machine.specs.declared.record.Direction.{Direction}
use Rattle.machine.specs.declared.record.Direction.TheVariants.{In, Out}
use Rattle.pages.specs.declared.flight.Flight.{Flight}
use Rattle.pages.specs.declared.owned_page.OwnedPage.{OwnedPage}
use Rattle.pages.specs.declared.owned_page.FilePage.{FilePage}
use Rattle.pages.specs.declared.owned_page.Content.{Content as Holds}
use Rattle.pages.specs.declared.owned_page.Content.TheVariants as holds
use Rattle.files.specs.Files.{FilesOf}
use Rattle.pages.specs.PagesOf.{Label, label_of, labelled, moving, flight, byte_of, byte_in, HasResidence, AreInFlight}
use Rattle.pages.specs.Tickets.{new_ticket}
use Rattle.pages.specs.Transfers.{Starts, Ends, on_block_as, page_after, IsFreed, LeavesBy, block_for}
use Rattle.rings.specs.Rings.{RingsOf, list_at, is_listed, without}
use Rattle.pages.specs.Records.{page_of, bytes_of, content_of, is_dirty, label_holding, file_at, place_in, is_of, AreMembers, AreCached, AreHome, AreFramed, view_of, ArePages}
use Rattle.pages.proofs.TableLemmas.{at-map, is_some-map, map-set, place_within, Changes-map, Changes-twice, Changes-set, taken-changes, free-page}
use Rattle.pages.proofs.FlightLemmas.{under, under-moving, IsSettled, IsSettled-is, AreInFlight-begun, AreInFlight-ended}
use Rattle.pages.proofs.MemberLemmas.{AreMembers-kept, AreMembers-gone, AreMembers-added, unlisted}
use Rattle.pages.proofs.CacheLemmas.{AreHome-changes, AreCached-kept, AreCached-left, left-inside, filed-after}
use Rattle.pages.proofs.FrameLemmas.{frames_page, AreFramed-kept, AreFramed-comes}

abbrev pub pages_of : List (Option OwnedPage) → Pages
pages_of owned = map (option_map page_of) owned

abbrev pub bytes_in : List (Option OwnedPage) → List (Option (List ℕ))
bytes_in owned = map (option_map bytes_of) owned

under-owned : (slot : Option OwnedPage) (n : ℕ) → under (option_map page_of slot) n ≡ true → IsSome slot
under-owned None n is = absurd (cc)
under-owned (Some k) n is = refl

-- what is at the place of a page's number
pub owned-stands : (owned : List (Option OwnedPage)) (p : ℕ) (k : OwnedPage) (x : Page) → at owned p ≡ Some k → page_at (pages_of owned) p ≡ Some x → page_of k ≡ x
owned-stands owned p k x was stands =
    let is = sym (ap (option_map page_of) was) ∙ sym (at-map page_of owned p) ∙ stands in
    cc

pub page-stands : (owned : List (Option OwnedPage)) (p : ℕ) (k : OwnedPage) → at owned p ≡ Some k → page_at (pages_of owned) p ≡ Some (page_of k)
page-stands owned p k was = at-map page_of owned p ∙ ap (option_map page_of) was

moving-transfer : (d : Direction) (f b n : ℕ) → in_transfer_at (moving d f b n) ≡ true
moving-transfer In f b n = refl
moving-transfer Out f b n = refl

-- a page that is in transfer
module _ (owned : List (Option OwnedPage)) (d : Direction) (p : ℕ) (label : Label) (f b n : ℕ) (stands : HasResidence (pages_of owned) p label (moving d f b n)) where
  pub moving-there : IsSome (at owned p)
  moving-there = under-owned (at owned p) n (ap (λ slot. under slot n) (sym (at-map page_of owned p)) ∙ under-moving _ d label f b n stands)

  -- what it owns is that of a page in transfer
  pub moving-owned : (k : OwnedPage) → at owned p ≡ Some k → in_transfer_at (page_of k).residence ≡ true
  moving-owned k was = ap (λ page. in_transfer_at page.residence) (owned-stands owned p k _ was stands) ∙ moving-transfer d f b n

-- a ticket that a page is in transfer under is in flight
pub flight-listed : (owned : List (Option OwnedPage)) (flights : Slab Flight) (d : Direction) (p : ℕ) (label : Label) (f b n : ℕ) → AreInFlight (pages_of owned) flights.slots → HasResidence (pages_of owned) p label (moving d f b n) → IsSome (get flights n)
flight-listed owned flights d p label f b n in_flight stands = some_of (at flights.slots n) (in_flight.listed p n (under-moving _ d label f b n stands))
  where
    some_of : (slot : Option Flight) → option_map (λ (f : Flight). f.page.0) slot ≡ Some p → IsSome slot
    some_of None is = absurd (cc)
    some_of (Some f) is = refl

-- ---- the change of what one page owns

module _ (old new : List (Option OwnedPage)) (p : ℕ) (to : Option OwnedPage) (changes : Changes old new p to) where
  pub changed-page : (q : ℕ) (page : Option Page) → p ≡ q → option_map page_of to ≡ page → Changes (pages_of old) (pages_of new) q page
  changed-page q page here is =
      subst (λ m. Changes (pages_of old) (pages_of new) m page) here (subst (λ x. Changes (pages_of old) (pages_of new) p x) is (Changes-map page_of old new p to changes))

  pub changed-byte-apart : (q o : ℕ) → q ≢ p → byte_in (bytes_in new) q o ≡ byte_in (bytes_in old) q o
  changed-byte-apart q o apart = ap (λ bytes. byte_of bytes o) ((Changes-map bytes_of old new p to changes).others q apart)

  -- where its bytes stay, all do
  pub changed-byte-kept : (from : OwnedPage) → at old p ≡ Some from → option_map bytes_of to ≡ Some (bytes_of from) → (q o : ℕ) → byte_in (bytes_in new) q o ≡ byte_in (bytes_in old) q o
  changed-byte-kept from was same q o =
      elim (eqb_tells q p) [
        | inl here ↦ (
            let after = ap (λ bytes. byte_of bytes o) ((Changes-map bytes_of old new p to changes).changed) in
            let before = ap (λ bytes. byte_of bytes o) (at-map bytes_of old p ∙ ap (option_map bytes_of) was) in
            rw here.1 (after ∙ ap (λ bytes. byte_of bytes o) same ∙ sym before)
            )
        | inr apart ↦ changed-byte-apart q o apart.1
      ]

-- ---- the frames

-- what is owned, by its frame
pub owned-frame : (owned : List (Option OwnedPage)) (p : ℕ) (k : OwnedPage) (frame f : ℕ) → at owned p ≡ Some k → frame_at (page_of k).residence ≡ Some frame → frames_page f (page_at (pages_of owned) p) ≡ (frame == f)
owned-frame owned p k frame f was own = ap (frames_page f) (page-stands owned p k was) ∙ ap (λ at. is_number at f) own

module _ (by_frame : List (Option PageId)) (old new : List (Option OwnedPage)) (p : ℕ) (to : Option OwnedPage) (changes : Changes old new p to) (are : AreFramed by_frame (pages_of old)) where
  -- a page stays where it is
  pub framed-same : (from : OwnedPage) → at old p ≡ Some from → (k : OwnedPage) → to ≡ Some k → (page_of k).residence ≡ (page_of from).residence → AreFramed by_frame (pages_of new)
  framed-same from was k is same =
      AreFramed-kept by_frame (pages_of old) (pages_of new) p (option_map page_of to) (Changes-map page_of old new p to changes) are
      (λ f has. ap (frames_page f) (page-stands old p from was) ∙ ap (λ r. is_number (frame_at r) f) (sym same) ∙ sym (ap (λ slot. frames_page f (option_map page_of slot)) is) ∙ has)

  -- a page has the frame that it had, or none
  pub framed-kept : (from : OwnedPage) (frame : ℕ) → at old p ≡ Some from → frame_at (page_of from).residence ≡ Some frame → ((f : ℕ) → frames_page f (option_map page_of to) ≡ true → (frame == f) ≡ true) → AreFramed by_frame (pages_of new)
  framed-kept from frame was own stays =
      AreFramed-kept by_frame (pages_of old) (pages_of new) p (option_map page_of to) (Changes-map page_of old new p to changes) are
      (λ f has. owned-frame old p from frame f was own ∙ stays f has)

  -- a page goes
  pub framed-gone : to ≡ None → AreFramed by_frame (pages_of new)
  framed-gone none =
      AreFramed-kept by_frame (pages_of old) (pages_of new) p (option_map page_of to) (Changes-map page_of old new p to changes) are
      (λ f has. unlike (frames_page f (option_map page_of to)) has (ap (λ slot. frames_page f (option_map page_of slot)) none))

  -- a page comes into a frame that none had
  pub framed-comes : (k : OwnedPage) (frame : ℕ) → to ≡ Some k → frame_at (page_of k).residence ≡ Some frame → is_frame_taken (pages_of old) frame ≡ false
      → (later : List (Option PageId)) → Changes by_frame later frame (Some (record { 0 = p })) → AreFramed later (pages_of new)
  framed-comes k frame is own unused later noted =
      AreFramed-comes by_frame (pages_of old) (pages_of new) p (option_map page_of to) (Changes-map page_of old new p to changes) are frame
      (λ f has. eqb-true frame f (sym (ap (λ slot. frames_page f (option_map page_of slot)) is ∙ ap (λ at. is_number at f) own) ∙ has)) unused later noted

pub own-byte : (old : List (Option OwnedPage)) (p : ℕ) (from : OwnedPage) → at old p ≡ Some from → (o : ℕ) → byte_in (bytes_in old) p o ≡ slice_index (bytes_of from) o
own-byte old p from was o = ap (λ bytes. byte_of bytes o) (at-map bytes_of old p ∙ ap (option_map bytes_of) was)

-- a page that is there is at home
pub own-filed : (files : FilesOf) (owned : List (Option OwnedPage)) (p : ℕ) (k : OwnedPage) → AreHome files (pages_of owned) → at owned p ≡ Some k → IsFiled files.first files.sizes (page_of k)
own-filed files owned p k home was = subst (λ slot. IfSome slot (IsFiled files.first files.sizes)) (page-stands owned p k was) (home p)

-- ---- the numbers, the lists and the cache beside it

-- the numbers, the groups' lists and the cache are those of the pages after a change
pub record Fits {T : Type 0} (numbers numbers' : Slab T) (new : List (Option OwnedPage)) (members members' : RingsOf) (files : FilesOf) (cache cache' : List (Option PageId)) : Type 0 where
  pub same_numbers : numbers'.capacity ≡ numbers.capacity
  pub same_links : members'.numbers ≡ members.numbers
  pub same_groups : length members'.lists ≡ length members.lists
  pub same_room : members'.room ≡ members.room
  pub taken : (n : ℕ) → is_some (get numbers' n) ≡ is_some (at new n)
  pub listed : AreMembers members'.lists (pages_of new)
  pub cached : AreCached files cache' (pages_of new)
  pub homes : length cache' ≡ length cache

-- what they are with the transfers and the pages at home
pub Fits-are : {T : Type 0} {numbers numbers' : Slab T} {old new : List (Option OwnedPage)} {members members' : RingsOf} {files : FilesOf} {cache cache' : List (Option PageId)} {places room : ℕ} {flights later : Slab Flight}
    → Fits numbers numbers' new members members' files cache cache' → ArePages numbers old places flights members files cache → room ≡ places → later.capacity ≡ flights.capacity
    → AreInFlight (pages_of new) later.slots → AreHome files (pages_of new) → ArePages numbers' new room later members' files cache'
Fits-are fits are same_places capacity in_flight home = record {
  taken = fits.taken;
  within = fits.same_numbers ∙ are.within ∙ sym same_places;
  in_flight = in_flight;
  few = (let few = are.few in let same = fits.same_numbers in omega (arith, few, same));
  countable = (let few = are.countable in omega (arith, few, capacity));
  linked = fits.same_links ∙ are.linked ∙ sym fits.same_numbers;
  listed = fits.listed;
  filed = home;
  cached = fits.cached;
  homes = fits.homes ∙ are.homes;
}

module _ {T : Type 0} (numbers : Slab T) (old new : List (Option OwnedPage)) (places : ℕ) (flights : Slab Flight) (members : RingsOf) (files : FilesOf) (cache : List (Option PageId)) (are : ArePages numbers old places flights members files cache) (p : ℕ) (from : OwnedPage) (was : at old p ≡ Some from) where
  -- a page holds what it held, and the lists are others
  pub Fits-stays-beside : (to : OwnedPage) → Changes old new p (Some to) → (page_of to).content ≡ (page_of from).content
      → (members' : RingsOf) → members'.numbers ≡ members.numbers → length members'.lists ≡ length members.lists → members'.room ≡ members.room → AreMembers members'.lists (pages_of new)
      → Fits numbers numbers new members members' files cache cache
  Fits-stays-beside to changes content members' links groups room listed = record {
    same_numbers = refl;
    same_links = links;
    same_groups = groups;
    same_room = room;
    taken = λ k. elim (eqb_tells k p) [
      | inl same ↦ are.taken k ∙ ap is_some (ap (at old) same.1 ∙ was) ∙ sym (ap is_some (ap (at new) same.1 ∙ changes.changed))
      | inr apart ↦ are.taken k ∙ sym (ap is_some (changes.others k apart.1))
    ];
    listed = listed;
    cached = AreCached-kept files (pages_of old) (pages_of new) p (Some (page_of to)) (Changes-map page_of old new p (Some to) changes) cache are.cached (λ f q. ap (is_page_of f q) content ∙ sym (ap (holds_page f q) (page-stands old p from was)));
    homes = refl;
  }

  -- a page stays in its group, and holds what it held
  pub Fits-stays : (to : OwnedPage) → Changes old new p (Some to) → (page_of to).group ≡ (page_of from).group → (page_of to).content ≡ (page_of from).content → Fits numbers numbers new members members files cache cache
  Fits-stays to changes group content =
      Fits-stays-beside to changes content members refl refl refl
      (AreMembers-kept members.lists (pages_of old) (pages_of new) p (Some (page_of to)) (Changes-map page_of old new p (Some to) changes) are.listed (λ g. ap (λ h. h == g) group ∙ sym (ap (is_of g) (page-stands old p from was))))

  -- a page goes
  pub Fits-left : (numbers' : Slab T) (members' : RingsOf) (cache' : List (Option PageId)) → Changes old new p None → Updates numbers numbers' p None → numbers'.capacity ≡ numbers.capacity
      → members' ≡ record members { lists = map (without p) members.lists }
      → ((a : FilePage) → file_at (page_of from).content ≡ Some a → Changes cache cache' (place_in files a.file a.page) None) → (file_at (page_of from).content ≡ None → cache' ≡ cache) → length cache' ≡ length cache
      → Fits numbers numbers' new members members' files cache cache'
  Fits-left numbers' members' cache' changes updates capacity lists frees same homes = record {
    same_numbers = capacity;
    same_links = ap (λ m. m.numbers) lists;
    same_groups = ap (λ m. length m.lists) lists ∙ length-map members.lists (without p);
    same_room = ap (λ m. m.room) lists;
    taken = taken-changes numbers numbers' old new p None None updates changes refl are.taken;
    listed = subst (λ ls. AreMembers ls (pages_of new)) (sym (ap (λ m. m.lists) lists)) (AreMembers-gone members.lists (pages_of old) (pages_of new) p None (Changes-map page_of old new p None changes) are.listed refl);
    cached = AreCached-left files (pages_of old) (pages_of new) p (page_of from) cache cache' (Changes-map page_of old new p None changes) (page-stands old p from was) (own-filed files old p from are.filed was) frees same are.cached;
    homes = homes;
  }

-- a page comes, at the end of its group's list
pub Fits-added : {T : Type 0} (numbers numbers' : Slab T) (old new : List (Option OwnedPage)) (places : ℕ) (flights : Slab Flight) (members members' : RingsOf) (files : FilesOf) (cache cache' : List (Option PageId)) → ArePages numbers old places flights members files cache
    → (p : ℕ) (to : OwnedPage) (value : T) → get numbers p ≡ None → Changes old new p (Some to) → Updates numbers numbers' p (Some value) → numbers'.capacity ≡ numbers.capacity
    → (h : ℕ) → h < length members.lists → (page_of to).group ≡ h → members' ≡ record members { lists = set members.lists h (list_at members.lists h ++ p ∷ []) }
    → AreCached files cache' (pages_of new) → length cache' ≡ length cache → Fits numbers numbers' new members members' files cache cache'
Fits-added numbers numbers' old new places flights members members' files cache cache' are p to value free changes updates capacity h within group lists cached homes = record {
  same_numbers = capacity;
  same_links = ap (λ m. m.numbers) lists;
  same_groups = ap (λ m. length m.lists) lists ∙ length-set members.lists h (list_at members.lists h ++ p ∷ []);
  same_room = ap (λ m. m.room) lists;
  taken = taken-changes numbers numbers' old new p (Some value) (Some to) updates changes refl are.taken;
  listed = subst (λ ls. AreMembers ls (pages_of new)) (sym (ap (λ m. m.lists) lists))
      (AreMembers-added members.lists (pages_of old) (pages_of new) p (Some (page_of to)) (Changes-map page_of old new p (Some to) changes) are.listed h within (free-page page_of numbers old p are.taken free) (λ g. ap (λ x. x == g) group));
  cached = cached;
  homes = homes;
}

-- a page that was taken off its list is on none
pub off_lists : (old between : List (Option OwnedPage)) (lists after : List (List ℕ)) (p : ℕ) → Changes old between p None → AreMembers lists (pages_of old) → after ≡ map (without p) lists → is_listed after p ≡ false
off_lists old between lists after p gone are off =
    let none = Changes-map page_of old between p None gone in
    unlisted after (pages_of between) (subst (λ ls. AreMembers ls (pages_of between)) (sym off) (AreMembers-gone lists (pages_of old) (pages_of between) p None none are refl)) p none.changed

-- a page goes from its group's list to the end of one
pub Fits-moved : {T : Type 0} (numbers : Slab T) (old between new : List (Option OwnedPage)) (places : ℕ) (flights : Slab Flight) (members removed members' : RingsOf) (files : FilesOf) (cache : List (Option PageId))
    → ArePages numbers old places flights members files cache → (p : ℕ) (from to : OwnedPage) → at old p ≡ Some from → Changes old between p None → Changes between new p (Some to) → (page_of to).content ≡ (page_of from).content
    → removed ≡ record members { lists = map (without p) members.lists } → (h : ℕ) → h < length members.lists → (page_of to).group ≡ h
    → members' ≡ record removed { lists = set removed.lists h (list_at removed.lists h ++ p ∷ []) } → Fits numbers numbers new members members' files cache cache
Fits-moved numbers old between new places flights members removed members' files cache are p from to was gone placed content off h within group on =
    let unlisted : removed.lists ≡ map (without p) members.lists = ap (λ m. m.lists) off in
    let same : length removed.lists ≡ length members.lists = ap length unlisted ∙ length-map members.lists (without p) in
    let none = Changes-map page_of old between p None gone in
    let left : AreMembers removed.lists (pages_of between) = subst (λ ls. AreMembers ls (pages_of between)) (sym unlisted) (AreMembers-gone members.lists (pages_of old) (pages_of between) p None none are.listed refl) in
    Fits-stays-beside numbers old new places flights members files cache are p from was to (Changes-twice old between new p None (Some to) gone placed) content members'
    (ap (λ m. m.numbers) on ∙ ap (λ m. m.numbers) off) (ap (λ m. length m.lists) on ∙ length-set removed.lists h (list_at removed.lists h ++ p ∷ []) ∙ same) (ap (λ m. m.room) on ∙ ap (λ m. m.room) off)
    (subst (λ ls. AreMembers ls (pages_of new)) (sym (ap (λ m. m.lists) on))
    (AreMembers-added removed.lists (pages_of between) (pages_of new) p (Some (page_of to)) (Changes-map page_of between new p (Some to) placed) left h (omega (arith, within, same)) none.changed (λ g. ap (λ x. x == g) group)))

-- ---- how a transfer ends

-- a page whose transfer has ended is in none
settled-after : (end : End) (label : Label) (f b : ℕ) → IsSettled (page_after end label f b)
settled-after InFrame label f b = λ n. refl
settled-after OnBlock label f b = by_content label.content
  where
    by_content : (content : Content) → IsSettled (on_block_as content label b)
    by_content Memory = λ n. refl
    by_content (OfFile file q) = λ n. refl

-- and if it is still there, it is what it was
pub label-after : (end : End) (label : Label) (f b : ℕ) (page : Page) → page_after end label f b ≡ Some page → label_of page ≡ label
label-after InFrame label f b page is = ap label_of (some_inj (sym is))
label-after OnBlock label f b page is = by_content label.content is
  where
    by_content : (content : Content) → on_block_as content label b ≡ Some page → label_of page ≡ label
    by_content Memory is = ap label_of (some_inj (sym is))
    by_content (OfFile file q) is = absurd (cc)

moving-frame : (d : Direction) (f b n : ℕ) → frame_at (moving d f b n) ≡ Some f
moving-frame In f b n = refl
moving-frame Out f b n = refl

-- a page whose transfer has ended has its frame, or none
frames-after : (end : End) (label : Label) (f b g : ℕ) → frames_page g (page_after end label f b) ≡ true → (f == g) ≡ true
frames-after InFrame label f b g has = has
frames-after OnBlock label f b g has = by_content label.content has
  where
    by_content : (content : Content) → frames_page g (on_block_as content label b) ≡ true → (f == g) ≡ true
    by_content Memory has = cc
    by_content (OfFile file q) has = cc

moving-block : (d : Direction) (f b n : ℕ) → block_at (moving d f b n) ≡ Some b
moving-block In f b n = refl
moving-block Out f b n = refl

-- the steps of an ending: the transfer is unlisted, and what its page owns is another thing, or nothing
pub record Landing {T : Type 0} (numbers numbers' : Slab T) (old new : List (Option OwnedPage)) (places room : ℕ) (flights later : Slab Flight) (members members' : RingsOf) (files : FilesOf) (cache cache' : List (Option PageId)) (n p : ℕ) (from : OwnedPage) (to : Option OwnedPage) (label : Label) (frame block : ℕ) (end : End) : Type 0 where
  pub are : ArePages numbers old places flights members files cache
  pub moved : under (page_at (pages_of old) p) n ≡ true
  pub unlisted : Changes flights.slots later.slots n None
  pub len : slab_len later + 1 ≡ slab_len flights
  pub fits : HasRoomFor later 1
  pub capacity : later.capacity ≡ flights.capacity
  pub was : at old p ≡ Some from
  pub changes : Changes old new p to
  pub same_places : room ≡ places
  pub own_label : label_of (page_of from) ≡ label
  pub own_frame : frame_at (page_of from).residence ≡ Some frame
  pub own_block : block_at (page_of from).residence ≡ Some block
  pub after : option_map page_of to ≡ page_after end label frame block
  pub kept : end ≡ InFrame → option_map bytes_of to ≡ Some (bytes_of from)
  pub beside : Fits numbers numbers' new members members' files cache cache'

module _ {T : Type 0} {numbers numbers' : Slab T} {old new : List (Option OwnedPage)} {places room : ℕ} {flights later : Slab Flight} {members members' : RingsOf} {files : FilesOf} {cache cache' : List (Option PageId)} {n p : ℕ} {from : OwnedPage} {to : Option OwnedPage} {label : Label} {frame block : ℕ} {end : End} (landing : Landing numbers numbers' old new places room flights later members members' files cache cache' n p from to label frame block end) where
  landed : Changes (pages_of old) (pages_of new) p (option_map page_of to)
  landed = Changes-map page_of old new p to landing.changes

  after_filed : IfSome (option_map page_of to) (IsFiled files.first files.sizes)
  after_filed =
      let home = own-filed files old p from landing.are.filed landing.was in
      subst (λ slot. IfSome slot (IsFiled files.first files.sizes)) (sym landing.after)
      (filed-after files.first files.sizes end label (page_of from).residence frame block (subst (λ l. IsFiled files.first files.sizes (labelled l (page_of from).residence)) landing.own_label home))

  pub Landing-are : ArePages numbers' new room later members' files cache'
  Landing-are =
      let is = landing.are in
      Fits-are landing.beside is landing.same_places landing.capacity
      (AreInFlight-ended (pages_of old) (pages_of new) p (option_map page_of to) landed flights.slots later.slots n is.in_flight landing.moved landing.unlisted (IsSettled-is _ _ landing.after (settled-after end label frame block)))
      (AreHome-changes files (pages_of old) (pages_of new) p (option_map page_of to) landed after_filed is.filed)

  -- the page has its frame still, or none
  pub Landing-framed : (by_frame : List (Option PageId)) → AreFramed by_frame (pages_of old) → AreFramed by_frame (pages_of new)
  Landing-framed by_frame are =
      framed-kept by_frame old new p to landing.changes are from frame landing.was landing.own_frame
      (λ g has. frames-after end label frame block g (sym (ap (frames_page g) landing.after) ∙ has))

  module _ (d : Direction) (l : Label) (f b : ℕ) (stands : HasResidence (pages_of old) p l (moving d f b n)) where
    from_is : page_of from ≡ labelled l (moving d f b n)
    from_is = owned-stands old p from _ landing.was stands

    Landing-label : label ≡ l
    Landing-label = sym landing.own_label ∙ ap label_of from_is

    Landing-frame : frame ≡ f
    Landing-frame = some_inj (sym landing.own_frame ∙ ap (λ page. frame_at page.residence) from_is ∙ moving-frame d f b n)

    Landing-block : block ≡ b
    Landing-block = some_inj (sym landing.own_block ∙ ap (λ page. block_at page.residence) from_is ∙ moving-block d f b n)

    pub Landing-ends : (frames : ℕ) → Ends (view_of numbers old flights members files frames) (view_of numbers' new later members' files frames) p l f b n end
    Landing-ends frames =
        let is = landing.after ∙ ap (λ x. page_after end x frame block) Landing-label ∙ ap (λ x. page_after end l x block) Landing-frame ∙ ap (λ x. page_after end l f x) Landing-block in
        record {
          placed = changed-page old new p to landing.changes p _ refl is;
          unlisted = landing.unlisted;
          more = (let len = landing.len in let fits = landing.fits in let capacity = landing.capacity in omega (arith, len, fits, capacity));
          numbers = landing.beside.same_numbers;
          groups = landing.beside.same_groups;
          room = rw (landing.beside.same_room, landing.beside.same_groups) refl;
          files = refl;
          frames = refl;
          bytes = λ in_frame. changed-byte-kept old new p to landing.changes from landing.was (landing.kept in_frame);
          others = λ k o apart. changed-byte-apart old new p to landing.changes k o apart;
        }

    pub Landing-freed : (freed : Freed) → IsFreed label frame block end freed → IsFreed l f b end freed
    Landing-freed freed is = subst (λ x. IsFreed x f b end freed) Landing-label (subst (λ x. IsFreed label x b end freed) Landing-frame (subst (λ x. IsFreed label frame x end freed) Landing-block is))

-- ---- how a transfer begins

-- the steps of a beginning: the transfer is listed under a free ticket, and what its page owns is another thing
pub record Takeoff {T : Type 0} (numbers numbers' : Slab T) (old new : List (Option OwnedPage)) (places room : ℕ) (flights later : Slab Flight) (members members' : RingsOf) (files : FilesOf) (cache cache' : List (Option PageId)) (n p : ℕ) (direction : Direction) (label : Label) (frame block : ℕ) (to : OwnedPage) : Type 0 where
  pub are : ArePages numbers old places flights members files cache
  pub free : at flights.slots n ≡ None
  pub listed : Changes flights.slots later.slots n (Some (flight p direction))
  pub len : slab_len later ≡ slab_len flights + 1
  pub fits : HasRoomFor flights 1
  pub capacity : later.capacity ≡ flights.capacity
  pub changes : Changes old new p (Some to)
  pub same_places : room ≡ places
  pub settled : IsSettled (page_at (pages_of old) p)
  pub moves : page_of to ≡ labelled label (moving direction frame block n)
  pub filed : IsFiled files.first files.sizes (page_of to)
  pub beside : Fits numbers numbers' new members members' files cache cache'

module _ {T : Type 0} {numbers numbers' : Slab T} {old new : List (Option OwnedPage)} {places room : ℕ} {flights later : Slab Flight} {members members' : RingsOf} {files : FilesOf} {cache cache' : List (Option PageId)} {n p : ℕ} {direction : Direction} {label : Label} {frame block : ℕ} {to : OwnedPage} (takeoff : Takeoff numbers numbers' old new places room flights later members members' files cache cache' n p direction label frame block to) where
  pub Takeoff-are : ArePages numbers' new room later members' files cache'
  Takeoff-are =
      let is = takeoff.are in
      let placed = Changes-map page_of old new p (Some to) takeoff.changes in
      Fits-are takeoff.beside is takeoff.same_places takeoff.capacity
      (AreInFlight-begun (pages_of old) (pages_of new) p (Some (page_of to)) placed flights.slots later.slots n direction label frame block (ap Some takeoff.moves) is.in_flight takeoff.settled takeoff.free takeoff.listed)
      (AreHome-changes files (pages_of old) (pages_of new) p (Some (page_of to)) placed takeoff.filed is.filed)

  own_frame : frame_at (page_of to).residence ≡ Some frame
  own_frame = ap (λ page. frame_at page.residence) takeoff.moves ∙ moving-frame direction frame block n

  -- the page has the frame that it had
  pub Takeoff-framed : (by_frame : List (Option PageId)) → AreFramed by_frame (pages_of old) → (from : OwnedPage) → at old p ≡ Some from → frame_at (page_of from).residence ≡ Some frame → AreFramed by_frame (pages_of new)
  Takeoff-framed by_frame are from was own =
      framed-kept by_frame old new p (Some to) takeoff.changes are from frame was own (λ f has. sym (ap (λ at. is_number at f) own_frame) ∙ has)

  -- it comes into one that none had
  pub Takeoff-comes : (by_frame : List (Option PageId)) → AreFramed by_frame (pages_of old) → is_frame_taken (pages_of old) frame ≡ false
      → (noted : List (Option PageId)) → Changes by_frame noted frame (Some (record { 0 = p })) → AreFramed noted (pages_of new)
  Takeoff-comes by_frame are unused noted changes = framed-comes by_frame old new p (Some to) takeoff.changes are to frame refl own_frame unused noted changes

  pub Takeoff-starts : (l : Label) (f b : ℕ) (bytes : List ℕ) → page_of to ≡ labelled l (moving direction f b n) → (frames frames' : ℕ) → frames' ≡ frames
      → Starts (view_of numbers old flights members files frames) (view_of numbers' new later members' files frames') p l direction f b (new_ticket n b bytes)
  Takeoff-starts l f b bytes is frames frames' many = record {
    free = takeoff.free;
    listed = takeoff.listed;
    placed = changed-page old new p (Some to) takeoff.changes p _ refl (ap Some is);
    given = refl;
    fewer = (let len = takeoff.len in let fits = takeoff.fits in let capacity = takeoff.capacity in omega (arith, len, fits, capacity));
    numbers = takeoff.beside.same_numbers;
    groups = takeoff.beside.same_groups;
    room = rw (takeoff.beside.same_room, takeoff.beside.same_groups) refl;
    files = refl;
    frames = many;
  }

  pub Takeoff-apart : (q o : ℕ) → q ≢ p → byte_in (bytes_in new) q o ≡ byte_in (bytes_in old) q o
  Takeoff-apart = changed-byte-apart old new p (Some to) takeoff.changes

  pub Takeoff-kept : (from : OwnedPage) → at old p ≡ Some from → bytes_of to ≡ bytes_of from → (q o : ℕ) → byte_in (bytes_in new) q o ≡ byte_in (bytes_in old) q o
  Takeoff-kept from was same = changed-byte-kept old new p (Some to) takeoff.changes from was (ap Some same)

-- the parts of what a page owns
pub part-frame : (k : OwnedPage) (label : Label) (residence : Residence) → page_of k ≡ labelled label residence → (frame f : ℕ) → frame_at (page_of k).residence ≡ Some frame → frame_at residence ≡ Some f → frame ≡ f
part-frame k label residence is frame f own stands = some_inj (sym own ∙ ap (λ page. frame_at page.residence) is ∙ stands)

pub part-slot : (k : OwnedPage) (label : Label) (residence : Residence) → page_of k ≡ labelled label residence → (slot b : ℕ) → block_at (page_of k).residence ≡ Some slot → block_at residence ≡ Some b → slot ≡ b
part-slot k label residence is slot b own stands = some_inj (sym own ∙ ap (λ page. block_at page.residence) is ∙ stands)

-- ---- in its place

-- bytes of one page are written in its place: the pages are the same
pub record Rewrites (owned : List (Option OwnedPage)) (p : ℕ) (before after : Option OwnedPage) : Type 0 where
  pub within : p < length owned
  pub was : before ≡ at owned p
  pub page : option_map page_of after ≡ option_map page_of before

module _ {T : Type 0} (numbers : Slab T) (flights : Slab Flight) (members : RingsOf) (files : FilesOf) (owned : List (Option OwnedPage)) (p : ℕ) (before after : Option OwnedPage) (rewrites : Rewrites owned p before after) where
  same_pages : pages_of (set owned p after) ≡ pages_of owned
  same_pages = map-set page_of owned p after (rewrites.page ∙ ap (option_map page_of) rewrites.was)

  pub Rewrites-are : (places : ℕ) (cache : List (Option PageId)) → ArePages numbers owned places flights members files cache → ArePages numbers (set owned p after) places flights members files cache
  Rewrites-are places cache is = record {
    taken = λ n. is.taken n ∙ sym (sym (is_some-map page_of (at (set owned p after) n)) ∙ ap is_some (sym (at-map page_of (set owned p after) n) ∙ ap (λ pages. page_at pages n) same_pages ∙ at-map page_of owned n) ∙ is_some-map page_of (at owned n));
    within = is.within;
    in_flight = subst (λ pages. AreInFlight pages flights.slots) (sym same_pages) is.in_flight;
    few = is.few;
    countable = is.countable;
    linked = is.linked;
    listed = subst (AreMembers members.lists) (sym same_pages) is.listed;
    filed = subst (AreHome files) (sym same_pages) is.filed;
    cached = subst (AreCached files cache) (sym same_pages) is.cached;
    homes = is.homes;
  }

  pub Rewrites-others : (frames : ℕ) → view_of numbers (set owned p after) flights members files frames ≡ record (view_of numbers owned flights members files frames) { bytes = bytes_in (set owned p after) }
  Rewrites-others frames = ap (λ pages. record (view_of numbers (set owned p after) flights members files frames) { pages = pages }) same_pages

  pub Rewrites-framed : (by_frame : List (Option PageId)) → AreFramed by_frame (pages_of owned) → AreFramed by_frame (pages_of (set owned p after))
  Rewrites-framed by_frame are = subst (AreFramed by_frame) (sym same_pages) are

  pub Rewrites-bytes : Changes (bytes_in owned) (bytes_in (set owned p after)) p (option_map bytes_of after)
  Rewrites-bytes = Changes-map bytes_of _ _ p after (Changes-set owned p after rewrites.within)

-- a page that is held has its place
pub held-within : (owned : List (Option OwnedPage)) (p : ℕ) → there_and is_held (page_at (pages_of owned) p) ≡ true → p < length owned
held-within owned p held = place_within owned p (there (at owned p) (ap (there_and is_held) (sym (at-map page_of owned p)) ∙ held))
  where
    there : (slot : Option OwnedPage) → there_and is_held (option_map page_of slot) ≡ true → IsSome slot
    there None is = absurd (cc)
    there (Some k) is = refl

-- ---- a page in a frame that is written to

-- it is there
pub held-there : (owned : List (Option OwnedPage)) (p : ℕ) → there_and is_held (page_at (pages_of owned) p) ≡ true → (k : OwnedPage) × (at owned p ≡ Some k)
held-there owned p held = there (at owned p) (ap (there_and is_held) (sym (at-map page_of owned p)) ∙ held)
  where
    there : (slot : Option OwnedPage) → there_and is_held (option_map page_of slot) ≡ true → (k : OwnedPage) × (slot ≡ Some k)
    there None is = absurd (cc)
    there (Some k) is = (k, refl)

-- and still is
pub touched-there : (slot : Option OwnedPage) (page : Page) → option_map page_of slot ≡ Some page → (k : OwnedPage) × (slot ≡ Some k) × (page_of k ≡ page)
touched-there None page is = absurd (cc)
touched-there (Some k) page is = (k, refl, some_inj is)

-- ---- a page that leaves its frame

-- what a page was that was taken out
module _ (files : FilesOf) (owned : List (Option OwnedPage)) (p : ℕ) (k : OwnedPage) (content : Holds) (charge : ℕ) (was : at owned p ≡ Some k) (group : (page_of k).group ≡ charge) (holds : k.content ≡ content) where
  pub taken-label : (label : Label) (r : Residence) → HasResidence (pages_of owned) p label r → label_holding content charge ≡ label
  taken-label label r stands = sym (ap (label_holding k.content) group ∙ ap (λ h. label_holding h charge) holds) ∙ ap label_of (owned-stands owned p k _ was stands)

  pub taken-leaves : (slot : Option ℕ) (label : Label) (r : Residence) → HasResidence (pages_of owned) p label r → LeavesBy label.content label.dirty slot → LeavesBy (content_of content) (is_dirty content) slot
  taken-leaves slot label r stands by = subst (λ (l : Label). LeavesBy l.content l.dirty slot) (sym (taken-label label r stands)) by

  pub taken-inside : AreHome files (pages_of owned) → IfSome (file_at (content_of content)) (λ a. a.page < slice_index files.sizes a.file)
  taken-inside home = subst (λ h. IfSome (file_at (content_of h)) (λ a. a.page < slice_index files.sizes a.file)) holds (left-inside files (page_of k) (own-filed files owned p k home was))

-- it is at home still
pub leaves-filed : (files : FilesOf) (content : Holds) (g frame n : ℕ) (slot : Option ℕ) → LeavesBy (content_of content) (is_dirty content) slot → IfSome (file_at (content_of content)) (λ a. a.page < slice_index files.sizes a.file)
    → IsFiled files.first files.sizes (labelled (label_holding content g) (Going frame (block_for files (content_of content) slot) n))
leaves-filed files holds.Memory g frame n slot by inside = refl
leaves-filed files (holds.OfFile at dirty) g frame n None by inside = (inside, (refl, by))
leaves-filed files (holds.OfFile at dirty) g frame n (Some slot) by inside = absurd by
