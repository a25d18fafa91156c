-- What an access meets, and where a page stands after the end of its transfer.
use Rattle.std.proofs.Common.{◌≡◌, inl, inr, ℕ, ◌==◌, ◌&&◌, Bool, true, false, cond, Option, Some, None, eqb-true, refl, sym, ap, ◌∙◌, subst}
use Rattle.std.specs.Prelude.{◌⊎◌, nat_lt}
use Rattle.std.proofs.lemmas.Bool.{and_parts}
use Rattle.machine.specs.declared.event.Op.{Op}
use Rattle.machine.specs.declared.event.Op.TheVariants.{Read, Write}
use Rattle.machine.specs.declared.event.Place.{Place}
use Rattle.machine.specs.declared.event.Place.TheVariants.{Virtual, File}
use Rattle.machine.specs.Pages.{Content, Memory, OfFile, Residence, Held, Coming, Going, Away, Page, is_anon, in_transfer_at, page_at, file_page}
use Rattle.machine.specs.Tasks.{PageTables, mappers, mapped_at}
use Rattle.machine.specs.State.{State}
use Rattle.machine.specs.Access.{Meeting, Unmapped, Hits, Transferring, NeedsPage, NeedsCopy, NeedsSwapIn, NeedsRead, Dangling, meets, meets_mapped, meets_slot, meets_residence, meets_cached_at, meets_record, meets_cached, is_shared_write}
use Rattle.machine.specs.Step.{or_gone, in_frame, on_block_of, on_block}
use Rattle.machine.proofs.FileLemmas.{file_page-there}

-- ---- what an access meets

-- what is known of the page that it meets
abbrev pub Met : State → ℕ → ℕ → Op → Meeting → Type 0
Met s t v op (Hits p page frame) = (mapped_at s.page_tables t v ≡ Some p) × (page_at s.pages p ≡ Some page) × (page.residence ≡ Held frame) × (is_shared_write s.page_tables p op ≡ false)
Met s t v op (NeedsSwapIn p page block) = (mapped_at s.page_tables t v ≡ Some p) × (page_at s.pages p ≡ Some page) × (page.residence ≡ Away block)
Met s t v op (NeedsPage w) = (w ≡ v) × (mapped_at s.page_tables t v ≡ None)
Met s t v op (NeedsCopy w) = (w ≡ v) × (p : ℕ) × (page : Page) × (frame : ℕ) × (mapped_at s.page_tables t v ≡ Some p) × (page_at s.pages p ≡ Some page) × (page.residence ≡ Held frame) × (nat_lt 1 (mappers s.page_tables p) ≡ true)
Met s t v op Unmapped = mapped_at s.page_tables t v ≡ None
Met s t v op Dangling = (p : ℕ) × (mapped_at s.page_tables t v ≡ Some p) × (page_at s.pages p ≡ None)
Met s t v op (NeedsRead file q) = ⊥
Met s t v op Transferring = (p : ℕ) × (page : Page) × (mapped_at s.page_tables t v ≡ Some p) × (page_at s.pages p ≡ Some page) × (in_transfer_at page.residence ≡ true)

pub met : (s : State) (t v o : ℕ) (op : Op) → Met s t v op (meets s t (Virtual v o) op)
met s t v o op = by_mapped (mapped_at s.page_tables t v) refl
  where
    shared_write : (op : Op) (p : ℕ) → is_shared_write s.page_tables p op ≡ true → nat_lt 1 (mappers s.page_tables p) ≡ true
    shared_write Read p e = cc
    shared_write (Write b) p e = e

    by_shared : (b : Bool) (p f : ℕ) (page : Page) → is_shared_write s.page_tables p op ≡ b → mapped_at s.page_tables t v ≡ Some p → page_at s.pages p ≡ Some page → page.residence ≡ Held f
        → Met s t v op (cond b (NeedsCopy v) (Hits p page f))
    by_shared true p f page shared is there stands = (refl, p, page, f, is, there, stands, shared_write op p shared)
    by_shared false p f page shared is there stands = (is, there, stands, shared)

    by_residence : (p : ℕ) (page : Page) (r : Residence) → mapped_at s.page_tables t v ≡ Some p → page_at s.pages p ≡ Some page → page.residence ≡ r → Met s t v op (meets_residence s v p page r op)
    by_residence p page (Held f) is there stands = by_shared (is_shared_write s.page_tables p op) p f page refl is there stands
    by_residence p page (Coming f b ticket) is there stands = (p, page, is, there, ap in_transfer_at stands)
    by_residence p page (Going f b ticket) is there stands = (p, page, is, there, ap in_transfer_at stands)
    by_residence p page (Away b) is there stands = (is, there, stands)

    by_page : (p : ℕ) (slot : Option Page) → mapped_at s.page_tables t v ≡ Some p → page_at s.pages p ≡ slot → Met s t v op (meets_slot s v p slot op)
    by_page p None is there = (p, is, there)
    by_page p (Some page) is there = by_residence p page page.residence is there refl

    unmapped : (op : Op) → mapped_at s.page_tables t v ≡ None → Met s t v op (meets_mapped s v None op)
    unmapped Read is = is
    unmapped (Write b) is = (refl, is)

    by_mapped : (m : Option ℕ) → mapped_at s.page_tables t v ≡ m → Met s t v op (meets_mapped s v m op)
    by_mapped None is = unmapped op is
    by_mapped (Some p) is = by_page p (page_at s.pages p) is refl

-- the same of a page of a file
abbrev pub MetFile : State → ℕ → ℕ → Meeting → Type 0
MetFile s f q (Hits p page frame) = (file_page s.pages f q ≡ Some p) × (page_at s.pages p ≡ Some page) × (page.residence ≡ Held frame) × (page.content ≡ OfFile f q)
MetFile s f q (NeedsRead f' q') = (f' ≡ f) × (q' ≡ q) × (file_page s.pages f q ≡ None)
MetFile s f q Transferring = (p : ℕ) × (page : Page) × (file_page s.pages f q ≡ Some p) × (page_at s.pages p ≡ Some page) × (in_transfer_at page.residence ≡ true) × (page.content ≡ OfFile f q)
MetFile s f q Dangling = (p : ℕ) × (page : Page) × (block : ℕ) × (file_page s.pages f q ≡ Some p) × (page_at s.pages p ≡ Some page) × (page.residence ≡ Away block) × (page.content ≡ OfFile f q)
MetFile s f q meeting = ⊥

pub met_file : (s : State) (t f q o : ℕ) (op : Op) → MetFile s f q (meets s t (File f q o) op)
met_file s t f q o op = by_found (file_page s.pages f q) refl
  where
    by_residence : (p : ℕ) (page : Page) (r : Residence) → file_page s.pages f q ≡ Some p → page_at s.pages p ≡ Some page → page.content ≡ OfFile f q → page.residence ≡ r → MetFile s f q (meets_cached_at p page r)
    by_residence p page (Held frame) is there holds stands = (is, there, stands, holds)
    by_residence p page (Coming frame block ticket) is there holds stands = (p, page, is, there, ap in_transfer_at stands, holds)
    by_residence p page (Going frame block ticket) is there holds stands = (p, page, is, there, ap in_transfer_at stands, holds)
    by_residence p page (Away block) is there holds stands = (p, page, block, is, there, stands, holds)

    by_found : (found : Option ℕ) → file_page s.pages f q ≡ found → MetFile s f q (meets_cached s.pages f q found)
    by_found None is = (refl, refl, is)
    by_found (Some p) is =
        let stands = file_page-there s.pages f q p is in
        subst (λ (slot : Option Page). MetFile s f q (meets_record p slot)) (sym stands.1) (by_residence p stands.0 stands.0.residence is stands.1 stands.2 refl)

-- a page that is hit stands in its frame
pub hits_held : (s : State) (t : ℕ) (place : Place) (op : Op) (p : ℕ) (page : Page) (frame : ℕ) → meets s t place op ≡ Hits p page frame
    → (page_at s.pages p ≡ Some page) × (page.residence ≡ Held frame)
hits_held s t (Virtual v o) op p page frame hits = let found : Met s t v op (Hits p page frame) = subst (Met s t v op) hits (met s t v o op) in (found.1, found.2)
hits_held s t (File f q o) op p page frame hits = let found : MetFile s f q (Hits p page frame) = subst (MetFile s f q) hits (met_file s t f q o op) in (found.1, found.2)

-- one that is to be swapped in stands on its block
pub swaps_away : (s : State) (t v o : ℕ) (op : Op) (p : ℕ) (page : Page) (block : ℕ) → meets s t (Virtual v o) op ≡ NeedsSwapIn p page block
    → (page_at s.pages p ≡ Some page) × (page.residence ≡ Away block) × (mapped_at s.page_tables t v ≡ Some p)
swaps_away s t v o op p page block swaps = let found : Met s t v op (NeedsSwapIn p page block) = subst (Met s t v op) swaps (met s t v o op) in (found.1, found.2, found.0)

-- ---- ends of transfers

-- a page that may go at the end of its transfer: one of a file, or one that nothing maps
abbrev pub MayGo : PageTables → ℕ → Page → Type 0
MayGo tables p page = is_anon page.content ≡ true → mappers tables p ≡ 0

-- a page that may stay: one of a file, or one that something maps
abbrev pub MayStay : PageTables → ℕ → Page → Type 0
MayStay tables p page = is_anon page.content ≡ true → (mappers tables p == 0) ≡ false

-- what a page comes to: nothing, where it may go, or this, where it may stay
abbrev pub Settled : PageTables → ℕ → Page → Option Page → Page → Type 0
Settled tables p page to now = ((to ≡ None) × MayGo tables p page) ⊎ ((to ≡ Some now) × MayStay tables p page)

or_gone-cases : (tables : PageTables) (p : ℕ) (page : Page) → Settled tables p page (or_gone tables p page) page
or_gone-cases tables p page = by_test (is_anon page.content && (mappers tables p == 0)) refl
  where
    by_test : (b : Bool) → (is_anon page.content && (mappers tables p == 0)) ≡ b → Settled tables p page (cond b None (Some page)) page
    by_test true is = inl (refl, λ memory. eqb-true (mappers tables p) 0 (and_parts (is_anon page.content) (mappers tables p == 0) is).1)
    by_test false is = inr (refl, λ memory. sym (ap (λ (b : Bool). b && (mappers tables p == 0)) memory) ∙ is)

pub in_frame-cases : (tables : PageTables) (p : ℕ) (page : Page) (frame block : ℕ) → Settled tables p page (in_frame tables p page frame block) (record page { residence = Held frame })
in_frame-cases tables p page frame block = or_gone-cases tables p (record page { residence = Held frame })

pub on_block-cases : (tables : PageTables) (p : ℕ) (page : Page) (frame block : ℕ) → Settled tables p page (on_block tables p page frame block) (record page { residence = Away block })
on_block-cases tables p page frame block = by_content page.content refl
  where
    by_content : (content : Content) → page.content ≡ content → Settled tables p page (on_block_of content tables p page block) (record page { residence = Away block })
    by_content Memory is = or_gone-cases tables p (record page { residence = Away block })
    by_content (OfFile file q) is = inl (refl, λ memory. absurd (let e : false ≡ true = sym (ap is_anon is) ∙ memory in cc))

-- only memory stands on its block alone
pub on_block-memory : (tables : PageTables) (p : ℕ) (page : Page) (frame block : ℕ) (now : Page) → on_block tables p page frame block ≡ Some now → is_anon page.content ≡ true
on_block-memory tables p page frame block now stays = by_content page.content refl stays
  where
    by_content : (content : Content) → page.content ≡ content → on_block_of content tables p page block ≡ Some now → is_anon page.content ≡ true
    by_content Memory is e = ap is_anon is
    by_content (OfFile file q) is e = cc

-- and only memory goes from its frame at the end of a transfer
pub in_frame-memory : (tables : PageTables) (p : ℕ) (page : Page) (frame block : ℕ) → in_frame tables p page frame block ≡ None → is_anon page.content ≡ true
in_frame-memory tables p page frame block gone = by_kind (is_anon page.content) gone
  where
    by_kind : (b : Bool) → cond (b && (mappers tables p == 0)) None (Some (record page { residence = Held frame })) ≡ None → b ≡ true
    by_kind true e = refl
    by_kind false e = cc
