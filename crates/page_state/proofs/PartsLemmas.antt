-- The parts go on to agree after one page changed.
use Rattle.std.proofs.Common.{◌≡◌, ◌≢◌, inl, inr, ℕ, zero, suc, ◌+◌, ◌<◌, ◌≤◌, ◌==◌, ◌&&◌, ◌||◌, not, Bool, true, false, cond, List, [], ◌∷◌, ◌++◌, length, Option, Some, None, eq-eqb, refl, sym, ap, ◌∙◌, subst, arith}
use Rattle.std.specs.Prelude.{IfSome, option_map, option_to_list, replicate, sum}
use Rattle.std.proofs.lemmas.Bool.{cases_Bool, ne_eqb}
use Rattle.std.proofs.lemmas.Bool.Decides.{eqb_tells}
use Rattle.std.proofs.lemmas.List.{map-append}
use Rattle.std.proofs.lemmas.List.Sums.{sum_by-cons}
use Rattle.machine.specs.Slots.{at, Changes, there_and, count_there, any_there}
use Rattle.machine.specs.Pages.{Content, Memory, OfFile, Residence, Held, Coming, Going, Away, Page, Pages, IsFiled, IsFiledAs, IsAtHome, home_block, page_at, is_anon, is_some_number, frame_at, block_at, ticket_at, is_number, is_held_at, in_transfer_at, has_frame, has_this_frame, has_swap, is_held, is_held_in, is_in_transfer, in_transfer, used_frames, used_swap, is_ticket_taken}
use Rattle.machine.specs.declared.record.Kind.TheVariants.{Anon, File}
use Rattle.machine.specs.declared.record.Kind.{Kind}
use Rattle.machine.specs.Generations.{Gens, new_gens, row_of, has_page, is_listed, is_listed_in, gens_at}
use Rattle.machine.specs.Aging.{is_marked}
use Rattle.machine.specs.Lists.{HeldLists, kind_at, is_held_of, ListsHeld, Generation, Youngest, GoesOn, hits_at}
use Rattle.machine.proofs.SlotLemmas.{one_if, any_there-none, count_there-none}
use Rattle.machine.proofs.TreeLemmas.{eq_cases}
use Rattle.page_lists.proofs.HeldChanges.{goes-on-same, goes-on-out, goes-on-in, unheld-unlisted}
use Rattle.page_lists.proofs.HeldLemmas.{goes_length, held-go_on}
use Rattle.machine.specs.Tree.{is_live}
use Rattle.group_tree.proofs.LineageLemmas.{live-within}
use Rattle.aging.proofs.GroupLemmas.{unlisted-all}
use Rattle.held_pages.specs.Held.{HeldOf, entered, left}
use Rattle.counts.specs.Numbers.{times}
use Rattle.frames.specs.Pool.{PoolOf}
use Rattle.block_store.specs.Slots.{SlotsOf}
use Rattle.page_counter.specs.Counts.{Counts}
use Rattle.pages.proofs.TableLemmas.{any-some}
use Rattle.pages.specs.declared.flight.Flight.{Flight}
use Rattle.pages.specs.declared.owned_page.OwnedPage.{OwnedPage}
use Rattle.pages.specs.Records.{page_of}
use Rattle.pages.specs.PagesOf.{pages_there, Label, label_of, labelled, HasResidence, is_under_ticket, AreInFlight}
use Rattle.files.specs.Files.{FilesOf}
use Rattle.page_state.specs.declared.parts.Parts.{Parts}
use Rattle.page_state.specs.Parts.{Stays}
use Rattle.page_state.specs.Owned.{has_this_block, is_leaving_at, is_going, AreKept, AreListed, IsCounted, PartsAgree, pages_of}
use Rattle.page_state.proofs.BalanceLemmas.{Trades, changed-count, balanced-step, given-out}
use Rattle.page_state.proofs.CountLemmas.{Recharges, counted-step}

-- ---- lists of pages

-- the list lacks what a place gave up, and has what it got
pub record Relists (test : Page → Bool) (xs xs' : List ℕ) (p : ℕ) (from to : Option Page) : Type 0 where
  pub once : (n : ℕ) → times xs' n + one_if (there_and test from && (p == n)) ≡ times xs n + one_if (there_and test to && (p == n))
  pub len : length xs' + one_if (there_and test from) ≡ length xs + one_if (there_and test to)

and_true : (b : Bool) → one_if (b && true) ≡ one_if b
and_true true = refl
and_true false = refl

and_false : (b : Bool) → one_if (b && false) ≡ 0
and_false true = refl
and_false false = refl

pub listed-step : (test : Page → Bool) (xs xs' : List ℕ) (pages pages' : Pages) (p : ℕ) (from to : Option Page) → page_at pages p ≡ from → Changes pages pages' p to → Relists test xs xs' p from to → AreListed test xs pages → AreListed test xs' pages'
listed-step test xs xs' pages pages' p from to stood changes relists listed =
    record {
      once = λ n.
          (let k = relists.once n in
          let before = listed.once n in
          elim (eqb_tells p n) [
            | inl same ↦
                (let was : one_if (there_and test (page_at pages n)) ≡ one_if (there_and test from) = ap (λ (slot : Option Page). one_if (there_and test slot)) (ap (page_at pages) (sym same.1) ∙ stood) in
                let now : one_if (there_and test (page_at pages' n)) ≡ one_if (there_and test to) = ap (λ (slot : Option Page). one_if (there_and test slot)) (ap (page_at pages') (sym same.1) ∙ changes.changed) in
                let from_n : one_if (there_and test from && (p == n)) ≡ one_if (there_and test from) = ap (λ b. one_if (there_and test from && b)) same.0 ∙ and_true (there_and test from) in
                let to_n : one_if (there_and test to && (p == n)) ≡ one_if (there_and test to) = ap (λ b. one_if (there_and test to && b)) same.0 ∙ and_true (there_and test to) in
                omega (arith, k, before, was, now, from_n, to_n))
            | inr other ↦
                (let kept : one_if (there_and test (page_at pages' n)) ≡ one_if (there_and test (page_at pages n)) = ap (λ (slot : Option Page). one_if (there_and test slot)) (changes.others n (λ e. other.1 (sym e))) in
                let from_n : one_if (there_and test from && (p == n)) ≡ 0 = ap (λ b. one_if (there_and test from && b)) other.0 ∙ and_false (there_and test from) in
                let to_n : one_if (there_and test to && (p == n)) ≡ 0 = ap (λ b. one_if (there_and test to && b)) other.0 ∙ and_false (there_and test to) in
                omega (arith, k, before, kept, from_n, to_n))
          ]);
      len = (let c = changed-count test pages pages' p from to stood changes in let k = relists.len in let before = listed.len in omega (arith, c, k, before));
    }

pub listed-open : (test : Page → Bool) (xs : List ℕ) (pages : Pages) → xs ≡ [] → pages ≡ [] → AreListed test xs pages
listed-open test xs pages none empty = rw (none, empty) (record { once = λ p. refl; len = refl })

-- no page, and none marked or hit
pub lists-open : (held : HeldLists) (pages : Pages) → held.groups ≡ new_gens ∷ [] → (n : ℕ) → held.marks ≡ replicate n false → held.hits ≡ replicate n 0 → pages ≡ [] → ListsHeld pages held
lists-open held pages groups n marks hits none =
    record {
      rows = λ g kind p. ap (λ (gs : List Gens). has_page p (row_of kind (gens_at gs g)).pages) groups ∙ row g kind p ∙ sym (ap (λ (ps : Pages). there_and (is_held_of g kind) (page_at ps p)) none);
      marked = λ p marked. absurd (let wrong : false ≡ true = sym (unmarked n p) ∙ sym (ap (λ (ms : List Bool). is_marked ms p) marks) ∙ marked in cc);
      counted = λ p gone. ap (λ (ns : List ℕ). hits_at ns p) hits ∙ unhit n p;
    }
  where
    row : (g : ℕ) (kind : Kind) (p : ℕ) → has_page p (row_of kind (gens_at (new_gens ∷ []) g)).pages ≡ false
    row zero Anon p = refl
    row zero File p = refl
    row (suc g) Anon p = refl
    row (suc g) File p = refl

    unmarked : (n p : ℕ) → is_marked (replicate n false) p ≡ false
    unmarked zero p = refl
    unmarked (suc n) zero = refl
    unmarked (suc n) (suc p) = unmarked n p

    unhit : (n p : ℕ) → hits_at (replicate n 0) p ≡ 0
    unhit zero p = refl
    unhit (suc n) zero = refl
    unhit (suc n) (suc p) = unhit n p

pub relists-same : (test : Page → Bool) (xs : List ℕ) (p : ℕ) (from to : Option Page) → there_and test from ≡ there_and test to → Relists test xs xs p from to
relists-same test xs p from to same = record { once = λ n. ap (λ b. times xs n + one_if (b && (p == n))) same; len = ap (λ b. length xs + one_if b) same }

-- a page comes to the list's end
pub relists-in : (test : Page → Bool) (xs xs' : List ℕ) (q p : ℕ) (from to : Option Page) → q ≡ p → there_and test from ≡ false → there_and test to ≡ true
    → ((n : ℕ) → times xs' n ≡ times xs n + cond (q == n) 1 0) → length xs' ≡ length xs + 1 → Relists test xs xs' p from to
relists-in test xs xs' q p from to same fails passes counts more =
    record {
      once = λ n.
          (let k = counts n in
          let here : cond (q == n) 1 0 ≡ one_if (p == n) = ap (λ x. one_if (x == n)) same in
          let was = ap (λ b. one_if (b && (p == n))) fails in
          let now = ap (λ b. one_if (b && (p == n))) passes in
          omega (arith, k, here, was, now));
      len = (let was = ap one_if fails in let now = ap one_if passes in omega (arith, more, was, now));
    }

-- a page that stood in the list is taken out
pub relists-out : (test : Page → Bool) (xs xs' : List ℕ) (pages : Pages) (q p : ℕ) (from to : Option Page) → q ≡ p → page_at pages p ≡ from → there_and test to ≡ false → AreListed test xs pages
    → ((n : ℕ) → times xs' n + cond (q == n) (times xs q) 0 ≡ times xs n) → length xs' + times xs q ≡ length xs → Relists test xs xs' p from to
relists-out test xs xs' pages q p from to same stood fails listed counts fewer =
    let one : times xs q ≡ one_if (there_and test from) = ap (times xs) same ∙ listed.once p ∙ ap (λ (slot : Option Page). one_if (there_and test slot)) stood in
    record {
      once = λ n.
          (let k = counts n in
          let here = ap (λ m. cond (q == n) m 0) one in
          let there = ap (λ x. cond (x == n) (one_if (there_and test from)) 0) same in
          let both = swapped (there_and test from) (p == n) in
          let now = ap (λ b. one_if (b && (p == n))) fails in
          omega (arith, k, here, there, both, now));
      len = (let now = ap one_if fails in omega (arith, fewer, one, now));
    }
  where
    swapped : (b c : Bool) → one_if (b && c) ≡ cond c (one_if b) 0
    swapped true true = refl
    swapped true false = refl
    swapped false true = refl
    swapped false false = refl

-- ---- the lists of held pages, where one page changes

module _ (pages : Pages) (held : HeldLists) (lists : ListsHeld pages held) (p : ℕ) where
  -- a page that stands in a frame is on the lists of its group, and of no other
  stands-where : (label : Label) (f g : ℕ) → HasResidence pages p label (Held f) → is_listed (gens_at held.groups g) p ≡ (label.group == g)
  stands-where label f g stood =
      ap (λ b. b || has_page p (gens_at held.groups g).anon.pages) (lists.rows g File p ∙ ap (there_and (is_held_of g File)) stood)
      ∙ ap (λ b. ((label.group == g) && not (is_anon label.content)) || b) (lists.rows g Anon p ∙ ap (there_and (is_held_of g Anon)) stood) ∙ either (label.group == g) (is_anon label.content)
    where
      either : (b anon : Bool) → ((b && not anon) || (b && anon)) ≡ b
      either true true = refl
      either true false = refl
      either false anon = refl

  pub stands-listed : (label : Label) (f : ℕ) → HasResidence pages p label (Held f) → is_listed (gens_at held.groups label.group) p ≡ true
  stands-listed label f stood = stands-where label f label.group stood ∙ eq-eqb label.group label.group refl

  stands-elsewhere : (label : Label) (f h : ℕ) → HasResidence pages p label (Held f) → h ≢ label.group → is_listed (gens_at held.groups h) p ≡ false
  stands-elsewhere label f h stood other = stands-where label f h stood ∙ ne_eqb label.group h (λ e. other (sym e))

  -- a page that is not held is on none
  pub absent-unlisted : is_held_in pages p ≡ false → is_listed_in held.groups p ≡ false
  absent-unlisted gone = unlisted-all held.groups p (unheld-unlisted pages held lists p gone)

  module _ (generation : Generation) (pages' : Pages) (from to : Option Page) (stood : page_at pages p ≡ from) (changes : Changes pages pages' p to) where
    elsewhere : (q : ℕ) → q ≢ p → is_held_in pages' q ≡ is_held_in pages q
    elsewhere q other = ap (there_and is_held) (changes.others q other)

    -- a page that is held stays so, and one that is not held too
    pub goes-at : there_and is_held to ≡ there_and is_held from → GoesOn generation pages held pages' held
    goes-at alike =
        goes-on-same generation pages pages' held lists
        (λ q. elim (eq_cases q p) [
          | inl same ↦ ap (is_held_in pages') same ∙ ap (there_and is_held) changes.changed ∙ alike ∙ sym (ap (is_held_in pages) same ∙ ap (there_and is_held) stood)
          | inr other ↦ elsewhere q other
        ])

  -- a page leaves its list
  pub goes-out : (generation : Generation) (pages' : Pages) (to : Option Page) (label : Label) (f : ℕ) → HasResidence pages p label (Held f) → Changes pages pages' p to → there_and is_held to ≡ false
      → GoesOn generation pages held pages' (left held label.group p)
  goes-out generation pages' to label f stood changes gone =
      goes-on-out generation pages pages' held lists p (elsewhere generation pages' (Some (labelled label (Held f))) to stood changes) label.group (stands-listed label f stood) (λ h other. stands-elsewhere label f h stood other)
      (ap (there_and is_held) changes.changed ∙ gone)

  -- a page comes to the list of its group and its type
  pub goes-in : (generation : Generation) (pages' : Pages) (from : Option Page) (label : Label) (f : ℕ) → page_at pages p ≡ from → there_and is_held from ≡ false → Changes pages pages' p (Some (labelled label (Held f))) → p < length held.hits
      → GoesOn generation pages held pages' (entered held label.group (kind_at label.content) p generation)
  goes-in generation pages' from label f stood absent changes within =
      goes-on-in generation pages pages' held lists p (elsewhere generation pages' from (Some (labelled label (Held f))) stood changes) (labelled label (Held f)) changes.changed refl (ap (there_and is_held) stood ∙ absent) within

-- ---- what is free, or a page's

pub kept-step : (c d : Counts) (pool pool' : PoolOf) (slots slots' : SlotsOf) (pages pages' : Pages) (p : ℕ) (from to : Option Page) → page_at pages p ≡ from → Changes pages pages' p to
    → pool'.frames ≡ pool.frames → Trades has_this_frame has_frame pool.free pool'.free from to → slots'.blocks ≡ slots.blocks → Trades has_this_block has_swap slots.free slots'.free from to → Recharges c d from to
    → AreKept c pool slots pages → AreKept d pool' slots' pages'
kept-step c d pool pool' slots slots' pages pages' p from to stood changes frames free blocks cut charges kept =
    record {
      frames = rw frames (balanced-step has_this_frame has_frame pool.frames pool.free pool'.free pages pages' p from to stood changes free kept.frames);
      blocks = rw blocks (balanced-step has_this_block has_swap slots.blocks slots.free slots'.free pages pages' p from to stood changes cut kept.blocks);
      counted = counted-step c d pages pages' p from to stood changes charges kept.counted;
    }

-- the frame of a page is not free, nor is the block of memory
pub frame-out : (c : Counts) (pool : PoolOf) (slots : SlotsOf) (pages : Pages) (p : ℕ) (label : Label) (r : Residence) (f : ℕ) → HasResidence pages p label r → frame_at r ≡ Some f → AreKept c pool slots pages → (times pool.free f ≡ 0) × (f < pool.frames)
frame-out c pool slots pages p label r f stood is kept =
    given-out has_this_frame has_frame pool.frames pool.free pages p f (ap (there_and (has_this_frame f)) stood ∙ ap (λ (o : Option ℕ). is_number o f) is ∙ eq-eqb f f refl) kept.frames

pub block-out : (c : Counts) (pool : PoolOf) (slots : SlotsOf) (pages : Pages) (p : ℕ) (label : Label) (r : Residence) (b : ℕ) → HasResidence pages p label r → is_anon label.content ≡ true → block_at r ≡ Some b → AreKept c pool slots pages
    → (times slots.free b ≡ 0) × (b < slots.blocks)
block-out c pool slots pages p label r b stood anon is kept =
    given-out has_this_block has_swap slots.blocks slots.free pages p b
    (ap (there_and (has_this_block b)) stood ∙ ap (λ (a : Bool). a && is_number (block_at r) b) anon ∙ ap (λ (o : Option ℕ). is_number o b) is ∙ eq-eqb b b refl) kept.blocks

-- ---- the parts

-- what stays in one change and then in another
pub stays-then : (old mid new : Parts) → Stays old mid → Stays mid new → Stays old new
stays-then old mid new first second =
    record {
      groups = record { tree = second.groups.tree ∙ first.groups.tree; limits = second.groups.limits ∙ first.groups.limits; room = second.groups.room ∙ first.groups.room };
      frames = second.frames ∙ first.frames;
      most_spares = second.most_spares ∙ first.most_spares;
      blocks = second.blocks ∙ first.blocks;
      numbers = second.numbers ∙ first.numbers;
      page_groups = second.page_groups ∙ first.page_groups;
      page_frames = second.page_frames ∙ first.page_frames;
      held_numbers = second.held_numbers ∙ first.held_numbers;
      moving_room = second.moving_room ∙ first.moving_room;
      files = second.files ∙ first.files;
    }

pub stays-same : (h : Parts) → Stays h h
stays-same h = record { groups = record { tree = refl; limits = refl; room = refl }; frames = refl; most_spares = refl; blocks = refl; numbers = refl; page_groups = refl; page_frames = refl; held_numbers = refl; moving_room = refl; files = refl }

-- one page changes, and each part with it
pub record Moves (h h' : Parts) (p : ℕ) (from to : Option Page) : Type 0 where
  pub stood : page_at h.pages.pages p ≡ from
  pub changes : Changes h.pages.pages h'.pages.pages p to
  pub kept : AreKept h'.counters h'.pool h'.slots h'.pages.pages
  pub stays : Stays h h'
  -- the lists of held pages go on, and a page that is held stays so in no change but of another
  pub generation : Generation
  pub goes : GoesOn generation h.pages.pages h.held.lists h'.pages.pages h'.held.lists
  pub apart : there_and is_held from ≡ true → there_and is_held to ≡ true → ⊥
  pub moving : Relists is_in_transfer h.moving.numbers h'.moving.numbers p from to
  pub spares : h'.pool.spares + one_if (there_and is_going to) ≡ h.pool.spares + one_if (there_and is_going from)
  pub tickets : h'.pages.tickets + one_if (there_and is_in_transfer to) ≡ h.pages.tickets + one_if (there_and is_in_transfer from)

-- the lists have the held pages
lists-step : (h h' : Parts) (p : ℕ) (from to : Option Page) → Moves h h' p from to → PartsAgree h → ListsHeld h'.pages.pages h'.held.lists
lists-step h h' p from to moves is =
    held-go_on moves.generation h.pages.pages h'.pages.pages h.held.lists h'.held.lists moves.goes is.held
    (record {
      same = λ q was now g kind. elim (eq_cases q p) [
        | inl same ↦ absurd (moves.apart (sym (ap (there_and is_held) (ap (page_at h.pages.pages) same ∙ moves.stood)) ∙ was) (sym (ap (there_and is_held) (ap (page_at h'.pages.pages) same ∙ moves.changes.changed)) ∙ now))
        | inr other ↦ ap (there_and (is_held_of g kind)) (moves.changes.others q other)
      ];
    })
    (record { group = λ q. within (page_at h'.pages.pages q) (moves.kept.counted.live q) })
  where
    within : (slot : Option Page) → IfSome slot (λ page. is_live h'.counters.tree page.group ≡ true) → IfSome slot (λ page. page.group < length h.held.lists.groups)
    within None live = tt
    within (Some page) live = let lt = live-within h'.counters.tree page.group live in let groups = is.held_groups in let tree = ap length moves.stays.groups.tree in omega (arith, lt, groups, tree)

pub agree-step : (h h' : Parts) (p : ℕ) (from to : Option Page) → Moves h h' p from to → PartsAgree h → PartsAgree h'
agree-step h h' p from to moves is =
    let going = changed-count is_going h.pages.pages h'.pages.pages p from to moves.stood moves.changes in
    let moving = changed-count is_in_transfer h.pages.pages h'.pages.pages p from to moves.stood moves.changes in
    let frames = moves.stays.frames in
    let most = moves.stays.most_spares in
    let blocks = moves.stays.blocks in
    let sizes = ap (λ (files : FilesOf). sum files.sizes) moves.stays.files in
    let numbers = moves.stays.numbers in
    record {
      kept = moves.kept;
      few = (let few = is.few in omega (arith, few, frames));
      held = lists-step h h' p from to moves is;
      moving = listed-step is_in_transfer h.moving.numbers h'.moving.numbers h.pages.pages h'.pages.pages p from to moves.stood moves.changes moves.moving is.moving;
      held_groups = goes_length moves.generation h.pages.pages h'.pages.pages h.held.lists h'.held.lists moves.goes ∙ is.held_groups ∙ sym (ap length moves.stays.groups.tree);
      held_numbers = moves.stays.held_numbers ∙ is.held_numbers ∙ sym moves.stays.numbers;
      page_groups = moves.stays.page_groups ∙ is.page_groups ∙ sym (ap length moves.stays.groups.tree);
      page_frames = moves.stays.page_frames ∙ is.page_frames ∙ sym frames;
      moving_room = (let room = moves.stays.moving_room in let fit = is.moving_room in omega (arith, room, fit, frames));
      numbers = (let fit = is.numbers in omega (arith, fit, frames, blocks, numbers));
      homes = ap (λ (files : FilesOf). files.first) moves.stays.files ∙ is.homes ∙ sym blocks;
      spares = (let k = moves.spares in let before = is.spares in omega (arith, k, before, going, most));
      most_spares = (let before = is.most_spares in omega (arith, before, most, frames, blocks, sizes));
      tickets = (let k = moves.tickets in let before = is.tickets in omega (arith, k, before, moving, frames));
    }

-- ---- how many pages there are of a kind

split_at : (r : Residence) → one_if (is_some_number (frame_at r)) ≡ one_if (is_held_at r) + one_if (in_transfer_at r)
split_at (Held f) = refl
split_at (Coming f b n) = refl
split_at (Going f b n) = refl
split_at (Away b) = refl

split_slot : (slot : Option Page) → one_if (there_and has_frame slot) ≡ one_if (there_and is_held slot) + one_if (there_and is_in_transfer slot)
split_slot None = refl
split_slot (Some page) = split_at page.residence

-- a page that has a frame is held or in transfer
pub used-split : (pages : Pages) → used_frames pages ≡ count_there is_held pages + in_transfer pages
used-split [] = refl
used-split (slot ∷ pages) =
    let used = sum_by-cons (λ (slot : Option Page). one_if (there_and has_frame slot)) slot pages in
    let held = sum_by-cons (λ (slot : Option Page). one_if (there_and is_held slot)) slot pages in
    let moving = sum_by-cons (λ (slot : Option Page). one_if (there_and is_in_transfer slot)) slot pages in
    let here = split_slot slot in
    let rest = used-split pages in
    omega (arith, used, held, moving, here, rest)

going_at : (r : Residence) → one_if (is_leaving_at r) ≤ one_if (in_transfer_at r)
going_at (Held f) = omega arith
going_at (Coming f b n) = omega arith
going_at (Going f b n) = omega arith
going_at (Away b) = omega arith

going_slot : (slot : Option Page) → one_if (there_and is_going slot) ≤ one_if (there_and is_in_transfer slot)
going_slot None = omega arith
going_slot (Some page) = going_at page.residence

pub going-least : (pages : Pages) → count_there is_going pages ≤ in_transfer pages
going-least [] = omega arith
going-least (slot ∷ pages) =
    let going = sum_by-cons (λ (slot : Option Page). one_if (there_and is_going slot)) slot pages in
    let moving = sum_by-cons (λ (slot : Option Page). one_if (there_and is_in_transfer slot)) slot pages in
    let here = going_slot slot in
    let rest = going-least pages in
    omega (arith, going, moving, here, rest)

pub not-going : (slot : Option Page) → there_and is_in_transfer slot ≡ false → one_if (there_and is_going slot) ≡ 0
not-going slot settled = let less = going_slot slot in let none : one_if (there_and is_in_transfer slot) ≡ 0 = ap one_if settled in omega (arith, less, none)

-- a page of a file is never out of its frame
owned_page : (files : FilesOf) (page : Page) (content : Content) (r : Residence) → page.residence ≡ r → IsFiledAs files.first files.sizes page content → 1 ≤ one_if (is_some_number (frame_at r)) + one_if (is_anon content && is_some_number (block_at r))
owned_page files page content (Held f) is filed = omega arith
owned_page files page content (Coming f b n) is filed = omega arith
owned_page files page content (Going f b n) is filed = omega arith
owned_page files page Memory (Away b) is filed = omega arith
owned_page files page (OfFile file q) (Away b) is filed = absurd (subst (IsAtHome (home_block files.first files.sizes file q) page.dirty) is filed.1)

owned_slot : (files : FilesOf) (slot : Option Page) → IfSome slot (IsFiled files.first files.sizes) → one_if (there_and (λ page. true) slot) ≤ one_if (there_and has_frame slot) + one_if (there_and has_swap slot)
owned_slot files None filed = omega arith
owned_slot files (Some page) filed = owned_page files page page.content page.residence refl filed

-- each page has a frame or a swap block
pub there-owned : (files : FilesOf) (pages : Pages) → ((p : ℕ) → IfSome (page_at pages p) (IsFiled files.first files.sizes)) → pages_there pages ≤ used_frames pages + used_swap pages
there-owned files [] filed = omega arith
there-owned files (slot ∷ pages) filed =
    let there = sum_by-cons (λ (slot : Option Page). one_if (there_and (λ page. true) slot)) slot pages in
    let used = sum_by-cons (λ (slot : Option Page). one_if (there_and has_frame slot)) slot pages in
    let cut = sum_by-cons (λ (slot : Option Page). one_if (there_and has_swap slot)) slot pages in
    let here = owned_slot files slot (filed 0) in
    let rest = there-owned files pages (λ p. filed (suc p)) in
    omega (arith, there, used, cut, here, rest)

-- ---- where a page stands

held_at : (page : Page) (r : Residence) → page.residence ≡ r → is_held_at r ≡ true → (f : ℕ) × (Some page ≡ Some (labelled (label_of page) (Held f)))
held_at page (Held f) is held = (f, ap (λ (r : Residence). Some (labelled (label_of page) r)) is)
held_at page (Coming f b n) is held = absurd cc
held_at page (Going f b n) is held = absurd cc
held_at page (Away b) is held = absurd cc

-- a page that is held stands in a frame
pub held-stands-in : (page : Page) → is_held page ≡ true → (f : ℕ) × (Some page ≡ Some (labelled (label_of page) (Held f)))
held-stands-in page held = held_at page page.residence refl held

some_stands : (slot : Option Page) → there_and is_held slot ≡ true → (label : Label) × (f : ℕ) × (slot ≡ Some (labelled label (Held f)))
some_stands None held = absurd cc
some_stands (Some page) held = let there = held-stands-in page held in (label_of page, there.0, there.1)

pub held-stands : (pages : Pages) (p : ℕ) → is_held_in pages p ≡ true → (label : Label) × (f : ℕ) × HasResidence pages p label (Held f)
held-stands pages p held = some_stands (page_at pages p) held

-- a page goes, and leaves its list if it was on one
pub goes-dropped : (pages : Pages) (held : HeldOf) (lists : ListsHeld pages held.lists) (p : ℕ) (pages' : Pages) (from : Option Page) → page_at pages p ≡ from → Changes pages pages' p None
    → (held' : HeldOf) → ((g : ℕ) → is_listed (gens_at held.lists.groups g) p ≡ true → held' ≡ record held { lists = left held.lists g p }) → (is_listed_in held.lists.groups p ≡ false → held' ≡ held)
    → GoesOn Youngest pages held.lists pages' held'.lists × (held'.numbers ≡ held.numbers)
goes-dropped pages held lists p pages' from stood changes held' listed unlisted = by_held (is_held_in pages p) refl
  where
    by_held : (b : Bool) → is_held_in pages p ≡ b → GoesOn Youngest pages held.lists pages' held'.lists × (held'.numbers ≡ held.numbers)
    by_held true is =
        let w = held-stands pages p is in
        let same = listed w.0.group (stands-listed pages held.lists lists p w.0 w.1 w.2) in (
          subst (λ (x : HeldLists). GoesOn Youngest pages held.lists pages' x) (sym (ap (λ (x : HeldOf). x.lists) same)) (goes-out pages held.lists lists p Youngest pages' None w.0 w.1 w.2 changes refl),
          ap (λ (x : HeldOf). x.numbers) same,
        )
    by_held false is =
        let same = unlisted (absent-unlisted pages held.lists lists p is) in (
          subst (λ (x : HeldLists). GoesOn Youngest pages held.lists pages' x) (sym (ap (λ (x : HeldOf). x.lists) same)) (goes-at pages held.lists lists p Youngest pages' from None stood changes (sym (sym (ap (there_and is_held) stood) ∙ is))),
          ap (λ (x : HeldOf). x.numbers) same,
        )

-- a ticket that is not in flight is none that a page has
pub ticket-free : (pages : Pages) (flights : List (Option Flight)) (n : ℕ) → AreInFlight pages flights → at flights n ≡ None → is_ticket_taken pages n ≡ false
ticket-free pages flights n is free = any_there-none (λ page. is_number (ticket_at page.residence) n) pages (count_there-none (λ page. is_number (ticket_at page.residence) n) pages none)
  where
    none : (p : ℕ) → is_under_ticket pages p n ≡ false
    none p =
        elim (cases_Bool (is_under_ticket pages p n)) [
          | inl so ↦ absurd (let listed = is.listed p n so in let gone = ap (option_map (λ (f : Flight). f.page.0)) free in cc)
          | inr not_so ↦ not_so
        ]

-- ---- what pages own, one after the other

pub pages-pop : (xs ys : List (Option OwnedPage)) (o : Option (Option OwnedPage)) (x : Option OwnedPage) → xs ≡ ys ++ option_to_list o → o ≡ Some x → pages_of xs ≡ pages_of ys ++ option_map page_of x ∷ []
pages-pop xs ys o x is some = ap pages_of (is ∙ ap (λ (p : Option (Option OwnedPage)). ys ++ option_to_list p) some) ∙ map-append (option_map page_of) ys (x ∷ [])

last_others : (pages : Pages) (x : Option Page) (q : ℕ) → q ≢ length pages → at pages q ≡ at (pages ++ x ∷ []) q
last_others [] x zero other = absurd (other refl)
last_others [] x (suc q) other = refl
last_others (y ∷ pages) x zero other = refl
last_others (y ∷ pages) x (suc q) other = last_others pages x q (λ e. other (ap suc e))

last_gone : (pages : Pages) → at pages (length pages) ≡ None
last_gone [] = refl
last_gone (y ∷ pages) = last_gone pages

pub last-stood : (pages : Pages) (x : Option Page) → page_at (pages ++ x ∷ []) (length pages) ≡ x
last-stood [] x = refl
last-stood (y ∷ pages) x = last-stood pages x

pub last-goes : (pages : Pages) (x : Option Page) → Changes (pages ++ x ∷ []) pages (length pages) None
last-goes pages x = record { changed = last_gone pages; others = last_others pages x }

-- ---- the counters change, or how many groups there may be

pub agree-counted : (h : Parts) (d : Counts) (held : HeldOf) (groups room : ℕ) → IsCounted d h.pages.pages → ListsHeld h.pages.pages held.lists → length held.lists.groups ≡ length d.tree → groups ≡ length d.tree → held.numbers ≡ h.held.numbers
    → PartsAgree h → PartsAgree (record h { counters = d; held = held; pages = record (h.pages) { groups = groups; room = room } })
agree-counted h d held groups room counted lists sized many numbers is =
    record {
      kept = record { frames = is.kept.frames; blocks = is.kept.blocks; counted = counted };
      few = is.few;
      held = lists;
      moving = is.moving;
      moving_room = is.moving_room;
      held_groups = sized;
      page_groups = many;
      page_frames = is.page_frames;
      held_numbers = numbers ∙ is.held_numbers;
      numbers = is.numbers;
      homes = is.homes;
      spares = is.spares;
      most_spares = is.most_spares;
      tickets = is.tickets;
    }

-- ---- whether a page of the list passes another test too

pub any-listed : (test more : Page → Bool) (xs : List ℕ) (pages : Pages) → AreListed test xs pages → ((p : ℕ) → 1 ≤ times xs p → there_and more (page_at pages p) ≡ false) → any_there (λ page. test page && more page) pages ≡ false
any-listed test more xs pages listed none = any_there-none (λ page. test page && more page) pages (count_there-none (λ page. test page && more page) pages fails)
  where
    both : (slot : Option Page) → (one_if (there_and test slot) ≡ 1 → there_and more slot ≡ false) → there_and (λ page. test page && more page) slot ≡ false
    both None h = refl
    both (Some page) h = by_test (test page) h
      where
        by_test : (b : Bool) → (one_if b ≡ 1 → more page ≡ false) → (b && more page) ≡ false
        by_test true h = h refl
        by_test false h = refl

    fails : (p : ℕ) → there_and (λ page. test page && more page) (at pages p) ≡ false
    fails p = both (at pages p) (λ one. none p (let k = listed.once p in omega (arith, k, one)))

pub listed-any : (test more : Page → Bool) (xs : List ℕ) (pages : Pages) (p : ℕ) → AreListed test xs pages → 1 ≤ times xs p → there_and more (page_at pages p) ≡ true → any_there (λ page. test page && more page) pages ≡ true
listed-any test more xs pages p listed some passes =
    any-some (λ page. test page && more page) pages p (both (page_at pages p) (let k = listed.once p in omega (arith, k, some)) passes)
  where
    both : (slot : Option Page) → 1 ≤ one_if (there_and test slot) → there_and more slot ≡ true → there_and (λ page. test page && more page) slot ≡ true
    both None one passes = passes
    both (Some page) one passes = by_test (test page) one
      where
        by_test : (b : Bool) → 1 ≤ one_if b → (b && more page) ≡ true
        by_test true e = passes
        by_test false e = absurd (omega (arith, e))
