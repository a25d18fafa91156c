-- What the tables say of a group that a contract sees, and how a change of it is seen.
use Rattle.std.proofs.Common.{◌≡◌, ℕ, ◌+◌, ◌-◌, ◌*◌, ◌<◌, ◌≤◌, true, List, length, map, get_or, set, sym, ap, subst, ◌∙◌, arith}
use Rattle.std.proofs.lemmas.List.{get_or_read, set-get_or}
use Rattle.machine.specs.declared.record.Kind.{Kind}
use Rattle.machine.specs.Generations.{Row, Gens, gens_at, row_of, is_listed, is_listed_in, isolated}
use Rattle.machine.specs.Eviction.{old_of}
use Rattle.rings.specs.Rings.{RingsOf, list_at, without, AreApart}
use Rattle.rings.specs.Rings as of_rings
use Rattle.lru_gen.specs.declared.numbers.Numbers.{Numbers}
use Rattle.lru_gen.specs.declared.filled.Filled.{Filled}
use Rattle.lru_gen.specs.Gens.{GensOf, gens_of, sets}
use Rattle.lru_gen.specs.Lists.{slot, lists_of}
use Rattle.lru_gen.specs.Rows.{first_numbers, numbers_at, oldest, rows_from, row_in, gens_from, groups_from, room_of, IsWindow, IsTable}
use Rattle.lru_gen.specs.Filled.{filled_at, no_page, IsKept}
use Rattle.lru_gen.proofs.SlotLemmas.{slot_in_lists}
use Rattle.lru_gen.proofs.RowLemmas.{rows_old}
use Rattle.lru_gen.proofs.GroupLemmas.{Changes, length_groups, group_at, row_from, groups_after}
use Rattle.lru_gen.proofs.ChangeLemmas.{isolated_changes}
use Rattle.lru_gen.proofs.SoundLemmas.{listed_stands, same_listed}
use Rattle.lru_gen.proofs.LinkLemmas.{lists_told}

-- a group stands in the tables
pub record IsGroup (lists : List (List ℕ)) (numbers : List Numbers) (filled : List Filled) (seen : GensOf) (g : ℕ) : Type 0 where
  pub within : g < length numbers
  pub told : g < length filled
  pub few : g < 268435456
  pub lists_within : g * 8 + 8 ≤ length lists
  pub window : (k : Kind) → IsWindow lists g k (oldest k (numbers_at numbers g)) (numbers_at numbers g).max_seq
  pub gens : gens_from lists g (numbers_at numbers g) ≡ gens_of seen g

module _ {lists : List (List ℕ)} {numbers : List Numbers} {filled : List Filled} {seen : GensOf} {pages room : ℕ} (view : ◌≡◌ {A = GensOf} (record { groups = groups_from lists 0 numbers; pages = pages; room = room }) seen) (is : IsKept lists numbers filled) where
  pub group_seen : {g : ℕ} → g < length seen.groups → IsGroup lists numbers filled seen g
  group_seen {g} inside =
      let many = length_groups lists 0 numbers in
      let same = ap (λ (v : GensOf). length v.groups) view in
      let within : g < length numbers = omega arith in
      record {
        within = within;
        told = omega (arith, is.size);
        few = omega (arith, is.table.few);
        lists_within = omega (arith, is.table.count);
        window = is.table.windows g within;
        gens = sym (group_at lists numbers g within) ∙ ap (λ (v : GensOf). gens_of v g) view;
      }

  pub lists_seen : lists ≡ lists_of seen.groups
  lists_seen = lists_told lists numbers is.table ∙ ap (λ (v : GensOf). lists_of v.groups) view

  pub listed_seen : (p : ℕ) → of_rings.is_listed lists p ≡ is_listed_in seen.groups p
  listed_seen p = same_listed lists numbers is.table p ∙ ap (λ (v : GensOf). is_listed_in v.groups p) view

module _ {lists : List (List ℕ)} {numbers : List Numbers} {filled : List Filled} {seen : GensOf} {g : ℕ} (group : IsGroup lists numbers filled seen g) where
  pub row_seen : (k : Kind) → row_in lists g k (oldest k (numbers_at numbers g)) ≡ row_of k (gens_of seen g)
  row_seen k = sym (row_from k lists g (numbers_at numbers g)) ∙ ap (row_of k) group.gens

  pub least : (k : Kind) → oldest k (numbers_at numbers g) ≡ (row_of k (gens_of seen g)).min_seq
  least k = ap (λ (r : Row). r.min_seq) (row_seen k)

  pub most : (numbers_at numbers g).max_seq ≡ (gens_of seen g).max_seq
  most = ap (λ (v : Gens). v.max_seq) group.gens

  pub row_by_least : (k : Kind) {q : ℕ} → q ≡ (row_of k (gens_of seen g)).min_seq → row_in lists g k q ≡ row_of k (gens_of seen g)
  row_by_least k is = ap (row_in lists g k) (is ∙ sym (least k)) ∙ row_seen k

  -- the pages of so many generations as are old are the old pages of a type
  pub old_by_least : (k : Kind) {q : ℕ} (old : ℕ) → q ≡ (row_of k (gens_of seen g)).min_seq → (row_of k (gens_of seen g)).min_seq + old + 1 ≡ (gens_of seen g).max_seq → old ≤ 2 → rows_from lists g k q old ≡ old_of (gens_of seen g).max_seq (row_of k (gens_of seen g)).pages
  old_by_least k {q} old is two few =
      let four : old + (4 - old) ≡ 4 = omega arith in
      let top = (gens_of seen g).max_seq in
      sym (rows_old g k lists top q old (4 - old) (omega arith))
      ∙ ap (λ (n : ℕ). old_of top (rows_from lists g k q n)) four
      ∙ ap (λ (r : Row). old_of top r.pages) (row_by_least k is)

  -- what is read at the group's number is what stands there
  pub numbers_read : {found : Numbers} → found ≡ get_or numbers g found → found ≡ numbers_at numbers g
  numbers_read {found} read = get_or_read numbers g found group.within read first_numbers

  pub filled_read : {found : Filled} → found ≡ get_or filled g found → found ≡ filled_at filled g
  filled_read {found} read = get_or_read filled g found group.told read no_page

  pub list_among : (k : Kind) (seq : ℕ) {l : ℕ} → l ≡ slot g k seq → l < length lists
  list_among k seq {l} is = slot_in_lists g (length lists) l k seq group.lists_within is

same_seen : (a b : List Gens) (c d e f : ℕ) → a ≡ b → c ≡ d → e ≡ f → (let v : GensOf = record { groups = a; pages = c; room = e } in v) ≡ record { groups = b; pages = d; room = f }
same_seen a b c d e f groups pages room = cc

-- where no more than the lists of the rings changes, no more than the groups does
pub seen_by : (old new : RingsOf) (numbers after : List Numbers) (reserved many : ℕ) {seen : GensOf} (becomes : List Gens → List Gens) → groups_from new.lists 0 after ≡ becomes (groups_from old.lists 0 numbers) → ◌≡◌ {A = GensOf} (record { groups = groups_from old.lists 0 numbers; pages = old.numbers; room = room_of old.room reserved many }) seen → new ≡ record old { lists = new.lists } → ◌≡◌ {A = GensOf} (record { groups = groups_from new.lists 0 after; pages = new.numbers; room = room_of new.room reserved many }) (record seen { groups = becomes seen.groups })
seen_by old new numbers after reserved many becomes groups view others =
    subst (λ (v : GensOf). ◌≡◌ {A = GensOf} (record { groups = groups_from new.lists 0 after; pages = new.numbers; room = room_of new.room reserved many }) (record v { groups = becomes v.groups })) view
    (same_seen _ _ _ _ _ _ groups (ap (λ (r : RingsOf). r.numbers) others) (ap (λ (r : RingsOf). room_of r.room reserved many) others))

pub seen_changed : {old new : RingsOf} {numbers after : List Numbers} {g : ℕ} {n : Numbers} {to : Gens → Gens} {seen : GensOf} (reserved many : ℕ) → Changes old.lists new.lists numbers g n to → after ≡ set numbers g n → ◌≡◌ {A = GensOf} (record { groups = groups_from old.lists 0 numbers; pages = old.numbers; room = room_of old.room reserved many }) seen → new ≡ record old { lists = new.lists } → ◌≡◌ {A = GensOf} (record { groups = groups_from new.lists 0 after; pages = new.numbers; room = room_of new.room reserved many }) (sets seen g (to (gens_of seen g)))
seen_changed {old} {new} {numbers} {after} {g} {n} {to} reserved many change renumbered view others =
    seen_by old new numbers after reserved many (λ (gs : List Gens). set gs g (to (gens_at gs g))) (groups_after change renumbered) view others

pub seen_isolated : {old new : RingsOf} {numbers : List Numbers} {seen : GensOf} (reserved many p : ℕ) → IsTable old.lists numbers → AreApart old.lists → new.lists ≡ map (without p) old.lists → ◌≡◌ {A = GensOf} (record { groups = groups_from old.lists 0 numbers; pages = old.numbers; room = room_of old.room reserved many }) seen → new ≡ record old { lists = new.lists } → (g : ℕ) → is_listed (gens_of seen g) p ≡ true → ◌≡◌ {A = GensOf} (record { groups = groups_from new.lists 0 numbers; pages = new.numbers; room = room_of new.room reserved many }) (sets seen g (isolated p (gens_of seen g)))
seen_isolated {old} {new} {numbers} {seen} reserved many p is apart becomes view others g listed =
    let stands = listed_stands old.lists numbers g p (subst (λ (v : GensOf). is_listed (gens_of v g) p ≡ true) (sym view) listed) in
    let change = isolated_changes is stands.within p stands.kind stands.seq apart stands.there becomes in
    seen_changed reserved many change (sym (set-get_or numbers g first_numbers)) view others
