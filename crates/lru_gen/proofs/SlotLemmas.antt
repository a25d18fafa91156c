-- Where the generations stand among the lists.
use Rattle.std.proofs.Common.{◌≡◌, ◌≢◌, ℕ, ◌+◌, ◌-◌, ◌*◌, ◌/◌, ◌%◌, ◌<◌, ◌≤◌, arith, refl, sym, inl, inr}
use Rattle.std.proofs.lemmas.Bool.{cases_lt, cases_order}
use Rattle.machine.specs.declared.record.Kind.{Kind}
use Rattle.machine.specs.declared.record.Kind.TheVariants.{Anon, File}
use Rattle.machine.specs.Generations.{of_kind}
use Rattle.lru_gen.specs.Lists.{slot}

kind_small : (k : Kind) → of_kind k 0 4 ≤ 4
kind_small Anon = omega arith
kind_small File = omega arith

-- a slot is among the lists of its group
pub slot_within : (g n seq : ℕ) (k : Kind) → g < n → slot g k seq < n * 8
slot_within g n seq k within = let small = kind_small k in omega arith

pub slot_in_lists : (g lists l : ℕ) (k : Kind) (seq : ℕ) → g * 8 + 8 ≤ lists → l ≡ slot g k seq → l < lists
slot_in_lists g lists l k seq room is = let small = kind_small k in omega arith

-- numbers of one type that differ by less than four have slots of their own
pub slots_apart : (g : ℕ) (k : Kind) (a b : ℕ) → a < b → b < a + 4 → slot g k a ≢ slot g k b
slots_apart g k a b less near same = omega arith

-- so have any two of four numbers in turn
pub slots_near : (g : ℕ) (k : Kind) (q s t : ℕ) → q ≤ s → s < q + 4 → q ≤ t → t < q + 4 → s ≢ t → slot g k s ≢ slot g k t
slots_near g k q s t low high low_too high_too differs same =
    elim (cases_order s t) [
      | inl e ↦ differs e
      | inr rest ↦
          elim rest [
            | inl less ↦ slots_apart g k s t less (omega arith) same
            | inr more ↦ slots_apart g k t s more (omega arith) (sym same)
          ]
    ]

-- each fourth number has the same slot
pub slot_again : (g : ℕ) (k : Kind) (a b : ℕ) → b ≡ a + 4 → slot g k b ≡ slot g k a
slot_again g k a b four = omega arith

pub same_slot : (g : ℕ) (k : Kind) (a b : ℕ) → a % 4 ≡ b % 4 → slot g k a ≡ slot g k b
same_slot g k a b same = omega arith

-- no list is that of two groups, or of two types
pub one_slot : (g h : ℕ) (k j : Kind) (s t : ℕ) → slot h k s ≡ slot g j t → (h ≡ g) × (k ≡ j)
one_slot g h Anon Anon s t same = (omega arith, refl)
one_slot g h Anon File s t same = absurd (omega arith)
one_slot g h File Anon s t same = absurd (omega arith)
one_slot g h File File s t same = (omega arith, refl)

pub groups_apart : (g h : ℕ) (k j : Kind) (s t : ℕ) → h ≢ g → slot h k s ≢ slot g j t
groups_apart g h k j s t apart same = apart (one_slot g h k j s t same).0

pub kinds_apart : (g h : ℕ) (k j : Kind) (s t : ℕ) → k ≢ j → slot g k s ≢ slot h j t
kinds_apart g h k j s t apart same = apart (one_slot h g k j s t same).1

-- where a list stands: of which group, type and turn
pub record HasSlot (l : ℕ) : Type 0 where
  pub group : ℕ
  pub kind : Kind
  pub turn : ℕ
  pub first : group * 8 ≤ l
  pub is : l ≡ slot group kind turn

pub slot_of : (l : ℕ) → HasSlot l
slot_of l =
    elim (cases_lt (l % 8) 4) [
      | inl anon ↦ record { group = l / 8; kind = Anon; turn = l % 8; first = omega arith; is = omega arith }
      | inr file ↦ record { group = l / 8; kind = File; turn = l % 8; first = omega arith; is = omega arith }
    ]

-- among any four numbers in turn one has this slot
pub record InTurn (q turn : ℕ) : Type 0 where
  pub seq : ℕ
  pub low : q ≤ seq
  pub high : seq < q + 4
  pub same : turn % 4 ≡ seq % 4

pub in_turn : (q turn : ℕ) → InTurn q turn
in_turn q turn = record { seq = q + (turn % 4 + 4 - q % 4) % 4; low = omega arith; high = omega arith; same = omega arith }
