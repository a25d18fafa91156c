-- What the words and all logs keep to at every moment, and what each step tells. No public clause cites this.
use Rattle.std.specs.Prelude.{◌≡◌, ℕ, ◌+◌, ◌*◌, ◌/◌, ◌%◌, ◌^◌, ◌<◌, ◌≤◌, List, ◌++◌, length}
use Rattle.std.specs.List.{sum_by}
use Rattle.std.specs.Int.{bit_at}
use mathlib.Core.Option.{some}
use lib.ListN.{get_elem?}
use Rattle.atomic_table.specs.Table.{State, Me, Step}
use Rattle.marks.specs.declared.log.Log.{Log}
use Rattle.marks.specs.Logs.{AreBalanced, found_of, pending, fresh, after_set, after_harvest}

-- the words, and the log of each seat that there ever was, those that were let go too
abbrev pub Marking : Type 0
Marking = State (Unit {0}) Log

-- a seat's log; it holds no slot
abbrev pub Seated : Type 0
Seated = Me (Unit {0}) Log

-- how many parts a log's seat has
abbrev pub parts_of : Log → ℕ
parts_of log = log.parts

-- a seat without a part has done nothing: it has handed its log to another seat
abbrev pub AreIdleEmpty : List Log → Type 0
AreIdleEmpty logs = (id : ℕ) (log : Log) → get_elem? logs id ≡ some log → log.parts ≡ 0 → log ≡ fresh 0

-- what holds between any two steps. The parts of all seats are 2^32, so a seat that has all of them is the only one that did anything
pub record IsKept (count : ℕ) (s : Marking) : Type 0 where
  pub words : length s.words ≡ count
  pub parts : sum_by parts_of s.views ≡ 2 ^ 32
  pub law : AreBalanced s.words s.views
  pub idle : AreIdleEmpty s.views

-- where the log has all parts, it tells each bit of this word
abbrev pub TellsBits : ℕ → Log → ℕ → Type 0
TellsBits word log bits = log.parts ≡ 2 ^ 32 → (frame : ℕ) → frame / 64 ≡ word → bit_at bits (frame % 64) ≡ pending frame log

-- the step was a set of this frame, and found what stood there
abbrev pub SetsFrame : Step (Unit {0}) → Seated → ℕ → Seated → Type 0
SetsFrame st old bits new = ((frame : ℕ) → frame / 64 ≡ st.word → st.first ≡ 2 ^ (frame % 64) → new ≡ (after_set frame (found_of (bit_at bits (frame % 64))) old.0, old.1))
    × TellsBits st.word old.0 bits

-- the step was a harvest of this word, and took what stood there
abbrev pub HarvestsWord : Step (Unit {0}) → Seated → ℕ → Seated → Type 0
HarvestsWord st old bits new = (new ≡ (after_harvest st.word bits old.0, old.1)) × TellsBits st.word old.0 bits

-- one log of what two seats did
abbrev pub joined : Log → Log → Log
joined a b = record { parts = a.parts + b.parts; sets = a.sets ++ b.sets; harvests = a.harvests ++ b.harvests }

-- what always holds of marks: each frame has its word, there is one word at least, there are no slots, and the rule knows how many words there are
pub record IsSized (frames words slots key : ℕ) : Type 0 where
  pub each : frames ≤ 64 * words
  pub not_empty : 0 < words
  pub no_slots : slots ≡ 0
  pub known : key ≡ words
