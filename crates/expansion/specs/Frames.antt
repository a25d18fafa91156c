-- The head of a `repeat`, and its rounds.
use Rattle.std.specs.Prelude.{ℕ, ◌+◌, ◌-◌, ◌^◌, Bool, false, List, [], ◌∷◌, length, map, codes, decimal, drop, min, nat_lt, slice_get, slice_range, Option, Some, None, unwrap_or, Result, Ok, Err, if◌then◌else◌}
use Rattle.scenario_words.specs.declared.fault.Cause.TheVariants as cause
use Rattle.scenario_words.specs.declared.fault.Fault.{Fault}
use Rattle.scenario_words.specs.Amounts.{number_within}
use Rattle.scenario_words.specs.Faults.{◌>>=◌}
use Rattle.scenario_words.specs.Words.{FilledWord, word_fault, is_word, word_at, ends_at, is_at}
use Rattle.scenario_lines.specs.Scene.{SceneNow, checked_name, with_value, condition_form}
use Rattle.expansion.specs.declared.frames.Block.{Block}
use Rattle.expansion.specs.declared.frames.Block.TheVariants as block

-- what the head of a `repeat` says: how many rounds there are; the name that the round has; a word a round; the place of `until`
pub record HeadNow : Type 0 where
  pub rounds : ℕ
  pub name : Option (List ℕ)
  pub values : List (List ℕ)
  pub until : Option ℕ

-- a block at work: what it does; the places of its first line, of the next one, and of the one after its last; its round, from 1, and how many there are; the name of the round, and a word a round;
-- how many values were there before it; whether a line that could be refused is right above; the place of `until`; the words of its head
pub record FrameNow : Type 0 where
  pub block : Block
  pub begin : ℕ
  pub at : ℕ
  pub end : ℕ
  pub round : ℕ
  pub rounds : ℕ
  pub name : Option (List ℕ)
  pub values : List (List ℕ)
  pub scope : ℕ
  pub above : Bool
  pub until : Option ℕ
  pub words : List FilledWord

-- ---- the head

-- `until` at this place, or the end of the line
abbrev pub until_at : List FilledWord → ℕ → Result (Option ℕ) Fault
until_at ws place =
    if is_at ws place (codes "until") then Ok (Some place)
    else (do
      _ ← ends_at ws place
      Ok None)

-- the place of the first `until` among words, the first of which has this place
abbrev pub until_among : List FilledWord → ℕ → Option ℕ
until_among [] place = None
until_among (w ∷ ws) place = if is_word w (codes "until") then Some place else until_among ws (place + 1)

-- the same, from this place on
abbrev pub first_until : List FilledWord → ℕ → Option ℕ
first_until ws place = until_among (drop place ws) place

-- the words from one place to before another, with their quotes
abbrev pub sources : List FilledWord → ℕ → ℕ → List (List ℕ)
sources ws first after = map (λ w. w.source) (slice_range ws first after)

-- a number has 32 bits
abbrev pub head_of_values : List ℕ → Option ℕ → List (List ℕ) → HeadNow
head_of_values name until values = record { rounds = min (length values) (2 ^ 32 - 1); name = Some name; values = values; until = until }

-- `repeat NAME in WORD ..`
abbrev pub head_of_words : List FilledWord → Result HeadNow Fault
head_of_words ws = do
  w ← word_at ws 1
  name ← checked_name w
  _ ← word_at ws 3
  Ok (head_of_values name (first_until ws 4) (sources ws 3 (unwrap_or (first_until ws 4) (length ws))))

abbrev pub head_named : List FilledWord → ℕ → Result HeadNow Fault
head_named ws rounds = do
  w ← word_at ws 3
  name ← checked_name w
  until ← until_at ws 4
  Ok (record { rounds = rounds; name = Some name; values = []; until = until })

abbrev pub head_unnamed : List FilledWord → ℕ → Result HeadNow Fault
head_unnamed ws rounds = do
  until ← until_at ws 2
  Ok (record { rounds = rounds; name = None; values = []; until = until })

-- `repeat N as NAME`, or `repeat N`
abbrev pub head_of_number : List FilledWord → Result HeadNow Fault
head_of_number ws = do
  w ← word_at ws 1
  rounds ← number_within 0 1000000 w
  if is_at ws 2 (codes "as") then head_named ws rounds else head_unnamed ws rounds

-- the head that the words of a `repeat` are
abbrev pub head_of : List FilledWord → Result HeadNow Fault
head_of ws = do
  _ ← word_at ws 1
  if is_at ws 2 (codes "in") then head_of_words ws else head_of_number ws

-- an `until` is allowed, and a condition follows it
abbrev pub until_form : List FilledWord → Bool → Option ℕ → Result (Unit {0}) Fault
until_form ws no_until None = Ok tt
until_form ws no_until (Some place) =
    if no_until then (do
      w ← word_at ws place
      Err (word_fault w cause.Until))
    else condition_form ws (place + 1) false

-- the head of a `repeat`, where `until` may be a fault
abbrev pub repeat_head : List FilledWord → Bool → Result HeadNow Fault
repeat_head ws no_until = do
  head ← head_of ws
  _ ← until_form ws no_until head.until
  Ok head

-- ---- blocks

-- a block that is worked once
abbrev pub once : Block → ℕ → ℕ → ℕ → FrameNow
once b begin end scope = record {
  block = b;
  begin = begin;
  at = begin;
  end = end;
  round = 1;
  rounds = 1;
  name = None;
  values = [];
  scope = scope;
  above = false;
  until = None;
  words = [];
}

-- the block of a `repeat`, before its first round
abbrev pub unbegun : HeadNow → List FilledWord → ℕ → ℕ → ℕ → FrameNow
unbegun head ws begin end scope = record {
  block = block.Repeat;
  begin = begin;
  at = end;
  end = end;
  round = 0;
  rounds = head.rounds;
  name = head.name;
  values = head.values;
  scope = scope;
  above = false;
  until = head.until;
  words = ws;
}

abbrev pub repeated : SceneNow → List FilledWord → ℕ → ℕ → Bool → Result FrameNow Fault
repeated s ws begin end no_until = do
  head ← repeat_head ws no_until
  Ok (unbegun head ws begin end (length s.values))

-- ---- rounds

-- the word of a round, from 1: its number, where it has none of its own
abbrev pub round_word : List (List ℕ) → ℕ → List ℕ
round_word values round = unwrap_or (slice_get values (round - 1)) (decimal round)

-- `round` is the number, and the name, if there is one, is the round's word
abbrev pub named_round : Option (List ℕ) → List (List ℕ) → ℕ → SceneNow → SceneNow
named_round None values round s = with_value s (codes "round") (decimal round)
named_round (Some name) values round s = with_value (with_value s (codes "round") (decimal round)) name (round_word values round)

abbrev pub more_rounds : FrameNow → Bool
more_rounds f = nat_lt f.round f.rounds

-- the next round is at its first line
abbrev pub in_next_round : FrameNow → FrameNow
in_next_round f = record f { round = f.round + 1; at = f.begin; above = false }
