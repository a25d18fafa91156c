-- A set and a harvest keep the rule, whatever the words and the logs are at the step.
use Rattle.std.proofs.Common.{◌≡◌, ◌≢◌, ℕ, ◌+◌, ◌/◌, ◌%◌, ◌^◌, ◌<◌, Bool, cond, List, get_or, set, length, sym, refl, ap, ◌∙◌, subst, arith, length-set, eq-eqb, ne_eqb, bit_or}
use Rattle.std.specs.List.{sum_by}
use Rattle.std.specs.Int.{bit_at}
use Rattle.std.proofs.lemmas.List.Sums.{sum_by_push}
use Rattle.std.proofs.lemmas.Nat.Bits.{bit_at-lt, bit_at-zero}
use mathlib.Core.Option.{none, some}
use native.Mathlib.Decide.{ℕ_discrete}
use lib.ListN.{get_elem?}
use Rattle.atomic_table.specs.Table.{step, keeps, Allows}
use Rattle.marks.specs.declared.log.Found.{Found}
use Rattle.marks.specs.declared.log.Log.{Log}
use Rattle.marks.specs.Logs.{as_clear, as_marked, found_of, clear_found, mark_found, mark_taken, cleared, found, taken, pending, mark, IsBalanced, AreBalanced, setting, after_set, harvest_of, after_harvest}
use Rattle.marks.specs.Rules.{IsKept, Marking, Seated, parts_of, TellsBits, SetsFrame, HarvestsWord}
use Rattle.marks.proofs.LogLemmas.{sum_by-set, idle-set}
use Rattle.marks.proofs.WordLemmas.{words_after_set, mark_here, mark_else, clear_and_mark, pow_same, mark_of_other, mark_of_set}
use Rattle.marks.proofs.SeatLemmas.{alone}

-- ---- what one entry adds to the counts of a frame

clear_found_here : (frame : ℕ) (b : Found) → clear_found frame (setting frame b) ≡ as_clear b
clear_found_here frame b = ap (λ (t : Bool). cond t (as_clear b) 0) (eq-eqb frame frame refl)

clear_found_else : (frame f : ℕ) (b : Found) → frame ≢ f → clear_found f (setting frame b) ≡ 0
clear_found_else frame f b ne = ap (λ (t : Bool). cond t (as_clear b) 0) (ne_eqb frame f ne)

mark_found_else : (frame f : ℕ) (b : Found) → frame ≢ f → mark_found f (setting frame b) ≡ 0
mark_found_else frame f b ne = ap (λ (t : Bool). cond t (as_marked b) 0) (ne_eqb frame f ne)

-- ---- the balance goes on

module _ (words : List ℕ) (logs : List Log) (id : ℕ) (log : Log) (at : get_elem? logs id ≡ some log) (law : AreBalanced words logs) where
  set_balance : (frame mask f : ℕ) → frame / 64 < length words → mask ≡ 2 ^ (frame % 64) → (b : Found) → b ≡ found_of (mark words frame) → Dec (frame ≡ f)
      → IsBalanced (words_after_set words frame mask) (set logs id (after_set frame b log)) f
  set_balance frame mask f lt is b b_is (yes e) =
      let new : Log = after_set frame b log in
      let words' : List ℕ = words_after_set words frame mask in
      let c = sum_by-set (cleared frame) logs id log new at in
      let t = sum_by-set (taken frame) logs id log new at in
      let push = sum_by_push (clear_found frame) log.sets (setting frame b) in
      let one = clear_found_here frame b in
      let told = clear_and_mark (mark words frame) (bit_at-lt (get_or words (frame / 64) 0) (frame % 64)) in
      let told' : as_clear b + mark words frame ≡ 1 = ap (λ (x : Found). as_clear x + mark words frame) b_is ∙ told in
      let now = mark_of_set words frame mask lt is in
      let old = (law frame).balance in
      let is_now : sum_by (cleared frame) (set logs id new) ≡ sum_by (taken frame) (set logs id new) + mark words' frame = omega arith in
      subst (IsBalanced words' (set logs id new)) e (record { balance = is_now; set_before = λ _. omega arith })
  set_balance frame mask f lt is b b_is (no ne) =
      let new : Log = after_set frame b log in
      let words' : List ℕ = words_after_set words frame mask in
      let c = sum_by-set (cleared f) logs id log new at in
      let t = sum_by-set (taken f) logs id log new at in
      let g = sum_by-set (found f) logs id log new at in
      let push = sum_by_push (clear_found f) log.sets (setting frame b) in
      let push' = sum_by_push (mark_found f) log.sets (setting frame b) in
      let z = clear_found_else frame f b ne in
      let z' = mark_found_else frame f b ne in
      let same = mark_of_other words frame mask f lt is ne in
      let old = (law f).balance in
      let before = (law f).set_before in
      let is_now : sum_by (cleared f) (set logs id new) ≡ sum_by (taken f) (set logs id new) + mark words' f = omega arith in
      record { balance = is_now; set_before = λ h. let some_before = before (omega arith) in omega arith }

  harvest_balance : (i f : ℕ) → i < length words → Dec (i ≡ f / 64) → IsBalanced (set words i 0) (set logs id (after_harvest i (get_or words i 0) log)) f
  harvest_balance i f lt here =
      let n = get_or words i 0 in
      let new : Log = after_harvest i n log in
      let c = sum_by-set (cleared f) logs id log new at in
      let t = sum_by-set (taken f) logs id log new at in
      let g = sum_by-set (found f) logs id log new at in
      let push = sum_by_push (mark_taken f) log.harvests (harvest_of i n) in
      let goes = harvest_goes i f lt here in
      let old = (law f).balance in
      let before = (law f).set_before in
      let is_now : sum_by (cleared f) (set logs id new) ≡ sum_by (taken f) (set logs id new) + mark (set words i 0) f = omega arith in
      record { balance = is_now; set_before = λ h. let some_before = before (omega arith) in omega arith }
    where
      -- what the harvest takes is what the word had
      harvest_goes : (i f : ℕ) → i < length words → Dec (i ≡ f / 64) → mark_taken f (harvest_of i (get_or words i 0)) + mark (set words i 0) f ≡ mark words f
      harvest_goes i f lt (yes e) =
          let n = get_or words i 0 in
          let one : mark_taken f (harvest_of i n) ≡ bit_at n (f % 64) = ap (λ (b : Bool). cond b (bit_at n (f % 64)) 0) (eq-eqb i (f / 64) e) in
          let was : bit_at n (f % 64) ≡ mark words f = ap (λ k. bit_at (get_or words k 0) (f % 64)) e in
          let now : mark (set words i 0) f ≡ 0 = mark_here words i 0 f lt e ∙ bit_at-zero (f % 64) in
          omega arith
      harvest_goes i f lt (no ne) =
          let n = get_or words i 0 in
          let none_taken : mark_taken f (harvest_of i n) ≡ 0 = ap (λ (b : Bool). cond b (bit_at n (f % 64)) 0) (ne_eqb i (f / 64) ne) in
          let same = mark_else words i 0 f ne in
          omega arith

-- ---- the steps are allowed

tells_bits : (count id i : ℕ) (log : Log) (s : Marking) → IsKept count s → get_elem? s.views id ≡ some log → TellsBits i log (get_or s.words i 0)
tells_bits count id i log s kept at whole f e =
    let P : ℕ → Type 0 = λ k. bit_at (get_or s.words k 0) (f % 64) ≡ pending f log in
    subst P e (alone count id log s kept at whole f)

pub set_allowed : (count slots id : ℕ) (me : Seated) (frame mask : ℕ) → frame / 64 < count → mask ≡ 2 ^ (frame % 64) → 0 < me.0.parts
    → Allows (IsKept count) slots id me (frame / 64) (λ n. bit_or n mask) (SetsFrame (step slots (frame / 64) mask 0 none) me)
set_allowed count slots id me frame mask lt is part s kept _ at small =
    let i : ℕ = frame / 64 in
    let n : ℕ = get_or s.words i 0 in
    let b : Found = found_of (mark s.words frame) in
    let new : Log = after_set frame b me.0 in
    let wide = kept.words in
    let inside : i < length s.words = omega arith in
    let p = sum_by-set parts_of s.views id me.0 new at in
    let all = kept.parts in (
      new,
      keeps,
      tt,
      record {
        words = length-set s.words i (bit_or n mask) ∙ wide;
        parts = omega arith;
        law = λ f. set_balance s.words s.views id me.0 at kept.law frame mask f inside is b refl (ℕ_discrete frame f);
        idle = idle-set s.views id new part kept.idle;
      },
      (
        λ f same_word same_mask.
            let same_bit = pow_same (frame % 64) (f % 64) (sym is ∙ same_mask) in
            let same : frame ≡ f = omega arith in
            let P : ℕ → Type 0 = λ g. ◌≡◌ {A = Seated} (new, me.1) (after_set g (found_of (bit_at n (g % 64))) me.0, me.1) in
            subst P same refl,
        tells_bits count id i me.0 s kept at,
      ),
    )

pub harvest_allowed : (count slots id : ℕ) (me : Seated) (i : ℕ) → i < count → 0 < me.0.parts → Allows (IsKept count) slots id me i (λ _. 0) (HarvestsWord (step slots i 0 0 none) me)
harvest_allowed count slots id me i lt part s kept _ at small =
    let n : ℕ = get_or s.words i 0 in
    let new : Log = after_harvest i n me.0 in
    let wide = kept.words in
    let inside : i < length s.words = omega arith in
    let p = sum_by-set parts_of s.views id me.0 new at in
    let all = kept.parts in (
      new,
      keeps,
      tt,
      record {
        words = length-set s.words i 0 ∙ wide;
        parts = omega arith;
        law = λ f. harvest_balance s.words s.views id me.0 at kept.law i f inside (ℕ_discrete i (f / 64));
        idle = idle-set s.views id new part kept.idle;
      },
      (refl, tells_bits count id i me.0 s kept at),
    )
