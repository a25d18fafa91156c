-- The places of the blocks of a device in memory.
use Rattle.std.proofs.Common.{◌≡◌, ◌≢◌, ℕ, ◌<◌, ◌≤◌, ◌==◌, cond, true, false, List, [], ◌∷◌, ◌++◌, length, map, set, replicate, get_or, length-append, inl, inr, refl, sym, ap, ◌∙◌, arith}
use Rattle.machine.specs.Access.{page_size}
use Rattle.std.proofs.lemmas.Bool.{cases_eq}
use Rattle.std.proofs.lemmas.List.{ext_get_or, length-set, length-map, length-replicate, get_or-map, get_or-set_same, get_or-set_other, get_or_push, get_or_past, get_or_append_left, get_or-replicate}
use Rattle.std.proofs.lemmas.List.Sums.{sum_by-set}
use Rattle.std.proofs.lemmas.List.Folds.{sum_by-replicate}
use Rattle.counts.specs.Numbers.{times}
use Rattle.counts.proofs.NumberLemmas.{number-at}
use Rattle.block_store.specs.Blocks.{ArePlaces, contents_of, held_at, nowhere}

-- blocks of which none was written
pub contents_of-new : (n : ℕ) → contents_of [] (replicate n nowhere) ≡ replicate n (replicate page_size 0)
contents_of-new n =
    ext_get_or [] _ _ (length-map (replicate n nowhere) (held_at []) ∙ length-replicate n nowhere ∙ sym (length-replicate n (replicate page_size 0)))
    (λ i lt. (
    let inside : i < n = rw (length-map (replicate n nowhere) (held_at []), length-replicate n nowhere) at lt in
    let at = get_or-map (held_at []) (replicate n nowhere) i 0 [] (rw (length-replicate n nowhere) inside) in
    let other = get_or-replicate n i (replicate page_size 0) [] inside in
    at ∙ sym other
    ))

pub ArePlaces-new : (n room : ℕ) → n ≤ room → n < 4294967296 → ArePlaces (replicate n nowhere) 0 room
ArePlaces-new n room fits countable =
    let long = length-replicate n nowhere in
    let all = sum_by-replicate (λ m. cond (m == nowhere) 1 0) n nowhere in
    let every : (i : ℕ) → i < length (replicate n nowhere) → get_or (replicate n nowhere) i 0 ≡ nowhere = λ i lt. get_or-replicate n i nowhere 0 (rw long at lt) in
    record {
      known = λ i lt some. absurd (some (every i lt));
      apart = λ i j lt _ some _. absurd (some (every i lt));
      counted = omega (arith, all, long);
      all_fit = omega (arith, long, fits);
      countable = omega (arith, long, countable);
    }

module _ (written : List (List ℕ)) (places : List ℕ) (room block : ℕ) (bytes : List ℕ) (are : ArePlaces places (length written) room) (inside : block < length places) where
  held_by : (i : ℕ) → i < length places → get_or (map (held_at written) places) i [] ≡ held_at written (get_or places i 0)
  held_by i lt = get_or-map (held_at written) places i 0 [] lt

  -- a block is written again
  pub contents_of-again : get_or places block 0 ≢ nowhere → contents_of (set written (get_or places block 0) bytes) places ≡ set (contents_of written places) block bytes
  contents_of-again some =
      let place = get_or places block 0 in
      let is_written = are.known block inside some in
      ext_get_or [] _ _ (length-map places (held_at (set written place bytes)) ∙ sym (length-set (contents_of written places) block bytes ∙ length-map places (held_at written)))
      (λ i lt. (
      let below : i < length places = rw (length-map places (held_at (set written place bytes))) at lt in
      let here = get_or-map (held_at (set written place bytes)) places i 0 [] below in
      elim (cases_eq i block) [
        | inl same ↦ (
            let new : get_or (set (contents_of written places) block bytes) i [] ≡ bytes = rw same (get_or-set_same (contents_of written places) block bytes [] (rw (length-map places (held_at written)) inside)) in
            let old : held_at (set written place bytes) (get_or places i 0) ≡ bytes = rw same (get_or-set_same written place bytes (replicate page_size 0) is_written) in
            here ∙ old ∙ sym new
            )
        | inr other ↦ (
            let new = get_or-set_other (contents_of written places) block i bytes [] other in
            let differs : get_or places i 0 ≢ place = λ e. other (sym (are.apart block i inside below some (sym e))) in
            let old = get_or-set_other written place (get_or places i 0) bytes (replicate page_size 0) differs in
            here ∙ old ∙ sym (new ∙ held_by i below)
            )
      ]
      ))

  -- while a block was never written, there is room for it
  pub room_for_first : get_or places block 0 ≡ nowhere → length written < length places
  room_for_first none =
      let some : 1 ≤ times places nowhere = rw none at (number-at places block 0 inside) in
      omega (arith, some, are.counted)

  -- a block is written for the first time
  pub contents_of-first : get_or places block 0 ≡ nowhere → contents_of (written ++ bytes ∷ []) (set places block (length written)) ≡ set (contents_of written places) block bytes
  contents_of-first none =
      let after = set places block (length written) in
      let more = written ++ bytes ∷ [] in
      let long : length after ≡ length places = length-set places block (length written) in
      let fits = room_for_first none in
      ext_get_or [] _ _ (length-map after (held_at more) ∙ long ∙ sym (length-set (contents_of written places) block bytes ∙ length-map places (held_at written)))
      (λ i lt. (
      let below : i < length after = rw (length-map after (held_at more)) at lt in
      let here = get_or-map (held_at more) after i 0 [] below in
      elim (cases_eq i block) [
        | inl same ↦ (
            let new : get_or (set (contents_of written places) block bytes) i [] ≡ bytes = rw same (get_or-set_same (contents_of written places) block bytes [] (rw (length-map places (held_at written)) inside)) in
            let place : get_or after i 0 ≡ length written = rw same (get_or-set_same places block (length written) 0 inside) in
            here ∙ ap (held_at more) place ∙ get_or_push written bytes (replicate page_size 0) (length written) refl ∙ sym new
            )
        | inr other ↦ (
            let inner : i < length places = rw long at below in
            let new = get_or-set_other (contents_of written places) block i bytes [] other in
            let place = get_or-set_other places block i (length written) 0 other in
            let kept : held_at more (get_or places i 0) ≡ held_at written (get_or places i 0) =
            elim (cases_eq (get_or places i 0) nowhere) [
              | inl unwritten ↦ (
                  let bound = are.countable in
                  let a = get_or_past more (get_or places i 0) (replicate page_size 0) (omega (arith, unwritten, fits, bound, length-append written (bytes ∷ []))) in
                  let b = get_or_past written (get_or places i 0) (replicate page_size 0) (omega (arith, unwritten, fits, bound)) in
                  a ∙ sym b
                  )
              | inr some ↦ get_or_append_left written (bytes ∷ []) (replicate page_size 0) (get_or places i 0) (are.known i inner some)
            ] in
            here ∙ ap (held_at more) place ∙ kept ∙ sym (new ∙ held_by i inner)
            )
      ]
      ))

  pub ArePlaces-first : get_or places block 0 ≡ nowhere → ArePlaces (set places block (length written)) (length (written ++ bytes ∷ [])) room
  ArePlaces-first none =
      let after = set places block (length written) in
      let long : length after ≡ length places = length-set places block (length written) in
      let more = length-append written (bytes ∷ []) in
      let fits = room_for_first none in
      let bound = are.countable in
      let here : get_or after block 0 ≡ length written = get_or-set_same places block (length written) 0 inside in
      let there : (i : ℕ) → i ≢ block → get_or after i 0 ≡ get_or places i 0 = λ i other. get_or-set_other places block i (length written) 0 other in
      -- no other block has the place of the new one
      let free : (i : ℕ) → i < length places → i ≢ block → get_or after i 0 ≢ nowhere → get_or after i 0 < length written = λ i lt other some. rw (there i other) (are.known i lt (rw (there i other) at some)) in
      let numbers = sum_by-set (λ m. cond (m == nowhere) 1 0) places block (length written) 0 inside in
      let gone : (length written == nowhere) ≡ false = grind (arith, fits, bound) in
      let was : (get_or places block 0 == nowhere) ≡ true = rw none refl in
      record {
        known = λ i lt some. (
            elim (cases_eq i block) [
              | inl same ↦ (let at : get_or after i 0 ≡ length written = rw same here in omega (arith, at, more))
              | inr other ↦ (let low = free i (rw long at lt) other some in omega (arith, low, more))
            ]
            );
        apart = λ i j lt_i lt_j some same. (
            elim (cases_eq i block) [
              | inl i_is ↦ elim (cases_eq j block) [
                | inl j_is ↦ i_is ∙ sym j_is
                | inr other ↦ (
                    let at : get_or after i 0 ≡ length written = rw i_is here in
                    let low = free j (rw long at lt_j) other (λ e. some (same ∙ e)) in
                    absurd (omega (arith, at, same, low))
                    )
              ]
              | inr other ↦ (
                  let low = free i (rw long at lt_i) other some in
                  elim (cases_eq j block) [
                    | inl j_is ↦ (let at : get_or after j 0 ≡ length written = rw j_is here in absurd (omega (arith, at, same, low)))
                    | inr another ↦ are.apart i j (rw long at lt_i) (rw long at lt_j) (rw (there i other) at some) (sym (there i other) ∙ same ∙ there j another)
                  ]
                  )
            ]
            );
        counted = (let counted = are.counted in grind (arith, numbers, gone, was, counted, long, more));
        all_fit = (let room = are.all_fit in omega (arith, long, room));
        countable = omega (arith, long, bound);
      }

  pub ArePlaces-again : (place : ℕ) → ArePlaces places (length (set written place bytes)) room
  ArePlaces-again place = rw (length-set written place bytes) are
