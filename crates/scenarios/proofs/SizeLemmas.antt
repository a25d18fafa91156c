-- Pages and the sizes that they have.
use Rattle.std.proofs.Common.{◌≡◌, ℕ, ◌+◌, ◌*◌, ◌/◌, ◌%◌, ◌^◌, ◌<◌, ◌≤◌, Bool, true, false, cond, eqb, min, add-one, add-zero, refl, sym, subst, arith, inl, inr, zero, suc}
use Rattle.std.specs.Int.{div_ceil}
use Rattle.std.proofs.lemmas.Bool.{cases_lt, eqb-true}
use Rattle.std.proofs.lemmas.Bool.Decides.{nat_tests}
use Rattle.std.proofs.lemmas.Nat.{div-add-mod', mul-le, mod_below}
use Rattle.std.proofs.Math.Nat.{suc-mul, min-eq_left}
use Rattle.scenarios.specs.declared.sizes.Size.{Size}
use Rattle.scenarios.specs.declared.sizes.Size.TheVariants as size
use Rattle.scenarios.specs.Sizes.{pages_down, pages_up, IsProper, IsFloor, IsCeiling}

-- of two products the smaller has the smaller factor
smaller : (a b page : ℕ) → a * page < b * page → a < b
smaller a b page lt =
    elim (cases_lt a b) [ inl below ↦ below | inr not_below ↦ absurd (omega (arith, mul-le b page a page not_below (omega arith), lt)) ]

one_more : (n page : ℕ) → (n + 1) * page ≡ n * page + page
one_more n page = rw add-one (suc-mul n page)

not_larger : (a b page : ℕ) → 0 < page → a * page ≤ b * page → a ≤ b
not_larger a b page some le = (let below : a < b + 1 = smaller a (b + 1) page (omega (arith, one_more b page)) in omega arith)

-- so many whole pages and a rest
floor_bytes : (whole millionths page : ℕ) → 0 < page → millionths < 10 ^ 6 → IsFloor (size.Bytes whole millionths) page (whole / page)
floor_bytes whole millionths page some proper =
    let q = whole / page in
    let parts : q * page + whole % page ≡ whole = div-add-mod' whole page in
    let rest : whole % page < page = mod_below whole page some in
    record {
      within = omega arith;
      most = λ more h. (
          let le : more * page ≤ whole = omega arith in
          let below : more < q + 1 = smaller more (q + 1) page (omega (arith, one_more q page)) in
          omega arith
          );
    }

pub floor : (s : Size) (page : ℕ) → 0 < page → IsProper s → IsFloor s page (pages_down s page)
floor (size.Pages pages) page some proper = record { within = omega arith; most = λ more h. not_larger more pages page some (omega (arith, h)) }
floor (size.Bytes whole millionths) page some proper = floor_bytes whole millionths page some proper

-- a part of a page more than so many, or some millionths
next_page : (whole millionths page : ℕ) → 0 < page → millionths < 10 ^ 6 → (whole / page) * page * 10 ^ 6 < whole * 10 ^ 6 + millionths → IsCeiling (size.Bytes whole millionths) page (whole / page + 1)
next_page whole millionths page some proper above =
    let q = whole / page in
    let parts : q * page + whole % page ≡ whole = div-add-mod' whole page in
    let rest : whole % page < page = mod_below whole page some in
    let next = one_more q page in
    record {
      enough = omega arith;
      least = λ fewer h. (
          let lt : q * page < fewer * page = omega arith in
          let below : q < fewer = smaller q fewer page lt in
          omega arith
          );
    }

-- no more than so many pages
same_page : (whole page pages : ℕ) → 0 < page → whole ≡ pages * page → IsCeiling (size.Bytes whole 0) page pages
same_page whole page pages some e = record { enough = omega arith; least = λ fewer h. not_larger pages fewer page some (omega (arith, h)) }

whole_bytes : (whole page rest : ℕ) → 0 < page → rest ≡ whole % page → IsCeiling (size.Bytes whole 0) page (whole / page + min 1 rest)
whole_bytes whole page zero some e =
    let parts : (whole / page) * page + whole % page ≡ whole = div-add-mod' whole page in
    let all : whole ≡ (whole / page + 0) * page = rw add-zero (omega arith) in
    same_page whole page (whole / page + 0) some all
whole_bytes whole page (suc k) some e =
    let parts : (whole / page) * page + whole % page ≡ whole = div-add-mod' whole page in
    let one : min 1 (suc k) ≡ 1 = min-eq_left (omega arith) in
    subst (λ (n : ℕ). IsCeiling (size.Bytes whole 0) page (whole / page + n)) (sym one) (next_page whole 0 page some (omega arith) (omega arith))

by_test : (whole millionths page : ℕ) (none : Bool) → eqb millionths 0 ≡ none → 0 < page → millionths < 10 ^ 6 → IsCeiling (size.Bytes whole millionths) page (cond none (div_ceil whole page) (whole / page + 1))
by_test whole millionths page true e some proper =
    subst (λ (m : ℕ). IsCeiling (size.Bytes whole m) page (div_ceil whole page)) (sym (eqb-true millionths 0 e)) (whole_bytes whole page (whole % page) some refl)
by_test whole millionths page false e some proper =
    let parts : (whole / page) * page + whole % page ≡ whole = div-add-mod' whole page in
    let more : 0 < millionths = grind (arith, nat_tests) in
    next_page whole millionths page some proper (omega arith)

pub ceiling : (s : Size) (page : ℕ) → 0 < page → IsProper s → IsCeiling s page (pages_up s page)
ceiling (size.Pages pages) page some proper = record { enough = omega arith; least = λ fewer h. not_larger pages fewer page some (omega (arith, h)) }
ceiling (size.Bytes whole millionths) page some proper = by_test whole millionths page (eqb millionths 0) refl some proper
