-- Extents of files, one behind the other.
use Rattle.std.proofs.Common.{◌≡◌, ℕ, ◌+◌, ◌<◌, ◌≤◌, List, [], ◌∷◌, ◌++◌, length, take, get_or, true, inl, inr, refl, sym, ap, ◌∙◌, arith, length-append}
use Rattle.std.specs.Prelude.{slice_index, sum, nat_lt, Some}
use Rattle.std.proofs.lemmas.Bool.{cases_lt}
use Rattle.std.proofs.lemmas.Bool.Decides.{nat_tests}
use Rattle.std.proofs.lemmas.Grind.{common_steps}
use Rattle.std.proofs.lemmas.List.{map-append, length-map, map_more, take-map, take-append-le}
use Rattle.std.proofs.lemmas.List.Sums.{sum_by_more, sum_by_more_le, sum_by_push}
use Rattle.std.proofs.Math.Seq.{get_or-append_seam, take-append_seam}
use Rattle.machine.specs.declared.config.File.{File}
use Rattle.machine.specs.State.{sizes_of}
use Rattle.machine.specs.Pages.{home_block}
use Rattle.machine.proofs.FileLemmas.{home_above, home_below, homes_differ}
use Rattle.files.specs.declared.Extent.{Extent}
use Rattle.files.specs.Files.{FilesOf, AreExtents, lengths, home_in}

-- ---- sums of the files' pages

size_at : (files : List File) (i : ℕ) (d : File) → i < length files → get_or (sizes_of files) i 0 ≡ (get_or files i d).pages
size_at files i d lt = grind (arith, common_steps)

length-sizes_of : (files : List File) → length (sizes_of files) ≡ length files
length-sizes_of files = simp length-map

-- one file more
pub sum_more : (files : List File) (i : ℕ) (d : File) → i < length files → sum (take (i + 1) (sizes_of files)) ≡ sum (take i (sizes_of files)) + (get_or files i d).pages
sum_more files i d lt =
    let within : i < length (sizes_of files) = omega (arith, length-sizes_of files, lt) in
    rw (← size_at files i d lt) (sum_by_more (λ n. n) (sizes_of files) i 0 within)

pub sum_more_le : (files : List File) (i : ℕ) (d : File) → i < length files → sum (take i (sizes_of files)) + (get_or files i d).pages ≤ sum (sizes_of files)
sum_more_le files i d lt =
    let within : i < length (sizes_of files) = omega (arith, length-sizes_of files, lt) in
    rw (← size_at files i d lt) (sum_by_more_le (λ n. n) (sizes_of files) i 0 within)

pub sizes_more : (files : List File) (i : ℕ) (d : File) → i < length files → take (i + 1) (sizes_of files) ≡ take i (sizes_of files) ++ (get_or files i d).pages ∷ []
sizes_more files i d lt = grind (arith, common_steps, take-map (λ (file : File). file.pages), map_more (λ (file : File). file.pages) files i d lt)

-- ---- extents

pub lengths-push : (extents : List Extent) (x : Extent) → lengths (extents ++ x ∷ []) ≡ lengths extents ++ x.pages ∷ []
lengths-push extents x = map-append (λ extent. extent.pages) extents (x ∷ [])

length-lengths : (extents : List Extent) → length (lengths extents) ≡ length extents
length-lengths extents = simp length-map

-- one extent more, behind the others
pub extents_push : (first : ℕ) (extents : List Extent) (end : ℕ) (x : Extent) → AreExtents first extents end → x.start ≡ end → end + x.pages < 4294967296 → AreExtents first (extents ++ x ∷ []) (end + x.pages)
extents_push first extents end x are begins fits =
    let sums : sum (lengths (extents ++ x ∷ [])) ≡ sum (lengths extents) + x.pages = ap sum (lengths-push extents x) ∙ sum_by_push (λ n. n) (lengths extents) x.pages in
    let last = are.last in
    record {
      starts = λ file d lt. (
          let same = length-lengths extents in
          let pushed = lengths-push extents x in
          elim (cases_lt file (length extents)) [
            | inl below ↦ (
                let e : get_or (extents ++ x ∷ []) file d ≡ get_or extents file d = grind (arith, common_steps) in
                let fits : file ≤ length (lengths extents) = omega (arith, same, below) in
                let t : take file (lengths (extents ++ x ∷ [])) ≡ take file (lengths extents) = rw (pushed, take-append-le) refl in
                rw (e, t) (are.starts file d below)
                )
            | inr le ↦ (
                let here : file ≡ length extents = omega (arith, lt, le, length-append extents (x ∷ [])) in
                let e : get_or (extents ++ x ∷ []) file d ≡ x = rw here (get_or-append_seam extents x [] d) in
                let t : take file (lengths (extents ++ x ∷ [])) ≡ lengths extents = rw (pushed, here, ← same) (take-append_seam (lengths extents) (x.pages ∷ [])) in
                rw (e, t) (omega (arith, begins, last))
                )
          ]
          );
      last = omega (arith, sums, last);
      numbered = fits;
    }

-- the pages of a file that there is
length_at : (extents : List Extent) (file : ℕ) (d : Extent) → file < length extents → get_or (lengths extents) file 0 ≡ (get_or extents file d).pages
length_at extents file d lt = grind (arith, common_steps)

module _ (first : ℕ) (extents : List Extent) (end file page : ℕ) (e : Extent) (are : AreExtents first extents end) (within : file < length extents) (is : e ≡ get_or extents file e) where
  size_is : get_or (lengths extents) file 0 ≡ e.pages
  size_is = length_at extents file e within ∙ sym (ap (λ (x : Extent). x.pages) is)

  start_is : e.start ≡ home_block first (lengths extents) file 0
  start_is = ap (λ (x : Extent). x.start) is ∙ are.starts file e within

  -- a page's home is one of the homes
  pub home_within : page < e.pages → e.start + page < 4294967296
  home_within lt =
      let inside : file < length (lengths extents) = omega (arith, within, length-lengths extents) in
      let some = sum_by_more_le (λ n. n) (lengths extents) file 0 inside in
      let last = are.last in
      let numbered = are.numbered in
      omega (arith, some, size_is, start_is, last, lt, numbered)

  pub home_is : page < e.pages → Some (e.start + page) ≡ home_in (record { first = first; sizes = lengths extents }) file page
  home_is lt =
      let there : nat_lt page (get_or (lengths extents) file 0) ≡ true = rw size_is (grind (arith, nat_tests)) in
      let same : e.start + page ≡ home_block first (lengths extents) file page = omega (arith, start_is) in
      rw (there, same) refl

-- ---- homes

module _ (files : FilesOf) where
  -- a home is of a page that its file has
  home_of : (file page block : ℕ) → home_in files file page ≡ Some block → (page < slice_index files.sizes file) × (home_block files.first files.sizes file page ≡ block)
  home_of file page block home =
      elim (cases_lt page (slice_index files.sizes file)) [
        | inl less ↦ (less, grind (arith, nat_tests))
        | inr le ↦ absurd (grind (arith, nat_tests))
      ]

  pub homes_apart : (file page file' page' block : ℕ) → home_in files file page ≡ Some block → home_in files file' page' ≡ Some block → (file ≡ file') × (page ≡ page')
  homes_apart file page file' page' block home home' =
      let one = home_of file page block home in
      let other = home_of file' page' block home' in
      homes_differ files.first files.sizes file page file' page' one.0 other.0 (one.1 ∙ sym other.1)

  pub home_behind : (file page block : ℕ) → home_in files file page ≡ Some block → files.first ≤ block
  home_behind file page block home =
      let one = home_of file page block home in
      let above = home_above files.first files.sizes file page in
      omega (arith, one, above)

  pub home_before_end : (file page block : ℕ) → home_in files file page ≡ Some block → block < files.first + sum files.sizes
  home_before_end file page block home =
      let one = home_of file page block home in
      let below = home_below files.first files.sizes file page one.0 in
      omega (arith, one, below)
