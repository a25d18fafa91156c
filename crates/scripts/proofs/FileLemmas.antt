-- One file more, behind others.
use Rattle.std.proofs.Common.{◌≡◌, ℕ, ◌+◌, Bool, true, false, ◌&&◌, ◌||◌, not, List, [], ◌∷◌, ◌++◌, length, refl, sym, ap, ◌∙◌, arith}
use Rattle.std.specs.Prelude.{nat_le, nat_lt, sum}
use Rattle.std.specs.List.{list_all, list_any}
use Rattle.std.specs.Str.{bytes_eq}
use Rattle.std.proofs.lemmas.Bool.{and_from, and_parts, or_from}
use Rattle.std.proofs.lemmas.Bool.Decides.{nat_tests}
use Rattle.std.proofs.lemmas.List.{map-append, length-append}
use Rattle.std.proofs.lemmas.List.Folds.{list_all-append, list_any-append}
use Rattle.std.proofs.lemmas.List.Sums.{sum_by_push}
use Rattle.std.proofs.lemmas.Slice.Eq.{bytes_eq-Decides}
use Rattle.machine.specs.declared.config.Config.{Config}
use Rattle.machine.specs.declared.config.File.{File}
use Rattle.machine.specs.State.{sizes_of, blocks_of, is_file, are_apart, are_files}
use Rattle.scripts.specs.Meaning.{has_name}

pub or_parts : (x y : Bool) → (x || y) ≡ false → (x ≡ false) × (y ≡ false)
or_parts true y h = absurd cc
or_parts false y h = (refl, h)

pub no_more : (n m : ℕ) → nat_lt m n ≡ false → nat_le n m ≡ true
no_more n m h = grind (arith, nat_tests)

-- ---- names

-- two names that differ one way differ the other way
differ : (a b : List ℕ) (t : Bool) → bytes_eq b a ≡ t → bytes_eq a b ≡ false → bytes_eq b a ≡ false
differ a b true e h = (let same : b ≡ a = (bytes_eq-Decides b a).0 e in let again : bytes_eq a b ≡ true = (bytes_eq-Decides a b).1 (sym same) in absurd cc)
differ a b false e h = e

apart_push : (files : List File) (file : File) → list_any (has_name file.name) files ≡ false → are_apart files ≡ true → are_apart (files ++ file ∷ []) ≡ true
apart_push [] file new apart = refl
apart_push (f ∷ files) file new apart =
    let n = or_parts (bytes_eq f.name file.name) (list_any (has_name file.name) files) new in
    let p = and_parts (not (list_any (has_name f.name) files)) (are_apart files) apart in
    let own : list_any (has_name f.name) (file ∷ []) ≡ false = or_from (bytes_eq file.name f.name) false (differ f.name file.name (bytes_eq file.name f.name) refl n.0) refl in
    let before : list_any (has_name f.name) files ≡ false = negated (list_any (has_name f.name) files) p.0 in
    let all : list_any (has_name f.name) (files ++ file ∷ []) ≡ false = list_any-append (has_name f.name) files (file ∷ []) ∙ or_from (list_any (has_name f.name) files) (list_any (has_name f.name) (file ∷ [])) before own in
    rw all (apart_push files file n.1 p.1)
  where
    negated : (b : Bool) → not b ≡ true → b ≡ false
    negated true h = absurd cc
    negated false h = refl

pub files_push : (files : List File) (file : File) → are_files files ≡ true → is_file file ≡ true → list_any (has_name file.name) files ≡ false → nat_le 64 (length files) ≡ false
    → are_files (files ++ file ∷ []) ≡ true
files_push files file are is new room =
    let p = and_parts (nat_le (length files) 64) (list_all is_file files && are_apart files) are in
    let q = and_parts (list_all is_file files) (are_apart files) p.1 in
    let longer = length-append files (file ∷ []) in
    let count : nat_le (length (files ++ file ∷ [])) 64 ≡ true = grind (arith, nat_tests, longer) in
    let all : list_all is_file (files ++ file ∷ []) ≡ true =
    list_all-append is_file files (file ∷ []) ∙ and_from (list_all is_file files) (list_all is_file (file ∷ [])) q.0 (and_from (is_file file) true is refl) in
    rw (count, all) (apart_push files file new q.1)

-- ---- blocks

pub blocks_push : (c : Config) (file : File) → blocks_of (record c { files = c.files ++ file ∷ [] }) ≡ blocks_of c + file.pages
blocks_push c file =
    let sizes : sizes_of (c.files ++ file ∷ []) ≡ sizes_of c.files ++ file.pages ∷ [] = map-append (λ (f : File). f.pages) c.files (file ∷ []) in
    let sums : sum (sizes_of (c.files ++ file ∷ [])) ≡ sum (sizes_of c.files) + file.pages = ap sum sizes ∙ sum_by_push (λ n. n) (sizes_of c.files) file.pages in
    omega (arith, sums)
