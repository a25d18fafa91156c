-- What looks at groups print is what the control files say.
use Rattle.std.proofs.Common.{◌≡◌, ℕ, ◌+◌, ◌<◌, ◌==◌, Bool, true, false, List, [], ◌∷◌, ◌++◌, map, length, take, get_or, Option, Some, None, refl, ap, ◌∙◌, sym, subst, arith, codes, string_bytes, String, Result, Ok, Err, IfOk, append-nil, append_assoc, Bor}
use Rattle.std.proofs.lemmas.List.{take_more, map-append, length-map, length-take-le}
use Rattle.std.specs.Prelude.{option_map}
use Rattle.std.specs.declared.alloc.Global.{Global}
use Rattle.std.specs.Io.KnownBytes.{Appends}
use Rattle.std.proofs.KnownBytes.{Appends-trans}
use Rattle.machine.specs.declared.reply.Shown.{Shown}
use Rattle.machine.specs.Control.{line}
use Rattle.machine.specs.State.{State}
use Rattle.machine.specs.Tree.{find_group}
use Rattle.live.specs.declared.looks.EndLook.{EndLook}
use Rattle.live.specs.Looks.{group_at_end, end_look}
use Rattle.shown_groups.specs.declared.shown.Missing.{Missing}
use Rattle.shown_groups.specs.declared.shown.Missing.TheVariants as missing
use Rattle.shown_groups.specs.Shown.{cat_text, file_text, files_text, found_text, paths_text}
use Rattle.shown_groups.specs.Looks.{with_files, current_in, stat_in, events_in, look_files, look_text, looks_text}

-- ---- one path

files-shown : (s : State) (path : List ℕ) (g : ℕ) (is_root : Bool) → (g == 0) ≡ is_root → look_files s.opening.page_size path (Some (group_at_end s g)) ≡ files_text s path (Some g)
files-shown s path g true is = rw is refl
files-shown s path g false is = rw is refl

look-shown : (how : Missing) (s : State) (path : List ℕ) (g : Option ℕ) → look_text s.opening.page_size how path (option_map (group_at_end s) g) ≡ found_text how s path g
look-shown missing.Skipped s path None = refl
look-shown missing.Skipped s path (Some g) = files-shown s path g (g == 0) refl
look-shown missing.Told s path None = refl
look-shown missing.Told s path (Some g) = files-shown s path g (g == 0) refl

-- ---- all paths

pub looks-shown : (how : Missing) (s : State) (paths : List (List ℕ)) → looks_text s.opening.page_size how paths (map (end_look s) paths) ≡ paths_text how s paths
looks-shown how s [] = refl
looks-shown how s (path ∷ paths) =
    ap (λ (text : List ℕ). text ++ looks_text s.opening.page_size how paths (map (end_look s) paths)) (look-shown how s path (find_group s.tree path))
    ∙ ap (λ (text : List ℕ). found_text how s path (find_group s.tree path) ++ text) (looks-shown how s paths)

-- another look follows
pub looks-more : (size : ℕ) (how : Missing) (paths : List (List ℕ)) (looks : List (Option EndLook)) (path : List ℕ) (look : Option EndLook) → length looks ≡ length paths
    → looks_text size how (paths ++ path ∷ []) (looks ++ look ∷ []) ≡ looks_text size how paths looks ++ look_text size how path look
looks-more size how [] [] path look same = append-nil (look_text size how path look)
looks-more size how [] (l ∷ looks) path look same = absurd (omega arith)
looks-more size how (p ∷ paths) [] path look same = absurd (omega arith)
looks-more size how (p ∷ paths) (l ∷ looks) path look same =
    ap (λ (text : List ℕ). look_text size how p l ++ text) (looks-more size how paths looks path look (omega arith))
    ∙ sym (append_assoc (look_text size how p l) (looks_text size how paths looks) (look_text size how path look))

-- the looks up to a place, and one after it
pub looks-taken : (size : ℕ) (how : Missing) (paths : List (Bor (List ℕ))) (looks : List (Option EndLook)) (none : Bor (List ℕ)) (i : ℕ) → i < length paths → length looks ≡ length paths
    → looks_text size how (map (λ (p : Bor (List ℕ)). p.now) (take (i + 1) paths)) (take (i + 1) looks)
    ≡ looks_text size how (map (λ (p : Bor (List ℕ)). p.now) (take i paths)) (take i looks) ++ look_text size how (get_or paths i none).now (get_or looks i None)
looks-taken size how paths looks none i within same =
    let f : Bor (List ℕ) → List ℕ = λ p. p.now in
    let within-looks : i < length looks = omega (arith, within, same) in
    let path : map f (take (i + 1) paths) ≡ map f (take i paths) ++ (get_or paths i none).now ∷ [] = ap (map f) (take_more paths i none within) ∙ map-append f (take i paths) (get_or paths i none ∷ []) in
    let long : length (take i looks) ≡ length (map f (take i paths)) =
    length-take-le i looks (omega (arith, within-looks)) ∙ sym (length-map (take i paths) f ∙ length-take-le i paths (omega (arith, within))) in
    ap (λ (ps : List (List ℕ)). looks_text size how ps (take (i + 1) looks)) path
    ∙ (ap (looks_text size how (map f (take i paths) ++ (get_or paths i none).now ∷ [])) (take_more looks i None within-looks)
    ∙ looks-more size how (map f (take i paths)) (take i looks) (get_or paths i none).now (get_or looks i None) long)

-- ---- one path, written file by file

pub files-written : (size : ℕ) (path : List ℕ) (look held : Option EndLook) (one two three : Option Shown) (a b c d : Option (List ℕ)) → held ≡ with_files look → one ≡ option_map current_in held → two ≡ option_map stat_in held → three ≡ option_map events_in held
    → Appends a b (file_text size path (codes "memory.current") one) → Appends b c (file_text size path (codes "memory.stat") two) → Appends c d (file_text size path (codes "memory.events") three) → Appends a d (look_files size path look)
files-written size path look held one two three a b c d is is-one is-two is-three first second third =
    let current : one ≡ option_map current_in (with_files look) = is-one ∙ ap (option_map current_in) is in
    let stat : two ≡ option_map stat_in (with_files look) = is-two ∙ ap (option_map stat_in) is in
    let events : three ≡ option_map events_in (with_files look) = is-three ∙ ap (option_map events_in) is in
    Appends-trans a b d _ _ (subst (λ (n : Option Shown). Appends a b (file_text size path (codes "memory.current") n)) current first)
    (Appends-trans b c d _ _ (subst (λ (n : Option Shown). Appends b c (file_text size path (codes "memory.stat") n)) stat second)
    (subst (λ (n : Option Shown). Appends c d (file_text size path (codes "memory.events") n)) events third))

-- ---- one file, from its parts

pub named : {E : Type 0} (made : Result (String Global) E) (size : ℕ) (path name said : List ℕ) (numbers : Option Shown) → said ≡ cat_text size numbers
    → IfOk made (λ text. string_bytes text ≡ path ++ (codes "/" ++ (name ++ (codes "\n" ++ said)))) → IfOk made (λ text. string_bytes text ≡ file_text size path name numbers)
named (Err why) size path name said numbers is bytes = tt
named (Ok text) size path name said numbers is bytes =
    let front : List ℕ = path ++ (codes "/" ++ name) in
    bytes ∙ (sym (append_assoc front (10 ∷ []) said ∙ append_assoc path (codes "/" ++ name) (10 ∷ said)) ∙ ap (λ (t : List ℕ). line front ++ t) is)
