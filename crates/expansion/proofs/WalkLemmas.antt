-- What comes, put together: laws of what follows one another.
use Rattle.std.proofs.Common.{◌≡◌, ℕ, zero, suc, ◌+◌, ◌-◌, ◌<◌, ◌≤◌, Bool, true, false, nat_lt, List, [], ◌∷◌, ◌++◌, length, min, take, drop, slice_get, Option, Some, None, Result, Ok, Err, refl, sym, ap, ◌∙◌, append-nil, append_assoc, length-take, length-drop, arith}
use Rattle.std.specs.Prelude.{slice_range, if◌then◌else◌}
use Rattle.std.proofs.lemmas.List.{take_all, drop_all, take-take, drop-drop, drop-take}
use Rattle.std.proofs.lemmas.Bool.Decides.{nat_tests}
use Rattle.scenarios.specs.Lines.{TextLine, opens_block}
use Rattle.scenario_words.specs.declared.fault.Fault.{Fault}
use Rattle.scenario_words.specs.Faults.{◌>>=◌}
use Rattle.scenario_lines.specs.Scene.{SceneNow}
use Rattle.expansion.specs.Walk.{Out, Ending, Ended, Failed, Unsaid, Ran, done, onto, followed_by, followed, tried, if_no_until, Blocks, Nothing, Line, Block, blocks_by, blocks_of}
use Rattle.expansion.specs.ToCome.{between, line_in, behind_of}

-- ---- one after the other

abbrev with_outs : Ending → List Out → Ran
with_outs e outs = record { outs = outs; ending = e }

pub onto_onto : (a b : List Out) (r : Ran) → onto a (onto b r) ≡ onto (a ++ b) r
onto_onto a b r = ap (with_outs r.ending) (sym (append_assoc a b r.outs))

then_onto_by : (a outs : List Out) (e : Ending) (more : SceneNow → Ran) → followed_by (a ++ outs) e more ≡ onto a (followed_by outs e more)
then_onto_by a outs (Ended s) more = sym (onto_onto a outs (more s))
then_onto_by a outs (Failed f) more = refl
then_onto_by a outs Unsaid more = refl

pub then_onto : (a : List Out) (r : Ran) (more : SceneNow → Ran) → followed (onto a r) more ≡ onto a (followed r more)
then_onto a r more = then_onto_by a r.outs r.ending more

pub then_done : (s : SceneNow) (more : SceneNow → Ran) → followed (done s) more ≡ more s
then_done s more = refl

then_then_by : (outs : List Out) (e : Ending) (f g : SceneNow → Ran) → followed (followed_by outs e f) g ≡ followed_by outs e (λ s. followed (f s) g)
then_then_by outs (Ended s) f g = then_onto outs (f s) g
then_then_by outs (Failed h) f g = refl
then_then_by outs Unsaid f g = refl

pub then_then : (r : Ran) (f g : SceneNow → Ran) → followed (followed r f) g ≡ followed r (λ s. followed (f s) g)
then_then r f g = then_then_by r.outs r.ending f g

then_end_by : (outs : List Out) (e : Ending) → followed_by outs e done ≡ with_outs e outs
then_end_by outs (Ended s) = ap (with_outs (Ended s)) (append-nil outs)
then_end_by outs (Failed h) = refl
then_end_by outs Unsaid = refl

pub then_end : (r : Ran) → followed r done ≡ r
then_end r = then_end_by r.outs r.ending

pub tried_then : {A : Type 0} (x : Result A Fault) (f : A → Ran) (g : SceneNow → Ran) → followed (tried x f) g ≡ tried x (λ a. followed (f a) g)
tried_then (Ok a) f g = refl
tried_then (Err e) f g = refl

pub tried_more : {A B : Type 0} (x : Result A Fault) (f : A → Result B Fault) (g : B → Ran) → tried (x >>= f) g ≡ tried x (λ a. tried (f a) g)
tried_more (Ok a) f g = refl
tried_more (Err e) f g = refl

pub until_then : (u : Option ℕ) (r : Ran) (g : SceneNow → Ran) → followed (if_no_until u r) g ≡ if_no_until u (followed r g)
until_then None r g = refl
until_then (Some k) r g = refl

-- ---- the tree of lines

same_blocks : (f g : ℕ) (ls : List TextLine) → length ls ≤ f → length ls ≤ g → blocks_by f ls ≡ blocks_by g ls
same_blocks zero zero ls p q = refl
same_blocks zero (suc g) [] p q = refl
same_blocks zero (suc g) (l ∷ ls) p q = absurd (omega arith)
same_blocks (suc f) zero [] p q = refl
same_blocks (suc f) zero (l ∷ ls) p q = absurd (omega arith)
same_blocks (suc f) (suc g) [] p q = refl
same_blocks (suc f) (suc g) (l ∷ ls) p q =
    let a = same_blocks f g (take l.inside ls) (simp length-take (omega arith)) (simp length-take (omega arith)) in
    let b = same_blocks f g (drop l.inside ls) (simp length-drop (omega arith)) (simp length-drop (omega arith)) in
    rw (a, b) refl

-- a line before others, which knows how many of them are in its block
abbrev pub led : TextLine → Blocks → Blocks → Blocks
led l inner more = if opens_block l.kind then Block l inner more else Line l more

led_by : (l : TextLine) (ls : List TextLine) → blocks_of (l ∷ ls) ≡ led l (blocks_of (take l.inside ls)) (blocks_of (drop l.inside ls))
led_by l ls =
    let a = same_blocks (length ls) (length (take l.inside ls)) (take l.inside ls) (simp length-take (omega arith)) (omega arith) in
    let b = same_blocks (length ls) (length (drop l.inside ls)) (drop l.inside ls) (simp length-drop (omega arith)) (omega arith) in
    rw (a, b) refl

-- ---- a part of the lines

take_both : {A : Type 0} (m n : ℕ) (xs : List A) → take m (take n xs) ≡ take (min m n) xs
take_both m n xs = by (nat_lt n m) refl
  where
    by : (b : Bool) → nat_lt n m ≡ b → take m (take n xs) ≡ take (min m n) xs
    by true e =
        let below : n < m = grind (arith, nat_tests) in
        let least : min m n ≡ n = omega arith in
        rw least (take_all m (take n xs) (simp length-take (omega arith)))
    by false e =
        let above : m ≤ n = grind (arith, nat_tests) in
        let least : min m n ≡ m = omega arith in
        rw least (take-take m n xs above)

drop_after : {A : Type 0} (k n : ℕ) (xs : List A) → drop k (take n xs) ≡ take (n - k) (drop k xs)
drop_after k n xs = by (nat_lt n k) refl
  where
    by : (b : Bool) → nat_lt n k ≡ b → drop k (take n xs) ≡ take (n - k) (drop k xs)
    by true e =
        let below : n < k = grind (arith, nat_tests) in
        let none : n - k ≡ 0 = omega arith in
        rw none (drop_all k (take n xs) (simp length-take (omega arith)))
    by false e =
        let above : k ≤ n = grind (arith, nat_tests) in
        let whole : n ≡ k + (n - k) = omega arith in
        ap (λ (j : ℕ). drop k (take j xs)) whole ∙ drop-take k (n - k) xs

drop_at : (ls : List TextLine) (at : ℕ) (l : TextLine) → slice_get ls at ≡ Some l → drop at ls ≡ l ∷ drop (at + 1) ls
drop_at [] at l e = absurd (cc)
drop_at (x ∷ xs) zero l e = let same : x ≡ l = cc in ap (λ (y : TextLine). y ∷ xs) same
drop_at (x ∷ xs) (suc at) l e = let more : suc at + 1 ≡ suc (at + 1) = omega arith in rw more (drop_at xs at l e)

drop_past : (ls : List TextLine) (at : ℕ) → slice_get ls at ≡ None → drop at ls ≡ []
drop_past [] zero e = refl
drop_past [] (suc at) e = refl
drop_past (x ∷ xs) zero e = absurd (cc)
drop_past (x ∷ xs) (suc at) e = drop_past xs at e

part_led : (ls : List TextLine) (at end : ℕ) (l : TextLine) → at < end → slice_get ls at ≡ Some l → slice_range ls at end ≡ l ∷ slice_range ls (at + 1) end
part_led ls at end l below e =
    let many : end - at ≡ suc (end - (at + 1)) = omega arith in
    rw (many, drop_at ls at l e) refl

inner_part : (ls : List TextLine) (at end : ℕ) (l : TextLine) → at < end → take l.inside (slice_range ls (at + 1) end) ≡ slice_range ls (at + 1) (behind_of at end l)
inner_part ls at end l below =
    let many : min l.inside (end - (at + 1)) ≡ behind_of at end l - (at + 1) = omega arith in
    take_both l.inside (end - (at + 1)) (drop (at + 1) ls) ∙ ap (λ (k : ℕ). take k (drop (at + 1) ls)) many

part_behind : (ls : List TextLine) (at end : ℕ) (l : TextLine) → at < end → drop l.inside (slice_range ls (at + 1) end) ≡ slice_range ls (behind_of at end l) end
part_behind ls at end l below = drop_after l.inside (end - (at + 1)) (drop (at + 1) ls) ∙ by (nat_lt end (at + 1 + l.inside)) refl
  where
    by : (b : Bool) → nat_lt end (at + 1 + l.inside) ≡ b → take (end - (at + 1) - l.inside) (drop l.inside (drop (at + 1) ls)) ≡ slice_range ls (behind_of at end l) end
    by true e =
        let past : end < at + 1 + l.inside = grind (arith, nat_tests) in
        let one : end - (at + 1) - l.inside ≡ 0 = omega arith in
        let two : end - behind_of at end l ≡ 0 = omega arith in
        rw (one, two) refl
    by false e =
        let within : at + 1 + l.inside ≤ end = grind (arith, nat_tests) in
        let one : end - (at + 1) - l.inside ≡ end - behind_of at end l = omega arith in
        let two : at + 1 + l.inside ≡ behind_of at end l = omega arith in
        ap (λ (xs : List TextLine). take (end - (at + 1) - l.inside) xs) (drop-drop l.inside (at + 1) ls ∙ ap (λ (k : ℕ). drop k ls) two) ∙ ap (λ (k : ℕ). take k (drop (behind_of at end l) ls)) one

by_line : (ls : List TextLine) (at end : ℕ) (l : TextLine) → at < end → slice_get ls at ≡ Some l
    → between ls at end ≡ led l (between ls (at + 1) (behind_of at end l)) (between ls (behind_of at end l) end)
by_line ls at end l below e =
    ap blocks_of (part_led ls at end l below e) ∙ led_by l (slice_range ls (at + 1) end)
    ∙ ap (λ (xs : List TextLine). led l (blocks_of xs) (blocks_of (drop l.inside (slice_range ls (at + 1) end)))) (inner_part ls at end l below)
    ∙ ap (λ (xs : List TextLine). led l (between ls (at + 1) (behind_of at end l)) (blocks_of xs)) (part_behind ls at end l below)

pub between_led : (ls : List TextLine) (at end : ℕ) (l : TextLine) → line_in ls at end ≡ Some l
    → between ls at end ≡ led l (between ls (at + 1) (behind_of at end l)) (between ls (behind_of at end l) end)
between_led ls at end l e = by (nat_lt at end) refl
  where
    never : None ≡ Some l → ⊥
    never p = cc

    by : (b : Bool) → nat_lt at end ≡ b → between ls at end ≡ led l (between ls (at + 1) (behind_of at end l)) (between ls (behind_of at end l) end)
    by true q = let below : at < end = grind (arith, nat_tests) in by_line ls at end l below (rw q at e)
    by false q = absurd (never (rw q at e))

pub between_past : (ls : List TextLine) (at end : ℕ) → line_in ls at end ≡ None → between ls at end ≡ Nothing
between_past ls at end e = by (nat_lt at end) refl
  where
    nil : List TextLine
    nil = []

    none : (k : ℕ) → take k nil ≡ nil
    none zero = refl
    none (suc k) = refl

    nothing : (xs : List TextLine) → xs ≡ [] → blocks_of xs ≡ Nothing
    nothing xs p = ap blocks_of p

    by : (b : Bool) → nat_lt at end ≡ b → between ls at end ≡ Nothing
    by true q = nothing (slice_range ls at end) (ap (λ (xs : List TextLine). take (end - at) xs) (drop_past ls at (rw q at e)) ∙ none (end - at))
    by false q =
        let past : end ≤ at = grind (arith, nat_tests) in
        let many : end - at ≡ 0 = omega arith in
        nothing (slice_range ls at end) (rw many refl)
