-- What is right of the first entries of a trace, one entry more, and of all.
use Rattle.std.proofs.Common.{◌≡◌, ℕ, ◌+◌, ◌-◌, ◌<◌, ◌≤◌, List, [], ◌∷◌, ◌++◌, length, reverse, drop, get_or, sym, subst, arith}
use Rattle.machine.specs.declared.entry.Entry.{Entry}
use Rattle.machine.specs.History.{Spot}
use Rattle.machine.specs.FirstBytes.{first_of}
use Rattle.machine.specs.Audit.{before, Passes, IsGood, IsFirstWrong}
use Rattle.trace.proofs.WalkLemmas.{before-more, before-all}
use Rattle.trace.proofs.FileLemmas.{reverse-before}

pub passes-more : (first : Spot → ℕ) (xs : List Entry) (k : ℕ) (e : Entry) → k < length xs → e ≡ get_or xs k e → Passes first (before xs k) → IsGood first (before xs k) e → Passes first (before xs (k + 1))
passes-more first xs k e lt is h good =
    subst (λ (history : List Entry). Passes first history) (sym (before-more xs k e lt is)) ((h.0, good.0), (h.1, good.1))

pub passes-last : (first : Spot → ℕ) (xs : List Entry) (k : ℕ) (e : Entry) → k < length xs → e ≡ get_or xs k e → Passes first (before xs (k + 1)) → IsGood first (before xs k) e
passes-last first xs k e lt is h =
    let whole = subst (λ (history : List Entry). Passes first history) (before-more xs k e lt is) h in
    (whole.0.1, whole.1.1)

pub first-wrong : (xs : List Entry) (k : ℕ) (e : Entry) → k < length xs → e ≡ get_or xs k e → Passes (first_of (reverse xs)) (before xs k)
    → (IsGood (first_of (reverse xs)) (before xs k) e → ⊥) → IsFirstWrong xs (k + 1)
first-wrong xs k e lt is h wrong = record {
  placed = omega arith;
  within = omega arith;
  good = let down : k ≡ k + 1 - 1 = omega arith in subst (λ (n : ℕ). Passes (first_of (reverse xs)) (before xs n)) down h;
  wrong = λ whole. wrong (passes-last (first_of (reverse xs)) xs k e lt is whole);
}

pub passes-all : (first : Spot → ℕ) (xs : List Entry) (k : ℕ) → length xs ≤ k → Passes first (before xs k) → Passes first (reverse xs)
passes-all first xs k all h = subst (λ (history : List Entry). Passes first history) (before-all xs k all) h

passes-earlier : (first : Spot → ℕ) (later earlier : List Entry) → Passes first (later ++ earlier) → Passes first earlier
passes-earlier first [] earlier h = h
passes-earlier first (entry ∷ later) earlier h = passes-earlier first later earlier (h.0.0, h.1.0)

-- what holds of all holds of the first so many
pub passes-before : (first : Spot → ℕ) (xs : List Entry) (k : ℕ) → Passes first (reverse xs) → Passes first (before xs k)
passes-before first xs k h =
    passes-earlier first (reverse (drop k xs)) (before xs k) (subst (λ (history : List Entry). Passes first history) (sym (reverse-before xs k)) h)

-- a trace with a wrong entry does not pass
pub passes-not : (xs : List Entry) (k : ℕ) → IsFirstWrong xs k → Passes (first_of (reverse xs)) (reverse xs) → ⊥
passes-not xs k h whole = h.wrong (passes-before (first_of (reverse xs)) xs k whole)
