use Rattle.std.proofs.Common.{◌≡◌, ℕ, ◌+◌, ◌-◌, ◌<◌, ◌≤◌, length, List, Option, Some, None, ◌⊎◌, zero, suc, refl, sym, subst, arith, inl, inr}
use Rattle.std.proofs.lemmas.Bool.{cases_lt}
use Rattle.scripts.specs.declared.fault.Cause.{Cause}
use Rattle.scripts.specs.declared.mode.Mode.{Mode}
use Rattle.scripts.specs.Script.{IsFirstFault, IsFaultless, fault_at}
use Rattle.scripts.proofs.script.one_answer.Goals as goal

apart : {A : Type 0} (o : Option A) (c : A) → o ≡ Some c → o ≡ None → ⊥
apart o c p q = absurd cc

same_cause : {A : Type 0} (o : Option A) (c d : A) → o ≡ Some c → o ≡ Some d → c ≡ d
same_cause o c d p q = cc

-- of two first faults none is the later one
not_later : (mode : Mode) (ls : List (List ℕ)) (m n : ℕ) (c d : Cause) → IsFirstFault mode ls m c → IsFirstFault mode ls n d → m < n → ⊥
not_later mode ls m n c d p q lt = let w = p.within in apart (fault_at mode ls (m - 1)) c p.faulty (q.first (m - 1) (omega (arith, w.0, lt)))

one : (mode : Mode) (ls : List (List ℕ)) (m n : ℕ) (c d : Cause) → IsFirstFault mode ls m c → IsFirstFault mode ls n d → (m ≡ n) × (c ≡ d)
one mode ls m n c d p q =
    elim (cases_lt m n) [
      | inl lt ↦ absurd (not_later mode ls m n c d p q lt)
      | inr le ↦ elim (cases_lt n m) [
        | inl lt ↦ absurd (not_later mode ls n m d c q p lt)
        | inr le' ↦ (let e : m ≡ n = omega arith in (e, same_cause (fault_at mode ls (n - 1)) c d (subst (λ (k : ℕ). fault_at mode ls (k - 1) ≡ Some c) e p.faulty) q.faulty))
      ]
    ]

not_both : (mode : Mode) (ls : List (List ℕ)) (n : ℕ) (c : Cause) → IsFirstFault mode ls n c → IsFaultless mode ls → ⊥
not_both mode ls n c p f = let w = p.within in apart (fault_at mode ls (n - 1)) c p.faulty (f (n - 1) (omega (arith, w.0, w.1)))

-- the lines before this place are faultless, or one of them is the first faulty one
abbrev FoundBelow : Mode → List (List ℕ) → ℕ → Type 0
FoundBelow mode ls k = ((i : ℕ) → i < k → fault_at mode ls i ≡ None) ⊎ ((n : ℕ) × (c : Cause) × IsFirstFault mode ls n c)

one_more : (mode : Mode) (ls : List (List ℕ)) (k : ℕ) (o : Option Cause) → fault_at mode ls k ≡ o → k < length ls → ((i : ℕ) → i < k → fault_at mode ls i ≡ None) → FoundBelow mode ls (suc k)
one_more mode ls k None e lt fine =
    inl (λ i h. elim (cases_lt i k) [ inl below ↦ fine i below | inr le ↦ (let same : i ≡ k = omega arith in subst (λ (j : ℕ). fault_at mode ls j ≡ None) (sym same) e) ])
one_more mode ls k (Some c) e lt fine =
    let same : (k + 1) - 1 ≡ k = omega arith in
    inr (
      k + 1,
      c,
      record {
        within = (omega arith, omega arith);
        faulty = subst (λ (j : ℕ). fault_at mode ls j ≡ Some c) (sym same) e;
        first = λ i h. fine i (omega arith);
      },
    )

further : (mode : Mode) (ls : List (List ℕ)) (k : ℕ) → k < length ls → FoundBelow mode ls k → FoundBelow mode ls (suc k)
further mode ls k lt (inl fine) = one_more mode ls k (fault_at mode ls k) refl lt fine
further mode ls k lt (inr found) = inr found

-- by going over the lines
found_below : (mode : Mode) (ls : List (List ℕ)) (k : ℕ) → k ≤ length ls → FoundBelow mode ls k
found_below mode ls zero le = inl (λ i h. absurd (omega arith))
found_below mode ls (suc k) le = further mode ls k (omega arith) (found_below mode ls k (omega arith))

pub returns-clause-some : goal.returns-clause-some
returns-clause-some c = λ mode ls. found_below mode ls (length ls) (omega arith)

pub returns-clause-not_both : goal.returns-clause-not_both
returns-clause-not_both c = λ mode ls n a p f. not_both mode ls n a p f

pub returns-clause-one : goal.returns-clause-one
returns-clause-one c = λ mode ls m n a b p q. one mode ls m n a b p q
