-- The shortest and the longest of the runs, with another run.
use Rattle.std.proofs.Common.{◌≡◌, ℕ, suc, ◌^◌, ◌<◌, ◌≤◌, ◌⊎◌, inl, inr, List, [], ◌∷◌, ◌++◌, length, Contains, refl, sym, ap, ◌∙◌, subst, arith}
use Rattle.std.specs.Prelude.{min, max}
use Rattle.std.proofs.lemmas.Bool.{cases_lt}
use Rattle.std.proofs.lemmas.List.{map-append}
use Rattle.std.proofs.lemmas.List.Elements.{All-nil, All-push, All-weaker, Contains-append_left, Contains-push}
use Rattle.orders.specs.Runs.{Run, path_of_run}
use Rattle.explorer.specs.Turns.{lengths, IsLeast, IsGreatest, Spans, Keeps}

pub path-length : (run : Run) → length (path_of_run run) ≡ length run
path-length [] = refl
path-length (turn ∷ run) = ap suc (path-length run)

least-by : (numbers : List ℕ) (least n : ℕ) → IsLeast numbers least → (least' : ℕ) → (least' ≤ least) → (least' ≤ n) → (least' ≡ least) ⊎ (least' ≡ n) → IsLeast (numbers ++ n ∷ []) least'
least-by numbers least n h least' le le' (inl e) = record {
  is_one = (let P : ℕ → Type 0 = λ (k : ℕ). Contains (numbers ++ n ∷ []) k in subst P (sym e) (Contains-append_left numbers (n ∷ []) least h.is_one));
  bounds = All-push (λ (k : ℕ). least' ≤ k) numbers n (All-weaker (λ (k : ℕ). least ≤ k) (λ (k : ℕ). least' ≤ k) (λ k b. omega (arith, b, le)) numbers h.bounds) le';
}
least-by numbers least n h least' le le' (inr e) = record {
  is_one = (let P : ℕ → Type 0 = λ (k : ℕ). Contains (numbers ++ n ∷ []) k in subst P (sym e) (Contains-push numbers n));
  bounds = All-push (λ (k : ℕ). least' ≤ k) numbers n (All-weaker (λ (k : ℕ). least ≤ k) (λ (k : ℕ). least' ≤ k) (λ k b. omega (arith, b, le)) numbers h.bounds) le';
}

greatest-by : (numbers : List ℕ) (greatest n : ℕ) → IsGreatest numbers greatest → (greatest' : ℕ) → (greatest ≤ greatest') → (n ≤ greatest') → (greatest' ≡ greatest) ⊎ (greatest' ≡ n) → IsGreatest (numbers ++ n ∷ []) greatest'
greatest-by numbers greatest n h greatest' le le' (inl e) = record {
  is_one = (let P : ℕ → Type 0 = λ (k : ℕ). Contains (numbers ++ n ∷ []) k in subst P (sym e) (Contains-append_left numbers (n ∷ []) greatest h.is_one));
  bounds = All-push (λ (k : ℕ). k ≤ greatest') numbers n (All-weaker (λ (k : ℕ). k ≤ greatest) (λ (k : ℕ). k ≤ greatest') (λ k b. omega (arith, b, le)) numbers h.bounds) le';
}
greatest-by numbers greatest n h greatest' le le' (inr e) = record {
  is_one = (let P : ℕ → Type 0 = λ (k : ℕ). Contains (numbers ++ n ∷ []) k in subst P (sym e) (Contains-push numbers n));
  bounds = All-push (λ (k : ℕ). k ≤ greatest') numbers n (All-weaker (λ (k : ℕ). k ≤ greatest) (λ (k : ℕ). k ≤ greatest') (λ k b. omega (arith, b, le)) numbers h.bounds) le';
}

pub spans-kept : (runs : List Run) (shortest longest : ℕ) → Keeps runs shortest longest → Spans runs shortest longest
spans-kept [] shortest longest h = tt
spans-kept (run ∷ runs) shortest longest h = h

-- ---- another run

min-one : (a b : ℕ) → (a < b) ⊎ (b ≤ a) → (min a b ≡ a) ⊎ (min a b ≡ b)
min-one a b (inl le) = inl (omega (arith, le))
min-one a b (inr le) = inr (omega (arith, le))

max-one : (a b : ℕ) → (a < b) ⊎ (b ≤ a) → (max a b ≡ a) ⊎ (max a b ≡ b)
max-one a b (inl le) = inr (omega (arith, le))
max-one a b (inr le) = inl (omega (arith, le))

one-least : (n least : ℕ) → least ≡ n → IsLeast (n ∷ []) least
one-least n least e =
    let P : ℕ → Type 0 = λ (k : ℕ). IsLeast (n ∷ []) k in
    subst P (sym e) (record { is_one = Contains-push [] n; bounds = All-push (λ (k : ℕ). n ≤ k) [] n (All-nil (λ (k : ℕ). n ≤ k)) (omega arith) })

one-greatest : (n greatest : ℕ) → greatest ≡ n → IsGreatest (n ∷ []) greatest
one-greatest n greatest e =
    let P : ℕ → Type 0 = λ (k : ℕ). IsGreatest (n ∷ []) k in
    subst P (sym e) (record { is_one = Contains-push [] n; bounds = All-push (λ (k : ℕ). k ≤ n) [] n (All-nil (λ (k : ℕ). k ≤ n)) (omega arith) })

pub keeps-more : (runs : List Run) (run : Run) (shortest longest shortest' longest' turns : ℕ) → Keeps runs shortest longest → turns ≡ length run → turns < 2 ^ 64 → shortest' ≡ min shortest turns → longest' ≡ max longest turns → Keeps (runs ++ run ∷ []) shortest' longest'
keeps-more [] run shortest longest shortest' longest' turns h e lt s l =
    (one-least (length run) shortest' (omega (arith, h.0, e, lt, s)), one-greatest (length run) longest' (omega (arith, h.1, e, l)))
keeps-more (first ∷ runs) run shortest longest shortest' longest' turns h e lt s l =
    let all : lengths ((first ∷ runs) ++ run ∷ []) ≡ lengths (first ∷ runs) ++ turns ∷ [] =
    map-append (λ (r : Run). length r) (first ∷ runs) (run ∷ []) ∙ ap (λ (n : ℕ). lengths (first ∷ runs) ++ n ∷ []) (sym e) in
    let P : List ℕ → Type 0 = λ (ns : List ℕ). IsLeast ns shortest' in
    let Q : List ℕ → Type 0 = λ (ns : List ℕ). IsGreatest ns longest' in
    let S : ℕ → Type 0 = λ (n : ℕ). (n ≡ shortest) ⊎ (n ≡ turns) in
    let L : ℕ → Type 0 = λ (n : ℕ). (n ≡ longest) ⊎ (n ≡ turns) in (
      subst P (sym all) (least-by (lengths (first ∷ runs)) shortest turns h.0 shortest' (omega (arith, s)) (omega (arith, s)) (subst S (sym s) (min-one shortest turns (cases_lt shortest turns)))),
      subst Q (sym all) (greatest-by (lengths (first ∷ runs)) longest turns h.1 longest' (omega (arith, l)) (omega (arith, l)) (subst L (sym l) (max-one longest turns (cases_lt longest turns)))),
    )
