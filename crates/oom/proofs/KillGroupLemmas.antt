-- The group that dies with a victim: it has the flag, it is on the way up to the limit, and none above it on this way has the flag.
use Rattle.std.proofs.Common.{◌⊎◌, inl, inr, ◌≡◌, ◌≢◌, ℕ, zero, suc, ◌<◌, ◌==◌, ◌||◌, Bool, true, false, cond, List, [], ◌∷◌, ◌++◌, Option, Some, None, refl, sym, ap, ◌∙◌, subst, arith}
use Rattle.std.specs.Prelude.{filter}
use Rattle.std.specs.List.{last_or}
use Rattle.std.proofs.lemmas.Bool.{cases_Bool, and_parts}
use Rattle.std.proofs.lemmas.Bool.Decides.{nat_tests}
use Rattle.machine.specs.declared.record.OomGroup.{OomGroup}
use Rattle.machine.specs.declared.record.Task.{Task}
use Rattle.machine.specs.Slots.{there_and}
use Rattle.machine.specs.Tree.{Node, node_at, IsTree, under, under_at}
use Rattle.machine.specs.Tasks.{Tasks, task_at, is_live_task, lives, group_of, group_of_task}
use Rattle.machine.specs.Victim.{is_live_under, is_candidate, is_flagged, chain_to, kill_group}
use Rattle.machine.proofs.Values.{some_inj, unlike}
use Rattle.machine.proofs.TreeLemmas.{eq_cases, lt_cases, under_at-None, under_at-step, under_at-beyond}
use Rattle.machine.proofs.ChainLemmas.{chain_below-step, chain_below-own}

-- a candidate lives, in a group at or under the limit
pub candidate-parts : (tree : List Node) (tasks : Tasks) (limit t : ℕ) → is_candidate tree tasks limit t ≡ true → (lives tasks t ≡ true) × (under tree limit (group_of_task tasks t) ≡ true)
candidate-parts tree tasks limit t is = by_slot (task_at tasks t) is
  where
    by_slot : (slot : Option Task) → there_and (is_live_under tree limit) slot ≡ true → (there_and is_live_task slot ≡ true) × (under tree limit (group_of slot) ≡ true)
    by_slot None e = absurd cc
    by_slot (Some task) e = and_parts (is_live_task task) _ e

last-never : {X : Type 0} (x : X) (xs : List X) → last_or (Some x) xs ≡ None → ⊥
last-never x [] e = cc
last-never x (y ∷ ys) e = last-never y ys e

last-none : {X : Type 0} (o : Option X) (xs : List X) → last_or None xs ≡ None → last_or o xs ≡ o
last-none o [] e = refl
last-none o (x ∷ xs) e = absurd (last-never x xs e)

last-some : {X : Type 0} (o : Option X) (xs : List X) (y : X) → last_or None xs ≡ Some y → last_or o xs ≡ Some y
last-some o [] y e = cc
last-some o (x ∷ xs) y e = e

module _ (tree : List Node) (is : IsTree tree) (flags : List OomGroup) (limit : ℕ) where
  -- the last of the groups that has the flag, or else this one
  abbrev pub last_flagged : Option ℕ → List ℕ → Option ℕ
  last_flagged o groups = last_or o (filter (is_flagged flags) groups)

  pub last-step : (o : Option ℕ) (g : ℕ) (groups : List ℕ) → last_flagged o (g ∷ groups) ≡ last_flagged (cond (is_flagged flags g) (Some g) o) groups
  last-step o g groups = by_flag (is_flagged flags g)
    where
      by_flag : (b : Bool) → last_or o (cond b (g ∷ filter (is_flagged flags) groups) (filter (is_flagged flags) groups)) ≡ last_or (cond b (Some g) o) (filter (is_flagged flags) groups)
      by_flag true = refl
      by_flag false = refl

  pub chain_to-own : chain_to tree limit limit ≡ limit ∷ []
  chain_to-own = ap (λ (groups : List ℕ). groups ++ limit ∷ []) (chain_below-own tree is limit)

  pub chain_to-step : (g p : ℕ) → limit ≢ g → (node_at tree g).parent ≡ Some p → chain_to tree limit g ≡ g ∷ chain_to tree limit p
  chain_to-step g p differs parent = ap (λ (groups : List ℕ). groups ++ limit ∷ []) (chain_below-step tree is limit g p differs parent)

  -- the groups from g up to the limit: at or under the limit, and g or above it. None of them has the flag; or this one has, and none above it
  abbrev pub IsHighest : ℕ → Option ℕ → Type 0
  IsHighest g None = (a : ℕ) → under tree limit a ≡ true → under tree a g ≡ true → is_flagged flags a ≡ false
  IsHighest g (Some h) =
      (is_flagged flags h ≡ true) × (under tree limit h ≡ true) × (under tree h g ≡ true)
      × ((a : ℕ) → under tree limit a ≡ true → under tree a h ≡ true → a ≢ h → is_flagged flags a ≡ false)

  under-self : (g : ℕ) → under tree g g ≡ true
  under-self g = let same : (g == g) ≡ true = grind arith in under_at-step tree is g g ∙ ap (λ b. b || under_at tree g (node_at tree g).parent) same

  -- two groups that are each at or under the other are one
  one : (a b : ℕ) → under tree a b ≡ true → under tree b a ≡ true → a ≡ b
  one a b up down =
      elim (lt_cases a b) [
        | inl lt ↦ absurd (unlike (under tree b a) down (under_at-beyond tree is (Some a) b lt))
        | inr (inl same) ↦ same
        | inr (inr gt) ↦ absurd (unlike (under tree a b) up (under_at-beyond tree is (Some b) a gt))
      ]

  -- who is above a group and is another is above its parent
  pub above_parent : (a g : ℕ) → a ≢ g → under tree a g ≡ true → under_at tree a (node_at tree g).parent ≡ true
  above_parent a g differs up = let other : (a == g) ≡ false = grind (arith, differs) in sym (under_at-step tree is a g ∙ ap (λ b. b || under_at tree a (node_at tree g).parent) other) ∙ up

  below_parent : (a g p : ℕ) → (node_at tree g).parent ≡ Some p → under tree a p ≡ true → under tree a g ≡ true
  below_parent a g p parent up = under_at-step tree is a g ∙ ap (λ b. (a == g) || b) (ap (under_at tree a) parent ∙ up) ∙ or_true (a == g)
    where
      or_true : (b : Bool) → (b || true) ≡ true
      or_true true = refl
      or_true false = refl

  at_limit : IsHighest limit (kill_group tree flags limit limit)
  at_limit = subst (IsHighest limit) (sym (ap (last_flagged None) chain_to-own ∙ last-step None limit [])) (by_flag (is_flagged flags limit) refl)
    where
      by_flag : (b : Bool) → is_flagged flags limit ≡ b → IsHighest limit (cond b (Some limit) None)
      by_flag true has = (has, under-self limit, under-self limit, λ a up down differs. absurd (differs (one a limit down up)))
      by_flag false lacks = λ a up down. ap (is_flagged flags) (one a limit down up) ∙ lacks

  above : (g p : ℕ) → limit ≢ g → under tree limit g ≡ true → (node_at tree g).parent ≡ Some p → IsHighest p (kill_group tree flags limit p) → IsHighest g (kill_group tree flags limit g)
  above g p differs up parent h = subst (IsHighest g) (sym (ap (last_flagged None) (chain_to-step g p differs parent) ∙ last-step None g (chain_to tree limit p))) (by_rest (kill_group tree flags limit p) refl h)
    where
      to_parent : (a : ℕ) → a ≢ g → under tree a g ≡ true → under tree a p ≡ true
      to_parent a other down = sym (ap (under_at tree a) parent) ∙ above_parent a g other down

      own : ((a : ℕ) → under tree limit a ≡ true → under tree a p ≡ true → is_flagged flags a ≡ false) → (b : Bool) → is_flagged flags g ≡ b → IsHighest g (cond b (Some g) None)
      own none true has = (has, up, under-self g, λ a within down other. none a within (to_parent a other down))
      own none false lacks = λ a within down. elim (eq_cases a g) [ inl same ↦ ap (is_flagged flags) same ∙ lacks | inr other ↦ none a within (to_parent a other down) ]

      by_rest : (k : Option ℕ) → kill_group tree flags limit p ≡ k → IsHighest p k → IsHighest g (last_flagged (cond (is_flagged flags g) (Some g) None) (chain_to tree limit p))
      by_rest None e none = subst (IsHighest g) (sym (last-none _ (filter (is_flagged flags) (chain_to tree limit p)) e)) (own none (is_flagged flags g) refl)
      by_rest (Some k) e found = subst (IsHighest g) (sym (last-some _ (filter (is_flagged flags) (chain_to tree limit p)) k e)) (found.0, found.1, below_parent k g p parent found.2, found.3)

  by_parent : (g : ℕ) (parent : Option ℕ) → (node_at tree g).parent ≡ parent → limit ≢ g → under tree limit g ≡ true → ((p : ℕ) → p < g → under tree limit p ≡ true → IsHighest p (kill_group tree flags limit p))
      → IsHighest g (kill_group tree flags limit g)
  by_parent g None e differs up rest = absurd (unlike (under_at tree limit (node_at tree g).parent) (above_parent limit g differs up) (ap (under_at tree limit) e ∙ under_at-None tree is limit))
  by_parent g (Some p) e differs up rest = above g p differs up e (rest p (is.falls g p e) (sym (ap (under_at tree limit) e) ∙ above_parent limit g differs up))

  by_bound : (n g : ℕ) → g < n → under tree limit g ≡ true → IsHighest g (kill_group tree flags limit g)
  by_bound zero g lt up = absurd (omega (arith, lt))
  by_bound (suc n) g lt up =
      elim (eq_cases limit g) [
        | inl same ↦ subst (λ (x : ℕ). IsHighest x (kill_group tree flags limit x)) same at_limit
        | inr differs ↦ by_parent g (node_at tree g).parent refl differs up (λ p less within. by_bound n p (omega (arith, lt, less)) within)
      ]

  pub kill_group-highest : (g : ℕ) → under tree limit g ≡ true → IsHighest g (kill_group tree flags limit g)
  kill_group-highest g up = by_bound (suc g) g (omega arith) up
