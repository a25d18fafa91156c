-- Turns that may go first. Let a turn of this kind change places with each turn of another actor before it, and say nothing. Then each whole walk has one with the same end that
-- says the same, in which such a turn is taken as soon as it is picked.
use Rattle.std.proofs.Common.{◌≡◌, ℕ, zero, suc, ◌+◌, List, [], ◌∷◌, ◌++◌, length, refl, sym, ◌∙◌, ap, subst, inl, inr, arith, Option, Some, None}
use Rattle.std.specs.Prelude.{◌⊎◌}

-- turns, one after the other
abbrev pub Walk : {W A O : Type 0} → (W → A → O → W → Type 0) → W → List (A × O) → W → Type 0
Walk Step w [] v = w ≡ v
Walk {W} Step w (t ∷ ts) v = (m : W) × Step w t.0 t.1 m × Walk Step m ts v

-- the same, where at each point at which one is picked it is that one's turn
abbrev pub WalkBy : {W A O : Type 0} → (W → A → O → W → Type 0) → (W → Option A) → W → List (A × O) → W → Type 0
WalkBy Step pick w [] v = w ≡ v
WalkBy {W} {A} Step pick w (t ∷ ts) v = (m : W) × Step w t.0 t.1 m × ((b : A) → pick w ≡ Some b → t.0 ≡ b) × WalkBy Step pick m ts v

-- what all of them say
abbrev pub all_said : {A O S : Type 0} → (A → O → List S) → List (A × O) → List S
all_said says [] = []
all_said says (t ∷ ts) = says t.0 t.1 ++ all_said says ts

pub record MayGoFirst {W A O S : Type 0} (Step : W → A → O → W → Type 0) (First : W → A → Type 0) (End : W → Type 0) (says : A → O → List S) : Type 0 where
  -- two are the same, or are not
  pub same : (a b : A) → (a ≡ b) ⊎ (a ≡ b → ⊥)
  -- what others do leaves it one that may go first
  pub stays : (w m : W) (a b : A) (o : O) → (a ≡ b → ⊥) → First w b → Step w a o m → First m b
  -- it may change places with a turn before it
  pub exchange : (w m v : W) (a b : A) (o p : O) → (a ≡ b → ⊥) → First w b → Step w a o m → Step m b p v → (u : W) × Step w b p u × Step u a o v
  pub silent : (w m : W) (b : A) (p : O) → First w b → Step w b p m → says b p ≡ []
  -- nobody is left with one at the end
  pub over : (v : W) (b : A) → End v → First v b → ⊥

module _ {W A O S : Type 0} (Step : W → A → O → W → Type 0) (First : W → A → Type 0) (End : W → Type 0) (says : A → O → List S) (may : MayGoFirst Step First End says) where
  -- a walk with the turn of who may go first taken out of its place
  record Fronted (w : W) (ts : List (A × O)) (v : W) (b : A) : Type 0 where
    shows : O
    rest : List (A × O)
    mid : W
    turn : Step w b shows mid
    walk : Walk Step mid rest v
    said : all_said says rest ≡ all_said says ts
    one_less : length rest + 1 ≡ length ts

  front : (ts : List (A × O)) (w v : W) (b : A) → First w b → Walk Step w ts v → End v → Fronted w ts v b
  front [] w v b first e end = let P : W → Type 0 = λ (u : W). First u b in absurd (may.over v b end (subst P e first))
  front (t ∷ ts) w v b first h end = at (may.same t.0 b) (λ ne. front ts h.0 v b (may.stays w h.0 t.0 b t.1 ne first h.1) h.2 end)
    where
      at : (t.0 ≡ b) ⊎ (t.0 ≡ b → ⊥) → ((t.0 ≡ b → ⊥) → Fronted h.0 ts v b) → Fronted w (t ∷ ts) v b
      at (inl e) ih =
          let P : A → Type 0 = λ (a : A). Step w a t.1 h.0 in
          let turn : Step w b t.1 h.0 = subst P e h.1 in
          let quiet : says t.0 t.1 ≡ [] = ap (λ (a : A). says a t.1) e ∙ may.silent w h.0 b t.1 first turn in
          record { shows = t.1; rest = ts; mid = h.0; turn = turn; walk = h.2; said = sym (ap (λ (l : List S). l ++ all_said says ts) quiet); one_less = omega arith }
      at (inr ne) ih =
          let f : Fronted h.0 ts v b = ih ne in
          let x : (u : W) × Step w b f.shows u × Step u t.0 t.1 f.mid = may.exchange w h.0 f.mid t.0 b t.1 f.shows ne first h.1 f.turn in
          let less : length f.rest + 1 ≡ length ts = f.one_less in
          record { shows = f.shows; rest = t ∷ f.rest; mid = x.0; turn = x.1; walk = (f.mid, x.2, f.walk); said = ap (λ (l : List S). says t.0 t.1 ++ l) f.said; one_less = omega arith }

  -- a walk that goes as is picked, says the same, and has as many turns
  abbrev Picked : (W → Option A) → W → List (A × O) → W → Type 0
  Picked pick w ts v = (found : List (A × O)) × WalkBy Step pick w found v × (all_said says found ≡ all_said says ts) × (length found ≡ length ts)

  pub picked : (pick : W → Option A) → ((w : W) (b : A) → pick w ≡ Some b → First w b) → (n : ℕ) (ts : List (A × O)) (w v : W) → length ts ≡ n → Walk Step w ts v → End v → Picked pick w ts v
  picked pick picks zero [] w v n e end = ([], e, refl, refl)
  picked pick picks zero (t ∷ ts) w v n h end = absurd (omega arith)
  picked pick picks (suc k) [] w v n e end = absurd (omega arith)
  picked pick picks (suc k) (t ∷ ts) w v n h end =
      at (pick w) refl
      (picked pick picks k ts h.0 v (omega arith) h.2 end)
      (λ b is. let f : Fronted w (t ∷ ts) v b = front (t ∷ ts) w v b (picks w b is) h end in
      let less : length f.rest + 1 ≡ suc (length ts) = f.one_less in
      (f, picked pick picks k f.rest f.mid v (omega arith) f.walk end))
    where
      at : (o : Option A) → pick w ≡ o → Picked pick h.0 ts v → ((b : A) → pick w ≡ Some b → (f : Fronted w (t ∷ ts) v b) × Picked pick f.mid f.rest v) → Picked pick w (t ∷ ts) v
      at None is tail fronted =
          (t ∷ tail.0, (h.0, h.1, (λ b e. let no_one : (let o : Option A = None in o) ≡ Some b = sym is ∙ e in cc), tail.1), ap (λ (l : List S). says t.0 t.1 ++ l) tail.2, ap suc tail.3)
      at (Some b) is tail fronted =
          let r : (f : Fronted w (t ∷ ts) v b) × Picked pick f.mid f.rest v = fronted b is in
          let quiet : says b r.0.shows ≡ [] = may.silent w r.0.mid b r.0.shows (picks w b is) r.0.turn in
          let less : length r.0.rest + 1 ≡ suc (length ts) = r.0.one_less in
          let as_many : length r.1.0 ≡ length r.0.rest = r.1.3 in (
            (b, r.0.shows) ∷ r.1.0,
            (r.0.mid, r.0.turn, (λ c e. let one : (let o : Option A = Some b in o) ≡ Some c = sym is ∙ e in cc), r.1.1),
            ap (λ (l : List S). l ++ all_said says r.1.0) quiet ∙ (r.1.2 ∙ r.0.said),
            omega (arith, less, as_many),
          )
