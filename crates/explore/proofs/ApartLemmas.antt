-- The rows of a script's work are apart, so nothing is lost if calls of the device come first.
use Rattle.std.proofs.Common.{◌≡◌, ℕ, ◌<◌, ◌≤◌, Bool, true, false, ltb, List, [], ◌∷◌, ◌++◌, map, Some, refl, sym, ap, ◌∙◌, subst, arith}
use Rattle.std.specs.Prelude.{fold, slice_get, slice_index_or, if◌then◌else◌}
use Rattle.std.specs.Option.{option_map}
use Rattle.std.specs.List.{filter_map}
use Rattle.std.specs.List.Sorted.{IsStrictlyIncreasing}
use Rattle.std.proofs.lemmas.Bool.{ltb-true, ltb-false}
use Rattle.std.proofs.lemmas.Option.{slice_get-map, slice_get_within, get_or_from_slice_get}
use Rattle.std.proofs.lemmas.List.Kept.{AllPairs-from_increasing}
use Rattle.machine.specs.declared.command.Actor.{Actor}
use Rattle.machine.specs.declared.command.Actor.TheVariants as actor
use Rattle.machine.specs.declared.command.Command.{Command}
use Rattle.machine.specs.declared.command.Command.TheVariants.{Exit}
use Rattle.machine.specs.declared.command.Step.{Step}
use Rattle.machine.specs.declared.command.Step.TheVariants.{Begin}
use Rattle.driver.specs.Schedule.{number_of as number_in}
use Rattle.scripts.specs.declared.meaning.Item.{Item}
use Rattle.scripts.specs.Work.{before_go, number_of, commands_by, with_actor, actors_of, numbers_of}
use Rattle.scripts.proofs.WorkLemmas.{work_is_whole}
use Rattle.explorer.specs.declared.choice.Choice.{Choice}
use Rattle.explorer.specs.declared.choice.Choice.TheVariants.{Any, DeviceFirst}
use Rattle.explorer.specs.declared.parts.Parts.{Parts}
use Rattle.explorer.specs.declared.parts.Row.{Row}
use Rattle.explorer.specs.Outcome.{no_call_fails, choice_in}
use Rattle.exchange.specs.Outcomes.{AreApart, LosesNothing}
use Rattle.exchange.proofs.Outcomes.{device_first_loses_nothing}
use Rattle.division.proofs.RowLemmas.{Mapped, mapped}
use Rattle.division.specs.Division.{shown_row, row_in, begun_by, left_by, actors_in, worked_in, IsDivided}

-- ---- the actors' numbers

-- what each of these actors is asked for, to make work of them
abbrev asked_of : List Actor → List (Actor × Command)
asked_of actors = map (λ (who : Actor). (who, Exit)) actors

same_fold : (found actors : List Actor) → fold (λ (bs : List Actor) (p : Actor × Command). with_actor bs p.0) found (asked_of actors) ≡ fold with_actor found actors
same_fold found [] = refl
same_fold found (who ∷ actors) = same_fold (with_actor found who) actors

numbers_map : (ps : List (Actor × Command)) (actors : List Actor) → numbers_of (map (λ (who : Actor). (who, commands_by who ps)) actors) ≡ map number_of actors
numbers_map ps [] = refl
numbers_map ps (who ∷ actors) = ap (λ (l : List ℕ). number_of who ∷ l) (numbers_map ps actors)

rising : (actors : List Actor) → IsStrictlyIncreasing (map number_of (fold with_actor [] actors))
rising actors =
    let P : List ℕ → Type 0 = λ (l : List ℕ). IsStrictlyIncreasing l in
    subst P (numbers_map (asked_of actors) (actors_of (asked_of actors)) ∙ ap (λ (l : List Actor). map number_of l) (same_fold [] actors)) (work_is_whole (asked_of actors)).rising

-- two places of one number are the same
one_place : (xs : List ℕ) (i j n : ℕ) → IsStrictlyIncreasing xs → slice_get xs i ≡ Some n → slice_get xs j ≡ Some n → i ≡ j
one_place xs i j n h e f = below (ltb i j) refl
  where
    less : (a b : ℕ) → slice_get xs a ≡ Some n → slice_get xs b ≡ Some n → a < b → ⊥
    less a b ea eb lt =
        let pair : slice_index_or xs a n < slice_index_or xs b n = AllPairs-from_increasing xs h a b n lt (slice_get_within xs b n eb) in
        let at_a : slice_index_or xs a n ≡ n = get_or_from_slice_get xs a n n ea in
        let at_b : slice_index_or xs b n ≡ n = get_or_from_slice_get xs b n n eb in
        omega (arith, pair, at_a, at_b)

    above : (b : Bool) → ltb j i ≡ b → j ≤ i → i ≡ j
    above true g le = absurd (less j i f e (ltb-true _ _ g))
    above false g le = let ge : i ≤ j = ltb-false _ _ g in omega (arith, le, ge)

    below : (b : Bool) → ltb i j ≡ b → i ≡ j
    below true g = absurd (less i j e f (ltb-true _ _ g))
    below false g = above (ltb j i) refl (ltb-false _ _ g)

same_numbers : (who : Actor) → number_in who ≡ number_of who
same_numbers actor.Shell = refl
same_numbers actor.Control = refl
same_numbers actor.Daemon = refl
same_numbers (actor.Task n) = refl

-- ---- the rows

module _ (is : List Item) (parts : Parts) (divided : IsDivided is parts) where
  row_of : (place : ℕ) (row : Row) → slice_get parts.rows.items place ≡ Some row → Mapped (row_in is) (actors_in is) place (shown_row row)
  row_of place row e =
      mapped (row_in is) (actors_in is) place (shown_row row)
      (ap (λ (l : List (Actor × List Step)). slice_get l place) (sym divided.rows) ∙ (slice_get-map shown_row parts.rows.items place ∙ ap (option_map shown_row) e))

  own : (place k : ℕ) (row : Row) (step : Step) → slice_get parts.rows.items place ≡ Some row → slice_get row.lines.items k ≡ Some step → (what : Command) × (step ≡ Begin row.actor what)
  own place k row step there e =
      let m : Mapped (row_in is) (actors_in is) place (shown_row row) = row_of place row there in
      let who : m.x ≡ row.actor = ap (λ (p : Actor × List Step). p.0) m.is in
      let lines : begun_by is m.x ≡ row.lines.items = ap (λ (p : Actor × List Step). p.1) m.is in
      let c : Mapped (Begin m.x) (commands_by m.x (worked_in is)) k step = mapped (Begin m.x) (commands_by m.x (worked_in is)) k step (ap (λ (l : List Step). slice_get l k) lines ∙ e) in
      (c.x, sym c.is ∙ ap (λ (a : Actor). Begin a c.x) who)

  number_at : (place : ℕ) (row : Row) → slice_get parts.rows.items place ≡ Some row → slice_get (map number_of (actors_in is)) place ≡ Some (number_in row.actor)
  number_at place row there =
      let m : Mapped (row_in is) (actors_in is) place (shown_row row) = row_of place row there in
      let who : m.x ≡ row.actor = ap (λ (p : Actor × List Step). p.0) m.is in
      slice_get-map number_of (actors_in is) place ∙ (ap (option_map number_of) m.there ∙ ap (λ (n : ℕ). Some n) (ap number_of who ∙ sym (same_numbers row.actor)))

  apart : (i j : ℕ) (a b : Row) → slice_get parts.rows.items i ≡ Some a → slice_get parts.rows.items j ≡ Some b → number_in a.actor ≡ number_in b.actor → i ≡ j
  apart i j a b e f same = one_place (map number_of (actors_in is)) i j (number_in a.actor) (rising (filter_map left_by (before_go is) ++ map (λ (asked : Actor × Command). asked.0) (worked_in is))) (number_at i a e) (number_at j b f ∙ ap (λ (n : ℕ). Some n) (sym same))

  are_apart : AreApart parts.rows.items
  are_apart = record { own = own; apart = apart }

-- ---- nothing is lost

loses_by : (choice : Choice) (parts : Parts) → no_call_fails parts ≡ true → AreApart parts.rows.items → LosesNothing choice parts
loses_by Any parts none h = λ run busy outcome is. (run, refl, is)
loses_by DeviceFirst parts none h = device_first_loses_nothing parts none h

pub loses_nothing : (choice : Choice) (is : List Item) (parts : Parts) → IsDivided is parts → LosesNothing (choice_in parts choice) parts
loses_nothing choice is parts divided = by (no_call_fails parts) refl
  where
    by : (b : Bool) → no_call_fails parts ≡ b → LosesNothing (if b then choice else Any) parts
    by true e = loses_by choice parts e (are_apart is parts divided)
    by false e = λ run busy outcome h. (run, refl, h)
