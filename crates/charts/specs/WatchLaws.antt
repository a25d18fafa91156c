-- How rows go on as a run is watched. The laws of a sink take none from `proofs`, so their proofs stand here.
use Rattle.std.specs.Prelude.{Bool, false}
use Rattle.std.specs.List.{AllByRecursion}
use Rattle.std.proofs.Common.{◌≡◌, ℕ, List, [], ◌∷◌, ◌++◌, map, refl, sym, ap, ◌∙◌, append_assoc, append-nil, subst}
use Rattle.std.proofs.lemmas.List.{map-append}
use Rattle.machine.specs.Call.{Past}
use Rattle.charts.specs.declared.watching.Sizes.{Sizes}
use Rattle.charts.specs.declared.watching.Row.{Row}
use Rattle.charts.specs.Watched.{Seen, seen_at, expanded}

-- the book of that time was opened for a machine of these sizes; it has no files where that is said
pub record IsOpened (sizes : Sizes) (past : Past) : Type 0 where
  pub frames : past.state.opening.frames ≡ sizes.frames
  pub swap : past.state.opening.swap ≡ sizes.swap
  pub files : sizes.has_files ≡ false → past.state.opening.files ≡ []

abbrev pub AreOpened : Sizes → List Past → Type 0
AreOpened sizes pasts = AllByRecursion (IsOpened sizes) pasts

-- from the one to the other the rows went on by what is shown in each of these pasts, unless memory was refused; what is watched stayed the same
pub record IsShown (lost lost' detailed detailed' : Bool) (sizes sizes' : Sizes) (paths paths' : List (List ℕ)) (old new : List Row) (pasts : List Past) : Type 0 where
  pub same_detail : detailed' ≡ detailed
  pub same_sizes : sizes' ≡ sizes
  pub same_paths : paths' ≡ paths
  pub kept : lost' ≡ false → lost ≡ false
  pub rows : lost' ≡ false → AreOpened sizes pasts → expanded new ≡ expanded old ++ map (seen_at detailed paths) pasts

pub shown-none : (lost detailed : Bool) (sizes : Sizes) (paths : List (List ℕ)) (rows : List Row) → IsShown lost lost detailed detailed sizes sizes paths paths rows rows []
shown-none lost detailed sizes paths rows = record { same_detail = refl; same_sizes = refl; same_paths = refl; kept = λ e. e; rows = λ e opened. sym (append-nil (expanded rows)) }

opened-first : (sizes : Sizes) (first second : List Past) → AreOpened sizes (first ++ second) → AreOpened sizes first
opened-first sizes [] second all = tt
opened-first sizes (past ∷ first) second all = (all.0, opened-first sizes first second all.1)

opened-second : (sizes : Sizes) (first second : List Past) → AreOpened sizes (first ++ second) → AreOpened sizes second
opened-second sizes [] second all = all
opened-second sizes (past ∷ first) second all = opened-second sizes first second all.1

pub shown-more : (l m n d e f : Bool) (o p q : Sizes) (ps qs rs : List (List ℕ)) (a b c : List Row) (first second : List Past)
    → IsShown l m d e o p ps qs a b first → IsShown m n e f p q qs rs b c second → IsShown l n d f o q ps rs a c (first ++ second)
shown-more l m n d e f o p q ps qs rs a b c first second h k =
    record {
      same_detail = k.same_detail ∙ h.same_detail;
      same_sizes = k.same_sizes ∙ h.same_sizes;
      same_paths = k.same_paths ∙ h.same_paths;
      kept = λ z. h.kept (k.kept z);
      rows = λ z opened.
          k.rows z (subst (λ (s : Sizes). AreOpened s second) (sym h.same_sizes) (opened-second o first second opened))
          ∙ ap (λ (xs : List Seen). xs ++ map (seen_at e qs) second) (h.rows (k.kept z) (opened-first o first second opened))
          ∙ append_assoc (expanded a) (map (seen_at d ps) first) (map (seen_at e qs) second)
          ∙ ap (λ (r : Past → Seen). expanded a ++ (map (seen_at d ps) first ++ map r second)) (ap (λ (z : Bool). seen_at z qs) h.same_detail ∙ ap (λ (zs : List (List ℕ)). seen_at d zs) h.same_paths)
          ∙ ap (λ (xs : List Seen). expanded a ++ xs) (sym (map-append (seen_at d ps) first second));
    }
