use Rattle.std.proofs.Common.{◌≡◌, ◌++◌, map, take, ℕ, List, sym, ap, ◌∙◌, Bor, append-nil}
use Rattle.printer.specs.Paths.{firsts}
use Rattle.printer.proofs.PathLemmas.{begun_in, begun-more, with-new, with-known}
use Rattle.printer.proofs.source.paths_of.Goals as goal
use Rattle.printer.proofs.source.paths_of.Goals.{in-Some+in_ok-insert+then-branch+in_ok-push, in-Some+in_ok-insert+else-branch, in_default}

pub loop-line-preserved : goal.loop-line-preserved
loop-line-preserved c =
    let lines = c.lines-line-items.result.now in
    let i : ℕ = c.loop-line.line-index in
    let made = begun-more lines i c.line-item.result c.loop-line-test.true c.line-item.is in
    let same = c.loop-line.invariant.same in
    let first = c.loop-line.invariant.first in
    let more = λ (paths : List (List ℕ)) (is : _ ≡ paths). made ∙ ap (λ (ps : List (List ℕ)). begun_in (take i lines) ++ ps) is in
    elim c.match-path_made.branch [
      | in-Some+in_ok-insert+then-branch+in_ok-push w ↦
          let r = w.in_ok-insert.ensures in
          let parts = with-new _ _ _ w.in-Some.path first (more _ w.in-Some.ensures.made) _ _ _ same r.added r.keys w.if-branch.true _ w.in_ok-push.ensures.items in
          record { same = ap (λ s. s.keys) w.known-is ∙ parts.0 ∙ sym (ap (λ p. p.items) w.paths-is); first = ap (λ p. map (λ (q : Bor (List ℕ)). q.now) p.items) w.paths-is ∙ parts.1 }
      | in-Some+in_ok-insert+else-branch w ↦
          let r = w.in_ok-insert.ensures in
          let parts = with-known _ _ _ w.in-Some.path first (more _ w.in-Some.ensures.made) _ _ _ same r.added r.keys w.if-branch.false in
          record { same = ap (λ s. s.keys) w.known-is ∙ parts.0 ∙ sym (ap (λ p. p.items) w.paths-is); first = ap (λ p. map (λ (q : Bor (List ℕ)). q.now) p.items) w.paths-is ∙ parts.1 }
      | in_default w ↦ record {
        same = ap (λ s. s.keys) w.known-is ∙ same ∙ sym (ap (λ p. p.items) w.paths-is);
        first = ap (λ p. map (λ (q : Bor (List ℕ)). q.now) p.items) w.paths-is ∙ first ∙ ap firsts (sym (more _ w.in_default.ensures.other ∙ append-nil _));
      }
    ]
