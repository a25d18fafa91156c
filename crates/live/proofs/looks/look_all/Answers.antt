use Rattle.std.proofs.Common.{◌≡◌, ℕ, List, [], ◌∷◌, ◌++◌, map, take, get_or, Option, ap, sym, ◌∙◌, Bor}
use Rattle.std.proofs.lemmas.List.{take_more, take_all, map-append}
use Rattle.live.specs.declared.looks.EndLook.{EndLook}
use Rattle.live.specs.Looks.{end_look}
use Rattle.live.proofs.LookLemmas.{map-now}
use Rattle.live.proofs.looks.look_all.Goals as goal

pub loop-path-preserved : goal.loop-path-preserved
loop-path-preserved c =
    let f : Bor (List ℕ) → Option EndLook = λ p. end_look c.args.book.now.state p.now in
    let paths : List (Bor (List ℕ)) = c.args.paths.now in
    let none : Bor (List ℕ) = record { ref_ptr = (0, 0); now = [] } in
    let i : ℕ = c.loop-path.path-index in
    record {
      items = c.push_reserved.ensures.items
          ∙ ap (λ (l : List (Option EndLook)). l ++ c.look.result ∷ []) c.loop-path.invariant.items
          ∙ ap (λ (one : Option EndLook). map f (take i paths) ++ one ∷ []) c.look.ensures
          ∙ sym (ap (λ (ps : List (Bor (List ℕ))). map f ps) (take_more paths i none c.loop-path-test.true) ∙ map-append f (take i paths) (get_or paths i none ∷ []));
      room = c.push_reserved.ensures.capacity ∙ c.loop-path.invariant.room;
    }

pub returns : goal.returns
returns c =
    let f : Bor (List ℕ) → Option EndLook = λ p. end_look c.args.book.now.state p.now in
    let paths : List (Bor (List ℕ)) = c.args.paths.now in
    c.loop-path.invariant.items
    ∙ ap (λ (ps : List (Bor (List ℕ))). map f ps) (take_all c.loop-path.path-index paths c.loop-path-test.false)
    ∙ map-now (end_look c.args.book.now.state) paths
