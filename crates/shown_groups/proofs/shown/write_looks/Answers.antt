use Rattle.std.proofs.Common.{◌≡◌, ℕ, ◌+◌, ◌≤◌, List, [], ◌∷◌, ◌++◌, map, take, length, get_or, Option, None, ap, sym, subst, ◌∙◌, Bor, arith}
use Rattle.std.proofs.lemmas.List.{take_more, take_all, map-append, length-map, length-take-le}
use Rattle.std.specs.Io.KnownBytes.{Appends}
use Rattle.std.proofs.KnownBytes.{Appends-trans}
use Rattle.live.specs.declared.looks.EndLook.{EndLook}
use Rattle.shown_groups.specs.Looks.{look_text, looks_text}
use Rattle.shown_groups.proofs.LookLemmas.{looks-taken}
use Rattle.shown_groups.proofs.shown.write_looks.Goals as goal

pub loop-at-preserved : goal.loop-at-preserved
loop-at-preserved g c =
    let paths : List (Bor (List ℕ)) = c.args.paths.now in
    let looks : List (Option EndLook) = c.args.looks.now in
    let none : Bor (List ℕ) = record { ref_ptr = (0, 0); now = [] } in
    let i : ℕ = c.loop-at.at in
    subst (Appends (g.O.Write.contents c.args.out.now) (g.O.Write.contents c.write_look.new.out)) (sym (looks-taken c.args.page_size.bytes c.args.missing paths looks none i c.loop-at-test.true c.requires))
    (Appends-trans _ _ _ (looks_text c.args.page_size.bytes c.args.missing (map (λ (p : Bor (List ℕ)). p.now) (take i paths)) (take i looks)) (look_text c.args.page_size.bytes c.args.missing (get_or paths i none).now (get_or looks i None)) c.loop-at.invariant c.in_ok-write_look.ensures)
