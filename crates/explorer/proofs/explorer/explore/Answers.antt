use Rattle.std.proofs.Common.{◌∙◌}
use Rattle.explorer.specs.declared.explorer.Exploration.{Exploration}
use Rattle.explorer.specs.Outcome.{choice_in}
use Rattle.explorer.specs.Explored.{findings, Explored}
use Rattle.explorer.proofs.ExploredLemmas.{finds, too_long, explored, found-of, holds-of}
use Rattle.explorer.proofs.explorer.explore.Goals as goal

pub returns : goal.returns
returns c =
    let m = c.walk_all-walked.new.machine in
    let parts = c.args.parts.now in
    let choice = choice_in parts c.args.choice in
    let waits = c.args.waits in
    found-of c.close.result c.walk_all-walked.result m.table m.left_out m.shortest m.longest _ (λ (f : Exploration). Explored choice parts waits c.args.turns c.args.orders f.walk (findings f)) c.walk_all-walked.ensures.walked c.close.ensures
    (λ f w h.
    let stays = holds-of c.walk_all-walked.result f.walk _ h.walk_is c.walk_all-walked.ensures.stays in
    let same = stays.1 ∙ c.in_ok-explorer.ensures.choice ∙ c.choice.ensures in
    let whole = stays.0 ∙ c.in_ok-explorer.ensures.parts in
    explored choice parts waits (findings f) c.args.turns c.args.orders f.walk _ _ _ m
    (record {
      gathers = λ runs g. finds choice parts waits (findings f) m.choice m.parts.now m.waits runs m.table m.left_out m.shortest m.longest
          (record { choice_is = same; parts_are = whole; waits_is = stays.2 ∙ c.in_ok-explorer.ensures.waits; rows_are = h.rows_are; left_is = h.left_out_is; shortest_is = h.shortest_is; longest_is = h.longest_is }) g;
      cuts = λ cut. too_long m.run choice m.choice parts m.parts.now cut.run m.begun.items m.said.items m.path.items cut.ready c.args.turns same whole cut.comes cut.may_be cut.count_is cut.some;
    }) w)
