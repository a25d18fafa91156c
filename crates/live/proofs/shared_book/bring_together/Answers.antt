use Rattle.std.proofs.Common.{◌≡◌, ◌∙◌, sym, ap, [], ◌∷◌, ◌++◌, List, length, arith}
use Rattle.live.specs.declared.history.Row.{Row}
use Rattle.live.specs.declared.history.View.{View}
use Rattle.live.specs.Logs.{EndingOf}
use Rattle.live.specs.Rules.{row, joined}
use Rattle.live.specs.Shared.{rows_of}
use Rattle.live.proofs.EndLemmas.{joined-rows, rows-moved, ended-moved}
use Rattle.live.proofs.shared_book.bring_together.Goals as goal

pub loop-pass-preserved : goal.loop-pass-preserved
loop-pass-preserved g c =
    let inv = c.loop-pass.invariant in
    let view = c.loop-pass.ending.view in
    let first = c.args.ending.view in
    let pass = c.in-Some.pass in
    let rows = row pass.caller.worker pass.exchanges ∷ [] in
    let left = c.pop.new.self.items in
    let now : c.take.new.self.view ≡ record view { rows = rows ++ view.rows } =
    ap (λ (e : EndingOf). e.view) c.take.ensures.taken ∙ (ap (λ (v : View). joined view v) (ap (λ m. m.0) c.end-pass.ensures.front) ∙ joined-rows view rows) in
    let rows-now = ap (λ (v : View). v.rows) now in
    record {
      table = ap (λ (e : EndingOf). e.table) c.take.ensures.taken ∙ inv.table;
      view = now ∙ (ap (λ (v : View). record v { rows = rows ++ view.rows }) inv.view ∙ ap (λ (r : List Row). record first { rows = r }) (sym rows-now));
      rows = ap (λ (r : List Row). rows_of left ++ r) rows-now ∙ (rows-moved c.loop-pass.passes.items left pass view.rows c.in-Some.ensures.items ∙ inv.rows);
      ended = ended-moved c.loop-pass.passes.items left pass c.loop-pass.ended.items c.push_reserved.new.self.items c.end-pass.result.0 c.in-Some.ensures.items c.end-pass.ensures.pass c.push_reserved.ensures.items ∙ inv.ended;
      count = omega (arith, c.push_reserved.ensures.len, inv.count, ap length rows-now);
      room = c.push_reserved.ensures.capacity ∙ inv.room;
    }
