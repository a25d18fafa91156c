use Rattle.std.proofs.Common.{◌≡◌, ◌<◌, List, None, length, refl, sym, ap, ◌∙◌, rules}
use Rattle.scenarios.specs.Words.{TextWord}
use Rattle.scenarios.specs.Lines.{kind_of}
use Rattle.scenarios.specs.Scenario.{place_fault}
use Rattle.scenarios.specs.Building.{before_of}
use Rattle.scenarios.proofs.BlockLemmas.{line_goes_on, line_keeps_open}
use Rattle.scenarios.proofs.scenario.Reading.add_line.Goals as goal

pub returns-clause-goes : goal.returns-clause-goes
returns-clause-goes c =
    let ws = c.in_ok-words.words.items in
    let fits : place_fault c.args.number (before_of c.args.self.now) (kind_of ws) ws ≡ None =
    ap (λ (vs : List TextWord). place_fault c.args.number (before_of c.args.self.now) (kind_of vs) vs) (sym c.as_slice.ensures.value) ∙ sym c.place_fault.ensures ∙ c.in_default.is in
    let some : 0 < length ws = search rules in
    λ more. line_goes_on c.args.number (before_of c.args.self.now) (before_of c.keep.new.self) c.args.self.now.lines.items c.keep.new.self.lines.items c.args.bytes.now ws more
    c.in_ok-words.ensures some fits refl c.in_ok-keep.ensures.before c.in_ok-keep.ensures.lines

pub returns-clause-places : goal.returns-clause-places
returns-clause-places c =
    let ws = c.in_ok-words.words.items in
    let fits : place_fault c.args.number (before_of c.args.self.now) (kind_of ws) ws ≡ None =
    ap (λ (vs : List TextWord). place_fault c.args.number (before_of c.args.self.now) (kind_of vs) vs) (sym c.as_slice.ensures.value) ∙ sym c.place_fault.ensures ∙ c.in_default.is in
    line_keeps_open c.args.number (before_of c.args.self.now) (before_of c.keep.new.self) c.args.self.now.lines.items c.keep.new.self.lines.items ws fits refl c.in_ok-keep.ensures.before c.in_ok-keep.ensures.lines
    c.requires
