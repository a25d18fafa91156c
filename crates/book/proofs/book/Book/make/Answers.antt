use Rattle.std.proofs.Common.{◌≡◌, ℕ, List, [], length, sym, ap, subst, arith}
use Rattle.std.specs.Prelude.{reverse}
use Rattle.std.proofs.lemmas.Bool.Decides.{nat_tests}
use Rattle.machine.specs.declared.entry.Entry.{Entry}
use Rattle.machine.specs.Pages.{in_transfer}
use Rattle.machine.specs.State.{State, page_numbers, opening_of}
use Rattle.trace.specs.Traces.{TraceOf}
use Rattle.book.specs.Told.{IsHistory}
use Rattle.book.proofs.HistoryLemmas.{told-first}
use Rattle.book.proofs.book.Book.make.Goals as goal

pub invariant_of-result : goal.invariant_of-result
invariant_of-result c =
    let s = c.in_ok-state.state in
    let state = c.in_ok-state.ensures in
    let told = told-first s (opening_of c.args.config) c.in_ok-takers.takers.items state.tables state.order state.flights state.bytes in
    let entries = ap (λ (t : TraceOf). t.entries) c.in_ok-trace.ensures in
    let room = ap (λ (t : TraceOf). t.limit) c.in_ok-trace.ensures in
    let none = ap (λ (es : List Entry). length es) entries in
    let moving : in_transfer s.tables.pages ≡ 0 = ap (λ (s : State). in_transfer s.pages) state.tables in
    let limit = ap (λ (s : State). s.opening.trace_limit) state.tables in
    let numbers = ap (λ (s : State). page_numbers s.opening) state.tables in
    let all = c.in_ok-takers.ensures in
    let passes = ap (λ (counts : List ℕ). length counts) c.new.ensures.items in
    record {
      told = subst (λ (es : List Entry). IsHistory s (reverse es) c.new.result.items c.in_ok-takers.takers.items) (sym entries) (subst (λ (counts : List ℕ). IsHistory s [] counts c.in_ok-takers.takers.items) (sym c.new.ensures.items) told);
      within = omega (arith, none, moving);
      room = omega (arith, limit, room);
      few = omega (arith, passes);
      takers = omega (arith, numbers, all);
    }

-- the limit of the trace is within that of all traces
pub open-requires : goal.open-requires
open-requires c = grind (arith, nat_tests, c.requires)
