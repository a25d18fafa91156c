use Rattle.std.proofs.Common.{◌≡◌, ℕ, reverse, sym, rules, length, subst, List}
use Rattle.machine.specs.declared.entry.Entry.{Entry}
use Rattle.trace.specs.Arrivals.{AreArrivals, arrival_after}
use Rattle.trace.proofs.ArrivalLemmas.{arrivals-more}
use Rattle.trace.specs.Heads.{known_in, link_in, MayBe}
use Rattle.machine.specs.FirstBytes.{brought_by}
use Rattle.trace.proofs.HeadLemmas.{keeps-more}
use Rattle.trace.proofs.entries.Trace.push.Goals as goal

pub invariant_of-self : goal.invariant_of-self
invariant_of-self c =
    let t = c.self.inside in
    let placed : c.len.result ≡ length t.entries.items = search rules in
    let keeps = keeps-more t.entries.items c.push_reserved.new.self.items t.links.items c.push_reserved-2.new.self.items c.args.entry c.link_of-link.result (known_in t.heads) (known_in c.note.new.self) c.len.result
    c.self.invariant.links c.self.invariant.sized c.self.invariant.known c.link_of-link.ensures placed c.note.ensures c.push_reserved.ensures.items c.push_reserved-2.ensures.items in
    let noted : (f q : ℕ) → MayBe (link_in c.note_arrival.new.rows.items f q) (arrival_after (brought_by f q c.args.entry.event (reverse t.entries.items)) (length t.entries.items) (link_in t.arrivals.items f q)) =
    subst (λ (xs : List Entry). (f q : ℕ) → MayBe (link_in c.note_arrival.new.rows.items f q) (arrival_after (brought_by f q c.args.entry.event (reverse xs)) (length xs) (link_in t.arrivals.items f q))) c.deref.ensures.value c.note_arrival.ensures in
    record {
      links = keeps.links;
      sized = keeps.sized;
      known = keeps.known;
      arrivals = subst (λ (xs : List Entry). AreArrivals xs c.note_arrival.new.rows.items) (sym c.push_reserved.ensures.items)
          (arrivals-more t.entries.items c.args.entry t.arrivals.items c.note_arrival.new.rows.items c.self.invariant.arrivals noted);
      entries_room = search rules;
      links_room = search rules;
      few = c.self.invariant.few;
      found_sized = search rules;
      found_room = search rules;
    }
