use Rattle.std.proofs.Common.{ℕ, None, refl, subst}
use Rattle.page_state.specs.Changes.{MakesPage}
use Rattle.book_events.specs.declared.event.Reply.TheVariants as given
use Rattle.book.proofs.StepLemmas.{makes_step-unmapped, makes_step-busy}
use Rattle.book.proofs.JudgeLemmas.{room-for, source-readable, source-live, source-room}
use Rattle.book.proofs.CarryLemmas.{carries-access, carries-made, carries-copied, carries-fetch}
use Rattle.book.proofs.apply.access.Goals as goal

pub returns-in-Unmapped-clause-carries : goal.returns-in-Unmapped-clause-carries
returns-in-Unmapped-clause-carries c =
    let s = c.args.state.now in
    let meets = rw c.in-Unmapped.is at c.requires.meets in
    rw c.in-Unmapped.is (carries-access s s c.args.fault _ (given.Done 0 None) (makes_step-unmapped s c.args.fault c.requires.fault meets.0 meets.1 c.is_joined.ensures.listed) tt tt)

pub returns-in-Hits-clause-carries : goal.returns-in-Hits-clause-carries
returns-in-Hits-clause-carries c = rw c.in-Hits.is c.hit.ensures

pub returns-in-Transferring-clause-carries : goal.returns-in-Transferring-clause-carries
returns-in-Transferring-clause-carries c =
    let s = c.args.state.now in
    rw c.in-Transferring.is (carries-access s s c.args.fault _ given.Busy (makes_step-busy s c.args.fault c.requires.fault (rw c.in-Transferring.is at c.requires.meets) c.is_joined.ensures.listed) tt tt)

pub hold-requires-clause-room : goal.hold-requires-clause-room
hold-requires-clause-room c = let meets = rw c.in-NeedsPage.is at c.requires.meets in room-for c.args.state.now.tables c.args.fault _ c.args.fault.group.0 c.requires.room meets.0 refl

pub returns-in-NeedsPage-clause-carries : goal.returns-in-NeedsPage-clause-carries
returns-in-NeedsPage-clause-carries c =
    let s = c.args.state.now in
    rw c.in-NeedsPage.is
    (carries-made s c.hold.new.self c.args.fault c.in-NeedsPage.at c.in-NeedsPage.byte c.is_joined.ensures.mapped c.requires.fault (rw c.in-NeedsPage.is at c.requires.meets) c.requires.room
    (subst (λ (o : ℕ). MakesPage s c.hold.new.self c.args.fault.task.0 c.in-NeedsPage.at c.args.fault.group.0 o c.in-NeedsPage.byte) c.offset.ensures c.hold.ensures))

pub copy-requires-clause-room : goal.copy-requires-clause-room
copy-requires-clause-room c = let meets = rw c.in-NeedsCopy.is at c.requires.meets in room-for c.args.state.now.tables c.args.fault _ c.args.fault.group.0 c.requires.room meets.0 refl

pub returns-in-NeedsCopy-clause-carries : goal.returns-in-NeedsCopy-clause-carries
returns-in-NeedsCopy-clause-carries c =
    let s = c.args.state.now in
    rw c.in-NeedsCopy.is
    (carries-copied s c.copy.new.self c.args.fault c.in-NeedsCopy.at c.in-NeedsCopy.page c.in-NeedsCopy.byte c.is_joined.ensures.mapped c.requires.fault (rw c.in-NeedsCopy.is at c.requires.meets) c.requires.room
    (subst (λ (o : ℕ). MakesPage s c.copy.new.self c.args.fault.task.0 c.in-NeedsCopy.at c.args.fault.group.0 o c.in-NeedsCopy.byte) c.offset-in-NeedsCopy.ensures c.copy.ensures))

pub start_in-requires : goal.start_in-requires
start_in-requires c =
    let s = c.args.state.now.tables in
    let from = c.in-NeedsFetch.from in
    let g = c.in-NeedsFetch.group in
    let meets = rw c.in-NeedsFetch.is at c.requires.meets in
    record {
      readable = source-readable s c.args.fault from g c.requires.fault meets;
      live = source-live s c.args.fault from g c.is_joined.ensures.homes c.is_joined.ensures.groups c.requires.fault meets;
      room = source-room s c.args.fault from g c.requires.room meets;
    }

pub returns-in_ok-ticket-in-NeedsFetch-clause-carries : goal.returns-in_ok-ticket-in-NeedsFetch-clause-carries
returns-in_ok-ticket-in-NeedsFetch-clause-carries c =
    rw c.in-NeedsFetch.is
    (carries-fetch c.args.state.now c.start_in.new.self c.args.fault c.in-NeedsFetch.from c.in-NeedsFetch.group _ c.requires.fault (rw c.in-NeedsFetch.is at c.requires.meets) c.requires.room c.in_ok-ticket-in-NeedsFetch.ensures.begins)
