use Rattle.std.proofs.Common.{subst}
use Rattle.page_state.specs.declared.room.NoRoom.{NoRoom}
use Rattle.book.specs.Decisions.{LacksRoomFor}
use Rattle.book.proofs.CarryLemmas.{carries-over, carries-no_frame}
use Rattle.book.proofs.apply.refuse.Goals as goal

pub count-requires-clause-live : goal.count-requires-clause-live
count-requires-clause-live c = (subst (λ (why : NoRoom). LacksRoomFor c.args.state.now.tables c.args.fault why) c.in-Over.is c.requires.lacks).2.1

pub returns-in-Over : goal.returns-in-Over
returns-in-Over c =
    let s = c.args.state.now in
    rw c.in-Over.is
    (carries-over s c.count.new.self c.args.fault c.in-Over.group c.is_joined.ensures.listed c.requires.fault
    (subst (λ (why : NoRoom). LacksRoomFor s.tables c.args.fault why) c.in-Over.is c.requires.lacks) c.count.ensures.counts)

pub returns-in-NoFrame : goal.returns-in-NoFrame
returns-in-NoFrame c =
    let s = c.args.state.now in
    rw c.in-NoFrame.is
    (carries-no_frame s c.args.fault c.is_joined.ensures.listed c.requires.fault (subst (λ (why : NoRoom). LacksRoomFor s.tables c.args.fault why) c.in-NoFrame.is c.requires.lacks))
