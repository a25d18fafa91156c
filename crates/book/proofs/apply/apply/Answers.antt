use Rattle.std.proofs.Common.{refl}
use Rattle.book_events.specs.declared.event.Reply.TheVariants as given
use Rattle.book.proofs.StepLemmas.{makes_step-mkdir, makes_step-show}
use Rattle.book.proofs.TouchLemmas.{makes_step-spawn, makes_step-fork, makes_step-attach, makes_step-free}
use Rattle.book.proofs.EndLemmas.{makes_step-exit}
use Rattle.book.proofs.RemoveLemmas.{makes_step-rmdir}
use Rattle.book.proofs.CarryLemmas.{answers, carries-killed, carries-room, carries-wait, carries-nothing, carries-no_victim}
use Rattle.book.proofs.apply.apply.Goals as goal

pub returns-in-Killed-clause-carries : goal.returns-in-Killed-clause-carries
returns-in-Killed-clause-carries c = rw c.in-Killed.is (carries-killed c.args.state.now c.is_joined.ensures.listed)

pub returns-in-Room-clause-carries : goal.returns-in-Room-clause-carries
returns-in-Room-clause-carries c = rw c.in-Room.is (carries-room c.args.state.now c.is_joined.ensures.listed)

pub returns-in-Take-clause-carries : goal.returns-in-Take-clause-carries
returns-in-Take-clause-carries c = rw c.in-Take.is c.take.ensures

pub returns-in-Wait-clause-carries : goal.returns-in-Wait-clause-carries
returns-in-Wait-clause-carries c = rw c.in-Wait.is (carries-wait c.args.state.now c.is_joined.ensures.listed)

pub returns-in-Nothing-clause-carries : goal.returns-in-Nothing-clause-carries
returns-in-Nothing-clause-carries c = rw c.in-Nothing.is (carries-nothing c.args.state.now c.is_joined.ensures.listed)

pub returns-in-Kill-clause-carries : goal.returns-in-Kill-clause-carries
returns-in-Kill-clause-carries c = rw c.in-Kill.is (c.kill.ensures)

pub returns-in-KillAll-clause-carries : goal.returns-in-KillAll-clause-carries
returns-in-KillAll-clause-carries c = rw c.in-KillAll.is (c.kill_all.ensures)

pub returns-in-NoVictim-clause-carries : goal.returns-in-NoVictim-clause-carries
returns-in-NoVictim-clause-carries c = rw c.in-NoVictim.is (carries-no_victim c.args.state.now c.count.new.self c.in-NoVictim.limit c.is_joined.ensures.listed c.count.ensures.counts)

pub returns-in_ok-spawn-in-Spawn-clause-carries : goal.returns-in_ok-spawn-in-Spawn-clause-carries
returns-in_ok-spawn-in-Spawn-clause-carries c =
    rw c.in-Spawn.is (λ what is. answers _ _ what _ given.Ok is.fits (makes_step-spawn c.args.state.now c.spawn.new.self c.in-Spawn.task.0 c.in-Spawn.group.0 c.in_ok-spawn-in-Spawn.ensures.starts c.is_joined.ensures.listed) tt tt)

pub returns-in_ok-fork-in-Fork-clause-carries : goal.returns-in_ok-fork-in-Fork-clause-carries
returns-in_ok-fork-in-Fork-clause-carries c =
    rw c.in-Fork.is (λ what is. answers _ _ what _ given.Ok is.fits (makes_step-fork c.args.state.now c.fork.new.self c.in-Fork.task.0 c.in-Fork.child.0 _ is.sound.0.1 refl c.in_ok-fork-in-Fork.ensures.forks c.is_joined.ensures.listed) tt tt)

pub returns-in-Free-clause-carries : goal.returns-in-Free-clause-carries
returns-in-Free-clause-carries c =
    rw c.in-Free.is (λ what is. answers _ _ what _ given.Ok is.fits (makes_step-free c.args.state.now c.unmap.new.self c.in-Free.task.0 c.in-Free.at _ is.sound.0.1 refl c.unmap.ensures) tt tt)

pub returns-in-Attach-clause-carries : goal.returns-in-Attach-clause-carries
returns-in-Attach-clause-carries c =
    rw c.in-Attach.is (λ what is. answers _ _ what _ given.Ok is.fits (makes_step-attach c.args.state.now c.attach.new.self c.in-Attach.task.0 c.in-Attach.group.0 is.sound.0 c.attach.ensures c.is_joined.ensures.listed) tt tt)

pub returns-in-Exit-clause-carries : goal.returns-in-Exit-clause-carries
returns-in-Exit-clause-carries c =
    rw c.in-Exit.is (λ what is. answers _ _ what _ given.Ok is.fits (makes_step-exit c.args.state.now c.end_task.new.self c.in-Exit.task.0 _ is.sound.1 refl c.end_task.ensures) tt tt)

pub returns-in_ok-mkdir-in-Mkdir-clause-carries : goal.returns-in_ok-mkdir-in-Mkdir-clause-carries
returns-in_ok-mkdir-in-Mkdir-clause-carries c =
    let adds = c.in_ok-mkdir-in-Mkdir.ensures.adds in rw c.in-Mkdir.is (λ what is. answers _ _ what _ given.Ok is.fits (makes_step-mkdir c.args.state.now c.mkdir.new.self c.in-Mkdir.path.now adds.tables adds.bytes adds.flights adds.order) tt tt)

pub returns-in-Rmdir-clause-carries : goal.returns-in-Rmdir-clause-carries
returns-in-Rmdir-clause-carries c =
    rw c.in-Rmdir.is (λ what is. answers _ _ what _ given.Ok is.fits (makes_step-rmdir c.args.state.now c.rmdir.new.self c.in-Rmdir.group.0 c.rmdir.ensures) tt tt)

pub returns-in-Set-clause-carries : goal.returns-in-Set-clause-carries
returns-in-Set-clause-carries c = rw c.in-Set.is (c.set.ensures)

pub returns-in-Show-clause-carries : goal.returns-in-Show-clause-carries
returns-in-Show-clause-carries c =
    rw c.in-Show.is (λ what is. answers _ _ what _ (given.Shown c.shown.result) is.fits (makes_step-show c.args.state.now c.in-Show.query c.shown.result c.is_joined.ensures.listed c.shown.ensures) tt tt)
