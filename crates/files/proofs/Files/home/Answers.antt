use Rattle.std.proofs.Common.{◌+◌, ◌<◌, arith}
use Rattle.files.proofs.ExtentLemmas.{home_within, home_is}
use Rattle.files.proofs.Files.home.Goals as goal

pub overflow_add-result : goal.overflow_add-result
overflow_add-result c =
    let look = rw c.deref.ensures.value at c.in_ok-extent.ensures.lookup in
    let e = c.in_ok-extent.extent.now in
    let fits : e.start + c.args.page < 4294967296 = home_within _ _ _ _ _ e c.self.invariant look.3.0 look.1 c.if-page-extent.false in
    omega (arith, fits)

pub returns : goal.returns
returns c =
    let look = rw c.deref.ensures.value at c.in_ok-extent.ensures.lookup in
    let e = c.in_ok-extent.extent.now in
    rw (← c.self.view_is) (home_is _ _ _ _ _ e c.self.invariant look.3.0 look.1 c.if-page-extent.false)
