use Rattle.std.proofs.Common.{ℕ, Option, ap, sym, ◌∙◌}
use Rattle.machine.specs.Pages.{is_number}
use Rattle.pages.specs.Records.{page_of}
use Rattle.pages.proofs.TableLemmas.{at-map}
use Rattle.pages.proofs.FrameLemmas.{holds_frame, held-found, held-none, untold-none, holder-alone}
use Rattle.pages.proofs.Pages.find_holder.Goals as goal

pub returns-in-None-clause-holder : goal.returns-in-None-clause-holder
returns-in-None-clause-holder c =
    let told = sym (rw c.deref.ensures.value at c.told_at.ensures) ∙ c.in-None.is in
    rw (← c.self.view_is) (sym (untold-none c.self.inside.by_frame.items _ c.self.invariant.1 c.args.frame told))

pub returns-in-None-clause-alone : goal.returns-in-None-clause-alone
returns-in-None-clause-alone c = λ p.
    let told = sym (rw c.deref.ensures.value at c.told_at.ensures) ∙ c.in-None.is in
    let found = untold-none c.self.inside.by_frame.items _ c.self.invariant.1 c.args.frame told in
    rw (← c.self.view_is) (ap (λ (o : Option ℕ). is_number o p) (sym found) ∙ holder-alone c.self.inside.by_frame.items _ c.self.invariant.1 c.args.frame p)

pub returns-then-is_in_frame-clause-holder : goal.returns-then-is_in_frame-clause-holder
returns-then-is_in_frame-clause-holder c =
    let owned = c.self.inside.owned.items in
    let page = c.in-Some.page in
    let told = sym (rw c.deref.ensures.value at c.told_at.ensures) ∙ c.in-Some.is in
    let test = rw c.deref-in-Some.ensures.value at c.is_in_frame.ensures in
    let holds = ap (holds_frame c.args.frame) (at-map page_of owned page.0) ∙ sym test ∙ c.if-is_in_frame.true in
    rw (← c.self.view_is) (sym (held-found c.self.inside.by_frame.items _ c.self.invariant.1 c.args.frame page told holds))

pub returns-then-is_in_frame-clause-alone : goal.returns-then-is_in_frame-clause-alone
returns-then-is_in_frame-clause-alone c = λ p.
    let owned = c.self.inside.owned.items in
    let page = c.in-Some.page in
    let told = sym (rw c.deref.ensures.value at c.told_at.ensures) ∙ c.in-Some.is in
    let test = rw c.deref-in-Some.ensures.value at c.is_in_frame.ensures in
    let holds = ap (holds_frame c.args.frame) (at-map page_of owned page.0) ∙ sym test ∙ c.if-is_in_frame.true in
    let found = held-found c.self.inside.by_frame.items _ c.self.invariant.1 c.args.frame page told holds in
    rw (← c.self.view_is) (ap (λ (o : Option ℕ). is_number o p) (sym found) ∙ holder-alone c.self.inside.by_frame.items _ c.self.invariant.1 c.args.frame p)

pub returns-else-is_in_frame-clause-holder : goal.returns-else-is_in_frame-clause-holder
returns-else-is_in_frame-clause-holder c =
    let owned = c.self.inside.owned.items in
    let page = c.in-Some.page in
    let told = sym (rw c.deref.ensures.value at c.told_at.ensures) ∙ c.in-Some.is in
    let test = rw c.deref-in-Some.ensures.value at c.is_in_frame.ensures in
    let not = ap (holds_frame c.args.frame) (at-map page_of owned page.0) ∙ sym test ∙ c.if-is_in_frame.false in
    rw (← c.self.view_is) (sym (held-none c.self.inside.by_frame.items _ c.self.invariant.1 c.args.frame page told not))

pub returns-else-is_in_frame-clause-alone : goal.returns-else-is_in_frame-clause-alone
returns-else-is_in_frame-clause-alone c = λ p.
    let owned = c.self.inside.owned.items in
    let page = c.in-Some.page in
    let told = sym (rw c.deref.ensures.value at c.told_at.ensures) ∙ c.in-Some.is in
    let test = rw c.deref-in-Some.ensures.value at c.is_in_frame.ensures in
    let not = ap (holds_frame c.args.frame) (at-map page_of owned page.0) ∙ sym test ∙ c.if-is_in_frame.false in
    let found = held-none c.self.inside.by_frame.items _ c.self.invariant.1 c.args.frame page told not in
    rw (← c.self.view_is) (ap (λ (o : Option ℕ). is_number o p) (sym found) ∙ holder-alone c.self.inside.by_frame.items _ c.self.invariant.1 c.args.frame p)
