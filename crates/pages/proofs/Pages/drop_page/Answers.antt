use Rattle.std.proofs.Common.{None, ◌<◌, ap, refl, sym, subst, ◌∙◌}
use Rattle.std.specs.Prelude.{IfSome, slice_index}
use Rattle.pages.specs.Records.{page_of, bytes_of}
use Rattle.pages.proofs.TableLemmas.{Changes-map, byte_in-changes}
use Rattle.pages.proofs.FlightLemmas.{AreInFlight-apart, IsSettled-still}
use Rattle.pages.proofs.MemberLemmas.{listed}
use Rattle.pages.proofs.CacheLemmas.{AreHome-changes, left-inside}
use Rattle.pages.proofs.TransferLemmas.{page-stands, own-filed, framed-gone, Fits-are, Fits-left}
use Rattle.pages.proofs.Pages.drop_page.Goals as goal

pub leave-requires-clause-listed : goal.leave-requires-clause-listed
leave-requires-clause-listed c = listed c.self.inside.members.lists _ c.self.invariant.0.listed c.args.page.0 _ (page-stands c.self.inside.owned.items c.args.page.0 _ c.take_at-owned.ensures.owned)

pub leave-requires-clause-inside : goal.leave-requires-clause-inside
leave-requires-clause-inside c =
    let files = c.self.inside.files in
    subst (λ slot. IfSome slot (λ a. a.page < slice_index files.sizes a.file)) (sym c.file.ensures) (left-inside files (page_of c.take_at-owned.result) (own-filed files c.self.inside.owned.items c.args.page.0 _ c.self.invariant.0.filed c.take_at-owned.ensures.owned))

pub invariant_of-self : goal.invariant_of-self
invariant_of-self c =
    let is = c.self.invariant.0 in
    let requires = rw (← c.self.view_is) at c.requires in
    let gone = c.take_at-owned.ensures.gone in
    let page = Changes-map page_of _ _ _ None gone in (
      Fits-are
          (Fits-left c.self.inside.numbers _ _ _ c.self.inside.flights c.self.inside.members c.self.inside.files _ is c.args.page.0 c.take_at-owned.result c.take_at-owned.ensures.owned _ _ _ gone c.leave.ensures.numbers c.leave.ensures.capacity c.leave.ensures.lists
          (λ a e. c.leave.ensures.none a (c.file.ensures ∙ e)) (λ e. ap (λ v. v.items) (c.leave.ensures.same (c.file.ensures ∙ e))) c.leave.ensures.homes)
          is c.take_at-owned.ensures.capacity refl
          (AreInFlight-apart _ _ c.args.page.0 None page c.self.inside.flights.slots is.in_flight (IsSettled-still _ requires.settled) (λ n. refl))
          (AreHome-changes c.self.inside.files _ _ c.args.page.0 None page tt is.filed),
      framed-gone c.self.inside.by_frame.items _ _ c.args.page.0 None gone c.self.invariant.1 refl,
    )

pub returns-clause-gone : goal.returns-clause-gone
returns-clause-gone c = rw (← c.self.view_is) (Changes-map page_of _ _ _ None c.take_at-owned.ensures.gone)

pub returns-clause-bytes : goal.returns-clause-bytes
returns-clause-bytes c = rw (← c.self.view_is) (byte_in-changes _ _ _ None (Changes-map bytes_of _ _ _ None c.take_at-owned.ensures.gone))
