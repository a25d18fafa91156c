-- Links from entry to entry: what is known of the bytes of a page before an entry. No public clause cites these.
use Rattle.std.specs.Prelude.{◌≡◌, ℕ, ◌+◌, ◌<◌, ◌≤◌, List, length, slice_index_or, Option, Some, None}
use Rattle.machine.specs.declared.event.Op.TheVariants.{Write}
use Rattle.machine.specs.declared.event.Event.{Event}
use Rattle.machine.specs.declared.event.Event.TheVariants as event
use Rattle.machine.specs.declared.reply.Reply.{Reply}
use Rattle.machine.specs.declared.reply.Reply.TheVariants as reply
use Rattle.machine.specs.declared.entry.Entry.{Entry}
use Rattle.machine.specs.History.{at_first, last}
use Rattle.trace.specs.declared.page.Page.{Page}
use Rattle.trace.specs.declared.link.Link.{Link}
use Rattle.trace.specs.declared.link.Link.TheVariants as link
use Rattle.trace.specs.declared.step.Stand.{Stand}
use Rattle.trace.specs.declared.step.Back.{Back}
use Rattle.trace.specs.declared.step.Back.TheVariants as back
use Rattle.trace.specs.declared.link.Written.{Written}
use Rattle.machine.specs.Audit.{before}
use Rattle.trace.specs.Settled.{or_byte}
use Rattle.trace.specs.Walks.{spot_in, offset_in, page_at}

-- the page that an access reaches for
abbrev pub accessed : Event → Option Page
accessed (event.Access t place op) = Some (page_at t place)
accessed what = None

-- the byte that an access wrote
abbrev pub wrote : Event → Reply → Option Written
wrote (event.Access t place (Write b)) (reply.Done byte hit) = Some (record { offset = offset_in place; byte = b })
wrote what answer = None

-- after the entry at j its page had the bytes that this page had before k, whatever files had at first
abbrev pub StoodIn : List Entry → ℕ → Page → ℕ → Option Page → Type 0
StoodIn entries k page j (Some other) =
    (files : ℕ → ℕ → ℕ → ℕ) (o : ℕ) → last (at_first files) (before entries k) (spot_in page o) ≡ last (at_first files) (before entries (j + 1)) (spot_in other o)
StoodIn entries k page j None = Unit {0}

-- the link is right for this page before k
abbrev pub IsLink : List Entry → ℕ → Page → Link → Type 0
IsLink entries k page link.Unknown = Unit {0}
IsLink entries k page link.First = (files : ℕ → ℕ → ℕ → ℕ) (o : ℕ) → last (at_first files) (before entries k) (spot_in page o) ≡ at_first files (spot_in page o)
IsLink entries k page (link.After j) = (j < k) × ((e : Entry) → e ≡ slice_index_or entries j e → StoodIn entries k page j (accessed e.event))

abbrev pub IsLinkOf : List Entry → ℕ → Option Page → Link → Type 0
IsLinkOf entries k None link = Unit {0}
IsLinkOf entries k (Some page) link = IsLink entries k page link

-- the entry at k is an access of this page
abbrev pub IsAccessOf : List Entry → ℕ → Page → Type 0
IsAccessOf entries k page = (e : Entry) → e ≡ slice_index_or entries k e → accessed e.event ≡ Some page

-- the link is right for the page that the entry at k reaches for
abbrev pub IsLinkAt : List Entry → ℕ → Link → Type 0
IsLinkAt entries k link = (e : Entry) → e ≡ slice_index_or entries k e → IsLinkOf entries k (accessed e.event) link

-- each entry's link is
abbrev pub AreLinks : List Entry → List Link → Type 0
AreLinks entries links = (k : ℕ) → k < length entries → IsLinkAt entries k (slice_index_or links k link.Unknown)

pub record IsStand (entries : List Entry) (stand : Stand) : Type 0 where
  pub within : stand.at ≤ length entries
  pub linked : IsLink entries stand.at stand.page stand.link

-- an access before, and its page
pub record IsEarlier (entries : List Entry) (stand earlier : Stand) : Type 0 where
  pub lower : earlier.at < stand.at
  pub stands : IsStand entries earlier
  pub reaches : IsAccessOf entries earlier.at earlier.page
  pub bytes : (files : ℕ → ℕ → ℕ → ℕ) (o : ℕ) → last (at_first files) (before entries stand.at) (spot_in stand.page o) ≡ last (at_first files) (before entries (earlier.at + 1)) (spot_in earlier.page o)

abbrev pub IsBack : List Entry → Stand → Back → Type 0
IsBack entries stand back.Unknown = Unit {0}
IsBack entries stand back.First = (files : ℕ → ℕ → ℕ → ℕ) (o : ℕ) → last (at_first files) (before entries stand.at) (spot_in stand.page o) ≡ at_first files (spot_in stand.page o)
IsBack entries stand (back.Entry earlier) = IsEarlier entries stand earlier

-- ---- what an access wrote

-- the bytes of its page after it, from those before
abbrev pub wrote_at : Option Written → (ℕ → ℕ) → ℕ → ℕ
wrote_at None earlier o = earlier o
wrote_at (Some written) earlier o = or_byte written.offset written.byte earlier o

abbrev pub or_some : Option ℕ → ℕ → ℕ
or_some None byte = byte
or_some (Some other) byte = other
