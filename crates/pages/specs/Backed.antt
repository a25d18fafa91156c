-- What a page holds and where it is fit together. No public clause cites it but the one of `OwnedPage`.
use Rattle.std.specs.Prelude.{Bool, true, false}
use Rattle.pages.specs.declared.owned_page.Content.{Content}
use Rattle.pages.specs.declared.owned_page.Content.TheVariants.{Memory, OfFile}
use Rattle.pages.specs.declared.owned_page.Backing.{Backing}
use Rattle.pages.specs.declared.owned_page.Backing.TheVariants.{Swap, Home}
use Rattle.pages.specs.declared.owned_page.Place.{Place}
use Rattle.pages.specs.declared.owned_page.Place.TheVariants as place

-- memory is on its way between a frame and a slot, and a page of a file between a frame and its home
abbrev pub is_backing_of : Content → Backing → Bool
is_backing_of Memory (Swap slot) = true
is_backing_of Memory (Home block) = false
is_backing_of (OfFile at dirty) (Swap slot) = false
is_backing_of (OfFile at dirty) (Home block) = true

-- and memory alone is on a slot alone
abbrev pub is_memory : Content → Bool
is_memory Memory = true
is_memory (OfFile at dirty) = false

abbrev pub is_backed : Content → Place → Bool
is_backed content (place.Frame frame charge) = true
is_backed content (place.Moving frame charge direction backing ticket) = is_backing_of content backing
is_backed content (place.Away group slot) = is_memory content
