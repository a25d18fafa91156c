-- Pages by their sizes.
use Rattle.std.specs.Prelude.{◌≡◌, ℕ, Bool, true, nat_le, if◌then◌else◌}
use Rattle.std.proofs.Common.{refl}
use Rattle.std.proofs.lemmas.Bool.{leb-true}
use Rattle.machine.specs.declared.page_size.PageSize.{PageSize}
use Rattle.machine.specs.Amounts.{is_page_size}

abbrev pub of_4k : PageSize
of_4k = record { bytes = 4096; some = leb-true 2 4096 refl; most = leb-true 4096 67108864 refl }

-- the page of so many bytes, if these are two at least and 64M at most
abbrev pub page_by : (bytes : ℕ) → (a b : Bool) → nat_le 2 bytes ≡ a → nat_le bytes 67108864 ≡ b → PageSize
page_by bytes true true some most = record { bytes = bytes; some = leb-true 2 bytes some; most = leb-true bytes 67108864 most }
page_by bytes _ _ some most = of_4k

-- the page of so many bytes; 4K if no page has so many
abbrev pub page_of : ℕ → PageSize
page_of bytes = if is_page_size bytes then page_by bytes (nat_le 2 bytes) (nat_le bytes 67108864) refl refl else of_4k
