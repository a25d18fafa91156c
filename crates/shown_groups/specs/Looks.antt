-- What a look at a group of a run that has ended prints: words for the functions that print it. No public clause cites this.
use Rattle.std.specs.Prelude.{ℕ, ◌==◌, List, [], ◌∷◌, ◌++◌, codes, Option, Some, None, option_map, if◌then◌else◌}
use Rattle.machine.specs.declared.reply.Shown.{Shown}
use Rattle.machine.specs.declared.reply.Shown.TheVariants as shown
use Rattle.live.specs.declared.looks.EndLook.{EndLook}
use Rattle.shown_groups.specs.declared.shown.Missing.{Missing}
use Rattle.shown_groups.specs.declared.shown.Missing.TheVariants as missing
use Rattle.shown_groups.specs.Shown.{file_text}

-- the group, if it has these files: it is not the root
abbrev pub with_files : Option EndLook → Option EndLook
with_files None = None
with_files (Some look) = if look.group.number == 0 then None else Some look

abbrev pub current_in : EndLook → Shown
current_in look = shown.Pages look.group.usage

abbrev pub stat_in : EndLook → Shown
stat_in look = shown.Stat look.stat

abbrev pub events_in : EndLook → Shown
events_in look = shown.Events look.events

-- with pages of this size, here and below
abbrev pub look_files : ℕ → List ℕ → Option EndLook → List ℕ
look_files page_size path look =
    file_text page_size path (codes "memory.current") (option_map current_in (with_files look))
    ++ (file_text page_size path (codes "memory.stat") (option_map stat_in (with_files look))
    ++ file_text page_size path (codes "memory.events") (option_map events_in (with_files look)))

abbrev pub look_text : ℕ → Missing → List ℕ → Option EndLook → List ℕ
look_text page_size missing.Skipped path None = []
look_text page_size missing.Skipped path (Some look) = look_files page_size path (Some look)
look_text page_size missing.Told path look = look_files page_size path look

abbrev pub looks_text : ℕ → Missing → List (List ℕ) → List (Option EndLook) → List ℕ
looks_text page_size how [] looks = []
looks_text page_size how (path ∷ paths) [] = []
looks_text page_size how (path ∷ paths) (look ∷ looks) = look_text page_size how path look ++ looks_text page_size how paths looks
