-- What a line has to know of the other lines.
use Rattle.std.specs.Prelude.{ℕ, Bool, List}
use Rattle.scripts.specs.declared.forms.Word.{Word}
use Rattle.machine.specs.declared.config.Config.{Config}
use Rattle.scripts.specs.declared.context.Context.{Context}

-- how many frames the header asks for, also behind the line; whether a line that is not of the header stands before, the words of the header that do, and what they say
pub record Around : Type 0 where
  pub frames : ℕ
  pub commands : Bool
  pub given : List Word
  pub config : Config

abbrev pub around : Context → Around
around c = record { frames = c.frames; commands = c.commands; given = c.given.items; config = c.config }
