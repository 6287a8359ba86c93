-- The commands of an input.
use Rattle.std.specs.Prelude.{ℕ, ◌≡◌, ◌+◌, ◌<◌, List, ◌∷◌, ◌++◌, length, MatchOption}
use Rattle.std.specs.Iterator.{Count, at_most}
use Rattle.std.specs.declared.option.Option.{Option}
use Rattle.test_commands.specs.declared.Command.{Command}
use Rattle.test_commands.specs.declared.Commands.{Commands}
use Rattle.test_commands.specs.Fields.{byte_at}

-- what is left is shorter than the command that begins there says
abbrev pub IsCutShort : List ℕ → Type 0
IsCutShort bytes = length bytes < 2 + byte_at bytes 1

-- a command is taken from the front, its first byte, how many follow, and those; or what is left is cut short, and stays
abbrev pub GivesCommand : Commands → Option Command → Commands → Type 0
GivesCommand old r new =
    MatchOption r (IsCutShort old.0.now × (new.0.now ≡ old.0.now))
    (λ command. old.0.now ≡ command.which ∷ length command.bytes.now ∷ command.bytes.now ++ new.0.now)

-- no more commands come than bytes are left
abbrev pub bytes_left : Commands → Count
bytes_left commands = at_most (length commands.0.now)
