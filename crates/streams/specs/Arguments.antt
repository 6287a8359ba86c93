-- What a program's arguments are. They come from outside: no definition says which.
use Rattle.std.specs.Prelude.{◌≡◌, ◌≤◌, ℕ, List, [], ◌∷◌, length, take}
use Rattle.streams.specs.declared.Asks.{Asks as AsksThere}
use Rattle.streams.specs.declared.Asks.TheVariants as there

-- what is asked: nothing, help, that the one argument is taken; or that is too long, or there are several
pub data Asks : Type 0 where
  Nothing : Asks
  Help : Asks
  One : Asks
  Long : Asks
  Many : Asks

-- `--help`
abbrev pub help_word : List ℕ
help_word = 0x2D ∷ 0x2D ∷ 0x68 ∷ 0x65 ∷ 0x6C ∷ 0x70 ∷ []

-- the argument that a buffer holds goes with what was answered: it is `--help`, or another one, or there is none
abbrev pub Asked : Asks → List ℕ → Type 0
Asked Nothing argument = argument ≡ []
Asked Help argument = argument ≡ help_word
Asked One argument = argument ≡ help_word → ⊥
Asked Long argument = argument ≡ []
Asked Many argument = argument ≡ []

-- the first n bytes of a buffer are within it, and n bytes
abbrev pub IsPrefixLen : ℕ → List ℕ → Type 0
IsPrefixLen n xs = (n ≤ length xs) × (n ≡ length (take n xs))

-- what the code's value says is asked
abbrev pub asks_of : AsksThere → Asks
asks_of there.Nothing = Nothing
asks_of there.Help = Help
asks_of (there.One len) = One
asks_of there.Long = Long
asks_of there.Many = Many

-- how many bytes of the buffer it says the argument has
abbrev pub len_of : AsksThere → ℕ
len_of there.Nothing = 0
len_of there.Help = length help_word
len_of (there.One len) = len
len_of there.Long = 0
len_of there.Many = 0
