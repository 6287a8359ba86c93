-- One byte more.
use Rattle.std.proofs.Common.{◌≡◌, ◌∙◌, sym, ap, ℕ, ◌+◌, ◌<◌, List, [], ◌++◌, length, take, get_or}
use Rattle.std.proofs.lemmas.List.{flat_map_more, take_more}
use Rattle.std.specs.List.{flat_map}
use Rattle.test_commands.specs.Shown.{two_digits}

pub one_more : (bytes : List ℕ) (i : ℕ) → i < length bytes → flat_map two_digits (take i bytes) ++ two_digits (get_or bytes i 0) ≡ flat_map two_digits (take (i + 1) bytes)
one_more bytes i inside = flat_map_more two_digits [] (take i bytes) (get_or bytes i 0) ∙ ap (flat_map two_digits) (sym (take_more bytes i 0 inside))
