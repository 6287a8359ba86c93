-- So many bytes are laid as there are hex digits and spaces of the bytes that were read.
use Rattle.std.proofs.Common.{◌*◌, take}
use Rattle.laws.proofs.Laid.{Laid}
use Rattle.text.specs.Text.{hex_bytes}
use Rattle.text.proofs.hex.lay_bytes.Given as goal

abbrev pub invariant-loop-i : goal.invariant-loop-i
invariant-loop-i l = Laid l.fn.out l.out (3 * l.i) (hex_bytes (take l.i l.bytes))
