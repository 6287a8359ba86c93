-- `emc2305::transfers::read_out` meets its contract.
use mathlib.Core.Path.{◌≡◌}
use lib.ListN.{length}
use Rattle.laws.specs.Repeat.{repeated}
use Rattle.laws.specs.Buffer.{laid_over}
use Rattle.emc2305_chip.specs.State.{with_pointer}
use Rattle.emc2305.specs.Transfers.{byte_read, reply_of}
use Rattle.emc2305.proofs.Blocks.{SameShown}
use Rattle.emc2305.proofs.transfers.read_out.Given as goal

abbrev pub invariant-loop-i : goal.invariant-loop-i
invariant-loop-i l =
    (with_pointer l.pointer l.chip ≡ repeated l.i (byte_read l.n) l.initial.chip) × (l.reply ≡ laid_over (reply_of l.n l.initial.chip l.i) l.initial.reply)
    × (length l.reply ≡ length l.initial.reply) × SameShown l.chip.fans l.fans
