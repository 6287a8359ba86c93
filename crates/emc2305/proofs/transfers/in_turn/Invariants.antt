-- `emc2305::transfers::in_turn` meets its contract.
use mathlib.Core.Path.{◌≡◌}
use Prim.Native.Nat.{◌-◌, ◌≤◌}
use lib.ListN.{length, drop}
use Rattle.emc2305.specs.Transfers.{in_turn}
use Rattle.emc2305.proofs.Blocks.{held}
use Rattle.emc2305.proofs.transfers.in_turn.Given as goal

abbrev pub invariant-loop-i : goal.invariant-loop-i
invariant-loop-i l =
    (l.i ≤ length l.bytes) × (length l.fans ≡ 5) × (in_turn (length l.bytes) (drop l.i l.bytes) (held l.pointer l.fans l.chip) ≡ in_turn (length l.bytes) l.bytes l.initial.chip)

abbrev pub decreases-loop-i : goal.decreases-loop-i
decreases-loop-i l = length l.bytes - l.i
