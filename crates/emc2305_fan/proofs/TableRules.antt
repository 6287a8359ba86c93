-- The rules of the fixed tables, and what holds of every spin-up length.
use mathlib.Core.Path.{refl}
use Prim.Native.Nat.{ℕ, ◌+◌, ◌*◌, ◌/◌, ◌%◌, ◌≤◌}
use native.Mathlib.Omega.{arith}
use lib.Dec.{leb, eqb}
use lib.ListN.{get_or}
use borrow.Author.Tests.{leb-true, eqb-true}
use Rattle.laws.proofs.Tables.{entry}
use Rattle.emc2305_fan.specs.declared.Fan.{Fan}
use Rattle.emc2305_fan.specs.Tables.{periods, lengths, levels}
use Rattle.emc2305_fan.specs.Registers.{spin_up}
use Rattle.emc2305_fan.specs.Spin.{spin_length}
use Rattle.emc2305_fan.specs.Promises.{update_times, spin_times, LevelRule, PeriodRule, LengthRule}

pub level_rule : LevelRule
level_rule i h =
    eqb-true (get_or levels i 0) ((30 + 5 * i) * 255 / 100) (entry (λ (k x : ℕ). eqb x ((30 + 5 * k) * 255 / 100)) levels refl i h)

pub period_rule : PeriodRule
period_rule i h =
    eqb-true (25 * get_or periods i 0) (2 * get_or update_times i 0) (entry (λ (k x : ℕ). eqb (25 * x) (2 * get_or update_times k 0)) periods refl i h)

pub length_rule : LengthRule
length_rule i h =
    eqb-true (25 * get_or lengths i 0) (2 * get_or spin_times i 0) (entry (λ (k x : ℕ). eqb (25 * x) (2 * get_or spin_times k 0)) lengths refl i h)

-- every spin-up is a tick at least
pub length_some : (f : Fan) → 1 ≤ spin_length f
length_some f = leb-true 1 (spin_length f) (entry (λ (k x : ℕ). leb 1 x) lengths refl (spin_up f % 4) (omega arith))
