-- Speeds as a report has them have 32 bits.
use Rattle.std.proofs.Common.{ℕ, ◌^◌, ◌<◌, ◌&&◌, leb, arith}
use Rattle.laws.proofs.Tests.{by_test}
use Rattle.emc2305_speed.specs.Speed.{poles_right, rpm_shown}
use Rattle.emc2305_speed.proofs.Factors.{rpm_most}

pub speed_fits : (poles configuration count : ℕ) → rpm_shown poles configuration count < 2 ^ 32
speed_fits poles configuration count =
    by_test (poles_right poles && leb 1 count) (λ y. rw y (omega (arith, rpm_most poles configuration count))) (λ n. rw n (omega arith))
