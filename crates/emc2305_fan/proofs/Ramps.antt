-- Ramp updates, as the ramp of any device makes them.
use mathlib.Core.Path.{◌≡◌}
use Prim.Native.Nat.{ℕ, ◌+◌}
use Rattle.ramps.proofs.Moves as any
use Rattle.emc2305_fan.specs.Ramp.{moved}
use Rattle.emc2305_fan.specs.Promises.{OneUpdate, Updates, Arrives}

pub one_update : OneUpdate
one_update = any.one_update

pub updates : Updates
updates = any.updates

pub arrives : Arrives
arrives = any.arrives

-- a move by 0 stays
pub stays : (d g : ℕ) → moved d g 0 ≡ d
stays = any.stays

-- two moves are one move by both
pub moved_twice : (d g m n : ℕ) → moved (moved d g m) g n ≡ moved d g (m + n)
moved_twice = any.moved_twice
