-- Demand 3 over any events.
use mathlib.Core.Path.{◌≡◌, ap, ◌∙◌}
use mathlib.Core.Bool.{cond}
use mathlib.Core.List.{[], ◌∷◌}
use Prim.Native.Nat.{ℕ, ◌+◌, ◌*◌, ◌/◌, ◌%◌, ◌<◌}
use native.Mathlib.Omega.{arith}
use native.Mathlib.Nat.{add_assoc, mul-add, mod-add-mod, div-add-mod', mul-add-div_right}
use Rattle.eventlog.specs.Kinds.{ticks_of}
use Rattle.emc2305_fan.specs.Ramp.{moved}
use Rattle.emc2305_fan.proofs.Ramps.{moved_twice}
use Rattle.emc2305_chip.specs.declared.Chip.{Chip}
use Rattle.walks.specs.Sequence as any
use Rattle.emc2305_promises.specs.Ramp.{next, is_taken, after_all, taken_ticks, undisturbed, RampPromise}
use Rattle.walks.proofs.Sequences.{first_rest}
use Rattle.emc2305.specs.Device.{emc2305}
use Rattle.emc2305_promises.proofs.RampKept.{Ramped, no_ticks, of_event_lem}

-- the whole parts of a sum, one summand after the other
pub div_then : (x t u : ℕ) → 0 < u → (x + t) / u ≡ x / u + (x % u + t) / u
div_then x t u h =
    let e : x + t ≡ x / u * u + (x % u + t) = omega (arith, div-add-mod' x u) in
    ap (λ (y : ℕ). y / u) e ∙ mul-add-div_right h (x / u) (x % u + t)

-- the move of m + n ticks is that of m, and then that of n
pub moved_then : (m n d g s u p : ℕ) → 0 < u
    → moved d g (s * ((p + (m + n)) / u)) ≡ moved (moved d g (s * ((p + m) / u))) g (s * (((p + m) % u + n) / u))
moved_then m n d g s u p h =
    rw (← add_assoc p m n, div_then (p + m) n u h, mul-add s, moved_twice d g (s * ((p + m) / u)))

pub and_then : (m n i d g s u p : ℕ) (c : Chip) → Ramped n i (moved d g (s * ((p + m) / u))) g s u ((p + m) % u) c
    → Ramped (m + n) i d g s u p c
and_then m n i d g s u p c r = rw (moved_then m n d g s u p (omega arith), ← add_assoc p m n, ← mod-add-mod (p + m) u n) r

pub ramp_promise : RampPromise
unfolding any.after_all any.taken_ticks
ramp_promise i d g s u p c [] r q = no_ticks i d g s u p c r
ramp_promise i d g s u p c (h ∷ rest) r q =
    let f = first_rest emc2305 (undisturbed i) h rest c q in
    let m : ℕ = cond (is_taken h c) (ticks_of h.event) 0 in
    and_then m (taken_ticks rest (next h c)) i d g s u p (after_all rest (next h c))
    (ramp_promise i (moved d g (s * ((p + m) / u))) g s u ((p + m) % u) (next h c) rest (of_event_lem i d g s u p h c r f.0) f.1)
