-- What becomes of a fan goes by its bits of 25h and 26h nowhere but in these bits (specs/Alone.antt).
use mathlib.Core.Path.{◌≡◌, refl, sym, ap, ◌∙◌}
use mathlib.Core.Bool.{Bool, true, false, not, ◌&&◌}
use mathlib.Core.List.{List, [], ◌∷◌}
use Prim.Native.Nat.{ℕ, ◌+◌}
use lib.Dec.{leb, eqb}
use Rattle.laws.proofs.Tests.{by_test}
use Rattle.emc2305_fan.specs.declared.Fan.{Fan}
use Rattle.emc2305_fan.specs.State.{with_failed}
use Rattle.emc2305_fan.specs.Registers.{closed_loop, stores}
use Rattle.emc2305_fan.specs.Drive.{goal, under_ramp, period, wished}
use Rattle.emc2305_fan.specs.Spin.{started, too_slow, spin_failed, spin_over, last_tick, spin_tick}
use Rattle.emc2305_fan.specs.Tick.{updated, clock_ticked, ticked}
use Rattle.emc2305_fan.specs.Stored.{put, wish_taken, clears_clock, clock_set, spin_starts, settled, written}
use Rattle.emc2305_fan.specs.Tach.{with_reading, judged, stall, sampled}
use Rattle.emc2305_fan.specs.Status.{but_status, bit_read}
use Rattle.emc2305_fan.proofs.Steps.{ticks_spin, ticks_ramp, ticks_still}
use Rattle.emc2305_fan.proofs.Statuses.{status_read}
use Rattle.emc2305_promises.specs.Ramp.{fan_of}
use Rattle.emc2305_promises.specs.Alone.{Own, tick, sample, wish, store, read, played, own_traffic, but_reads, StatusAside}
use Rattle.emc2305_promises.proofs.OwnTraffic.{alone}

-- two fans that differ in these bits alone
abbrev Alike : Fan → Fan → Type 0
Alike f g = but_status f ≡ but_status g

-- a move that does not look at them
abbrev Blind : (Fan → Fan) → Type 0
Blind move = (f : Fan) → Alike (move f) (move (but_status f))

-- it keeps such fans such
alike : (move : Fan → Fan) → Blind move → (f g : Fan) → Alike f g → Alike (move f) (move g)
alike move blind f g e = blind f ∙ ap (λ (h : Fan). but_status (move h)) e ∙ sym (blind g)

blind_failed : Blind spin_failed
unfolding spin_failed started goal under_ramp
blind_failed f = by_test (closed_loop f) (λ t. rw t) (λ t. rw t)

blind_over : Blind spin_over
unfolding spin_over too_slow goal under_ramp
blind_over f =
    by_test (too_slow f) (λ t. rw t (alike spin_failed blind_failed (with_failed true f) (with_failed true (but_status f)) refl)) (λ t. rw t)

blind_spin : Blind spin_tick
unfolding spin_tick
blind_spin f = by_test (last_tick f.spin) (λ t. rw t (blind_over f)) (λ t. rw t)

blind_clock_ticked : Blind clock_ticked
unfolding clock_ticked updated goal
blind_clock_ticked f = by_test (leb (period f) (f.clock + 1)) (λ t. rw t) (λ t. rw t)

blind_ticked : Blind ticked
unfolding under_ramp
blind_ticked f =
    let g = but_status f in
    by_test f.spin.running (λ t. rw (ticks_spin f t, ticks_spin g t) (blind_spin f))
    (λ t. by_test (under_ramp f) (λ u. rw (ticks_ramp f t u, ticks_ramp g t u) (blind_clock_ticked f)) (λ u. rw (ticks_still f t u, ticks_still g t u)))

blind_stall : Blind stall
unfolding stall started
blind_stall f = by_test (closed_loop f) (λ t. rw t) (λ t. rw t)

blind_sampled : (count : ℕ) → Blind (sampled count false)
unfolding sampled with_reading too_slow
blind_sampled count f =
    let g = with_reading count f in
    by_test (judged false g && too_slow g) (λ t. rw t (alike stall blind_stall g (with_reading count (but_status f)) refl)) (λ t. rw t)

blind_wished : (drive : ℕ) → Blind (wished drive)
unfolding wished
blind_wished drive f = by_test (closed_loop f) (λ t. rw t) (λ t. rw t)

blind_wish_taken : (was : Bool) → Blind (wish_taken was)
unfolding wish_taken
blind_wish_taken was f = by_test (not was && closed_loop f) (λ t. rw t) (λ t. rw t)

blind_clock : (offset : ℕ) → Blind (clock_set offset)
unfolding clock_set
blind_clock offset f = by_test (clears_clock offset f) (λ t. rw t) (λ t. rw t)

blind_settled : Blind settled
unfolding settled started goal under_ramp
blind_settled f =
    by_test f.spin.running (λ t. rw t (by_test (eqb (goal f) 0) (λ u. rw u) (λ u. rw u)))
    (λ t. rw t (by_test (spin_starts f) (λ u. rw u) (λ u. rw u (by_test (under_ramp f) (λ v. rw v) (λ v. rw v)))))

blind_written : (offset byte : ℕ) → Blind (written offset byte)
unfolding written stores
blind_written offset byte f =
    let was = closed_loop f in
    let g = put offset byte f in
    let h = put offset byte (but_status f) in
    by_test (stores f offset)
    (λ t. rw t
    (alike settled blind_settled (clock_set offset (wish_taken was g)) (clock_set offset (wish_taken was h))
    (alike (clock_set offset) (blind_clock offset) (wish_taken was g) (wish_taken was h) (alike (wish_taken was) (blind_wish_taken was) g h refl))))
    (λ t. rw t)

-- traffic, and the same without its reads
plays : (owns : List Own) (f g : Fan) → Alike f g → Alike (played owns f) (played (but_reads owns) g)
unfolding played but_reads
plays [] f g e = e
plays (tick ∷ rest) f g e = plays rest (ticked f) (ticked g) (alike ticked blind_ticked f g e)
plays (sample count ∷ rest) f g e =
    plays rest (sampled count false f) (sampled count false g) (alike (sampled count false) (blind_sampled count) f g e)
plays (wish drive ∷ rest) f g e = plays rest (wished drive f) (wished drive g) (alike (wished drive) (blind_wished drive) f g e)
plays (store offset byte ∷ rest) f g e =
    plays rest (written offset byte f) (written offset byte g) (alike (written offset byte) (blind_written offset byte) f g e)
plays (read which ∷ rest) f g e = plays rest (bit_read which f) g ((status_read which f).2 ∙ e)

pub status_aside : StatusAside
status_aside i c d events others five quiet calm same-before same_traffic =
    let f = fan_of i c in
    let g = fan_of i d in
    rw (alone i c events five.0 five.2 quiet, alone i d others five.1 five.3 calm)
    (plays (own_traffic i events c) f f refl ∙ rw same_traffic (sym (plays (own_traffic i others d) g f (sym same-before))))
