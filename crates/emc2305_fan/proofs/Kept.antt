-- What each move leaves in the registers, and of the status bits.
use mathlib.Core.Path.{◌≡◌, refl, sym, ◌∙◌}
use mathlib.Core.Bool.{Bool, true, not, ◌&&◌, ◌||◌, true≢false, or-false}
use mathlib.Core.List.{List}
use Prim.Native.Nat.{ℕ, ◌+◌}
use lib.Dec.{leb, eqb}
use Rattle.laws.proofs.Tests.{by_test, and_left, and_right, or_true}
use Rattle.emc2305_fan.specs.declared.Bit.{Bit}
use Rattle.emc2305_fan.specs.declared.Bit.TheVariants.{Stall, Spin}
use Rattle.emc2305_fan.specs.declared.Fan.{Fan}
use Rattle.emc2305_fan.specs.declared.SpinUp.{SpinUp}
use Rattle.emc2305_fan.specs.State.{with_drive, with_wish, with_clock, with_spin, with_stalled, with_failed}
use Rattle.emc2305_fan.specs.Registers.{closed_loop, stores}
use Rattle.emc2305_fan.specs.Drive.{goal, under_ramp, period, wished}
use Rattle.emc2305_fan.specs.Spin.{started, ended, too_slow, spin_failed, spin_over, last_tick, spin_tick}
use Rattle.emc2305_fan.specs.Tick.{updated, clock_ticked, ticked}
use Rattle.emc2305_fan.specs.Stored.{put, wish_taken, clears_clock, clock_set, spin_starts, settled, written}
use Rattle.emc2305_fan.specs.Tach.{with_reading, judged, stall, sampled, fired}
use Rattle.emc2305_fan.specs.Status.{standing}
use Rattle.emc2305_fan.specs.Promises.{RegistersAfter, StatusAfter}
use Rattle.emc2305_fan.proofs.Steps.{ticks_spin, ticks_ramp, ticks_still, settles_spin, settles_out}

-- what does not go by drive, update clock, spin-up and wish
record Aside (P : Fan → Type 0) : Type 0 where
  drives : (x : ℕ) (f : Fan) → P f → P (with_drive x f)
  clocks : (x : ℕ) (f : Fan) → P f → P (with_clock x f)
  spins : (x : SpinUp) (f : Fan) → P f → P (with_spin x f)
  wishes : (x : ℕ) (f : Fan) → P f → P (with_wish x f)

module _ (P : Fan → Type 0) (aside : Aside P) where
  of_start : (f : Fan) → P f → P (started f)
  unfolding started
  of_start f p = aside.drives _ _ (aside.spins _ f p)

  of_end : (drive : ℕ) (f : Fan) → P f → P (ended drive f)
  of_end drive f p = aside.drives drive _ (aside.clocks 0 _ (aside.spins _ f p))

  of_failed : (f : Fan) → P f → P (spin_failed f)
  unfolding spin_failed
  of_failed f p = by_test (closed_loop f) (λ t. rw t (of_start f p)) (λ t. rw t (of_end _ f p))

  of_over : (f : Fan) → (too_slow f ≡ true → P f → P (with_failed true f)) → P f → P (spin_over f)
  unfolding spin_over
  of_over f fails p = by_test (too_slow f) (λ t. rw t (of_failed _ (fails t p))) (λ t. rw t (of_end _ f p))

  of_spin_tick : (f : Fan) → (last_tick f.spin ≡ true → too_slow f ≡ true → P f → P (with_failed true f)) → P f → P (spin_tick f)
  unfolding spin_tick
  of_spin_tick f fails p =
      by_test (last_tick f.spin) (λ t. rw t (of_over f (fails t) p)) (λ t. rw t (aside.drives _ _ (aside.spins _ f p)))

  of_clock_ticked : (f : Fan) → P f → P (clock_ticked f)
  unfolding clock_ticked updated
  of_clock_ticked f p = by_test (leb (period f) (f.clock + 1)) (λ t. rw t (aside.drives _ _ (aside.clocks 0 f p))) (λ t. rw t (aside.clocks _ f p))

  of_tick : (f : Fan)
      → (f.spin.running ≡ true → last_tick f.spin ≡ true → too_slow f ≡ true → P f → P (with_failed true f)) → P f → P (ticked f)
  of_tick f fails p =
      by_test f.spin.running (λ t. rw (ticks_spin f t) (of_spin_tick f (fails t) p))
      (λ t. by_test (under_ramp f) (λ u. rw (ticks_ramp f t u) (of_clock_ticked f p)) (λ u. rw (ticks_still f t u) p))

  of_wish_lem : (wish : ℕ) (f : Fan) → P f → P (wished wish f)
  unfolding wished
  of_wish_lem wish f p = by_test (closed_loop f) (λ t. rw t (aside.wishes wish f p)) (λ t. rw t p)

  of_settled : (f : Fan) → P f → P (settled f)
  unfolding settled
  of_settled f p =
      by_test f.spin.running (λ t. rw (settles_spin f t) (by_test (eqb (goal f) 0) (λ u. rw u (of_end 0 f p)) (λ u. rw u p)))
      (λ t. rw (settles_out f t)
      (by_test (spin_starts f) (λ u. rw u (of_start f p)) (λ u. rw u (by_test (under_ramp f) (λ v. rw v p) (λ v. rw v (aside.drives _ f p))))))

  of_clock : (offset : ℕ) (f : Fan) → P f → P (clock_set offset f)
  unfolding clock_set
  of_clock offset f p = by_test (clears_clock offset f) (λ t. rw t (aside.clocks 0 f p)) (λ t. rw t p)

  of_wish_taken : (was : Bool) (f : Fan) → P f → P (wish_taken was f)
  unfolding wish_taken
  of_wish_taken was f p = by_test (not was && closed_loop f) (λ t. rw t (aside.wishes _ f p)) (λ t. rw t p)

  -- a stored write, which keeps what the byte in its place does
  of_stored : (offset byte : ℕ) (f : Fan) → stores f offset ≡ true → P (put offset byte f) → P (written offset byte f)
  unfolding written
  of_stored offset byte f t p =
      let was = closed_loop f in
      let g = put offset byte f in
      rw t (of_settled _ (of_clock offset _ (of_wish_taken was g p)))

  of_stall : (f : Fan) → P (with_stalled true f) → P (stall f)
  unfolding stall
  of_stall f p = by_test (closed_loop f) (λ t. rw t (of_start _ p)) (λ t. rw t p)

  of_sample_lem : (count : ℕ) (watch : Bool) (f : Fan) → (P (with_reading count f) → P (with_stalled true (with_reading count f)))
      → P (with_reading count f) → P (sampled count watch f)
  unfolding sampled
  of_sample_lem count watch f stalls p =
      let g = with_reading count f in
      by_test (judged watch g && too_slow g) (λ t. rw t (of_stall g (stalls p))) (λ t. rw t p)

-- such are the registers, and a status bit
registers_aside : (registers : List ℕ) → Aside (λ (f : Fan). f.registers ≡ registers)
registers_aside registers = record { drives = λ x f p. p; clocks = λ x f p. p; spins = λ x f p. p; wishes = λ x f p. p }

bit_aside : (which : Bit) (stands : Bool) → Aside (λ (f : Fan). standing which f ≡ stands)
bit_aside Stall stands = record { drives = λ x f p. p; clocks = λ x f p. p; spins = λ x f p. p; wishes = λ x f p. p }
bit_aside Spin stands = record { drives = λ x f p. p; clocks = λ x f p. p; spins = λ x f p. p; wishes = λ x f p. p }

pub registers_after : RegistersAfter
unfolding written with_reading fired
registers_after f =
    let of = registers_aside in (
      of_tick _ (of f.registers) f (λ run last slow p. p) refl,
      λ wish. of_wish_lem _ (of f.registers) wish f refl,
      λ offset byte. by_test (stores f offset) (λ t. of_stored _ (of (put offset byte f).registers) offset byte f t refl ∙ rw t) (λ t. rw t),
      λ count watch. of_sample_lem _ (of (with_reading count f).registers) count watch f (λ p. p) refl,
      refl,
    )

-- a write and the watchdog leave a status bit
of_write_lem : (which : Bit) (offset byte : ℕ) (f : Fan) → standing which (written offset byte f) ≡ standing which f
unfolding written
of_write_lem Stall offset byte f = by_test (stores f offset) (λ t. of_stored _ (bit_aside Stall f.stalled) offset byte f t refl) (λ t. rw t)
of_write_lem Spin offset byte f = by_test (stores f offset) (λ t. of_stored _ (bit_aside Spin f.failed) offset byte f t refl) (λ t. rw t)

of_fired : (which : Bit) (f : Fan) → standing which (fired f) ≡ standing which f
unfolding fired
of_fired Stall f = refl
of_fired Spin f = refl

-- the last tick of a spin-up, with the reading too slow
fails : (f : Fan) → f.spin.running ≡ true → last_tick f.spin ≡ true → too_slow f ≡ true → (ticked f).failed ≡ true
unfolding spin_tick spin_over
fails f run last slow = rw (ticks_spin f run, last, slow) (of_failed _ (bit_aside Spin true) (with_failed true f) refl)

tick_fails : (f : Fan) → (ticked f).failed ≡ (f.failed || (f.spin.running && (last_tick f.spin && too_slow f)))
unfolding too_slow
tick_fails f =
    let now = f.failed in
    let test = f.spin.running && (last_tick f.spin && too_slow f) in
    by_test test
    (λ t.
    let run = and_left f.spin.running (last_tick f.spin && too_slow f) t in
    let rest = and_right f.spin.running (last_tick f.spin && too_slow f) t in
    fails f run (and_left (last_tick f.spin) (too_slow f) rest) (and_right (last_tick f.spin) (too_slow f) rest) ∙ sym (or_true now test t))
    (λ n.
    of_tick _ (bit_aside Spin now) f (λ run last slow p. absurd (true≢false (rw (run, last, slow) at n))) refl ∙ sym (rw n (or-false now)))

-- a sample that is judged and too slow, and any other
sample_stalls : (count : ℕ) (watch : Bool) (f : Fan)
    → let g : Fan = with_reading count f in
    (sampled count watch f).stalled ≡ (f.stalled || (judged watch g && too_slow g))
unfolding sampled with_reading
sample_stalls count watch f =
    let g = with_reading count f in
    let test = judged watch g && too_slow g in
    by_test test (λ t. rw t (of_stall _ (bit_aside Stall true) g refl ∙ sym (or_true f.stalled true refl))) (λ n. rw n (sym (or-false f.stalled)))

pub status_after : StatusAfter
unfolding with_reading
status_after f = (
  of_tick _ (bit_aside Stall f.stalled) f (λ run last slow p. p) refl,
  tick_fails f,
  λ count watch. (sample_stalls count watch f, of_sample_lem _ (bit_aside Spin f.failed) count watch f (λ p. p) refl),
  λ which. (λ wish. of_wish_lem _ (bit_aside which (standing which f)) wish f refl, λ offset byte. of_write_lem which offset byte f, of_fired which f),
)
