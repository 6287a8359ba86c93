-- A rotor that is held, and one that turns again (specs/Held.antt).
use mathlib.Core.Path.{◌≡◌, refl, sym, ap, subst, ◌∙◌}
use mathlib.Core.Bool.{Bool, true, false, ◌&&◌, true≢false, false≢true, and-false, or-false}
use mathlib.Core.List.{List}
use Prim.Native.Nat.{ℕ, suc, ◌+◌, ◌-◌, ◌≤◌, ◌<◌}
use native.Mathlib.Omega.{arith}
use lib.Dec.{leb, ltb}
use lib.ListN.{length, get_or, set, length-set, get_or-eq_default}
use lib.Seq.{get_or-set_other, get_or-set_same}
use borrow.Author.Tests.{leb-true, leb-false, le-ltb, eqb-true, not-true, not-false}
use Rattle.laws.specs.Repeat.{repeated}
use Rattle.laws.proofs.Repeat.{first_steps}
use Rattle.laws.proofs.Tests.{by_test, and_left, and_right}
use Rattle.eventlog.specs.declared.Event.{Event}
use Rattle.eventlog.specs.declared.Event.TheVariants.{Sample}
use Rattle.eventlog.specs.Kinds.{reply_length}
use Rattle.eventlog.proofs.Ranges.{reply_small}
use Rattle.emc2305_fan.specs.declared.Bit.{Bit}
use Rattle.emc2305_fan.specs.declared.Bit.TheVariants.{Stall, Spin}
use Rattle.emc2305_fan.specs.declared.Fan.{Fan}
use Rattle.emc2305_fan.specs.Registers.{bit, byte_at, valid_count, closed_loop}
use Rattle.emc2305_fan.specs.Drive.{under_ramp, period, wished}
use Rattle.emc2305_fan.specs.Spin.{too_slow, last_tick}
use Rattle.emc2305_fan.specs.Tick.{updated, clock_ticked, ticked}
use Rattle.emc2305_fan.specs.Tach.{count_high, count_low, with_reading, sampled, fired}
use Rattle.emc2305_fan.specs.Status.{standing, stuck, bit_read}
use Rattle.emc2305_fan.proofs.Steps.{ticks_ramp, ticks_still, healthy}
use Rattle.emc2305_fan.proofs.Kept.{registers_after, status_after}
use Rattle.emc2305_fan.proofs.Statuses.{status_read}
use Rattle.emc2305_watchdog.specs.Watch.{in_power_up}
use Rattle.emc2305_chip.specs.State.{fan_count}
use Rattle.emc2305_chip.specs.declared.Chip.{Chip}
use Rattle.emc2305_chip.specs.Watching.{fed_chip}
use Rattle.emc2305_chip.specs.Registers.{on_fan}
use Rattle.emc2305_chip.proofs.Promises.{one_fan}
use Rattle.emc2305.specs.Transfers.{byte_read}
use Rattle.emc2305.specs.Step.{taken}
use Rattle.emc2305.specs.Traffic.{is_sample_of}
use Rattle.emc2305.proofs.Effects.{by_effect}
use Rattle.emc2305.proofs.Parts.{after_part}
use Rattle.emc2305.proofs.FansKept.{five_fans}
use Rattle.walks.specs.Sequence.{Handed}
use Rattle.emc2305_promises.specs.Ramp.{next, after_all, fan_of, no_power_on, no_stored_write}
use Rattle.emc2305_promises.specs.Held.{register_for, reply_byte, Reads, reads_among, no_read_of, no_sample_of, no_good_sample, held, HeldRotor, left_alone, driven, ticks_can_set, HeldSame, unread, RotorTurns}
use Rattle.emc2305_promises.proofs.Events.{by_taken, Has, has, has_reads}
use Rattle.emc2305_promises.proofs.LeftAlone.{Kept, both, of_event_lem, of_events}
use Rattle.emc2305_promises.proofs.StatusReads.{reads_keep, stuck_reads, reply_bit, not_among, read_once, by_bit, slow_aside, other_kept, gone_kept, read_there, read_taken}

-- the reading is judged by two registers
by_registers : (f g : Fan) → byte_at 0x9 g ≡ byte_at 0x9 f → byte_at 0xE g ≡ byte_at 0xE f → too_slow g ≡ too_slow f
unfolding too_slow
by_registers f g valid high = rw (valid, high)

fired_past : (f : Fan) (k : ℕ) → 0x2 < k → byte_at k (fired f) ≡ byte_at k f
fired_past f k h =
    ap (λ (r : List ℕ). get_or r k 0) (registers_after f).4 ∙ get_or-set_other (set f.registers 0x0 0xFF) 0x2 k _ 0 (λ e. omega (arith, h))
    ∙ get_or-set_other f.registers 0x0 k 0xFF 0 (λ e. omega (arith, h))

slow_kept : (slow : Bool) → Kept (λ (f : Fan). too_slow f ≡ slow)
slow_kept slow =
    let at : ℕ → List ℕ → ℕ = λ k r. get_or r k 0 in
    record {
      of_tick = λ f p. by_registers f (ticked f) (ap (at 0x9) (registers_after f).0) (ap (at 0xE) (registers_after f).0) ∙ p;
      of_firing = λ f p. by_registers f (fired f) (fired_past f 0x9 (omega arith)) (fired_past f 0xE (omega arith)) ∙ p;
      of_wish_lem = λ w f p. by_registers f (wished w f) (ap (at 0x9) ((registers_after f).1 w)) (ap (at 0xE) ((registers_after f).1 w)) ∙ p;
    }

-- a bit that ticks cannot set
still : (f : Fan) → f.spin.running ≡ false → (ticked f).spin.running ≡ false
unfolding clock_ticked updated
still f e =
    by_test (under_ramp f)
    (λ u. rw (ticks_ramp f e u) (by_test (leb (period f) (f.clock + 1)) (λ t. rw t e) (λ t. rw t e)))
    (λ u. rw (ticks_still f e u) e)

wished_still : (w : ℕ) (f : Fan) → f.spin.running ≡ false → (wished w f).spin.running ≡ false
unfolding wished
wished_still w f e = by_test (closed_loop f) (λ t. rw t e) (λ t. rw t e)

calm_kept : (which : Bit) → Kept (λ (f : Fan). ticks_can_set which f ≡ false)
unfolding fired
calm_kept Stall = record { of_tick = λ f p. refl; of_firing = λ f p. refl; of_wish_lem = λ w f p. refl }
calm_kept Spin = record { of_tick = λ f p. still f p; of_firing = λ f p. refl; of_wish_lem = λ w f p. wished_still w f p }

-- a tick and a bit: it sets one only as a spin-up that fails, and clears none
ticks_leave : (which : Bit) (f : Fan) → (ticks_can_set which f ≡ true → too_slow f ≡ false) → standing which (ticked f) ≡ standing which f
unfolding too_slow
ticks_leave Stall f e = (status_after f).0
ticks_leave Spin f e =
    (status_after f).1
    ∙ by_test f.spin.running (λ t. rw (t, e t, and-false (last_tick f.spin), or-false f.failed)) (λ t. rw (t, or-false f.failed))

ticks_clear_none : (which : Bit) (f : Fan) → standing which f ≡ true → standing which (ticked f) ≡ true
ticks_clear_none Stall f p = (status_after f).0 ∙ p
ticks_clear_none Spin f p = (status_after f).1 ∙ rw p

-- what is kept of a fan, and a bit, where ticks keep it then
bit_kept : (which : Bit) (stood : Bool) (Q : Fan → Type 0) → Kept Q
    → ((f : Fan) → Q f → standing which f ≡ stood → standing which (ticked f) ≡ stood) → Kept (λ (f : Fan). Q f × (standing which f ≡ stood))
bit_kept which stood Q q ticks = record {
  of_tick = λ f p. (q.of_tick f p.0, ticks f p.0 p.1);
  of_firing = λ f p. (q.of_firing f p.0, ((status_after f).3 which).2 ∙ p.1);
  of_wish_lem = λ w f p. (q.of_wish_lem w f p.0, ((status_after f).3 which).0 w ∙ p.1);
}

-- stuck, where an event comes
stuck_there : (f : Fan) (rest : Bool) → ltb 0 f.drive && rest ≡ true → too_slow f ≡ true → stuck f ≡ true
unfolding stuck
stuck_there f rest q slow = rw slow (and_left (ltb 0 f.drive) rest q)

-- a fan that is stuck, and that a read shows its bit
shows : (which : Bit) (i k : ℕ) (h : Handed) (c : Chip) → length c.fans ≡ 5 → i < fan_count c → stuck (fan_of i c) ≡ true → Reads (register_for which) k h c
    → bit i (reply_byte k h c) ≡ standing which (fan_of i c)
shows which i k h c five l s reads =
    reply_bit which i k h c l reads
    ∙ ap (standing which) (stuck_reads i (reply_length h.log h.event) k (fed_chip c) (has i c five l) s)

-- an event that does nothing to a fan that is stuck
stuck_on : (i : ℕ) (P : Fan → Type 0) → Kept P → (h : Handed) (c : Chip) → Has i c → left_alone i h c ≡ true → stuck (fan_of i c) ≡ true
    → P (fan_of i c) → P (fan_of i (next h c))
stuck_on i P keeps h c there q s x =
    let n = reply_length h.log h.event in
    of_event_lem i P keeps h c there q (λ t. subst P (sym (stuck_reads i n n (fed_chip c) there s)) x) x

pub held_same : HeldSame
held_same which i k c events h (five, l) slow calm q r reads =
    let stood = standing which (fan_of i c) in
    let later = after_all events c in
    let P : Fan → Type 0 = λ f. ((too_slow f ≡ true) × (ticks_can_set which f ≡ false)) × (standing which f ≡ stood) in
    let keeps =
    bit_kept which stood (λ (f : Fan). (too_slow f ≡ true) × (ticks_can_set which f ≡ false)) (both (slow_kept true) (calm_kept which))
    (λ f s p. ticks_leave which f (λ can. absurd (true≢false (sym can ∙ s.1))) ∙ p) in
    let after =
    of_events i P (driven i) (λ g d y. and_left (no_power_on g d) _ (and_right (ltb 0 (fan_of i d).drive) (left_alone i g d) y))
    (λ g d there y p.
    let f = fan_of i d in
    stuck_on i P keeps g d there (and_right (ltb 0 f.drive) (left_alone i g d) y) (stuck_there f (left_alone i g d) y p.0.0) p)
    events c five l q ((slow, calm), refl) in
    let x = after.0 in
    shows which i k h later after.1 after.2 (stuck_there (fan_of i later) (left_alone i h later) r x.0.0) reads ∙ x.1

-- a sample leaves a bit that stands
sample_clears_none : (which : Bit) (count : ℕ) (watch : Bool) (f : Fan) → standing which f ≡ true → standing which (sampled count watch f) ≡ true
sample_clears_none Stall count watch f p = ((status_after f).2 count watch).0 ∙ rw p
sample_clears_none Spin count watch f p = ((status_after f).2 count watch).1 ∙ p

-- the fan that a sample is of
sampled_own : (i count : ℕ) (log : List ℕ) (c : Chip) → Has i c
    → fan_of i (taken log (Sample (i + 1) count) c) ≡ sampled count (in_power_up c.watch) (fan_of i c)
unfolding taken
sampled_own i count log c there =
    let at : i + 1 - 1 ≡ i = omega arith in
    let move = sampled count (in_power_up c.watch) in
    ap (λ (j : ℕ). fan_of i (on_fan j move c)) at ∙ (one_fan c i move).0 there.1

-- an event that is a taken sample of it
sample_taken : (which : Bit) (i : ℕ) (h : Handed) (c : Chip) → Has i c → no_sample_of i h c ≡ false → standing which (fan_of i c) ≡ true
    → standing which (fan_of i (next h c)) ≡ true
sample_taken which i h c there some p =
    by_taken h c
    (λ t e ranged.
    ap (λ (d : Chip). standing which (fan_of i d)) e
    ∙ by_effect (λ (event : Event). is_sample_of i event ≡ true → standing which (fan_of i (taken h.log event c)) ≡ true)
    (λ e on y. let none : is_sample_of i e ≡ false = on.no_sample false _ in absurd (true≢false (sym y ∙ none))) (λ count y. absurd (false≢true y))
    (λ fan count y. rw (eqb-true fan (i + 1) y, sampled_own i count h.log c there) (sample_clears_none which count _ (fan_of i c) p))
    (λ fan drive y. absurd (false≢true y)) (λ to place n y. absurd (false≢true y)) (λ to place n y. absurd (false≢true y))
    (λ event idle y. let none : is_sample_of i event ≡ false = idle.no_sample false _ in absurd (true≢false (sym y ∙ none))) h.event
    (not-false (is_sample_of i h.event) (rw t at some)))
    (λ t e. ap (λ (d : Chip). standing which (fan_of i d)) e ∙ p)

-- a bit that stands, over an event while the rotor is held
held_on : (which : Bit) (i : ℕ) (h : Handed) (c : Chip) → Has i c → held i h c ≡ true
    → (too_slow (fan_of i c) ≡ true) × (standing which (fan_of i c) ≡ true) → (too_slow (fan_of i (next h c)) ≡ true) × (standing which (fan_of i (next h c)) ≡ true)
held_on which i h c there q x =
    let f = fan_of i c in
    let P : Fan → Type 0 = λ g. (too_slow g ≡ true) × (standing which g ≡ true) in
    let rest = no_power_on h c && (no_good_sample i h c && no_stored_write i h c) in
    let parts = and_right (ltb 0 f.drive) rest q in
    let off = and_left (no_power_on h c) (no_good_sample i h c && no_stored_write i h c) parts in
    let others = and_right (no_power_on h c) (no_good_sample i h c && no_stored_write i h c) parts in
    let bad = and_left (no_good_sample i h c) (no_stored_write i h c) others in
    let dry = and_right (no_good_sample i h c) (no_stored_write i h c) others in
    let s = stuck_there f rest q x.0 in
    by_test (no_sample_of i h c)
    (λ none.
    stuck_on i P (bit_kept which true (λ (g : Fan). too_slow g ≡ true) (slow_kept true) (λ g y. ticks_clear_none which g)) h c there (rw (off, none, dry)) s x)
    (λ some. (rw some at bad, sample_taken which i h c there some x.1))

pub held_rotor : HeldRotor
held_rotor which i k c events h (five, l) slow q r reads stood =
    let later = after_all events c in
    let rest = no_power_on h later && (no_good_sample i h later && no_stored_write i h later) in
    let after =
    of_events i (λ (f : Fan). (too_slow f ≡ true) × (standing which f ≡ true)) (held i)
    (λ g d y. and_left (no_power_on g d) _ (and_right (ltb 0 (fan_of i d).drive) _ y)) (held_on which i) events c five l q (slow, stood) in
    let x = after.0 in
    shows which i k h later after.1 after.2 (stuck_there (fan_of i later) rest r x.0) reads ∙ x.1

-- a sample that is not too slow is kept, and nothing else comes of it
reading_at_most : (l : List ℕ) (i x bound : ℕ) → x ≤ bound → get_or (set l i x) i 0 ≤ bound
reading_at_most l i x bound h =
    by_test (leb (length l) i)
    (λ t.
    let past : length (set l i x) ≤ i = rw (length-set l i x) (leb-true (length l) i t) in
    rw (get_or-eq_default (set l i x) 0 past) (omega arith))
    (λ t. rw (get_or-set_same l i x 0 (leb-false (length l) i t)) h)

reading_aside : (f : Fan) (count : ℕ) (which : Bit) → standing which (with_reading count f) ≡ standing which f
unfolding with_reading
reading_aside f count Stall = refl
reading_aside f count Spin = refl

turning : (count : ℕ) (w : Bool) (f : Fan) → count_high count ≤ valid_count f
    → (too_slow (sampled count w f) ≡ false) × ((which : Bit) → standing which (sampled count w f) ≡ standing which f)
unfolding sampled with_reading too_slow
turning count w f h =
    let g = with_reading count f in
    let high = set f.registers 0xE (count_high count) in
    let slow : too_slow g ≡ false =
    le-ltb (byte_at 0x9 g) (byte_at 0xE g)
    (rw (
      get_or-set_other high 0xF 0x9 (count_low count) 0 (omega arith),
      get_or-set_other f.registers 0xE 0x9 (count_high count) 0 (omega arith),
      get_or-set_other high 0xF 0xE (count_low count) 0 (omega arith),
    ) (reading_at_most f.registers 0xE (count_high count) (valid_count f) h)) in
    rw (healthy w g slow) (slow, reading_aside f count)

not_stuck : (f : Fan) → too_slow f ≡ false → stuck f ≡ false
unfolding stuck
not_stuck f e = rw e

register_byte : (which : Bit) → register_for which < 256
register_byte Stall = omega arith
register_byte Spin = omega arith

-- a fan that turns, with its bit
module _ (which : Bit) (i : ℕ) where
  abbrev Turning : Bool → Fan → Type 0
  Turning stood f = (too_slow f ≡ false) × (standing which f ≡ stood)

  -- bytes that are not read from its register
  unread_keeps : (stood : Bool) (n k : ℕ) (c : Chip) → Has i c → Turning stood (fan_of i c)
      → ((j : ℕ) → j < k → (repeated j (byte_read n) c).pointer ≡ register_for which → ⊥) → Turning stood (fan_of i (repeated k (byte_read n) c))
  unread_keeps stood n k c l p none =
      reads_keep i (Turning stood) n k c l p
      (λ j read h at x.
      let f = fan_of i (repeated j (byte_read n) c) in
      by_bit which read (λ e. absurd (none j h (rw e at at)))
      (λ e. (slow_aside read f ∙ x.0, other_kept which read f e ∙ x.1)))

  -- a read that shows the bit, and clears it
  last_read : (stood : Bool) (k : ℕ) (h : Handed) (c : Chip) → i < fan_count c → length c.fans ≡ 5 → Turning stood (fan_of i c)
      → Reads (register_for which) k h c → (bit i (reply_byte k h c) ≡ stood) × (standing which (fan_of i (next h c)) ≡ false)
  unfolding repeated
  last_read stood k h c l five p (t, short, from) =
      let n = reply_length h.log h.event in
      let d = repeated k (byte_read n) (fed_chip c) in
      let there : Has i d = has_reads i n k (fed_chip c) (has i c five l) in
      by_taken h c
      (λ is e ranged.
      let small : n ≤ 32 = reply_small h.log h.event ranged in
      let x = unread_keeps stood n k (fed_chip c) (has i c five l) p
      (λ j before first. read_once n j k (fed_chip c) (register_for which) (register_byte which) small before short first from) in
      let cleared : standing which (bit_read which (fan_of i d)) ≡ false =
      (status_read which (fan_of i d)).0 ∙ ap (λ (b : Bool). standing which (fan_of i d) && b) (not_stuck (fan_of i d) x.0) ∙ and-false (standing which (fan_of i d)) in
      let after : standing which (fan_of i (byte_read n d)) ≡ false = ap (standing which) (read_there which i n d there from) ∙ cleared in
      let rest : standing which (fan_of i (repeated (n - suc k) (byte_read n) (byte_read n d))) ≡ false =
      reads_keep i (λ (f : Fan). standing which f ≡ false) n (n - suc k) (byte_read n d) (has_reads i n 1 d there) after
      (λ j read before at y. gone_kept which read _ y) in (
        reply_bit which i k h c l (t, short, from) ∙ x.1,
        rw (e, read_taken h.log h.event c (omega arith), ← first_steps (suc k) n (byte_read n) (fed_chip c) (omega arith)) rest,
      ))
      (λ isnt e. absurd (true≢false (sym t ∙ isnt)))

pub rotor_turns : RotorTurns
rotor_turns which i k count room log c events h (five, l) t low q reads =
    let sample : Handed = record { log = log; event = Sample (i + 1) count; room = room } in
    let stood = standing which (fan_of i c) in
    let start : Turning which i stood (fan_of i (next sample c)) =
    by_taken sample c
    (λ is e ranged.
    let s = turning count (in_power_up c.watch) (fan_of i c) low in
    subst (Turning which i stood) (sym (ap (fan_of i) e ∙ sampled_own i count log c (has i c five l))) (s.0, s.1 which))
    (λ isnt e. absurd (true≢false (sym t ∙ isnt))) in
    let first-five = five_fans c log (Sample (i + 1) count) room five in
    let keeps = bit_kept which stood (λ (f : Fan). too_slow f ≡ false) (slow_kept false) (λ f s p. ticks_leave which f (λ can. s) ∙ p) in
    let end =
    of_events i (Turning which i stood) (unread (register_for which) i)
    (λ g d r. and_left (no_power_on g d) _ (and_right (no_read_of (register_for which) g d) (left_alone i g d) r))
    (λ g d there r x.
    let n = reply_length g.log g.event in
    of_event_lem i (Turning which i stood) keeps g d there (and_right (no_read_of (register_for which) g d) (left_alone i g d) r)
    (λ is.
    let none = not-true (reads_among (register_for which) n g d) (rw is at (and_left (no_read_of (register_for which) g d) (left_alone i g d) r)) in
    unread_keeps which i stood n n (fed_chip d) there x (λ j before. not_among (register_for which) n j g d none before))
    x)
    events (next sample c) first-five (rw (after_part log (Sample (i + 1) count) room c refl) l) q start in
    last_read which i stood k h (after_all events (next sample c)) end.2 end.1 end.0 reads
