-- What becomes of a fan to which nothing is done: no power-on, no sample of it, no stored write to its registers (specs/Held.antt).
use mathlib.Core.Path.{◌≡◌, sym, ap, subst, ◌∙◌}
use mathlib.Core.Bool.{Bool, true, false, not, ◌&&◌, true≢false}
use mathlib.Core.List.{List, [], ◌∷◌}
use Prim.Native.Nat.{ℕ, zero, suc, ◌+◌, ◌-◌, ◌<◌}
use native.Mathlib.Omega.{arith}
use lib.Dec.{leb, eqb}
use lib.ListN.{length}
use borrow.Author.Tests.{leb-true, eqb-true, eqb-false, not-true}
use Rattle.laws.specs.Repeat.{repeated}
use Rattle.laws.proofs.Tests.{by_test, and_left, and_right}
use Rattle.eventlog.specs.declared.Event.{Event}
use Rattle.eventlog.specs.declared.Event.TheVariants.{Sample, Wish, Transfer}
use Rattle.eventlog.specs.Kinds.{is_power_on, reply_length}
use Rattle.eventlog.specs.Range.{fan_in_range, range_number}
use Rattle.eventlog.proofs.Ranges.{fan_right_lem}
use Rattle.emc2305_fan.specs.declared.Fan.{Fan}
use Rattle.emc2305_fan.specs.Drive.{wished}
use Rattle.emc2305_fan.specs.Tick.{ticked}
use Rattle.emc2305_fan.specs.Tach.{fired}
use Rattle.emc2305_watchdog.specs.Watch.{fires}
use Rattle.emc2305_chip.specs.declared.Chip.{Chip}
use Rattle.emc2305_chip.specs.State.{fan_count}
use Rattle.emc2305_chip.specs.Watching.{fed_chip}
use Rattle.emc2305_chip.specs.Registers.{on_fan}
use Rattle.emc2305_chip.specs.Ticks.{chip_ticked}
use Rattle.emc2305_chip.proofs.Moves.{ticks_count, ticks_part}
use Rattle.emc2305_chip.proofs.Promises.{one_fan}
use Rattle.emc2305_chip.proofs.Watches.{one_tick}
use Rattle.emc2305.specs.Transfers.{read_out}
use Rattle.emc2305.specs.Step.{taken}
use Rattle.emc2305.specs.Traffic.{stores_to, is_sample_of}
use Rattle.emc2305.proofs.Effects.{Powering, by_effect}
use Rattle.emc2305.proofs.FansKept.{five_fans, other_fans}
use Rattle.walks.specs.Sequence.{Handed}
use Rattle.walks.specs.Sequence as any
use Rattle.walks.proofs.Sequences.{first_rest}
use Rattle.emc2305.specs.Device.{emc2305}
use Rattle.emc2305_promises.specs.Ramp.{next, is_taken, after_all, throughout, fan_of, no_power_on, no_stored_write}
use Rattle.emc2305_promises.specs.Held.{no_sample_of, left_alone}
use Rattle.emc2305_promises.proofs.Events.{by_taken, calm_part, Has, has}

-- what ticks, the watchdog and a wish keep of a fan
pub record Kept (P : Fan → Type 0) : Type 0 where
  pub of_tick : (f : Fan) → P f → P (ticked f)
  pub of_firing : (f : Fan) → P f → P (fired f)
  pub of_wish_lem : (drive : ℕ) (f : Fan) → P f → P (wished drive f)

-- both of two such
pub both : {P Q : Fan → Type 0} → Kept P → Kept Q → Kept (λ (f : Fan). P f × Q f)
both p q = record {
  of_tick = λ f x. (p.of_tick f x.0, q.of_tick f x.1);
  of_firing = λ f x. (p.of_firing f x.0, q.of_firing f x.1);
  of_wish_lem = λ drive f x. (p.of_wish_lem drive f x.0, q.of_wish_lem drive f x.1);
}

-- the parts of leftAlone
module _ (i : ℕ) (h : Handed) (c : Chip) (q : left_alone i h c ≡ true) (t : is_taken h c ≡ true) where
  denied : (x : Bool) → not (is_taken h c && x) ≡ true → x ≡ false
  denied x e = not-true x (rw t at e)

  no_power_on_lem : is_power_on h.event ≡ false
  no_power_on_lem = denied _ (and_left (no_power_on h c) (no_sample_of i h c && no_stored_write i h c) q)

  no_sample : is_sample_of i h.event ≡ false
  no_sample = denied _ (and_left (no_sample_of i h c) (no_stored_write i h c) (and_right (no_power_on h c) _ q))

  no_store : stores_to i h.log h.event c ≡ false
  no_store = denied _ (and_right (no_sample_of i h c) (no_stored_write i h c) (and_right (no_power_on h c) _ q))

module _ (i : ℕ) (P : Fan → Type 0) (kept : Kept P) where
  of_ticks_lem : (n : ℕ) (c : Chip) → Has i c → P (fan_of i c) → P (fan_of i (repeated n chip_ticked c))
  unfolding repeated
  of_ticks_lem zero c l p = p
  of_ticks_lem (suc n) c l p =
      let d = repeated n chip_ticked c in
      let q = of_ticks_lem n c l p in
      rw ((one_tick d).2 i (rw (ticks_part n c) l.0) (rw (ticks_count n c) l.1))
      (by_test (fires d.watch) (λ t. rw t (kept.of_firing (fan_of i d) q)) (λ t. rw t (kept.of_tick (fan_of i d) q)))

  module _ (log : List ℕ) (room : ℕ) (c : Chip) (l : Has i c) (p : P (fan_of i c)) where
    abbrev handed : Event → Handed
    handed event = record { log = log; event = event; room = room }

    abbrev KeepsOn : Event → Type 0
    KeepsOn event =
        is_taken (handed event) c ≡ true → next (handed event) c ≡ taken log event c → range_number log event ≡ 0
        → left_alone i (handed event) c ≡ true → P (fan_of i (read_out (reply_length log event) (fed_chip c))) → P (fan_of i (next (handed event) c))

    same : (event : Event) → fan_of i (next (handed event) c) ≡ fan_of i c → P (fan_of i (next (handed event) c))
    same event e = subst P (sym e) p

    -- fan number k is not this one
    another : (k : ℕ) → fan_in_range k ≡ true → eqb k (i + 1) ≡ false → i ≡ k - 1 → ⊥
    another k ranged n e = eqb-false k (i + 1) n (omega (arith, leb-true 1 k (and_left (leb 1 k) (leb k 5) ranged)))

    of_power_on : (event : Event) → Powering event → KeepsOn event
    of_power_on event powering t e ranged q r =
        absurd (true≢false (sym powering.powers ∙ no_power_on_lem i (handed event) c q t))

    of_sample_lem : (k count : ℕ) → KeepsOn (Sample k count)
    of_sample_lem k count t e ranged q r =
        same (Sample k count)
        ((other_fans c log room i).0 k count
        (another k (fan_right_lem log (Sample k count) ranged) (no_sample i (handed (Sample k count)) c q t)))

    of_a_wish : (k drive : ℕ) → KeepsOn (Wish k drive)
    unfolding taken
    of_a_wish k drive t e ranged q r =
        by_test (eqb k (i + 1))
        (λ y.
        let at : k - 1 ≡ i = omega (arith, eqb-true k (i + 1) y) in
        let is : fan_of i (next (handed (Wish k drive)) c) ≡ wished drive (fan_of i c) =
        ap (fan_of i) e ∙ ap (λ (j : ℕ). fan_of i (on_fan j (wished drive) c)) at ∙ (one_fan c i (wished drive)).0 l.1 in
        subst P (sym is) (kept.of_wish_lem drive (fan_of i c) p))
        (λ n. same (Wish k drive) ((other_fans c log room i).1 k drive (another k (fan_right_lem log (Wish k drive) ranged) n)))

    of_taken : (event : Event) → KeepsOn event
    unfolding taken
    of_taken =
        by_effect KeepsOn of_power_on (λ count t e ranged q r. subst P (sym (ap (fan_of i) e)) (of_ticks_lem count c l p)) of_sample_lem of_a_wish
        (λ to place n t e ranged q r. subst P (sym (ap (fan_of i) e)) r)
        (λ to place n t e ranged q r.
        let event = Transfer false to place n in
        same event ((other_fans c log room i).2 to place n (no_store i (handed event) c q t)))
        (λ event idle t e ranged q r. same event (ap (fan_of i) (e ∙ idle.leaves log c)))

  -- one event, of which a read is spoken of apart
  pub of_event_lem : (h : Handed) (c : Chip) → Has i c → left_alone i h c ≡ true
      → (is_taken h c ≡ true → P (fan_of i (read_out (reply_length h.log h.event) (fed_chip c)))) → P (fan_of i c) → P (fan_of i (next h c))
  of_event_lem h c l q reads p =
      by_taken h c (λ t e ranged. of_taken h.log h.room c l p h.event t e ranged q (reads t)) (λ t e. subst P (sym (ap (fan_of i) e)) p)

-- what each event of a sequence without a power-on keeps of a fan, the sequence keeps; and the fan is there after it
pub of_events : (i : ℕ) (P : Fan → Type 0) (rule : Handed → Chip → Bool) → ((h : Handed) (c : Chip) → rule h c ≡ true → no_power_on h c ≡ true)
    → ((h : Handed) (c : Chip) → Has i c → rule h c ≡ true → P (fan_of i c) → P (fan_of i (next h c))) → (events : List Handed) (c : Chip)
    → length c.fans ≡ 5 → i < fan_count c → throughout rule events c ≡ true → P (fan_of i c)
    → P (fan_of i (after_all events c)) × (length (after_all events c).fans ≡ 5) × (i < fan_count (after_all events c))
unfolding any.throughout any.after_all
of_events i P rule calm keeps [] c five l q p = (p, five, l)
of_events i P rule calm keeps (h ∷ rest) c five l q p =
    let f = first_rest emc2305 rule h rest c q in
    of_events i P rule calm keeps rest (next h c) (five_fans c h.log h.event h.room five) (rw (calm_part h c (calm h c f.0)) l) f.1
    (keeps h c (has i c five l) f.0 p)
