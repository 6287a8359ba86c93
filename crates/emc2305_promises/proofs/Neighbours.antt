-- What reaches a fan does not go by the state of the other fans (specs/Alone.antt).
use mathlib.Core.Path.{◌≡◌, refl, sym, ap, ◌∙◌}
use mathlib.Core.Bool.{Bool, true, false, cond, ◌&&◌}
use mathlib.Core.List.{List, [], ◌∷◌}
use Prim.Native.Nat.{ℕ, zero, suc, ◌%◌, ◌<◌}
use lib.Dec.{eqb}
use lib.ListN.{length, get_or}
use borrow.Author.Tests.{eqb-true}
use Rattle.laws.specs.Buffer.{bytes_at}
use Rattle.laws.specs.Repeat.{repeated}
use Rattle.laws.proofs.Tests.{by_test, and_left}
use Rattle.eventlog.specs.declared.Event.{Event}
use Rattle.emc2305_watchdog.specs.declared.Watch.TheVariants.{Off}
use Rattle.emc2305_watchdog.specs.Watch.{is_off, in_power_up}
use Rattle.emc2305_chip.specs.declared.Chip.{Chip}
use Rattle.emc2305_chip.specs.declared.Register.{Register}
use Rattle.emc2305_chip.specs.declared.Register.TheVariants.{OfFan, OfChip, Undefined}
use Rattle.emc2305_chip.specs.State.{fan_count, with_pointer}
use Rattle.emc2305_chip.specs.Map.{is_of_fan}
use Rattle.emc2305_chip.specs.Watching.{fed_chip}
use Rattle.emc2305_chip.specs.Registers.{register_at, stores_in, stores_at}
use Rattle.emc2305.specs.Transfers.{byte_written, byte_read}
use Rattle.emc2305.specs.Step.{step_number, taken}
use Rattle.emc2305.proofs.Effects.{by_effect}
use Rattle.emc2305.proofs.Numbers.{numbered}
use Rattle.emc2305.proofs.FansKept.{five_fans}
use Rattle.walks.specs.Sequence.{Handed}
use Rattle.walks.specs.Sequence as any
use Rattle.emc2305_promises.specs.Ramp.{next, is_taken, throughout, fan_of, watch_off}
use Rattle.emc2305_promises.specs.Alone.{store, of_byte, of_bytes, of_write, of_reads, of_event, own_traffic, OthersAside}
use Rattle.walks.proofs.Sequences.{first_rest}
use Rattle.emc2305.specs.Device.{emc2305}
use Rattle.emc2305_promises.proofs.Events.{is_off_lem, by_taken, off_part, Has, has, has_byte}
use Rattle.emc2305_promises.proofs.OwnBytes.{byte_own}
use Rattle.emc2305_promises.proofs.OwnTraffic.{powering_own, idle_own, event_own, no_fan_waits}
use Rattle.emc2305_promises.proofs.Bare.{bare, byte_bare, byte_up, reads_bare, taken_bare}

module _ (i : ℕ) where
  -- alike but for the other fans
  abbrev Alike : Chip → Chip → Type 0
  Alike c d = (bare c ≡ bare d) × (fan_of i c ≡ fan_of i d) × Has i c × Has i d

  same_register : (c d : Chip) → Alike c d → (r : Register) → is_of_fan i r && stores_in c r ≡ is_of_fan i r && stores_in d r
  same_register c d a (OfFan k offset) =
      let lock : c.lock ≡ d.lock = ap (λ (b : Chip). b.lock) a.0 in
      by_test (eqb k i) (λ t. rw (t, eqb-true k i t, a.1, lock)) (λ t. rw t)
  same_register c d a (OfChip own) = refl
  same_register c d a Undefined = refl

  same_store : (p : ℕ) (c d : Chip) → Alike c d → is_of_fan i (register_at c p) && stores_at c p ≡ is_of_fan i (register_at d p) && stores_at d p
  unfolding stores_at
  same_store p c d a =
      same_register c d a (register_at c p) ∙ ap (λ (b : Chip). is_of_fan i (register_at b p) && stores_in d (register_at b p)) a.0

  same_byte : (byte : ℕ) (c d : Chip) → Alike c d → of_byte i byte c ≡ of_byte i byte d
  same_byte byte c d a =
      let pointer : c.pointer ≡ d.pointer = ap (λ (b : Chip). b.pointer) a.0 in
      ap (λ (p : ℕ). cond (is_of_fan i (register_at c p) && stores_at c p) (store (p % 16) byte ∷ []) []) pointer
      ∙ ap (λ (t : Bool). cond t (store (d.pointer % 16) byte ∷ []) []) (same_store d.pointer c d a)

  same_bytes : (n : ℕ) (bytes : List ℕ) (c d : Chip) → in_power_up c.watch ≡ false → Alike c d → of_bytes i n bytes c ≡ of_bytes i n bytes d
  unfolding of_bytes
  same_bytes n [] c d up a = refl
  same_bytes n (byte ∷ rest) c d up a =
      let same = same_byte byte c d a in
      let down : in_power_up d.watch ≡ false = ap (λ (b : Chip). in_power_up b.watch) (sym a.0) ∙ up in
      let next : Alike (byte_written n byte c) (byte_written n byte d) = (
        byte_bare byte c up n ∙ ap (byte_written n byte) a.0 ∙ sym (byte_bare byte d down n),
        byte_own i n byte c a.2 ∙ rw (same, a.1) (sym (byte_own i n byte d a.3)),
        has_byte i n byte c a.2,
        has_byte i n byte d a.3,
      ) in
      rw (same, same_bytes n rest (byte_written n byte c) (byte_written n byte d) (byte_up byte c up n) next)

  same_write : (bytes : List ℕ) (c d : Chip) → in_power_up c.watch ≡ false → Alike c d → of_write i bytes c ≡ of_write i bytes d
  unfolding of_write
  same_write [] c d up a = refl
  same_write (p ∷ rest) c d up a =
      same_bytes (length rest) rest (with_pointer p c) (with_pointer p d) up (ap (with_pointer p) a.0, a.1, a.2, a.3)

  same_reads : (n k : ℕ) (c : Chip) → of_reads n k c ≡ of_reads n k (bare c)
  unfolding of_reads
  same_reads n zero c = refl
  same_reads n (suc k) c =
      let pointer : (repeated k (byte_read n) c).pointer ≡ (repeated k (byte_read n) (bare c)).pointer =
      ap (λ (b : Chip). b.pointer) (reads_bare n k c) in
      rw (same_reads n k c, pointer)

  same_event : (log : List ℕ) (event : Event) (c d : Chip) → c.watch ≡ Off → Alike c d → of_event i log event c ≡ of_event i log event d
  same_event log event c d off a =
      by_effect (λ (e : Event). of_event i log e c ≡ of_event i log e d) (λ e on. powering_own i log e c on ∙ sym (powering_own i log e d on)) (λ n. refl) (λ fan n. refl) (λ fan drive. refl)
      (λ to place n.
      let k = get_or log place 0 in
      same_reads k k (fed_chip c) ∙ ap (λ (b : Chip). of_reads k k (fed_chip b)) a.0 ∙ sym (same_reads k k (fed_chip d)))
      (λ to place n. same_write (bytes_at log place n) (fed_chip c) (fed_chip d) (rw off) (ap fed_chip a.0, a.1, a.2, a.3))
      (λ e idle. idle_own i log e c idle ∙ sym (idle_own i log e d idle)) event

-- the rest of the chip after an event, with the watch off
next_bare : (h : Handed) (c : Chip) → c.watch ≡ Off → bare (next h c) ≡ cond (is_taken h c) (bare (taken h.log h.event (bare c))) (bare c)
next_bare h c off = by_taken h c (λ t e r. rw (t, e) (taken_bare h.log h.event c off)) (λ t e. rw (t, e))

module _ (h : Handed) (c d : Chip) (same : bare c ≡ bare d) where
  same_taken : is_taken h c ≡ is_taken h d
  same_taken =
      ap (λ (n : ℕ). eqb n 0)
      (numbered c h.log h.event h.room
      ∙ ap (λ (b : Chip). step_number b.part b.powered b.address h.log h.event h.room) same
      ∙ sym (numbered d h.log h.event h.room))

  same_next : c.watch ≡ Off → bare (next h c) ≡ bare (next h d)
  same_next off =
      next_bare h c off
      ∙ rw same_taken (ap (λ (b : Chip). cond (is_taken h d) (bare (taken h.log h.event b)) b) same)
      ∙ sym (next_bare h d (ap (λ (b : Chip). b.watch) (sym same) ∙ off))

  same_watch : c.watch ≡ Off → watch_off h c ≡ watch_off h d
  same_watch off =
      ap (λ (b : Chip). is_off b.watch && is_off (next h c).watch) same ∙ ap (λ (b : Chip). is_off d.watch && is_off b.watch) (same_next off)

module _ (i : ℕ) where
  -- the other chip has the fan too
  there_too : (c d : Chip) → bare c ≡ bare d → i < fan_count c → i < fan_count d
  there_too c d same l = rw (ap (λ (b : Chip). b.part) (sym same)) l

  sequence : (c d : Chip) (events : List Handed) → i < fan_count c → length c.fans ≡ 5 → length d.fans ≡ 5 → bare c ≡ bare d → fan_of i c ≡ fan_of i d
      → throughout watch_off events c ≡ true → (throughout watch_off events d ≡ true) × (own_traffic i events c ≡ own_traffic i events d)
  unfolding any.throughout own_traffic
  sequence c d [] l five cinq same fan quiet = (refl, refl)
  sequence c d (h ∷ rest) l five cinq same fan quiet =
      let q = first_rest emc2305 watch_off h rest c quiet in
      let here = q.0 in
      let ours = has i c five l in
      let theirs = has i d cinq (there_too c d same l) in
      let off = is_off_lem c.watch (and_left (is_off c.watch) (is_off (next h c).watch) here) in
      let there = sym (same_watch h c d same off) ∙ here in
      let taken_same = same_taken h c d same in
      let event-same = same_event i h.log h.event c d off (same, fan, ours, theirs) in
      let next-fan : fan_of i (next h c) ≡ fan_of i (next h d) =
      event_own h c i ours here ∙ rw (taken_same, event-same, fan) (sym (event_own h d i theirs there)) in
      let on = sequence (next h c) (next h d) rest (rw (off_part h c here) l) (five_fans c h.log h.event h.room five) (five_fans d h.log h.event h.room cinq)
      (same_next h c d same off) next-fan q.1 in
      (rw there on.0, rw (taken_same, event-same, on.1))

pub others_aside : OthersAside
others_aside i c d events five alike quiet =
    let same : bare c ≡ bare d = ap bare alike.0 in
    let s = sequence i c d events five.2 five.0 five.1 same alike.1 quiet in
    (s.0, s.1, no_fan_waits i c d events events (five.0, five.1, five.2, there_too i c d same five.2) quiet s.0 alike.1 s.1)
