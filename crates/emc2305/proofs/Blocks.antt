-- Data bytes while pointer and fans are held apart from the chip.
use mathlib.Core.Path.{◌≡◌, refl, sym, ap, ◌∙◌}
use mathlib.Core.Bool.{Bool, true, false, cond, ◌&&◌, ◌||◌, true≢false}
use mathlib.Core.List.{List, [], ◌∷◌}
use Prim.Native.Nat.{ℕ, suc, min, ◌+◌, ◌-◌, ◌*◌, ◌≤◌, ◌<◌}
use native.Mathlib.Omega.{arith}
use lib.Dec.{leb}
use lib.ListN.{length, drop, set, length-set, length-drop}
use lib.Seq.{get_or-set_same, set-get_or, set-set, drop-drop}
use borrow.Author.Tests.{leb-true, leb-false}
use Rattle.laws.proofs.Lists.{moved_keeps}
use Rattle.laws.proofs.Tests.{by_test}
use Rattle.emc2305_fan.specs.declared.Bit.{Bit}
use Rattle.emc2305_fan.specs.declared.Fan.{Fan}
use Rattle.emc2305_fan.specs.Registers.{shown}
use Rattle.emc2305_fan.specs.Stored.{programs, takes, byte_taken, bytes_taken, bytes_program}
use Rattle.emc2305_fan.specs.Status.{bit_read}
use Rattle.emc2305_fan.proofs.Statuses.{status_read}
use Rattle.emc2305_fan.proofs.Taken.{past_last}
use Rattle.emc2305_watchdog.specs.declared.Watch.{Watch}
use Rattle.emc2305_watchdog.specs.declared.Watch.TheVariants.{Off, PowerUp, Continuous}
use Rattle.emc2305_watchdog.specs.Watch.{programmed}
use Rattle.emc2305_chip.specs.declared.Chip.{Chip}
use Rattle.emc2305_chip.specs.declared.Own.{Own}
use Rattle.emc2305_chip.specs.declared.Own.TheVariants.{Configuration, Status, StallStatus, SpinStatus, DriveFailStatus, Enable, Output, Lock, Identity}
use Rattle.emc2305_chip.specs.declared.Register.{Register}
use Rattle.emc2305_chip.specs.declared.Register.TheVariants.{OfFan, OfChip, Undefined}
use Rattle.emc2305_chip.specs.State.{fan_count, with_fans, with_pointer}
use Rattle.emc2305_chip.specs.Fans.{no_fan, fan_at}
use Rattle.emc2305_chip.specs.Watching.{programmed_if}
use Rattle.emc2305_chip.specs.Registers.{is_locked, own_shown, clears, own_cleared, cleared_of, register_at, writable, own_stores, own_written, fan_stored, shown_at, cleared_at, stores_at, written_at}
use Rattle.emc2305_chip.proofs.Maps.{fan_map}
use Rattle.emc2305_chip.proofs.Moves.{cleared_keeps}
use Rattle.emc2305.specs.Transfers.{pointer_past, pointer_after, byte_written, in_turn, byte_read}

-- the chip with its pointer and its fans
abbrev pub held : ℕ → List Fan → Chip → Chip
held p fans c = with_pointer p (with_fans fans c)

module _ (n p byte : ℕ) (fans : List Fan) (c : Chip) where
  -- a byte for a fan, stored or not
  one_taken : (k o : ℕ) → register_at c p ≡ OfFan k o
      → held (pointer_past n p) (set fans k (byte_taken (is_locked c) o byte (fan_at fans k)))
      (programmed_if (takes (is_locked c) (fan_at fans k) o && programs o byte) c)
      ≡ byte_written n byte (held p fans c)
  unfolding byte_written written_at stores_at fan_stored
  one_taken k o at = by_test (takes (is_locked c) (fan_at fans k) o) (λ t. rw (at, t)) (λ t. rw (at, t, set-get_or fans k no_fan))

  -- a byte for a register of the chip's own: it looks at no fan and not at the pointer
  own_apart : (own : Own) → held p fans (own_written own byte c) ≡ own_written own byte (held p fans c)
  own_apart Configuration = by_test (own_stores c Configuration) (λ t. rw t) (λ t. rw t)
  own_apart Status = refl
  own_apart StallStatus = refl
  own_apart SpinStatus = refl
  own_apart DriveFailStatus = refl
  own_apart Enable = by_test (own_stores c Enable) (λ t. rw t) (λ t. rw t)
  own_apart (Output i) = by_test (own_stores c (Output i)) (λ t. rw t) (λ t. rw t)
  own_apart Lock = by_test (own_stores c Lock) (λ t. rw t) (λ t. rw t)
  own_apart (Identity i) = refl

  module _ (own : Own) (at : register_at c p ≡ OfChip own) where
    pub own_byte : held (pointer_past n p) fans (own_written own byte c) ≡ byte_written n byte (held p fans c)
    unfolding byte_written written_at stores_at
    own_byte = rw (at, sym (own_apart own))

    pub read_only : writable own ≡ false → held (pointer_past n p) fans c ≡ byte_written n byte (held p fans c)
    unfolding byte_written written_at stores_at
    read_only f = rw (at, f)

  -- a byte for no register
  pub nowhere : register_at c p ≡ Undefined → held (pointer_past n p) fans c ≡ byte_written n byte (held p fans c)
  unfolding byte_written written_at stores_at
  nowhere at = rw at

-- programmed twice is programmed once
programmed_twice : (w : Watch) → programmed (programmed w) ≡ programmed w
programmed_twice Off = refl
programmed_twice (PowerUp count) = refl
programmed_twice (Continuous count) = refl

either_programs : (first second : Bool) (w : Watch)
    → cond second (programmed (cond first (programmed w) w)) (cond first (programmed w) w) ≡ cond (first || second) (programmed w) w
either_programs true true w = programmed_twice w
either_programs true false w = refl
either_programs false true w = refl
either_programs false false w = refl

-- the pointer past no byte, and past one more
past_none : (n p : ℕ) → p < 256 → pointer_after n 0 p ≡ p
past_none n p h = by_test (leb n 1) (λ t. rw t) (λ t. rw t (omega arith))

past_more : (n p m : ℕ) → pointer_after n m (pointer_past n p) ≡ pointer_after n (suc m) p
unfolding pointer_past
past_more n p m = by_test (leb n 1) (λ t. rw t) (λ t. rw t (omega arith))

past_small : (n p : ℕ) → p < 256 → pointer_past n p < 256
unfolding pointer_past
past_small n p h = by_test (leb n 1) (λ t. rw t h) (λ t. rw t (omega arith))

past_next : (n p : ℕ) → (n ≤ 1 → ⊥) → p < 255 → pointer_past n p ≡ p + 1
unfolding pointer_past
past_next n p m h = by_test (leb n 1) (λ t. absurd (m (leb-true n 1 t))) (λ t. rw t (omega arith))

-- the bytes that one fan takes, from an offset on
module _ (n k : ℕ) (h : k < 5) where
  abbrev pub RowWritten : (bytes : List ℕ) (o p : ℕ) (fans : List Fan) (c : Chip) → Type 0
  RowWritten bytes o p fans c =
      let count : ℕ = min (length bytes) (16 - o) in
      let f : Fan = fan_at fans k in
      in_turn n (drop count bytes) (held (pointer_after n count p) (set fans k (bytes_taken (is_locked c) o bytes f)) (programmed_if (bytes_program (is_locked c) o bytes f) c))
      ≡ in_turn n bytes (held p fans c)

  none_taken : (bytes : List ℕ) (o p : ℕ) (fans : List Fan) (c : Chip) (count : ℕ) (f : Fan) (flag : Bool) → p < 256 → count ≡ 0 → f ≡ fan_at fans k → flag ≡ false
      → in_turn n (drop count bytes) (held (pointer_after n count p) (set fans k f) (programmed_if flag c)) ≡ in_turn n bytes (held p fans c)
  none_taken bytes o p fans c count f flag s e d g = rw (e, d, g, past_none n p s, set-get_or fans k no_fan)

  pub row_written : (bytes : List ℕ) (o p : ℕ) (fans : List Fan) (c : Chip) → k < fan_count c → k < length fans → p < 256 → o ≤ 16 → (n ≤ 1 → length bytes ≤ 1)
      → (0 < length bytes → o < 16 → p ≡ 0x30 + (0x10 * k + o)) → RowWritten bytes o p fans c
  unfolding in_turn bytes_taken bytes_program
  row_written [] o p fans c m l s b one at = none_taken [] o p fans c (min 0 (16 - o)) (fan_at fans k) false s (omega arith) refl refl
  row_written (byte ∷ rest) o p fans c m l s b one at =
      let lock = is_locked c in
      let f = fan_at fans k in
      by_test (leb 16 o)
      (λ t.
      let past = past_last lock o (byte ∷ rest) f (leb-true 16 o t) in
      none_taken (byte ∷ rest) o p fans c (min (suc (length rest)) (16 - o)) _ _ s (omega (arith, leb-true 16 o t)) past.0 past.1)
      (λ t.
      let in_row : o < 16 = leb-false 16 o t in
      let here : p ≡ 0x30 + (0x10 * k + o) = at (omega arith) in_row in
      let g = byte_taken lock o byte f in
      let flag = takes lock f o && programs o byte in
      let next = pointer_past n p in
      let more = min (length rest) (16 - (o + 1)) in
      let count : min (suc (length rest)) (16 - o) ≡ suc more = omega arith in
      let same : fan_at (set fans k g) k ≡ g = get_or-set_same fans k g no_fan l in
      let step = one_taken n p byte fans c k o (ap (register_at c) here ∙ (fan_map (fan_count c) k o h in_row).0 m) in
      let rows = row_written rest (o + 1) next (set fans k g) (programmed_if flag c) m (rw (length-set fans k g) l) (past_small n p s) (omega arith)
      (λ few. omega (arith, one few)) (λ some room. past_next n p (λ few. omega (arith, one few)) (omega arith) ∙ (omega arith)) in
      rw (count, sym step)
      (rw (same, set-set fans k g (bytes_taken lock (o + 1) rest g), either_programs flag (bytes_program lock (o + 1) rest g) c.watch, past_more n p more) at rows))

-- the same while bytes are taken from a place on, by what a fan's write answers
pub row_turn : (n k o i p : ℕ) (bytes lent : List ℕ) (fans : List Fan) (c : Chip) (locked flag : Bool) (f : Fan) (count : ℕ)
    → k < 5 → k < fan_count c → k < length fans → o < 16 → p ≡ 0x30 + (0x10 * k + o) → n ≡ length bytes → lent ≡ drop i bytes → locked ≡ is_locked c
    → f ≡ bytes_taken locked o lent (fan_at fans k) → flag ≡ bytes_program locked o lent (fan_at fans k) → count ≡ min (length lent) (16 - o)
    → in_turn n (drop (i + count) bytes) (held (pointer_after n count p) (set fans k f) (programmed_if flag c)) ≡ in_turn n (drop i bytes) (held p fans c)
row_turn n k o i p bytes lent fans c locked flag f count h m l r at whole e q x y z =
    let short = length-drop i bytes in
    rw (x, y, z, q, e, sym (drop-drop (min (length (drop i bytes)) (16 - o)) i bytes))
    (row_written n k h (drop i bytes) o p fans c m l (omega arith) (omega arith) (λ few. omega (arith, short)) (λ some room. at))

-- every fan shows in one list what it shows in the other
abbrev pub SameShown : List Fan → List Fan → Type 0
SameShown now before = (k o : ℕ) → shown (fan_at now k) o ≡ shown (fan_at before k) o

-- no read changes what a fan shows
bit_apart : (which : Bit) (f : Fan) (o : ℕ) → shown (bit_read which f) o ≡ shown f o
unfolding shown
bit_apart which f o = ap (λ (g : Fan). shown g o) (status_read which f).2

cleared_shown : (c : Chip) (r : Register) → SameShown (cleared_of r c).fans c.fans
cleared_shown c r k o =
    cleared_keeps (λ (d : Chip). shown (fan_at d.fans k) o) c refl
    (λ which. moved_keeps (λ (f : Fan). shown f o) (fan_count c) (bit_read which) (λ f. bit_apart which f o) c.fans k no_fan) r

-- what a read of the chip's own shows and clears does not go by the pointer
shown_apart : (p : ℕ) (c : Chip) (own : Own) → own_shown (with_pointer p c) own ≡ own_shown c own
shown_apart p c Configuration = refl
shown_apart p c Status = refl
shown_apart p c StallStatus = refl
shown_apart p c SpinStatus = refl
shown_apart p c DriveFailStatus = refl
shown_apart p c Enable = refl
shown_apart p c (Output i) = refl
shown_apart p c Lock = refl
shown_apart p c (Identity i) = refl

cleared_apart : (p : ℕ) (c : Chip) (own : Own) → own_cleared own (with_pointer p c) ≡ with_pointer p (own_cleared own c)
cleared_apart p c Configuration = refl
cleared_apart p c Status = refl
cleared_apart p c StallStatus = refl
cleared_apart p c SpinStatus = refl
cleared_apart p c DriveFailStatus = refl
cleared_apart p c Enable = refl
cleared_apart p c (Output i) = refl
cleared_apart p c Lock = refl
cleared_apart p c (Identity i) = refl

-- where a read clears nothing
uncleared : (c : Chip) (own : Own) → clears own ≡ false → own_cleared own c ≡ c
uncleared c Configuration e = refl
uncleared c Status e = absurd (true≢false e)
uncleared c StallStatus e = absurd (true≢false e)
uncleared c SpinStatus e = absurd (true≢false e)
uncleared c DriveFailStatus e = refl
uncleared c Enable e = refl
uncleared c (Output i) e = refl
uncleared c Lock e = refl
uncleared c (Identity i) e = refl

-- a byte read while the pointer is held apart: what is shown, what is left, what the fans show then
module _ (n p byte : ℕ) (c next : Chip) where
  abbrev pub ReadOne : List Fan → Type 0
  ReadOne fans =
      (byte ≡ shown_at (with_pointer p c) p) × (with_pointer (pointer_past n p) next ≡ byte_read n (with_pointer p c)) × SameShown next.fans fans

  module _ (fans : List Fan) (same : SameShown c.fans fans) where
    pub fan_read : (k o : ℕ) → register_at c p ≡ OfFan k o → byte ≡ shown (fan_at fans k) o → next ≡ c → ReadOne fans
    unfolding shown_at byte_read cleared_at
    fan_read k o at e m = rw (m, at) (e ∙ sym (same k o), refl, same)

    pub none_read : register_at c p ≡ Undefined → byte ≡ 0 → next ≡ c → ReadOne fans
    unfolding shown_at byte_read cleared_at
    none_read at e m = rw (m, at) (e, refl, same)

    pub own_read : (own : Own) → register_at c p ≡ OfChip own → byte ≡ own_shown c own → next ≡ own_cleared own c → ReadOne fans
    unfolding shown_at byte_read cleared_at
    own_read own at e m =
        rw (m, at, cleared_apart p c own)
        (e ∙ sym (shown_apart p c own), refl, λ k o. cleared_shown c (OfChip own) k o ∙ same k o)

    pub own_shown_lem : (own : Own) → register_at c p ≡ OfChip own → byte ≡ own_shown c own → clears own ≡ false → next ≡ c → ReadOne fans
    own_shown_lem own at e f m = own_read own at e (m ∙ sym (uncleared c own f))
