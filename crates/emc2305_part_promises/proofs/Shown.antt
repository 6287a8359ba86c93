-- What stands at an address, with fewer fans and with five; and what it shows.
use mathlib.Core.Path.{◌≡◌, refl, sym, ap, subst, ◌∙◌}
use mathlib.Core.Bool.{Bool, true, false, cond}
use mathlib.Core.List.{List}
use Prim.Native.Nat.{ℕ, ◌-◌, ◌/◌, ◌%◌, ◌≤◌, ◌<◌}
use native.Mathlib.Omega.{arith}
use lib.Dec.{leb, ltb, eqb}
use lib.ListN.{get_or}
use borrow.Author.Tests.{le-leb, lt-leb, leb-true, leb-false, lt-ltb, ltb-true, ltb-false}
use Rattle.laws.proofs.Tests.{by_test, and_right}
use Rattle.emc2305_parts.specs.declared.Part.{Part}
use Rattle.emc2305_parts.specs.declared.Part.TheVariants.{Emc2301, Emc2302, Emc2303, Emc2305}
use Rattle.emc2305_parts.specs.Parts.{table_identity, identity_of}
use Rattle.emc2305_parts.proofs.Counts.{few_fans}
use Rattle.emc2305_fan.specs.declared.Bit.TheVariants.{Stall, Spin}
use Rattle.emc2305_fan.specs.declared.Fan.{Fan}
use Rattle.emc2305_fan.specs.Registers.{shown}
use Rattle.emc2305_chip.specs.declared.Chip.{Chip}
use Rattle.emc2305_chip.specs.declared.Own.{Own}
use Rattle.emc2305_chip.specs.declared.Own.TheVariants.{Configuration, Status, StallStatus, SpinStatus, DriveFailStatus, Enable, Output, Lock, Identity}
use Rattle.emc2305_chip.specs.declared.Register.{Register}
use Rattle.emc2305_chip.specs.declared.Register.TheVariants.{OfFan, OfChip, Undefined}
use Rattle.emc2305_chip.specs.State.{fan_count}
use Rattle.emc2305_chip.specs.Map.{within, of_fan, register_of}
use Rattle.emc2305_chip.specs.Registers.{stall_byte, spin_byte, status_byte, alert_line, own_shown, shown_of, shown_at}
use Rattle.emc2305_part_promises.specs.Alike.{five_fan, FansAlike, AsFive, past_fan, of_others}
use Rattle.emc2305_part_promises.specs.Promises.{SameShown}
use Rattle.emc2305_part_promises.proofs.Fans.{bits_alike, interrupts_alike}

-- what stands where, with so many fans, by what stands there with five
abbrev pub kept : ℕ → Register → Register
kept count r = cond (past_fan count r) Undefined r

either : (P : Register → Register → Type 0) (t : Bool) {r r₅ s s₅ : Register} → (t ≡ true → P r r₅) → P s s₅ → P (cond t r s) (cond t r₅ s₅)
either P true here there = here refl
either P false here there = there

module _ (count : ℕ) (few : count ≤ 5) where
  fan_kept : (i offset : ℕ) → i < 5 → of_fan count i offset ≡ kept count (of_fan 5 i offset)
  fan_kept i offset h =
      rw (lt-ltb i 5 h)
      (by_test (ltb i count) (λ t. rw (t, lt-leb count i (ltb-true i count t))) (λ t. rw (t, le-leb count i (ltb-false i count t))))

  pub register_kept : (a : ℕ) → register_of count a ≡ kept count (register_of 5 a)
  unfolding register_of
  register_kept a =
      let P : Register → Register → Type 0 = λ r five. r ≡ kept count five in
      either P (eqb a 0x20) (λ t. refl)
      (either P (eqb a 0x24) (λ t. refl)
      (either P (eqb a 0x25) (λ t. refl)
      (either P (eqb a 0x26) (λ t. refl)
      (either P (eqb a 0x27) (λ t. refl)
      (either P (eqb a 0x29) (λ t. refl)
      (either P (within 0x2A 0x2D a) (λ t. refl)
      (either P (within 0x30 0x7F a)
      (λ t.
      fan_kept ((a - 0x30) / 0x10) (a % 0x10) (omega (arith, leb-true a 0x7F (and_right (leb 0x30 a) (leb a 0x7F) t))))
      (either P (eqb a 0xEF) (λ t. refl)
      (either P (within 0xFC 0xFF a) (λ t. refl) refl)))))))))

-- every part has the same identity bytes
same_identity : (part : Part) → identity_of part ≡ table_identity
same_identity Emc2301 = refl
same_identity Emc2302 = refl
same_identity Emc2303 = refl
same_identity Emc2305 = refl

-- a chip and the five-fan part that is alike
module _ (c : Chip) (five : List Fan) (alike : FansAlike (fan_count c) c.fans five) where
  abbrev few : fan_count c ≤ 5
  few = few_fans c.part

  stall_alike : stall_byte c ≡ stall_byte (five_fan five c)
  stall_alike = bits_alike (fan_count c) few c.fans five alike Stall

  spin_alike : spin_byte c ≡ spin_byte (five_fan five c)
  spin_alike = bits_alike (fan_count c) few c.fans five alike Spin

  status_alike : status_byte c ≡ status_byte (five_fan five c)
  status_alike = rw (spin_alike, stall_alike)

  alert_alike : alert_line c ≡ alert_line (five_fan five c)
  unfolding alert_line
  alert_alike = rw (interrupts_alike (fan_count c) few c.fans five alike c.enable)

  own_alike : (own : Own) → own_shown c own ≡ own_shown (five_fan five c) own
  own_alike Configuration = refl
  own_alike Status = status_alike
  own_alike StallStatus = stall_alike
  own_alike SpinStatus = spin_alike
  own_alike DriveFailStatus = refl
  own_alike Enable = refl
  own_alike (Output i) = refl
  own_alike Lock = refl
  own_alike (Identity i) = ap (λ (bytes : List ℕ). get_or bytes i 0) (same_identity c.part)

  register_alike : (r : Register) → shown_of c (kept (fan_count c) r) ≡ cond (past_fan (fan_count c) r) 0x00 (shown_of (five_fan five c) r)
  register_alike (OfFan i offset) =
      by_test (leb (fan_count c) i) (λ t. rw t)
      (λ t. rw t (ap (λ (f : Fan). shown f offset) (alike.2 i (leb-false (fan_count c) i t))))
  register_alike (OfChip own) = own_alike own
  register_alike Undefined = refl

  shown_alike : (a : ℕ) → shown_at c a ≡ cond (of_others (fan_count c) a) 0x00 (shown_at (five_fan five c) a)
  unfolding shown_at
  shown_alike a = ap (shown_of c) (register_kept (fan_count c) few a) ∙ register_alike (register_of 5 a)

-- whatever is said of a chip and a five-fan part that is alike
pub by_five : (c : Chip) (P : Chip → Type 0) → ((five : List Fan) → FansAlike (fan_count c) c.fans five → P (five_fan five c)) → (d : Chip) → AsFive c d → P d
by_five c P said d a = subst P (sym a.0) (said d.fans a.1)

pub same_shown : SameShown
same_shown c =
    by_five c
    (λ (d : Chip).
    ((address : ℕ) → shown_at c address ≡ cond (of_others (fan_count c) address) 0x00 (shown_at d address))
    × (stall_byte c ≡ stall_byte d) × (spin_byte c ≡ spin_byte d) × (status_byte c ≡ status_byte d) × (alert_line c ≡ alert_line d))
    (λ five alike.
    (shown_alike c five alike, stall_alike c five alike, spin_alike c five alike, status_alike c five alike, alert_alike c five alike))
