-- A write that is stored reads back.
use mathlib.Core.Path.{ap₂, ◌≡◌, refl, sym, ap, ◌∙◌}
use mathlib.Core.Bool.{true, not, ◌&&◌, false≢true}
use mathlib.Core.List.{List}
use Prim.Native.Nat.{ℕ, ◌<◌}
use native.Mathlib.Omega.{arith}
use lib.ListN.{length, get_or}
use lib.Seq.{get_or-set_same}
use Rattle.laws.proofs.Tests.{and_left}
use Rattle.emc2305_fan.specs.declared.Fan.{Fan}
use Rattle.emc2305_fan.specs.Registers.{shown, stores, locked}
use Rattle.emc2305_fan.specs.Stored.{written}
use Rattle.emc2305_fan.proofs.Kept.{registers_after}
use Rattle.emc2305_fan.proofs.Offsets.{shows_byte, stores_hole, stores_within}
use Rattle.emc2305_chip.specs.declared.Chip.{Chip}
use Rattle.emc2305_chip.specs.declared.Own.{Own}
use Rattle.emc2305_chip.specs.declared.Own.TheVariants.{Configuration, Status, StallStatus, SpinStatus, DriveFailStatus, Enable, Output, Lock, Identity}
use Rattle.emc2305_chip.specs.declared.Register.{Register}
use Rattle.emc2305_chip.specs.declared.Register.TheVariants.{OfFan, OfChip, Undefined}
use Rattle.emc2305_parts.specs.declared.Part.{Part}
use Rattle.emc2305_parts.specs.Parts.{fans_of}
use Rattle.emc2305_chip.specs.State.{fan_count}
use Rattle.emc2305_chip.specs.Map.{register_of}
use Rattle.emc2305_chip.specs.Fans.{no_fan, fan_at}
use Rattle.emc2305_chip.specs.Registers.{own_shown, shown_of, is_locked, own_stores, stores_in, fan_stored, own_stored, stored_of, shown_at, stores_at}
use Rattle.emc2305_chip.specs.Promises.{ReadBack}
use Rattle.emc2305_chip.proofs.Maps.{At, Placed, by_register}
use Rattle.emc2305_chip.proofs.Moves.{written_part}
use Rattle.emc2305_chip.proofs.Ways.{writes, writes_nothing}

-- a fan's register, but for Setting
fan_back : (f : Fan) (offset byte : ℕ) → length f.registers ≡ 16 → stores f offset ≡ true → (offset ≡ 0 → ⊥)
    → shown (written offset byte f) offset ≡ byte
fan_back f offset byte len t n =
    let h = stores_within f offset t in
    let four : offset ≡ 4 → ⊥ = λ e. false≢true (stores_hole f offset e ∙ t) in
    sym (shows_byte (written offset byte f) offset n four h)
    ∙ ap (λ (r : List ℕ). get_or r offset 0) ((registers_after f).2 offset byte)
    ∙ rw t (get_or-set_same f.registers offset byte 0 (omega arith))

module _ (c : Chip) (byte : ℕ) (five : length c.fans ≡ 5) (four : length c.outputs ≡ 4)
    (whole : (i : ℕ) → i < fan_count c → length (fan_at c.fans i).registers ≡ 16) where
  -- one of the chip's own registers
  own_back : (a : ℕ) (own : Own) → At own a → own_stores c own ≡ true → own_shown (own_stored own byte c) own ≡ byte
  own_back a Configuration p t = refl
  own_back a Status p t = absurd (false≢true t)
  own_back a StallStatus p t = absurd (false≢true t)
  own_back a SpinStatus p t = absurd (false≢true t)
  own_back a DriveFailStatus p t = absurd (false≢true t)
  own_back a Enable p t = refl
  own_back a (Output i) p t = let h = p.0 in get_or-set_same c.outputs i byte 0 (omega arith)
  own_back a Lock p t = refl
  own_back a (Identity i) p t = absurd (false≢true t)

  -- a register that is written reads back
  abbrev Back : Register → Type 0
  Back r = stores_in c r ≡ true → ((i : ℕ) → r ≡ OfFan i 0x0 → ⊥) → shown_of (stored_of r byte c) r ≡ byte

  back : (a : ℕ) (register : Register) → Placed (fan_count c) a register → Back register
  unfolding fan_stored
  back a (OfFan i offset) p t n =
      let f = fan_at c.fans i in
      let h = p.0 in
      ap (λ (g : Fan). shown g offset) (get_or-set_same c.fans i (written offset byte f) no_fan (omega arith))
      ∙ fan_back f offset byte (whole i p.3) (and_left (stores f offset) (not (is_locked c && locked offset)) t) (λ e. n i (ap (OfFan i) e))
  back a (OfChip own) p t n = own_back a own p t
  back a Undefined p t n = absurd (false≢true t)

pub read_back : ReadBack
unfolding shown_at stores_at
read_back c address byte five four whole = (
  λ e. sym (writes_nothing c address byte e),
  λ t n.
      ap₂ shown_of (sym (writes c address byte t)) (ap (λ (part : Part). register_of (fans_of part) address) (written_part address byte c))
      ∙ by_register (Back c byte five four whole) (fan_count c) address (back c byte five four whole address) t n,
)
