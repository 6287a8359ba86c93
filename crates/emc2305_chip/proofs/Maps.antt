-- What stands at an address, range by range, and at which address a register stands.
use mathlib.Core.Path.{◌≡◌, refl, sym, ap₂, subst, ◌∙◌}
use mathlib.Core.Bool.{Bool, true, false, cond, true≢false}
use Prim.Native.Nat.{ℕ, ◌+◌, ◌-◌, ◌*◌, ◌/◌, ◌%◌, ◌≤◌, ◌<◌}
use native.Mathlib.Omega.{arith}
use lib.Dec.{leb, ltb, eqb}
use borrow.Author.Tests.{le-leb, lt-leb, leb-true, le-ltb, lt-ltb, ltb-true, eqb-true, ne_eqb}
use Rattle.laws.proofs.Tests.{and_left, and_right}
use Rattle.emc2305_chip.specs.declared.Own.{Own}
use Rattle.emc2305_chip.specs.declared.Own.TheVariants.{Configuration, Status, StallStatus, SpinStatus, DriveFailStatus, Enable, Output, Lock, Identity}
use Rattle.emc2305_chip.specs.declared.Register.{Register}
use Rattle.emc2305_chip.specs.declared.Register.TheVariants.{OfFan, OfChip, Undefined}
use Rattle.emc2305_chip.specs.Map.{within, of_fan, register_of}
use Rattle.emc2305_chip.specs.Promises.{FanMap, Division}

module _ (fans a : ℕ) where
  above : (k : ℕ) → k < a → eqb a k ≡ false
  above k h = ne_eqb a k (λ e. absurd (omega arith))

  below : (k : ℕ) → a < k → eqb a k ≡ false
  below k h = ne_eqb a k (λ e. absurd (omega arith))

  pub inside : (first last : ℕ) → first ≤ a → a ≤ last → within first last a ≡ true
  inside first last h k = rw (le-leb first a h) (le-leb a last k)

  pub under : (first last : ℕ) → a < first → within first last a ≡ false
  under first last h = rw (lt-leb first a h)

  pub over : (first last : ℕ) → first ≤ last → last < a → within first last a ≡ false
  over first last w h = let p : first ≤ a = omega arith in rw (le-leb first a p) (lt-leb a last h)

  -- past the single addresses, what holds of the ranges and EFh
  from_2_a : (r : Register) → 0x2A ≤ a
      → (cond (within 0x2A 0x2D a) (OfChip (Output (a - 0x2A)))
      (cond (within 0x30 0x7F a) (of_fan fans ((a - 0x30) / 0x10) (a % 0x10))
      (cond (eqb a 0xEF) (OfChip Lock)
      (cond (within 0xFC 0xFF a) (OfChip (Identity (a - 0xFC)))
      Undefined)))) ≡ r → register_of fans a ≡ r
  unfolding register_of
  from_2_a r h e =
      rw (
        above 0x20 (omega arith),
        above 0x24 (omega arith),
        above 0x25 (omega arith),
        above 0x26 (omega arith),
        above 0x27 (omega arith),
        above 0x29 (omega arith),
      )
      e

  -- 2Ah to 2Dh
  pub maps_output : 0x2A ≤ a → a ≤ 0x2D → register_of fans a ≡ OfChip (Output (a - 0x2A))
  maps_output h k = from_2_a _ h (rw (inside 0x2A 0x2D h k))

  -- the fans' registers
  pub maps_fan : 0x30 ≤ a → a ≤ 0x7F → register_of fans a ≡ of_fan fans ((a - 0x30) / 0x10) (a % 0x10)
  maps_fan h k = from_2_a _ (omega arith) (rw (over 0x2A 0x2D (omega arith) (omega arith), inside 0x30 0x7F h k))

  -- the identity bytes
  pub maps_identity : 0xFC ≤ a → a ≤ 0xFF → register_of fans a ≡ OfChip (Identity (a - 0xFC))
  maps_identity h k =
      from_2_a _ (omega arith)
      (rw (
        over 0x2A 0x2D (omega arith) (omega arith),
        over 0x30 0x7F (omega arith) (omega arith),
        above 0xEF (omega arith),
        inside 0xFC 0xFF h k,
      ))

  -- the gaps: below 2Ah but for the six registers there, 2Eh and 2Fh, 80h to FBh but for EFh
  pub maps_low : a < 0x2A → eqb a 0x20 ≡ false → eqb a 0x24 ≡ false → eqb a 0x25 ≡ false → eqb a 0x26 ≡ false → eqb a 0x27 ≡ false → eqb a 0x29 ≡ false
      → register_of fans a ≡ Undefined
  unfolding register_of
  maps_low h e0 e4 e5 e6 e7 e9 =
      rw (e0, e4, e5, e6, e7, e9, under 0x2A 0x2D h, under 0x30 0x7F (omega arith), below 0xEF (omega arith), under 0xFC 0xFF (omega arith))

  pub maps_gap : 0x2D < a → a < 0x30 → register_of fans a ≡ Undefined
  maps_gap h k =
      from_2_a _ (omega arith) (rw (over 0x2A 0x2D (omega arith) h, under 0x30 0x7F k, below 0xEF (omega arith), under 0xFC 0xFF (omega arith)))

  pub maps_high : 0x7F < a → a < 0xFC → eqb a 0xEF ≡ false → register_of fans a ≡ Undefined
  maps_high h k e =
      from_2_a _ (omega arith) (rw (over 0x2A 0x2D (omega arith) (omega arith), over 0x30 0x7F (omega arith) h, e, under 0xFC 0xFF k))

-- the address of one of the chip's own registers
abbrev pub At : Own → ℕ → Type 0
At Configuration a = a ≡ 0x20
At Status a = a ≡ 0x24
At StallStatus a = a ≡ 0x25
At SpinStatus a = a ≡ 0x26
At DriveFailStatus a = a ≡ 0x27
At Enable a = a ≡ 0x29
At (Output i) a = (i < 4) × (a ≡ 0x2A + i)
At Lock a = a ≡ 0xEF
At (Identity i) a = (i < 4) × (a ≡ 0xFC + i)

-- what is known of a register that stands at an address, where there are so many fans
abbrev pub Placed : ℕ → ℕ → Register → Type 0
Placed fans a (OfFan i offset) = (i < 5) × (offset < 16) × (a ≡ 0x30 + (0x10 * i + offset)) × (i < fans)
Placed fans a (OfChip own) = At own a
Placed fans a Undefined = Unit {0}

either : (P : Register → Type 0) (t : Bool) {x y : Register} → (t ≡ true → P x) → P y → P (cond t x y)
either P true f q = f refl
either P false f q = q

-- an address in a range
between : (first last a : ℕ) → within first last a ≡ true → (first ≤ a) × (a ≤ last)
between first last a e = (leb-true first a (and_left (leb first a) (leb a last) e), leb-true a last (and_right (leb first a) (leb a last) e))

-- each register stands at its address
pub placed : (fans a : ℕ) → Placed fans a (register_of fans a)
unfolding register_of
placed fans a =
    let P = Placed fans a in
    either P (eqb a 0x20) (eqb-true a 0x20)
    (either P (eqb a 0x24) (eqb-true a 0x24)
    (either P (eqb a 0x25) (eqb-true a 0x25)
    (either P (eqb a 0x26) (eqb-true a 0x26)
    (either P (eqb a 0x27) (eqb-true a 0x27)
    (either P (eqb a 0x29) (eqb-true a 0x29)
    (either P (within 0x2A 0x2D a) (λ t. let h = between 0x2A 0x2D a t in (omega (arith, h), omega (arith, h)))
    (either P (within 0x30 0x7F a)
    (λ t.
    let h = between 0x30 0x7F a t in
    either P (ltb ((a - 0x30) / 0x10) fans) (λ u. (omega (arith, h), omega arith, omega (arith, h), ltb-true ((a - 0x30) / 0x10) fans u)) tt)
    (either P (eqb a 0xEF) (eqb-true a 0xEF)
    (either P (within 0xFC 0xFF a) (λ t. let h = between 0xFC 0xFF a t in (omega (arith, h), omega (arith, h))) tt)))))))))

-- whatever stands at an address
pub by_register : (P : Register → Type 0) (fans a : ℕ) → ((register : Register) → Placed fans a register → P register) → P (register_of fans a)
by_register P fans a f = f (register_of fans a) (placed fans a)

-- a register that was found there
pub found_at : (fans a : ℕ) (found r : Register) → found ≡ register_of fans a → found ≡ r → Placed fans a r
found_at fans a found r e f = subst (Placed fans a) (sym e ∙ f) (placed fans a)

pub fan_map : FanMap
fan_map fans i offset h l =
    let at : register_of fans (0x30 + (0x10 * i + offset)) ≡ of_fan fans i offset =
    maps_fan fans (0x30 + (0x10 * i + offset)) (omega arith) (omega arith) ∙ ap₂ (of_fan fans) (omega arith) (omega arith) in
    (λ k. at ∙ rw (lt-ltb i fans k), λ k. at ∙ rw (le-ltb i fans k))

pub division : Division
division fans a = (
  λ t. let h = between 3 7 (a / 16) t in maps_fan fans a (omega (arith, h)) (omega (arith, h)) ∙ ap₂ (of_fan fans) (omega (arith, h)) refl,
  λ f i offset e.
      let p = found_at fans a (register_of fans a) (OfFan i offset) refl e in
      true≢false (sym (inside fans (a / 16) 3 7 (omega (arith, p)) (omega (arith, p))) ∙ f),
)
