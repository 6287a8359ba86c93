-- The promises of goals (specs/Promises.antt).
use mathlib.Core.Path.{◌≡◌, refl, ap}
use mathlib.Core.Bool.{Bool, true, false, cond, not, ◌||◌, true≢false}
use mathlib.Core.List.{List}
use Prim.Native.Nat.{ℕ, ◌≤◌, ◌<◌}
use native.Mathlib.Omega.{arith}
use native.Mathlib.Nat.{le_refl, le_trans}
use lib.Dec.{eqb}
use borrow.Author.Tests.{leb-true, le-leb}
use Rattle.laws.proofs.Tests.{and_left, and_right, or_true}
use Rattle.emc2300_duty.specs.declared.Zone.{Zone}
use Rattle.emc2300_duty.specs.declared.Asked.{Asked}
use Rattle.emc2300_duty.specs.declared.Asked.TheVariants.{Full, Off, Duty}
use Rattle.emc2300_duty.specs.Zones.{above_least, at_limit, zone_asks}
use Rattle.emc2300_duty.specs.Duty.{zone_at, is_linked, limit_reached, linked_fault, linked_duty, automatic, by_mode, mode_of, asked, goal_of}
use Rattle.emc2300_duty.specs.Promises.{Warmer, GoalRises, GoalWithin}
use Rattle.emc2300_duty.proofs.ZoneRules.{within, zone_rises}

-- a rule that holds of both gives the same goal
same_rule : (holds : Bool) (rule x y : Asked) → goal_of x ≤ goal_of y → goal_of (cond holds rule x) ≤ goal_of (cond holds rule y)
same_rule true rule x y h = le_refl (goal_of rule)
same_rule false rule x y h = h

-- no rule gives a goal above 255
within_rule : (holds : Bool) (x y : Asked) → goal_of x ≤ 255 → goal_of y ≤ 255 → goal_of (cond holds x y) ≤ 255
within_rule true x y h l = h
within_rule false x y h l = l

-- what is asked where a zone is linked, else 0
linked_within : (linked : Bool) (x : ℕ) → x ≤ 255 → cond linked x 0 ≤ 255
linked_within true x h = h
linked_within false x h = omega arith

linked_rises : (linked : Bool) (x y : ℕ) → x ≤ y → cond linked x 0 ≤ cond linked y 0
linked_rises true x y h = h
linked_rises false x y h = omega arith

-- either half that holds goes on to hold
or_rises : (a b c d : Bool) → (a ≡ true → c ≡ true) → (b ≡ true → d ≡ true) → a || b ≡ true → c || d ≡ true
or_rises true b c d f g e = rw (f refl)
or_rises false b c d f g e = or_true c d (g e)

-- a zone that is warmer stays at its limit, and asks no less
limit_stays : (z w : Zone) → Warmer z w → at_limit z ≡ true → at_limit w ≡ true
unfolding at_limit
limit_stays z w h e =
    let same : w.absolute ≡ z.absolute = ap (λ (v : Zone). v.absolute) h.0 in
    let some = and_left (not (eqb z.absolute 0x80)) _ e in
    let reached = leb-true (above_least z.absolute) (above_least z.temperature) (and_right (not (eqb z.absolute 0x80)) _ e) in
    rw (same, some) (le-leb _ _ (le_trans reached h.1))

asks_more : (minimum : ℕ) (z w : Zone) → Warmer z w → zone_asks minimum z ≤ zone_asks minimum w
asks_more minimum z w h = rw h.0 (zone_rises minimum z.temperature w.temperature z h.1)

-- the largest that the linked zones ask
duty_within : (mode minimum : ℕ) (zones : List Zone) → minimum ≤ 255 → linked_duty mode minimum zones ≤ 255
unfolding linked_duty
duty_within mode minimum zones h =
    let each : (place : ℕ) → cond (is_linked mode place) (zone_asks minimum (zone_at zones place)) 0 ≤ 255 =
    λ place. linked_within (is_linked mode place) _ (within minimum (zone_at zones place) h).1 in
    omega (arith, each 0, each 1, each 2)

module _ (zones warmer : List Zone) (warm : (place : ℕ) → place < 3 → Warmer (zone_at zones place) (zone_at warmer place)) where
  -- of three zones that are no colder
  limits_stay : limit_reached zones ≡ true → limit_reached warmer ≡ true
  unfolding limit_reached
  limits_stay =
      or_rises _ _ _ _ (limit_stays _ _ (warm 0 (omega arith)))
      (or_rises _ _ _ _ (limit_stays _ _ (warm 1 (omega arith))) (limit_stays _ _ (warm 2 (omega arith))))

  duty_rises : (mode minimum : ℕ) → linked_duty mode minimum zones ≤ linked_duty mode minimum warmer
  unfolding linked_duty
  duty_rises mode minimum =
      let each : (place : ℕ) → place < 3 → cond (is_linked mode place) (zone_asks minimum (zone_at zones place)) 0
      ≤ cond (is_linked mode place) (zone_asks minimum (zone_at warmer place)) 0 =
      λ place h. linked_rises (is_linked mode place) _ _ (asks_more minimum _ _ (warm place h)) in
      omega (arith, each 0 (omega arith), each 1 (omega arith), each 2 (omega arith))

-- the ways of an automatic output: by a limit, by a fault, by its zones
ways_rise : (limit limit₁ fault fault₁ : Bool) (duty duty₁ : ℕ) → (limit ≡ true → limit₁ ≡ true) → fault ≡ false → duty ≤ 255 → duty ≤ duty₁
    → goal_of (cond limit Full (cond fault Full (Duty duty))) ≤ goal_of (cond limit₁ Full (cond fault₁ Full (Duty duty₁)))
ways_rise true limit₁ fault fault₁ duty duty₁ stays none h l = rw (stays refl) (omega arith)
ways_rise false limit₁ true fault₁ duty duty₁ stays none h l = absurd (true≢false none)
ways_rise false true false fault₁ duty duty₁ stays none h l = h
ways_rise false false false true duty duty₁ stays none h l = h
ways_rise false false false false duty duty₁ stays none h l = l

pub goal_rises : GoalRises
unfolding asked by_mode automatic
goal_rises start overridden r zones warmer small warm none =
    same_rule (not start || overridden) Full _ _
    (same_rule (eqb (mode_of r) 3) Full _ _
    (same_rule (eqb (mode_of r) 4) Off _ _
    (same_rule (eqb (mode_of r) 7) (Duty r.setting) _ _
    (ways_rise (limit_reached zones) (limit_reached warmer) (linked_fault (mode_of r) zones) (linked_fault (mode_of r) warmer) _ _
    (limits_stay zones warmer warm) none (duty_within (mode_of r) r.minimum zones small) (duty_rises zones warmer warm (mode_of r) r.minimum)))))

pub goal_within : GoalWithin
unfolding asked by_mode automatic
goal_within start overridden r zones set small =
    let full : 255 ≤ 255 = omega arith in
    within_rule (not start || overridden) Full _ full
    (within_rule (eqb (mode_of r) 3) Full _ full
    (within_rule (eqb (mode_of r) 4) Off _ (omega arith)
    (within_rule (eqb (mode_of r) 7) (Duty r.setting) _ set
    (within_rule (limit_reached zones) Full _ full
    (within_rule (linked_fault (mode_of r) zones) Full _ full (duty_within (mode_of r) r.minimum zones small))))))
