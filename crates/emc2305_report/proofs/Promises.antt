-- The promises of the EMC2305's report of speeds (specs/Promises.antt).
use Rattle.std.proofs.Common.{◌≡◌, ℕ, ◌-◌, ◌<◌, Bool, false, eqb, List, set, sym, refl, ◌∙◌, true≢false, arith, get_or-set_other, lt-ltb, ne_eqb, le-leb}
use Rattle.laws.proofs.Lists.{set_keeps}
use Rattle.laws.proofs.Tests.{by_test}
use Rattle.eventlog.specs.declared.Event.TheVariants.{Sample}
use Rattle.eventlog.specs.Numbers.{reading_fault}
use Rattle.windows.specs.Teller.{Steady, Short}
use Rattle.windows.proofs.Buffers as buffers
use Rattle.windows.proofs.Cuttings as cuttings
use Rattle.windows.proofs.Advances as advances
use Rattle.reports.specs.Adding.{report}
use Rattle.reports.specs.Samples.{is_taken, samples_from}
use Rattle.reports.proofs.Tellers as tellers
use Rattle.reports.proofs.Limits as limits
use Rattle.reports.proofs.Longer as longer
use Rattle.reports.proofs.Promises as any
use Rattle.emc2305_speed.specs.Speed.{poles_right}
use Rattle.emc2305_fan.specs.declared.Fan.{Fan}
use Rattle.emc2305_fan.specs.Registers.{configuration1}
use Rattle.emc2305_fan.specs.Tach.{count_high, count_low, sampled}
use Rattle.emc2305_fan.proofs.Kept.{registers_after}
use Rattle.emc2305_watchdog.specs.Watch.{in_power_up}
use Rattle.emc2305_chip.specs.declared.Chip.{Chip}
use Rattle.emc2305_chip.specs.State.{fan_count}
use Rattle.emc2305_chip.specs.Fans.{no_fan, fan_at}
use Rattle.emc2305.specs.Step.{step_number, taken, stepped}
use Rattle.emc2305.proofs.Numbers.{step_numbers, numbered}
use Rattle.emc2305.proofs.Device.{lawful}
use Rattle.emc2305_report.specs.Speeds.{gauge, speeds_of}
use Rattle.emc2305_report.specs.Promises.{Numbers, Shown, FansApart, AbsentAside, SameReport, FiguresFit, LimitRule, AsRun, AfterLimit, LaterAside, AnyCutting, Kept, Onward, Finishes, EndedWants}
use Rattle.emc2305_report.proofs.Fits.{speed_fits}

-- of poles in range no number but the report's own
own_number : (poles : ℕ) (log : List ℕ) (n : ℕ) → (n ≡ 14 → ⊥) → (n ≡ 13 → ⊥) → (reading_fault n ≡ false) × (n ≡ 0 → ⊥) → (speeds_of poles log).number ≡ n → ⊥
unfolding speeds_of
own_number poles log n a b c e =
    by_test (poles_right poles) (λ y. limits.report_number (gauge poles) log n a c.0 c.1 (rw y at e)) (λ f. b (sym (rw f at e)))

pub numbers : Numbers
unfolding speeds_of
numbers poles log = (
  (
    λ e.
        by_test (poles_right poles)
        (λ y. absurd (limits.report_number (gauge poles) log 13 (λ z. omega arith) refl (λ z. omega arith) (rw y at e))) (λ f. f),
    λ f. rw f refl,
  ),
  λ f. rw f refl,
  own_number poles log 8 (λ z. omega arith) (λ z. omega arith) (refl, λ z. omega arith),
  own_number poles log 6 (λ z. omega arith) (λ z. omega arith) (refl, λ z. omega arith),
  own_number poles log 7 (λ z. omega arith) (λ z. omega arith) (refl, λ z. omega arith),
  own_number poles log 21 (λ z. omega arith) (λ z. omega arith) (refl, λ z. omega arith),
)

pub shown : Shown
shown poles configuration count right some = rw (right, le-leb 1 count some) refl

-- a sample keeps Configuration 1 of its fan
sample_keeps : (count : ℕ) (watch : Bool) (f : Fan) → configuration1 (sampled count watch f) ≡ configuration1 f
sample_keeps count watch f =
    rw ((registers_after f).3 count watch)
    (get_or-set_other (set f.registers 0xE (count_high count)) 0xF 0x2 (count_low count) 0 (λ z. omega arith)
    ∙ get_or-set_other f.registers 0xE 0x2 (count_high count) 0 (λ z. omega arith))

-- and of the others
keeps_one : (c : Chip) (log : List ℕ) (other count room i : ℕ)
    → configuration1 (fan_at (stepped c log (Sample other count) room).chip.fans i) ≡ configuration1 (fan_at c.fans i)
unfolding stepped taken
keeps_one c log other count room i =
    by_test (eqb (step_number c.part c.powered c.address log (Sample other count) room) 0)
    (λ y.
    rw y
    (set_keeps configuration1 c.fans (other - 1) (sampled count (in_power_up c.watch) (fan_at c.fans (other - 1))) i no_fan
    (sample_keeps count (in_power_up c.watch) (fan_at c.fans (other - 1)))))
    (λ n. rw n refl)

pub fans_apart : FansApart
unfolding samples_from
fans_apart poles log c other count fan place next rest = (
  keeps_one c log other count 32 (fan - 1),
  λ z. rw (ne_eqb other fan z) refl,
)

-- a sample of an absent fan is not taken
absent_number : (c : Chip) (log : List ℕ) (other count : ℕ) → fan_count c < other
    → eqb (step_number c.part c.powered c.address log (Sample other count) 32) 0 ≡ false
absent_number c log other count h =
    ne_eqb _ 0
    (λ e.
    true≢false
    (sym (lt-ltb (fan_count c) other h) ∙ ((step_numbers c.part c.powered c.address log (Sample other count) 32).5.0 e).2))

pub absent_aside : AbsentAside
unfolding stepped samples_from
absent_aside poles log c other count fan place next rest h =
    let n = absent_number c log other count h in
    let same : (stepped c log (Sample other count) 32).chip ≡ c = rw n refl in
    let no : is_taken (gauge poles) log (Sample other count) c ≡ false = rw (numbered c log (Sample other count) 32, n) refl in
    (same, by_test (eqb other fan) (λ y. rw (y, no, same) refl) (λ f. rw (f, same) refl))

module _ (poles : ℕ) where
  pub steady : Steady (report (gauge poles))
  steady = tellers.steady (gauge poles) lawful

  short : Short (report (gauge poles)) 677
  short = tellers.short (gauge poles) lawful

pub same_report : SameReport
same_report poles = any.same_report (gauge poles) (speed_fits poles)

pub figures_fit : FiguresFit
figures_fit poles = any.figures_fit (gauge poles) (speed_fits poles)

pub limit_rule : LimitRule
limit_rule poles = limits.limit_rule (gauge poles)

pub as_run : AsRun
as_run poles = any.as_run (gauge poles) (speed_fits poles) lawful

pub after_limit : AfterLimit
after_limit poles = longer.after_limit (gauge poles) (speed_fits poles) lawful

pub later_aside : LaterAside
later_aside poles = longer.later_aside (gauge poles) (speed_fits poles) lawful

pub any_cutting : AnyCutting
any_cutting poles = cuttings.any_cutting (report (gauge poles)) (steady poles)

pub kept : Kept
kept poles = buffers.kept (report (gauge poles)) (steady poles)

pub onward : Onward
onward poles = advances.onward (report (gauge poles)) (steady poles) 677 (short poles)

pub finishes : Finishes
finishes poles = advances.finishes (report (gauge poles)) (steady poles) 677 (short poles)

pub ended_wants : EndedWants
ended_wants poles = advances.ended_wants (report (gauge poles))
