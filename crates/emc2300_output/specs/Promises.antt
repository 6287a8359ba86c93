-- What is promised of an output; the proofs are in proofs/.
use Rattle.std.specs.Prelude.{◌≡◌, ◌↔◌, true, false, List, [], ◌∷◌, ℕ, ◌+◌, ◌-◌, ◌*◌, ◌/◌, ◌%◌, ◌≤◌, ◌<◌, get_or}
use Rattle.laws.specs.Bits.{bit}
use Rattle.laws.specs.Repeat.{repeated}
use Rattle.ramps.specs.Ramp.{distance, moved}
use Rattle.emc2300_duty.specs.declared.Registers.{Registers}
use Rattle.emc2300_duty.specs.declared.Asked.{Asked}
use Rattle.emc2300_duty.specs.declared.Asked.TheVariants.{Full, Off, Duty}
use Rattle.emc2300_duty.specs.Duty.{goal_of}
use Rattle.emc2300_output.specs.declared.Output.{Output}
use Rattle.emc2300_output.specs.Tables.{rates, lengths}
use Rattle.emc2300_output.specs.State.{placed, in_spin, with_left}
use Rattle.emc2300_output.specs.Ramp.{rate_of, ramp_control}
use Rattle.emc2300_output.specs.Settling.{spin_length, settled}
use Rattle.emc2300_output.specs.Tick.{ticked, last_within, spun_up}

-- the times of one step in ms (Table 8.29), and of a spin-up (Table 8.24)
abbrev pub step_times : List ℕ
step_times = 206 ∷ 104 ∷ 69 ∷ 41 ∷ 26 ∷ 18 ∷ 10 ∷ 5 ∷ []

abbrev pub spin_times : List ℕ
spin_times = 0 ∷ 100 ∷ 250 ∷ 400 ∷ 700 ∷ 1000 ∷ 2000 ∷ 4000 ∷ []

-- the rates are the times of a step in ticks of 12.5 ms, rounded up: two ticks are 25 ms
abbrev pub RateRule : Type 0
RateRule = (i : ℕ) → i < 8 → get_or rates i 0 ≡ (2 * get_or step_times i 0 + 24) / 25

-- the lengths are the spin-up times in ticks
abbrev pub LengthRule : Type 0
LengthRule = (i : ℕ) → i < 8 → 25 * get_or lengths i 0 ≡ 2 * get_or spin_times i 0

-- n ticks under ramp control, not in a spin-up, the clock below the rate: a step of 1 for each whole rate, the clock at what is left
abbrev pub RampTicks : Type 0
RampTicks =
    (n : ℕ) (r : Registers) (q : Asked) (o : Output)
    → ramp_control r q ≡ true
    → in_spin o ≡ false
    → o.clock < rate_of r
    → repeated n (ticked r q) o
    ≡ record { duty = moved o.duty (goal_of q) ((o.clock + n) / rate_of r); clock = (o.clock + n) % rate_of r; left = o.left }

-- it is at its goal from exactly tick |d - g| x u - p on
abbrev pub ArrivalTick : Type 0
ArrivalTick =
    (n : ℕ) (r : Registers) (q : Asked) (o : Output)
    → ramp_control r q ≡ true
    → in_spin o ≡ false
    → o.clock < rate_of r
    → (repeated n (ticked r q) o).duty ≡ goal_of q ↔ distance o.duty (goal_of q) * rate_of r - o.clock ≤ n

-- a clock at or past the rate acts at the next tick, in any state under ramp control and out of spin-up
abbrev pub PastRate : Type 0
PastRate =
    (r : Registers) (q : Asked) (o : Output)
    → ramp_control r q ≡ true
    → in_spin o ≡ false
    → rate_of r ≤ o.clock + 1
    → ticked r q o ≡ record { duty = moved o.duty (goal_of q) 1; clock = 0; left = o.left }

-- out of a spin-up and without ramp control ticks do nothing
abbrev pub StillTicks : Type 0
StillTicks =
    (n : ℕ) (r : Registers) (q : Asked) (o : Output)
    → ramp_control r q ≡ false → in_spin o ≡ false → repeated n (ticked r q) o ≡ o

-- n ticks of a spin-up with that many left or more: fewer change nothing but what is left; all of them end it at the goal, clock 0
abbrev pub SpinTicks : Type 0
SpinTicks =
    (n : ℕ) (r : Registers) (q : Asked) (o : Output)
    → (n < o.left → repeated n (ticked r q) o ≡ with_left (o.left - n) o)
    × (1 ≤ o.left → n ≡ o.left → repeated n (ticked r q) o ≡ placed (goal_of q))

-- the last tick of a spin-up is among the next n just where it is over after them and not before
abbrev pub LastTick : Type 0
LastTick =
    (n : ℕ) (r : Registers) (q : Asked) (o : Output)
    → last_within n o ≡ true ↔ (in_spin o ≡ true) × (in_spin (repeated n (ticked r q) o) ≡ false)

-- a start from standstill, for every length: n ticks from it and before the last 30h + shows 0 and the duty kept is 0; from the last on it is at
-- the goal, at once, ramp control or not
abbrev pub FromStandstill : Type 0
FromStandstill =
    (n goal : ℕ) (r : Registers) (o : Output)
    → in_spin o ≡ false
    → o.duty ≡ 0
    → 1 ≤ goal
    → let start : Output = settled r (Duty goal) o in
    (n < spin_length r → repeated n (ticked r (Duty goal)) start ≡ record { duty = 0; clock = 0; left = spin_length r - n })
    × (repeated (spin_length r) (ticked r (Duty goal)) start ≡ placed goal)

-- full, and off, are at once and end a spin-up, whatever the state
abbrev pub AtOnce : Type 0
AtOnce = (r : Registers) (o : Output) → (settled r Full o ≡ placed 255) × (settled r Off o ≡ placed 0)

-- goal 0 with SZEN is at once too, and goal 0 ends a spin-up with SZEN or without
abbrev pub ZeroAtOnce : Type 0
ZeroAtOnce =
    (r : Registers) (o : Output)
    → (bit 2 r.options ≡ true → settled r (Duty 0) o ≡ placed 0)
    × (in_spin o ≡ true → settled r (Duty 0) o ≡ placed 0)

-- settling twice is settling once, in every state
abbrev pub SettledOnce : Type 0
SettledOnce =
    (r : Registers) (q : Asked) (o : Output)
    → settled r q (settled r q o) ≡ settled r q o

-- what settling would not change, ticks and tachs leave so: in a run, where each change of what is asked is settled, settling again never changes anything
abbrev pub StaysSettled : Type 0
StaysSettled =
    (n : ℕ) (r : Registers) (q : Asked) (o : Output)
    → settled r q o ≡ o
    → (settled r q (repeated n (ticked r q) o) ≡ repeated n (ticked r q) o) × (settled r q (spun_up q o) ≡ spun_up q o)

-- settled, out of a spin-up and with a goal above 0 the duty is above 0
abbrev pub NotStanding : Type 0
NotStanding =
    (r : Registers) (q : Asked) (o : Output) → settled r q o ≡ o → in_spin o ≡ false → 1 ≤ goal_of q → 1 ≤ o.duty
