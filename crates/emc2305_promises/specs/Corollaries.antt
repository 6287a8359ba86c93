-- What follows from demand 3: refused events meet its conditions; when the fan arrives, and that it never passes its goal.
use Rattle.std.specs.Prelude.{◌≡◌, ◌↔◌, ◌⊎◌, Bool, true, false, cond, not, ◌&&◌, List, [], ◌∷◌, ℕ, zero, suc, ◌+◌, ◌*◌, ◌/◌, ◌%◌, ◌≤◌, ◌<◌, leb, take, drop}
use Rattle.laws.specs.Repeat.{repeated}
use Rattle.eventlog.specs.declared.Event.TheVariants.{Ticks}
use Rattle.eventlog.specs.Kinds.{ticks_of}
use Rattle.emc2305_fan.specs.declared.Fan.{Fan}
use Rattle.emc2305_fan.specs.Ramp.{distance, moved}
use Rattle.emc2305_fan.specs.Drive.{under_ramp, period}
use Rattle.emc2305_fan.specs.Tick.{updated, ticked}
use Rattle.emc2305_fan.specs.Promises.{updates_to}
use Rattle.emc2305_watchdog.specs.Watch.{is_off}
use Rattle.emc2305_chip.specs.declared.Chip.{Chip}
use Rattle.emc2305_chip.specs.Ticks.{chip_ticked}
use Rattle.walks.specs.Sequence.{Handed}
use Rattle.emc2305_promises.specs.Ramp.{next, is_taken, after_all, throughout, taken_ticks, fan_of, undisturbed, Ramping}

-- an event that is refused meets every condition, where the watch is off
abbrev pub RefusedMeets : Type 0
RefusedMeets = (i : ℕ) (h : Handed) (c : Chip) → is_taken h c ≡ false → is_off c.watch ≡ true → undisturbed i h c ≡ true

-- a chip with power takes every tick event, so t leaves none out
abbrev pub TicksTaken : Type 0
TicksTaken = (log : List ℕ) (count room : ℕ) (c : Chip) → c.powered ≡ true → is_taken (record { log = log; event = Ticks count; room = room }) c ≡ true

-- a fan's next tick is an update: its clock counts and comes to the period
abbrev pub at_update : Fan → Bool
at_update f = under_ramp f && (not f.spin.running && leb (period f) (f.clock + 1))

-- such a tick is an update, and no other tick out of spin-up moves the drive
abbrev pub UpdateTicks : Type 0
UpdateTicks =
    (f : Fan)
    → (at_update f ≡ true → ticked f ≡ updated f)
    × (f.spin.running ≡ false → at_update f ≡ false → (ticked f).drive ≡ f.drive)

-- the updates of fan i + 1 in n ticks, in none of which the watch fires
unfoldable pub updates_in : ℕ → ℕ → Chip → ℕ
updates_in i zero c = 0
updates_in i (suc n) c = updates_in i n c + cond (at_update (fan_of i (repeated n chip_ticked c))) 1 0

-- the updates of fan i + 1 in the tick events of a sequence that are taken
unfoldable pub updates_made : ℕ → List Handed → Chip → ℕ
updates_made i [] c = 0
updates_made i (h ∷ rest) c = cond (is_taken h c) (updates_in i (ticks_of h.event) c) 0 + updates_made i rest (next h c)

-- the updates are the whole part of (p + t) / u; with s of at least 1 the fan is at its goal where they are at least the distance over s, rounded up,
-- and not where they are fewer
abbrev pub Arrival : Type 0
Arrival =
    (i d g s u p : ℕ) (c : Chip) (events : List Handed)
    → Ramping i d g s u p c
    → throughout (undisturbed i) events c ≡ true
    → (updates_made i events c ≡ (p + taken_ticks events c) / u)
    × (1 ≤ s → (fan_of i (after_all events c)).drive ≡ g ↔ updates_to d g s ≤ updates_made i events c)

-- a point of a sequence: after k of its events and m ticks of the next
abbrev pub point_at : ℕ → ℕ → List Handed → Chip → Chip
point_at k m events c = repeated m chip_ticked (after_all (take k events) c)

-- the ticks of the event after k of them, where it is taken
abbrev pub ticks_at : ℕ → List Handed → Chip → ℕ
ticks_at k events c = taken_ticks (take 1 (drop k events)) (after_all (take k events) c)

-- demand 3 at every point of the sequence, with t the ticks up to there
abbrev pub AtEachPoint : Type 0
AtEachPoint =
    (i d g s u p k m : ℕ) (c : Chip) (events : List Handed)
    → Ramping i d g s u p c
    → throughout (undisturbed i) events c ≡ true
    → m ≤ ticks_at k events c
    → let t : ℕ = taken_ticks (take k events) c + m in
    Ramping i (moved d g (s * ((p + t) / u))) g s u ((p + t) % u) (point_at k m events c)

-- x lies on the way from d to g
abbrev pub Between : ℕ → ℕ → ℕ → Type 0
Between d x g = distance d x + distance x g ≡ distance d g

-- the point after l events and n ticks is not before that after k and m
abbrev pub NotBefore : ℕ → ℕ → ℕ → ℕ → Type 0
NotBefore k m l n = (k < l) ⊎ ((k ≡ l) × (m ≤ n))

-- at no point of the sequence has it passed g, and from any point to a later one it only comes nearer
abbrev pub NeverPasses : Type 0
NeverPasses =
    (i d g s u p k m l n : ℕ) (c : Chip) (events : List Handed)
    → Ramping i d g s u p c
    → throughout (undisturbed i) events c ≡ true
    → (m ≤ ticks_at k events c) × (n ≤ ticks_at l events c) × NotBefore k m l n
    → Between d (fan_of i (point_at k m events c)).drive g
    × Between (fan_of i (point_at k m events c)).drive (fan_of i (point_at l n events c)).drive g
