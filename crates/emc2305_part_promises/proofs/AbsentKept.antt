-- A fan that the chip does not have is as a power-on of its part leaves it.
use mathlib.Core.Path.{◌≡◌, refl, sym, ap, subst, ◌∙◌}
use mathlib.Core.Bool.{Bool, true, false, false≢true}
use mathlib.Core.List.{List, [], ◌∷◌}
use Prim.Native.Nat.{ℕ, ◌≤◌, ◌<◌}
use lib.Dec.{eqb}
use borrow.Author.Tests.{eqb-true, eqb-false}
use Rattle.laws.proofs.Tests.{by_test}
use Rattle.eventlog.specs.declared.Event.{Event}
use Rattle.eventlog.specs.Kinds.{is_power_on}
use Rattle.emc2305_parts.specs.declared.Part.{Part}
use Rattle.emc2305_parts.specs.declared.Part.TheVariants.{Emc2305}
use Rattle.emc2305_parts.specs.Parts.{fans_of, reset_of}
use Rattle.emc2305_fan.specs.declared.Fan.{Fan}
use Rattle.emc2305_fan.specs.Registers.{power_on}
use Rattle.emc2305_chip.specs.declared.Chip.{Chip}
use Rattle.emc2305_chip.specs.State.{fan_count}
use Rattle.emc2305_chip.specs.Fans.{fan_at}
use Rattle.emc2305_chip.specs.Registers.{at_defaults, unpowered}
use Rattle.emc2305.specs.Step.{taken}
use Rattle.emc2305.proofs.Effects.{by_effect}
use Rattle.emc2305.proofs.Parts.{after_part, absent_fans}
use Rattle.walks.specs.Sequence.{Handed}
use Rattle.walks.specs.Sequence as any
use Rattle.emc2305_promises.specs.Ramp.{next, after_all}
use Rattle.emc2305_part_promises.specs.Alike.{number_of}
use Rattle.emc2305_part_promises.specs.Promises.{AbsentKept}
use Rattle.emc2305_part_promises.proofs.Starts.{each_of_five}
use Rattle.emc2305_part_promises.proofs.Steps.{next_taken, next_refused}

abbrev Fresh : Chip → Type 0
Fresh c = (i : ℕ) → fan_count c ≤ i → i < 5 → fan_at c.fans i ≡ power_on (reset_of c.part).fan

start_fresh : (part : Part) (powered : Bool) (address : ℕ) → Fresh (at_defaults part powered address)
unfolding at_defaults
start_fresh part powered address i h =
    let f = power_on (reset_of part).fan in
    each_of_five (λ (g : Fan). g ≡ f) f refl i

-- a power-on that is taken
power_fresh : (log : List ℕ) (c : Chip) (event : Event) → is_power_on event ≡ true → Fresh c → Fresh (taken log event c)
power_fresh log c =
    by_effect (λ (e : Event). is_power_on e ≡ true → Fresh c → Fresh (taken log e c))
    (λ e on p f. subst Fresh (sym (on.resets log c)) (start_fresh on.part true on.address)) (λ n p f. absurd (false≢true p))
    (λ fan n p f. absurd (false≢true p)) (λ fan drive p f. absurd (false≢true p)) (λ to place n p f. absurd (false≢true p))
    (λ to place n p f. absurd (false≢true p)) (λ e idle p f. subst Fresh (sym (idle.leaves log c)) f)

next_fresh : (h : Handed) (c : Chip) → Fresh c → Fresh (next h c)
next_fresh h c f =
    by_test (is_power_on h.event)
    (λ p.
    by_test (eqb (number_of h c) 0)
    (λ t. subst Fresh (sym (next_taken h c (eqb-true (number_of h c) 0 t)).0) (power_fresh h.log c h.event p f))
    (λ t. subst Fresh (sym (next_refused h c (eqb-false (number_of h c) 0 t))) f))
    (λ p i l m.
    let part : (next h c).part ≡ c.part = after_part h.log h.event h.room c p in
    let there : fan_count c ≤ i = subst (λ (x : Part). fans_of x ≤ i) part l in
    absent_fans c h.log h.event h.room i p there ∙ f i there m ∙ ap (λ (x : Part). power_on (reset_of x).fan) (sym part))

all_fresh : (events : List Handed) (c : Chip) → Fresh c → Fresh (after_all events c)
unfolding any.after_all
all_fresh [] c f = f
all_fresh (h ∷ rest) c f = all_fresh rest (next h c) (next_fresh h c f)

pub absent_kept : AbsentKept
absent_kept events = all_fresh events unpowered (start_fresh Emc2305 false 0)
