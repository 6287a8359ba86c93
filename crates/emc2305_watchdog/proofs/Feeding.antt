-- What a transfer does to a watch.
use mathlib.Core.Path.{refl}
use mathlib.Core.Bool.{false≢true}
use Rattle.emc2305_watchdog.specs.declared.Watch.TheVariants.{Off, PowerUp, Continuous}
use Rattle.emc2305_watchdog.specs.Promises.{Feeding}

pub feeding : Feeding
feeding Off = (λ e. absurd (false≢true e), λ e. refl, λ count. refl)
feeding (PowerUp k) = (λ e. refl, λ e. absurd (false≢true e), λ count. refl)
feeding (Continuous k) = (λ e. absurd (false≢true e), λ e. absurd (false≢true e), λ count. refl)
