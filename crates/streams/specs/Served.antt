-- What a window holds after a call that used some of it. What a read gives comes from outside: no definition says it.
use Rattle.std.specs.Prelude.{ℕ, ◌+◌, ◌-◌, ◌≤◌, ◌≡◌, Bool, true, false, cond, leb, ◌&&◌, List, length, take, Option, None, Some, Result, Ok, Err}
use Rattle.laws.specs.Buffer.{bytes_at}
use Rattle.windows.specs.declared.Wants.{Wants}
use Rattle.windows.specs.declared.Wants.TheVariants.{Input, Room, Nothing}
use Rattle.streams.specs.declared.Held.{Held as HeldThere}

-- what a window holds between two calls: its bytes between two places are read and not yet used; whether the input has ended, and whether to go on
pub record Held : Type 0 where
  pub from : ℕ
  pub held : ℕ
  pub ended : Bool
  pub going : Bool

-- nothing is held yet
abbrev pub begun : Held
begun = record { from = 0; held = 0; ended = false; going = true }

-- nothing is held, and there is nothing to go on with
abbrev pub over : Held
over = record { from = 0; held = 0; ended = false; going = false }

-- so many bytes of what is held are used, and it goes on or not
abbrev pub used_up : Held → ℕ → Bool → Held
used_up hold used going = record { from = hold.from + used; held = hold.held; ended = hold.ended; going = going }

-- the n bytes at a place were moved to the front
abbrev pub Moved : List ℕ → ℕ → ℕ → List ℕ → Type 0
Moved window place n last = take n last ≡ bytes_at window place n

-- what was held stands at the front of the window, with what was read behind it; an input that has ended gave nothing
pub record ReadOn (held : List ℕ) (r : Held) (last : List ℕ) : Type 0 where
  pub first : r.from ≡ 0
  pub keeps : take (length held) last ≡ held
  pub counts : length held ≤ r.held
  pub within : r.held ≤ length last
  pub ends : r.ended ≡ true → r.held ≡ length held

-- what a call leaves, by what it wants
abbrev pub ByWants : Wants → Held → ℕ → List ℕ → Held → List ℕ → Type 0
ByWants Input hold used window r last = ReadOn (bytes_at window (hold.from + used) (hold.held - (hold.from + used))) r last
ByWants Room hold used window r last = (r ≡ used_up hold used true) × (last ≡ window)
ByWants Nothing hold used window r last = (r ≡ used_up hold used false) × (last ≡ window)

-- what is held lies within the window, and so many bytes of it can be used
abbrev pub Fits : Held → ℕ → List ℕ → Type 0
Fits hold used window = (hold.from + used ≤ hold.held) × (hold.held ≤ length window)

-- what is held after a call lies within the window; it is over where that was not so before, or fewer bytes were held than used
pub record Served (hold : Held) (used : ℕ) (wants : Wants) (window : List ℕ) (r : Held) (last : List ℕ) : Type 0 where
  pub within : (r.from ≤ r.held) × (r.held ≤ length last)
  pub serves : Fits hold used window → ByWants wants hold used window r last
  pub refuses : (Fits hold used window → ⊥) → (r ≡ over) × (last ≡ window)

-- what the code's value says is held, and whether it goes on
abbrev pub going_on : HeldThere → Bool → Held
going_on hold going = record { from = hold.from; held = hold.held; ended = hold.ended; going = going }

-- what is held where there is nothing to go on with: what was not used, if that fits
abbrev pub stopped : Held → ℕ → List ℕ → Held
stopped hold used window = cond (leb (hold.from + used) hold.held && leb hold.held (length window)) (used_up hold used false) over

-- what is held where a read fails: so many bytes at the front of the window, and there is nothing to go on with
abbrev pub unread : ℕ → Held
unread n = record { from = 0; held = n; ended = false; going = false }

-- what a read behind so many bytes says is held
abbrev pub read_of : {E : Type 0} → Result HeldThere E → ℕ → Held
read_of (Ok next) n = going_on next true
read_of (Err error) n = unread n

-- what an answer of `served` says is held
abbrev pub held_of : {E : Type 0} → Result (Option HeldThere) E → Held → ℕ → List ℕ → Held
held_of (Ok (Some next)) hold used window = going_on next true
held_of (Ok None) hold used window = stopped hold used window
held_of (Err error) hold used window = unread (hold.held - (hold.from + used))
