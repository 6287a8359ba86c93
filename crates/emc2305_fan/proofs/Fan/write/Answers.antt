use Rattle.std.proofs.Common.{◌≡◌, ℕ, ◌+◌, Bool, true, false, ◌||◌, List, get_or, take, arith, refl, sym, ap, ◌∙◌}
use mathlib.Core.Bool.{or-false}
use Rattle.std.proofs.Math.ListN.{drop_of_length-le}
use Rattle.emc2305_fan.specs.Registers.{closed_loop}
use Rattle.emc2305_fan.specs.Stored.{put, wish_taken, clock_set, settled, takes, byte_taken, bytes_taken, bytes_program}
use Rattle.emc2305_fan.proofs.Steps.{settles_spin, settles_out, held_ends, held_on, sets_start, sets_ramp, sets_goal}
use Rattle.emc2305_fan.proofs.Taken.{takes_wish, leaves_wish, clears, leaves_clock, stored, refused, own_alone, taken_next, programs_next}
use Rattle.emc2305_fan.proofs.Fan.write.Goals as goal
use Rattle.emc2305_fan.proofs.Fan.write.Goals.{then-turned_on, else-turned_on, then-clears_clock, else-clears_clock}

-- a byte that is not taken changes nothing
pub loop-i-preserved-then-not-takes : goal.loop-i-preserved-then-not-takes
loop-i-preserved-then-not-takes c =
    let l = c.loop-i in
    let a = c.args in
    let own = take c.min.result a.bytes.now in
    let no : takes a.locked l.fan (a.first + l.i) ≡ false = sym c.takes.ensures ∙ c.if-not-takes.true in
    let still = refused a.locked (a.first + l.i) (get_or own l.i 0) l.fan no in
    record {
      taken = taken_next a.locked a.first l.i own l.fan l.fan c.loop-i-test.true still ∙ l.invariant.taken;
      program =
          programs_next a.locked a.first l.i own l.fan l.fan c.loop-i-test.true still l.programmed l.programmed
          (rw no (sym (or-false l.programmed))) ∙ l.invariant.program;
    }

-- the byte at hand
abbrev byte_at : goal.Joined-fan → ℕ
byte_at c = get_or (take c.min.result c.args.bytes.now) c.loop-i.i 0

-- the fan after it, with its wish
at_wish : (c : goal.Joined-fan)
    → c.if-turned_on.fan ≡ wish_taken (closed_loop c.loop-i.fan) (put (c.args.first + c.loop-i.i) (byte_at c) c.loop-i.fan)
at_wish c =
    let was = c.closed_loop-was_closed.result in
    let f = put (c.args.first + c.loop-i.i) (byte_at c) c.loop-i.fan in
    let e : c.if-turned_on.fan ≡ wish_taken was f =
    elim c.if-turned_on.branch [
      | then-turned_on w ↦ w.fan-is ∙ takes_wish was f (sym c.turned_on.ensures ∙ w.if-turned_on.true)
      | else-turned_on w ↦ w.fan-is ∙ leaves_wish was f (sym c.turned_on.ensures ∙ w.if-turned_on.false)
    ] in
    e ∙ ap (λ (t : Bool). wish_taken t f) c.closed_loop-was_closed.ensures

-- and with its clock
at_clock : (c : goal.Joined-fan)
    → c.if-clears_clock.fan
    ≡ clock_set (c.args.first + c.loop-i.i) (wish_taken (closed_loop c.loop-i.fan) (put (c.args.first + c.loop-i.i) (byte_at c) c.loop-i.fan))
at_clock c =
    let o = c.args.first + c.loop-i.i in
    let f = c.if-turned_on.fan in
    let e : c.if-clears_clock.fan ≡ clock_set o f =
    elim c.if-clears_clock.branch [
      | then-clears_clock w ↦ w.fan-is ∙ clears o f (sym c.clears_clock.ensures ∙ w.if-clears_clock.true)
      | else-clears_clock w ↦ w.fan-is ∙ leaves_clock o f (sym c.clears_clock.ensures ∙ w.if-clears_clock.false)
    ] in
    e ∙ ap (clock_set o) (at_wish c)

-- and with spin-up and drive
at_rest : (c : goal.Joined-fan) → c.if-fan.fan ≡ settled c.if-clears_clock.fan
at_rest c = grind (arith, settles_spin, settles_out, held_ends, held_on, sets_start, sets_ramp, sets_goal)

-- a byte that is taken
pub loop-i-preserved : goal.loop-i-preserved
loop-i-preserved c =
    let l = c.loop-i in
    let a = c.args in
    let own = take c.min.result a.bytes.now in
    let byte = byte_at c in
    let yes : takes a.locked l.fan (a.first + l.i) ≡ true = sym c.takes.ensures ∙ c.if-not-takes.false in
    let wrote : c.if-fan.fan ≡ byte_taken a.locked (a.first + l.i) byte l.fan =
    at_rest c ∙ ap settled (at_clock c) ∙ stored a.locked (a.first + l.i) byte l.fan yes in
    record {
      taken = taken_next a.locked a.first l.i own l.fan c.if-fan.fan c.loop-i-test.true wrote ∙ l.invariant.taken;
      program =
          programs_next a.locked a.first l.i own l.fan c.if-fan.fan c.loop-i-test.true wrote l.programmed
          (l.programmed || c.programs-programmed.result) (rw (c.programs-programmed.ensures, yes) refl) ∙ l.invariant.program;
    }

-- at the end none of its bytes is left, and the others do nothing
pub returns-clause-fan_value : goal.returns-clause-fan_value
unfolding bytes_taken
returns-clause-fan_value c =
    let a = c.args in
    let l = c.loop-i in
    let over = drop_of_length-le (take c.min.result a.bytes.now) {i = l.i} c.loop-i-test.false in
    ap (λ (b : List ℕ). bytes_taken a.locked (a.first + l.i) b l.fan) (sym over)
    ∙ l.invariant.taken ∙ (own_alone a.locked a.first a.bytes.now a.self c.min.result (omega arith)).0

pub returns-clause-programmed_value : goal.returns-clause-programmed_value
unfolding bytes_program
returns-clause-programmed_value c =
    let a = c.args in
    let l = c.loop-i in
    let over = drop_of_length-le (take c.min.result a.bytes.now) {i = l.i} c.loop-i-test.false in
    sym (or-false l.programmed)
    ∙ ap (λ (b : List ℕ). l.programmed || bytes_program a.locked (a.first + l.i) b l.fan) (sym over)
    ∙ l.invariant.program ∙ (own_alone a.locked a.first a.bytes.now a.self c.min.result (omega arith)).1
