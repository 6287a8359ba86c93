-- What is shown by computing alone: document 01's examples, the sequences and the log of specs/Busy.antt, the log of specs/Held.antt.
use mathlib.Core.Path.{refl}
use Prim.Native.Nat.{◌<◌}
use native.Mathlib.Omega.{arith}
use Rattle.laws.specs.Repeat.{repeated}
use Rattle.eventlog.specs.Range.{range_number}
use Rattle.eventlog.specs.Reading.{read_at}
use Rattle.emc2305_fan.specs.Registers.{locked, shown, stores, power_on}
use Rattle.ramps.specs.Ramp.{moved}
use Rattle.emc2305_fan.specs.Drive.{goal, under_ramp, wished}
use Rattle.emc2305_fan.specs.Spin.{spin_drive, started, too_slow, spin_failed, spin_over, spin_tick}
use Rattle.emc2305_fan.specs.Tick.{updated, clock_ticked, ticked}
use Rattle.emc2305_fan.specs.Stored.{wish_taken, clock_set, settled, written}
use Rattle.emc2305_fan.specs.Tach.{with_reading, stall, sampled, fired}
use Rattle.emc2305_fan.specs.Status.{stuck, bit_read}
use Rattle.emc2305_chip.specs.Map.{register_of}
use Rattle.emc2305_chip.specs.Fans.{bits_of}
use Rattle.emc2305_chip.specs.Registers.{at_defaults, fan_stored, shown_at, cleared_at, stores_at, written_at}
use Rattle.emc2305_chip.specs.Ticks.{all_fired, all_ticked, chip_ticked}
use Rattle.emc2305.specs.Transfers.{pointer_past, byte_written, in_turn, sent, byte_read, reply_of}
use Rattle.emc2305.specs.Step.{step_number, taken, reply_to, stepped}
use Rattle.emc2305.specs.Traffic.{any_stores_to, sent_stores_to}
use Rattle.records.specs.Records.{records_from, records_of}
use Rattle.walks.specs.Run.{run_over, ended, run_of}
use Rattle.walks.specs.Sequence as any
use Rattle.emc2305_promises.specs.Corollaries.{updates_in, updates_made}
use Rattle.emc2305_promises.specs.Busy.{numbers_of, BusyRamp, ClosedRamp, TraceRamp}
use Rattle.emc2305_promises.specs.Held.{HeldTrace}
use Rattle.emc2305_promises.specs.Examples.{Examples}

pub examples_hold : Examples
unfolding repeated range_number read_at locked shown stores power_on moved goal under_ramp spin_drive started too_slow spin_failed spin_over spin_tick updated clock_ticked ticked wish_taken clock_set settled written with_reading stall sampled fired register_of bits_of at_defaults fan_stored shown_at stores_at written_at pointer_past byte_written in_turn sent all_fired all_ticked chip_ticked step_number taken stepped any.after_all
examples_hold = refl

-- the five-fan part has fan 2
five_there : 1 < 5
five_there = omega arith

pub busy_ramp : BusyRamp
unfolding repeated range_number locked stores power_on moved goal under_ramp wished spin_drive started too_slow spin_failed spin_over spin_tick updated clock_ticked ticked wish_taken clock_set settled written with_reading stall sampled stuck bit_read register_of at_defaults fan_stored stores_at written_at cleared_at pointer_past byte_written in_turn sent byte_read all_fired all_ticked chip_ticked step_number taken stepped any_stores_to sent_stores_to any.after_all any.throughout any.taken_ticks updates_in updates_made numbers_of
busy_ramp = (((refl, refl, refl, refl, refl, refl, refl, omega arith), five_there), refl, refl, refl, refl, refl, refl)

pub closed_ramp : ClosedRamp
unfolding repeated range_number locked stores power_on moved goal under_ramp wished spin_drive started too_slow spin_failed spin_over spin_tick updated clock_ticked ticked wish_taken clock_set settled written with_reading stall sampled register_of at_defaults fan_stored stores_at written_at pointer_past byte_written in_turn sent all_fired all_ticked chip_ticked step_number taken stepped any_stores_to sent_stores_to any.after_all any.throughout any.taken_ticks numbers_of
closed_ramp = (refl, ((refl, refl, refl, refl, refl, refl, refl, omega arith), five_there), refl, refl, refl, refl)

pub trace_ramp : TraceRamp
unfolding repeated range_number read_at locked shown stores power_on moved goal under_ramp wished spin_drive started too_slow spin_failed spin_over spin_tick updated clock_ticked ticked wish_taken clock_set settled written with_reading stall sampled stuck bit_read register_of at_defaults fan_stored shown_at stores_at written_at cleared_at pointer_past byte_written in_turn sent byte_read reply_of all_fired all_ticked chip_ticked step_number taken reply_to stepped any_stores_to sent_stores_to records_from records_of run_over ended run_of any.walk_over any.handed_over any.after_all any.throughout any.taken_ticks
trace_ramp = (((refl, refl, refl, refl, refl, refl, refl, omega arith), five_there), refl, refl, refl, refl, refl)

pub held_trace_lem : HeldTrace
unfolding repeated range_number read_at locked shown stores power_on moved goal under_ramp wished spin_drive started too_slow spin_failed spin_over spin_tick updated clock_ticked ticked wish_taken clock_set settled written with_reading stall sampled stuck bit_read register_of bits_of at_defaults fan_stored shown_at stores_at written_at cleared_at pointer_past byte_written in_turn sent byte_read reply_of all_fired all_ticked chip_ticked step_number taken reply_to stepped any_stores_to sent_stores_to records_from records_of run_over ended run_of any.walk_over any.handed_over any.after_all any.throughout
held_trace_lem = (refl, refl, refl, refl)
