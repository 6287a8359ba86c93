-- Locked, no event but a power-on changes EFh or a locked register.
use mathlib.Core.Path.{◌≡◌, refl, sym, ap, ◌∙◌}
use mathlib.Core.Bool.{Bool, true, false, cond, not, ◌&&◌, false≢true, true≢false}
use mathlib.Core.List.{List, [], ◌∷◌}
use Prim.Native.Nat.{ℕ, ◌-◌, ◌≤◌}
use native.Mathlib.Omega.{arith}
use lib.Dec.{leb, eqb}
use lib.ListN.{length, get_or, set}
use lib.Seq.{get_or-set_other}
use borrow.Author.Tests.{leb-true, eqb-true, ne_eqb, not-true}
use Rattle.laws.specs.Lists.{first_moved}
use Rattle.laws.proofs.Lists.{moved_keeps, set_keeps}
use Rattle.laws.proofs.Repeat.{repeated_keeps}
use Rattle.laws.proofs.Tests.{by_test, and_left, and_right}
use Rattle.eventlog.specs.declared.Event.{Event}
use Rattle.eventlog.specs.Kinds.{is_power_on}
use Rattle.emc2305_fan.specs.declared.Bit.{Bit}
use Rattle.emc2305_fan.specs.declared.Fan.{Fan}
use Rattle.emc2305_fan.specs.Registers.{bit, byte_at, locked, undefined, shown, stores}
use Rattle.emc2305_fan.specs.Drive.{wished}
use Rattle.emc2305_fan.specs.Stored.{written}
use Rattle.emc2305_fan.specs.Tach.{sampled}
use Rattle.emc2305_fan.specs.Status.{bit_read}
use Rattle.emc2305_fan.proofs.Kept.{registers_after}
use Rattle.emc2305_fan.proofs.Statuses.{status_read}
use Rattle.emc2305_watchdog.specs.Watch.{fires, in_power_up}
use Rattle.emc2305_chip.specs.declared.Chip.{Chip}
use Rattle.emc2305_chip.specs.declared.Register.{Register}
use Rattle.emc2305_chip.specs.declared.Own.{Own}
use Rattle.emc2305_chip.specs.declared.Own.TheVariants.{Configuration, Status, StallStatus, SpinStatus, DriveFailStatus, Enable, Output, Lock, Identity}
use Rattle.emc2305_chip.specs.declared.Register.TheVariants.{OfFan, OfChip, Undefined}
use Rattle.emc2305_chip.specs.State.{fan_count, with_pointer, with_expired, with_fans, with_enable, with_outputs}
use Rattle.emc2305_chip.specs.Fans.{no_fan, fan_at}
use Rattle.emc2305_chip.specs.Watching.{fed_chip}
use Rattle.emc2305_chip.specs.Registers.{on_fan, own_shown, shown_of, is_locked, own_guarded, guarded, register_at, writable, stores_in, fan_stored, shown_at, stores_at, written_at}
use Rattle.emc2305_chip.specs.Ticks.{chip_ticked}
use Rattle.emc2305_chip.proofs.Moves.{stored_keeps, written_keeps, tick_move, tick_fans, tick_rest}
use Rattle.emc2305.specs.Transfers.{byte_written, in_turn, sent, read_out}
use Rattle.emc2305.specs.Step.{taken}
use Rattle.emc2305.specs.Promises.{Locked, after}
use Rattle.emc2305.proofs.Effects.{by_effect}
use Rattle.emc2305.proofs.ReadKeeps.{passed_keeps, read_keeps}
use Rattle.emc2305.proofs.Parts.{after_part}
use Rattle.emc2305.proofs.Numbers.{after_keeps}

-- a fan's locked register
module _ (o : ℕ) (l : locked o ≡ true) where
  inside : (3 ≤ o) × (o ≤ 11)
  unfolding locked
  inside =
      by_test (eqb o 3) (λ t. omega (arith, eqb-true o 3 t))
      (λ t.
      let e : leb 5 o && leb o 11 ≡ true = rw t at l in
      omega (arith, leb-true 5 o (and_left (leb 5 o) (leb o 11) e), leb-true o 11 (and_right (leb 5 o) (leb o 11) e)))

  -- it shows its byte alone
  still : (f g : Fan) (registers : List ℕ) → g.registers ≡ registers → get_or registers o 0 ≡ byte_at o f → shown g o ≡ shown f o
  unfolding shown
  still f g registers e b =
      rw (ne_eqb o 0 (λ z. omega (arith, inside))) (ap (λ (r : List ℕ). cond (undefined o) 0 (get_or r o 0)) e ∙ ap (cond (undefined o) 0) b)

  -- two bytes that are stored below or above the locked offsets don't change it
  beside : (f : Fan) (j k x y : ℕ) → (o ≡ j → ⊥) → (o ≡ k → ⊥) → get_or (set (set f.registers j x) k y) o 0 ≡ byte_at o f
  beside f j k x y m n = get_or-set_other (set f.registers j x) k o y 0 n ∙ get_or-set_other f.registers j o x 0 m

  tick_still : (c : Chip) (f : Fan) → shown (tick_move c f) o ≡ shown f o
  tick_still c f =
      by_test (fires c.watch)
      (λ t. rw t (still f _ _ (registers_after f).4 (beside f 0x0 0x2 _ _ (λ e. omega (arith, inside)) (λ e. omega (arith, inside)))))
      (λ t. rw t (still f _ _ (registers_after f).0 refl))

  read_still : (which : Bit) (f : Fan) → shown (bit_read which f) o ≡ shown f o
  read_still which f = still f _ _ (ap (λ (g : Fan). g.registers) (status_read which f).2) refl

  wish_still : (wish : ℕ) (f : Fan) → shown (wished wish f) o ≡ shown f o
  wish_still wish f = still f _ _ ((registers_after f).1 wish) refl

  sample_still : (count : ℕ) (watch : Bool) (f : Fan) → shown (sampled count watch f) o ≡ shown f o
  sample_still count watch f =
      still f _ _ ((registers_after f).3 count watch) (beside f 0xE 0xF _ _ (λ e. omega (arith, inside)) (λ e. omega (arith, inside)))

  write_still : (offset byte : ℕ) (f : Fan) → locked offset ≡ false → shown (written offset byte f) o ≡ shown f o
  write_still offset byte f free =
      still f _ _ ((registers_after f).2 offset byte)
      (by_test (stores f offset)
      (λ t. rw t (get_or-set_other f.registers offset o byte 0 (λ e. true≢false (sym l ∙ ap locked e ∙ free))))
      (λ t. rw t))

  -- in the list of fans: the first n moved alike, and one changed
  all_still : (n : ℕ) (move : Fan → Fan) → ((f : Fan) → shown (move f) o ≡ shown f o) → (fans : List Fan) (i : ℕ)
      → shown (fan_at (first_moved n move fans) i) o ≡ shown (fan_at fans i) o
  all_still n move keeps fans i = moved_keeps (λ (f : Fan). shown f o) n move keeps fans i no_fan

  one_still : (k : ℕ) (f : Fan) (fans : List Fan) (i : ℕ) → shown f o ≡ shown (fan_at fans k) o → shown (fan_at (set fans k f) i) o ≡ shown (fan_at fans i) o
  one_still k f fans i e = set_keeps (λ (g : Fan). shown g o) fans k f i no_fan e

-- every guarded register shows in d what it shows in c
abbrev Same : Chip → Chip → Type 0
Same c d = (register : Register) → guarded register ≡ true → shown_of d register ≡ shown_of c register

-- so it is where 20h, EFh and the fans' locked registers do
own_same : (c d : Chip) → d.configuration ≡ c.configuration → d.lock ≡ c.lock → (own : Own) → own_guarded own ≡ true → own_shown d own ≡ own_shown c own
own_same c d e l Configuration g = e
own_same c d e l Status g = absurd (false≢true g)
own_same c d e l StallStatus g = absurd (false≢true g)
own_same c d e l SpinStatus g = absurd (false≢true g)
own_same c d e l DriveFailStatus g = absurd (false≢true g)
own_same c d e l Enable g = absurd (false≢true g)
own_same c d e l (Output i) g = absurd (false≢true g)
own_same c d e l Lock g = l
own_same c d e l (Identity i) g = absurd (false≢true g)

same : (c d : Chip) → d.configuration ≡ c.configuration → d.lock ≡ c.lock
    → ((i o : ℕ) → locked o ≡ true → shown (fan_at d.fans i) o ≡ shown (fan_at c.fans i) o) → Same c d
same c d e l f (OfFan i o) g = f i o g
same c d e l f (OfChip own) g = own_same c d e l own g
same c d e l f Undefined g = absurd (false≢true g)

-- and where none of the three changed
aside : (c d : Chip) → d.configuration ≡ c.configuration → d.lock ≡ c.lock → d.fans ≡ c.fans → Same c d
aside c d e l f = same c d e l (λ i o k. ap (λ (fans : List Fan). shown (fan_at fans i) o) f)

tick_same : (c : Chip) → Same c (chip_ticked c)
tick_same c = same c (chip_ticked c) (tick_rest c).0 (tick_rest c).1 (λ i o l. rw (tick_fans c) (all_still o l (fan_count c) (tick_move c) (tick_still o l c) c.fans i))

read_same : (n : ℕ) (c : Chip) → Same c (read_out n c)
read_same n c register g =
    read_keeps (λ (d : Chip). shown_of d register) n c (λ d p. aside d (with_pointer p d) refl refl refl register g)
    (λ d. aside d (with_expired false d) refl refl refl register g)
    (λ d which. same d (with_fans (first_moved (fan_count d) (bit_read which) d.fans) d) refl refl (λ i o l. all_still o l (fan_count d) (bit_read which) (read_still o l which) d.fans i) register g)

-- a write that is stored while locked is to no guarded register
unguarded : (c : Chip) → is_locked c ≡ true → (register : Register) → stores_in c register ≡ true → not (guarded register) ≡ true
unguarded c k (OfFan i o) t = rw k at (and_right (stores (fan_at c.fans i) o) (not (is_locked c && locked o)) t)
unguarded c k (OfChip own) t = rw k at (and_right (writable own) (not (is_locked c && own_guarded own)) t)
unguarded c k Undefined t = refl

write_same : (n byte : ℕ) (c : Chip) → is_locked c ≡ true → Same c (byte_written n byte c)
unfolding byte_written fan_stored stores_at
write_same n byte c k register g =
    let v : Chip → ℕ = λ d. shown_of d register in
    passed_keeps v n (written_at c.pointer byte c) (λ p. aside (written_at c.pointer byte c) (with_pointer p (written_at c.pointer byte c)) refl refl refl register g)
    ∙ written_keeps v c.pointer byte c
    (λ t.
    stored_keeps v (λ (r : Register). not (guarded r)) byte c (λ e. absurd (false≢true e)) (aside c (with_enable byte c) refl refl refl register g)
    (λ j. aside c (with_outputs (set c.outputs j byte) c) refl refl refl register g)
    (λ j offset e.
    let free = not-true (locked offset) e in
    same c (fan_stored j offset byte c) refl refl (λ i o l. one_still o l j _ c.fans i (write_still o l offset byte (fan_at c.fans j) free)) register g)
    (λ e. absurd (false≢true e)) (register_at c c.pointer) (unguarded c k (register_at c c.pointer) t))

turns_same : (n : ℕ) (bytes : List ℕ) (c : Chip) → is_locked c ≡ true → Same c (in_turn n bytes c)
unfolding in_turn
turns_same n [] c k register g = refl
turns_same n (byte ∷ rest) c k register g =
    turns_same n rest (byte_written n byte c) (ap (bit 0) (write_same n byte c k (OfChip Lock) refl) ∙ k) register g ∙ write_same n byte c k register g

sent_same : (bytes : List ℕ) (c : Chip) → is_locked c ≡ true → Same c (sent bytes c)
unfolding sent
sent_same [] c k register g = refl
sent_same (pointer ∷ rest) c k register g =
    turns_same (length rest) rest (with_pointer pointer c) k register g ∙ aside c (with_pointer pointer c) refl refl refl register g

taken_same : (log : List ℕ) (event : Event) (c : Chip) → is_locked c ≡ true → is_power_on event ≡ false → Same c (taken log event c)
unfolding taken
taken_same log event c k =
    by_effect (λ (e : Event). is_power_on e ≡ false → Same c (taken log e c)) (λ e on p register g. absurd (true≢false (sym on.powers ∙ p)))
    (λ n p register g. repeated_keeps (λ (d : Chip). shown_of d register) n chip_ticked c (λ d. tick_same d register g))
    (λ fan n p. same c (on_fan (fan - 1) (sampled n (in_power_up c.watch)) c) refl refl (λ i o l. one_still o l (fan - 1) _ c.fans i (sample_still o l n _ _)))
    (λ fan drive p. same c (on_fan (fan - 1) (wished drive) c) refl refl (λ i o l. one_still o l (fan - 1) _ c.fans i (wish_still o l drive _)))
    (λ to place n p register g. read_same _ (fed_chip c) register g ∙ aside c (fed_chip c) refl refl refl register g)
    (λ to place n p register g. sent_same _ (fed_chip c) k register g ∙ aside c (fed_chip c) refl refl refl register g)
    (λ e idle p register g. ap (λ (d : Chip). shown_of d register) (idle.leaves log c)) event

pub locked_kept : Locked
unfolding shown_at
locked_kept c log event room k p =
    let kept : Same c (after log event room c) =
    λ register g. after_keeps (λ (d : Chip). shown_of d register) c log event room (taken_same log event c k p register g) in (
      ap (bit 0) (kept (OfChip Lock) refl) ∙ k,
      λ address g.
          rw (after_part log event room c p) (kept (register_at c address) g),
    )
