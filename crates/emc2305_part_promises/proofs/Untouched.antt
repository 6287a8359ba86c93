-- Where nobody drives the other fans, nothing is kept from the five-fan part: the same events on both.
use mathlib.Core.Path.{◌≡◌, refl, sym, ap, subst, ◌∙◌}
use mathlib.Core.Bool.{Bool, true, false, ◌||◌, true≢false, false≢true}
use mathlib.Core.List.{List, [], ◌∷◌}
use Prim.Native.Nat.{ℕ, ◌+◌, ◌-◌, ◌≤◌, ◌<◌}
use native.Mathlib.Omega.{arith}
use lib.Dec.{leb, ltb, eqb}
use lib.ListN.{length}
use borrow.Author.Tests.{leb-true, ltb-true, eqb-true, eqb-false, eq-eqb, not-true}
use Rattle.laws.specs.Buffer.{bytes_at}
use Rattle.laws.proofs.Tests.{by_test, and_left, and_right, or_left, or_right}
use Rattle.eventlog.specs.declared.Event.{Event}
use Rattle.eventlog.specs.declared.Event.TheVariants.{Ticks, Sample, Wish}
use Rattle.eventlog.specs.Kinds.{is_power_on}
use Rattle.eventlog.specs.Range.{fan_in_range, range_number}
use Rattle.eventlog.proofs.Ranges.{fan_right_lem}
use Rattle.emc2305_parts.specs.declared.Part.{Part}
use Rattle.emc2305_parts.specs.declared.Part.TheVariants.{Emc2305}
use Rattle.emc2305_parts.specs.Parts.{fans_of}
use Rattle.emc2305_chip.specs.declared.Chip.{Chip}
use Rattle.emc2305_chip.specs.declared.Register.{Register}
use Rattle.emc2305_chip.specs.declared.Register.TheVariants.{OfFan, OfChip, Undefined}
use Rattle.emc2305_chip.specs.State.{fan_count, with_pointer}
use Rattle.emc2305_chip.specs.Map.{register_of, is_of_fan}
use Rattle.emc2305_chip.specs.Watching.{fed_chip}
use Rattle.emc2305_chip.specs.Registers.{stores_at}
use Rattle.emc2305_chip.proofs.Maps.{Placed, placed}
use Rattle.emc2305_chip.proofs.Ways.{writes_nothing}
use Rattle.emc2305.specs.Transfers.{passed, byte_written, in_turn, sent}
use Rattle.emc2305.specs.Step.{for_past, taken}
use Rattle.emc2305.specs.Traffic.{byte_stores_to, any_stores_to, sent_stores_to, stores_to, is_sample_of, is_wish_for}
use Rattle.emc2305.proofs.Effects.{by_effect}
use Rattle.emc2305.proofs.Parts.{byte_part, taken_part, after_part}
use Rattle.walks.specs.Sequence.{Handed}
use Rattle.walks.specs.Sequence as any
use Rattle.walks.proofs.Sequences.{first_rest}
use Rattle.emc2305.specs.Device.{emc2305}
use Rattle.emc2305_promises.specs.Ramp.{next, is_taken, no_power_on}
use Rattle.emc2305_promises.specs.Busy.{numbers_of}
use Rattle.emc2305_part_promises.specs.Alike.{number_of, with_part, AsFive, past_fan, of_others, byte_kept, in_turn_kept, sent_kept, kept_from, next_kept, undriven_by, AnswersAlike}
use Rattle.emc2305_part_promises.specs.Promises.{Untouched, SameTraffic}
use Rattle.emc2305_part_promises.proofs.Operations.{kept_other, kept_own}
use Rattle.emc2305_part_promises.proofs.Answers.{by_number}
use Rattle.emc2305_part_promises.proofs.Steps.{plain, next_taken, next_refused, alike_step}

-- a five-fan part taken for one
still : (d : Chip) → d.part ≡ Emc2305 → with_part Emc2305 d ≡ d
still d e = ap (λ (part : Part). with_part part d) (sym e)

module _ (count : ℕ) where
  -- a register of a fan past the first so many, which is one of five
  of_one : {X : Type 0} (a : ℕ) (r : Register) → Placed 5 a r → past_fan count r ≡ true → ((i : ℕ) → count ≤ i → i < 5 → is_of_fan i r ≡ true → X) → X
  of_one a (OfFan i offset) p past said = said i (leb-true count i past) p.0 (eq-eqb i i refl)
  of_one a (OfChip own) p past said = absurd (false≢true past)
  of_one a Undefined p past said = absurd (false≢true past)

  byte_untouched : (n byte : ℕ) (d : Chip) → d.part ≡ Emc2305 → ((i : ℕ) → count ≤ i → i < 5 → byte_stores_to i d ≡ false)
      → byte_kept count n byte d ≡ byte_written n byte d
  unfolding byte_written
  byte_untouched n byte d five none =
      let a = d.pointer in
      by_test (of_others count a)
      (λ t.
      let idle : stores_at d a ≡ false =
      of_one a (register_of 5 a) (placed 5 a) t
      (λ i h l e.
      let own : is_of_fan i (register_of (fan_count d) a) ≡ true = ap (λ (part : Part). is_of_fan i (register_of (fans_of part) a)) five ∙ e in
      rw own at (none i h l)) in
      kept_other count n byte d t ∙ ap (passed n) (writes_nothing d a byte idle))
      (kept_own count n byte d)

  turns_untouched : (n : ℕ) (bytes : List ℕ) (d : Chip) → d.part ≡ Emc2305 → ((i : ℕ) → count ≤ i → i < 5 → any_stores_to i n bytes d ≡ false)
      → in_turn_kept count n bytes d ≡ in_turn n bytes d
  unfolding in_turn_kept in_turn any_stores_to
  turns_untouched n [] d five none = refl
  turns_untouched n (byte ∷ rest) d five none =
      let after = byte_written n byte d in
      ap (in_turn_kept count n rest) (byte_untouched n byte d five (λ i h l. or_left (byte_stores_to i d) (any_stores_to i n rest after) (none i h l)))
      ∙ turns_untouched n rest after (byte_part n byte d ∙ five) (λ i h l. or_right (byte_stores_to i d) (any_stores_to i n rest after) (none i h l))

  sent_untouched : (bytes : List ℕ) (d : Chip) → d.part ≡ Emc2305 → ((i : ℕ) → count ≤ i → i < 5 → sent_stores_to i bytes d ≡ false)
      → sent_kept count bytes d ≡ sent bytes d
  unfolding sent_kept sent sent_stores_to
  sent_untouched [] d five none = refl
  sent_untouched (pointer ∷ rest) d five none = turns_untouched (length rest) rest (with_pointer pointer d) five none

pub untouched : Untouched
unfolding taken
untouched count log event d five =
    let kept : (e : Event) → is_power_on e ≡ false → with_part Emc2305 (taken log e d) ≡ taken log e d =
    λ e p. still (taken log e d) (taken_part log e d p ∙ five) in
    by_effect
    (λ (e : Event).
    is_power_on e ≡ false → for_past count e ≡ false → ((i : ℕ) → count ≤ i → i < 5 → stores_to i log e d ≡ false)
    → kept_from count log e d ≡ taken log e d)
    (λ e on p f none. absurd (true≢false (sym on.powers ∙ p))) (λ n p f none. kept (Ticks n) p) (λ fan n p f none. rw f (kept (Sample fan n) p))
    (λ fan drive p f none. rw f (kept (Wish fan drive) p)) (λ to place n p f none. refl)
    (λ to place n p f none. sent_untouched count (bytes_at log place n) (fed_chip d) five none)
    (λ e idle p f none. plain count log d e f (λ other of. idle.no_transfer other of) ∙ kept e p) event

-- who drives nobody past the first so many samples none of them, and has no wish for one
module _ (count : ℕ) (log : List ℕ) (d : Chip) where
  abbrev driven : ℕ → Event → Bool
  driven i e = is_sample_of i e || (is_wish_for i e || stores_to i log e d)

  same_fan : (fan : ℕ) → fan_in_range fan ≡ true → ltb count fan ≡ true → ((i : ℕ) → count ≤ i → i < 5 → eqb fan (i + 1) ≡ false) → ⊥
  same_fan fan r t none =
      let low = leb-true 1 fan (and_left (leb 1 fan) (leb fan 5) r) in
      let high = leb-true fan 5 (and_right (leb 1 fan) (leb fan 5) r) in
      let past = ltb-true count fan t in
      eqb-false fan (fan - 1 + 1) (none (fan - 1) (omega arith) (omega arith)) (omega arith)

  for_none : (event : Event) → range_number log event ≡ 0 → ((i : ℕ) → count ≤ i → i < 5 → driven i event ≡ false) → for_past count event ≡ false
  for_none =
      by_effect
      (λ (e : Event). range_number log e ≡ 0 → ((i : ℕ) → count ≤ i → i < 5 → driven i e ≡ false) → for_past count e ≡ false)
      (λ e on r none. on.no_sample _ _ ∙ on.no_wish _ _) (λ n r none. refl)
      (λ fan n r none.
      by_test (ltb count fan) (λ t. absurd (same_fan fan (fan_right_lem log (Sample fan n) r) t (λ i h l. or_left (eqb fan (i + 1)) _ (none i h l)))) (λ t. t))
      (λ fan drive r none.
      by_test (ltb count fan) (λ t. absurd (same_fan fan (fan_right_lem log (Wish fan drive) r) t (λ i h l. or_left (eqb fan (i + 1)) _ (none i h l)))) (λ t. t))
      (λ to place n r none. refl) (λ to place n r none. refl) (λ e idle r none. idle.no_sample _ _ ∙ idle.no_wish _ _)

-- an event of which the five-fan part takes nothing for the other fans, and no power-on
module _ (h : Handed) (c d : Chip) (a : AsFive c d) (quiet : no_power_on h d ≡ true)
    (nobody : (i : ℕ) → fan_count c ≤ i → i < 5 → undriven_by i h d ≡ true) where
  abbrev log : List ℕ
  log = h.log

  abbrev event : Event
  event = h.event

  none_driven : number_of h d ≡ 0 → (i : ℕ) → fan_count c ≤ i → i < 5 → driven (fan_count c) log d i event ≡ false
  none_driven e i g l = not-true (driven (fan_count c) log d i event) (rw (eq-eqb (number_of h d) 0 e) at (nobody i g l))

  for_none_there : number_of h d ≡ 0 → for_past (fan_count c) event ≡ false
  for_none_there e = for_none (fan_count c) log d event (next_taken h d e).1 (none_driven e)

  same_number : number_of h c ≡ number_of h d
  same_number = by_number h c d a (λ e. e) (λ b e f. absurd (true≢false (sym b ∙ for_none_there f)))

  no_power : number_of h d ≡ 0 → is_power_on event ≡ false
  no_power e = not-true (is_power_on event) (rw (eq-eqb (number_of h d) 0 e) at quiet)

  same_next : next_kept (fan_count c) h d ≡ next h d
  same_next =
      by_test (is_taken h d)
      (λ t.
      let e = eqb-true (number_of h d) 0 t in
      let stores : (i : ℕ) → fan_count c ≤ i → i < 5 → stores_to i log event d ≡ false =
      λ i g l.
      or_right (is_wish_for i event) (stores_to i log event d)
      (or_right (is_sample_of i event) (is_wish_for i event || stores_to i log event d) (none_driven e i g l)) in
      rw t
      (untouched (fan_count c) log event d (ap (λ (x : Chip). x.part) a.0) (no_power e) (for_none_there e) stores ∙ sym (next_taken h d e).0))
      (λ t. rw t (sym (next_refused h d (eqb-false (number_of h d) 0 t))))

  same_part : (next h c).part ≡ c.part
  same_part =
      by_test (is_power_on event)
      (λ p. ap (λ (x : Chip). x.part) (next_refused h c (λ z. true≢false (sym p ∙ no_power (sym same_number ∙ z)))))
      (λ p. after_part log event h.room c p)

  both_next : AsFive (next h c) (next h d)
  both_next = subst (λ (x : Chip). AsFive (next h c) x) same_next (alike_step c d h a).1

pub same_traffic : SameTraffic
unfolding any.after_all numbers_of AnswersAlike
same_traffic c d [] a quiet nobody = (refl, tt, a)
same_traffic c d (h ∷ rest) a quiet nobody =
    let q = first_rest emc2305 no_power_on h rest d quiet in
    let here : (i : ℕ) → fan_count c ≤ i → i < 5 → undriven_by i h d ≡ true =
    λ i g l. (first_rest emc2305 (undriven_by i) h rest d (nobody i g l)).0 in
    let part = ap fans_of (same_part h c d a q.0 here) in
    let on =
    same_traffic (next h c) (next h d) rest (both_next h c d a q.0 here) q.1
    (λ i g l. (first_rest emc2305 (undriven_by i) h rest d (nobody i (omega arith) l)).1) in
    (rw (same_number h c d a q.0 here, on.0), ((alike_step c d h a).0, on.1), on.2)
