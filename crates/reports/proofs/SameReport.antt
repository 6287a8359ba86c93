-- What is added up record by record is the report of the log's samples.
use Rattle.std.proofs.Common.{◌≡◌, ℕ, ◌+◌, ◌-◌, ◌^◌, ◌<◌, ◌≤◌, true, false, cond, not, eqb, ltb, leb, List, [], ◌∷◌, ◌++◌, length, sym, refl, ap, ◌∙◌, true≢false, append_assoc, append-nil, arith, length-append, le-ltb, lt-ltb, eq-eqb, ne_eqb, eqb-true, le-leb, leb-false, leb-true}
use borrow.Author.Tests.{eqb-false}
use Rattle.laws.proofs.Tests.{by_test, and_left, and_right}
use Rattle.eventlog.specs.declared.Event.{Event}
use Rattle.eventlog.specs.declared.Event.TheVariants.{Sample}
use Rattle.eventlog.specs.Kinds.{is_sample}
use Rattle.eventlog.specs.Numbers.{number_read}
use Rattle.eventlog.specs.Range.{fan_in_range, range_number}
use Rattle.eventlog.specs.declared.reading.Reading.TheVariants.{Record}
use Rattle.eventlog.specs.Reading.{read_at}
use Rattle.eventlog.proofs.Accepted.{read_good}
use Rattle.eventlog.proofs.ByKind.{by_sample, no_sample}
use Rattle.eventlog.proofs.Ranges.{fan_right_lem}
use Rattle.records.specs.Records.{Found, records_of}
use Rattle.records.specs.Promises.{place_after}
use Rattle.records.proofs.AllRecords.{record_then}
use Rattle.records.proofs.Along.{over, along, records_at, none_at}
use Rattle.reports.specs.declared.Figures.{Figures}
use Rattle.reports.specs.Figures as list
use Rattle.reports.specs.Figures.{figures_of}
use Rattle.reports.specs.Samples.{Gauge, is_taken, sample_in, state_after, samples_from, samples_of}
use Rattle.reports.specs.Report.{limit, longest, each, within_limit, reported, figures_over, report_of}
use Rattle.reports.specs.Lines.{no_figures}
use Rattle.reports.specs.Adding.{Reported, with_sample, figures_at, at_full, with_event, past_limit, fans_after, report, Come, come_over, come_from}
use Rattle.reports.proofs.Added.{full_is, figures_more}
use Rattle.reports.proofs.Fronts.{place_more, state_more, samples_more, each_all, each_one, got_up, same_up, set_up}

module _ (g : Gauge) (fits : (configuration count : ℕ) → g.speed configuration count < 2 ^ 32) (log : List ℕ) where
  -- where a report stands after records
  abbrev pub standing : List Found → Reported g
  standing front = record { state = state_after g log front g.device.begun; fans = figures_over g log front }

  -- with one more: it is within the limit unless it is past it, and then what is added is its own
  module _ (front : List Found) (within : within_limit g log front ≡ true) (place next : ℕ) where
    abbrev longer : Event → List Found
    longer event = front ++ (record { place = place; event = event; next = next } ∷ [])

    abbrev Adds : Event → Type 0
    Adds event =
        (within_limit g log (longer event) ≡ not (past_limit g log event (standing front)))
        × (past_limit g log event (standing front) ≡ false → (report g).next (standing front) log event ≡ standing (longer event))

    abbrev here : g.device.State
    here = state_after g log front g.device.begun

    samples_so : (fan : ℕ) (event : Event)
        → samples_of g log fan (longer event) ≡ samples_of g log fan front ++ sample_in g log fan event here
    samples_so fan event = samples_more g log fan front (record { place = place; event = event; next = next }) g.device.begun

    state_so : (event : Event) → state_after g log (longer event) g.device.begun ≡ g.device.next here log event 32
    state_so event = state_more g log front (record { place = place; event = event; next = next }) g.device.begun

    -- no fan has a sample in it
    adds_none : (event : Event) → ((fan : ℕ) → sample_in g log fan event here ≡ []) → past_limit g log event (standing front) ≡ false
        → fans_after g log event (standing front) ≡ figures_over g log front → Adds event
    adds_none event none past same =
        let as-was : (fan : ℕ) → samples_of g log fan (longer event) ≡ samples_of g log fan front =
        λ fan. samples_so fan event ∙ rw (none fan) (append-nil (samples_of g log fan front)) in (
          rw past
              (each_all 5 1 (λ fan. leb (length (samples_of g log fan (longer event))) limit)
              (λ i h. rw (as-was (i + 1)) (each_one 5 1 (λ fan. leb (length (samples_of g log fan front)) limit) within i h))),
          λ p.
              rw (
                same,
                state_so event,
                sym (same_up 5 1 (λ fan. figures_of g.speed (samples_of g log fan front)) (λ fan. figures_of g.speed (samples_of g log fan (longer event)))
                    (λ j l. ap (figures_of g.speed) (as-was j))),
              ) refl,
        )

    -- a sample of a fan is taken
    module _ (fan count : ℕ) (l : 1 ≤ fan) (m : fan ≤ 5) (taken : is_taken g log (Sample fan count) here ≡ true) where
      abbrev one : list.Sample
      one = record { count = count; configuration = g.configuration here fan }

      abbrev seen : List list.Sample
      seen = samples_of g log fan front

      its : fan - 1 + 1 ≡ fan
      its = omega arith

      own : samples_of g log fan (longer (Sample fan count)) ≡ seen ++ (one ∷ [])
      own = samples_so fan (Sample fan count) ∙ rw (eq-eqb fan fan refl, taken) refl

      others : (j : ℕ) → (j ≡ fan → ⊥) → samples_of g log j (longer (Sample fan count)) ≡ samples_of g log j front
      others j z = samples_so j (Sample fan count) ∙ rw (ne_eqb fan j (λ e. z (sym e))) (append-nil (samples_of g log j front))

      at_fan : figures_at fan (figures_over g log front) ≡ figures_of g.speed seen
      at_fan =
          got_up 5 1 (λ j. figures_of g.speed (samples_of g log j front)) (fan - 1) no_figures (omega arith)
          ∙ ap (λ (j : ℕ). figures_of g.speed (samples_of g log j front)) its

      past_is : past_limit g log (Sample fan count) (standing front) ≡ leb limit (length seen)
      unfolding at_full
      past_is = rw (taken, at_fan) (full_is g.speed seen)

      -- past the limit, or within it
      past_full : leb limit (length seen) ≡ true → within_limit g log (longer (Sample fan count)) ≡ false
      past_full full =
          by_test (within_limit g log (longer (Sample fan count)))
          (λ y.
          let e = each_one 5 1 (λ j. leb (length (samples_of g log j (longer (Sample fan count)))) limit) y (fan - 1) (omega arith) in
          let k : leb (length (seen ++ (one ∷ []))) limit ≡ true = rw (its, own) at e in
          absurd (omega (arith, leb-true (length (seen ++ (one ∷ []))) limit k, length-append seen (one ∷ []), leb-true limit (length seen) full)))
          (λ n. n)

      module _ (free : length seen < limit) where
        within_free : within_limit g log (longer (Sample fan count)) ≡ true
        within_free =
            each_all 5 1 (λ j. leb (length (samples_of g log j (longer (Sample fan count)))) limit)
            (λ i h.
            by_test (eqb (i + 1) fan)
            (λ y. rw (eqb-true (i + 1) fan y, own) (le-leb (length (seen ++ (one ∷ []))) limit (omega (arith, length-append seen (one ∷ []), free))))
            (λ n.
            rw (others (i + 1) (eqb-false (i + 1) fan n))
            (each_one 5 1 (λ j. leb (length (samples_of g log j front)) limit) within i h)))

        next_free : (report g).next (standing front) log (Sample fan count) ≡ standing (longer (Sample fan count))
        unfolding with_event
        next_free =
            rw (
              taken,
              at_fan,
              state_so (Sample fan count),
              set_up 5 1 (λ j. figures_of g.speed (samples_of g log j front)) (λ j. figures_of g.speed (samples_of g log j (longer (Sample fan count)))) (fan - 1)
                  (with_sample count (g.speed (g.configuration here fan) count) (figures_of g.speed seen))
                  (omega arith) (ap (λ (j : ℕ). figures_of g.speed (samples_of g log j (longer (Sample fan count)))) its ∙ rw own (figures_more g.speed fits seen one free))
                  (λ j z. ap (figures_of g.speed) (others j (λ e. z (e ∙ sym its)))),
            )
            refl

      adds_taken : Adds (Sample fan count)
      adds_taken =
          by_test (leb limit (length seen)) (λ full. (rw (past_is, full) (past_full full), λ p. absurd (true≢false (sym full ∙ sym past_is ∙ p))))
          (λ n. let free = leb-false limit (length seen) n in (rw (past_is, n) (within_free free), λ p. next_free free))

    -- a sample that is refused is none
    adds_refused : (fan count : ℕ) → is_taken g log (Sample fan count) here ≡ false → Adds (Sample fan count)
    adds_refused fan count off =
        adds_none (Sample fan count) (λ j. by_test (eqb fan j) (λ y. rw (y, off)) (λ n. rw n)) (rw off) (rw off)

    -- any other event holds none
    adds_other : (event : Event) → is_sample event ≡ false → Adds event
    unfolding at_full with_event
    adds_other event f =
        adds_none event (λ fan. no_sample [] _ event f)
        (by_test (is_taken g log event here) (λ y. rw y (no_sample false _ event f)) (λ n. rw n))
        (by_test (is_taken g log event here) (λ y. rw y (no_sample (figures_over g log front) _ event f)) (λ n. rw n))

    pub adds : (event : Event) → range_number log event ≡ 0 → Adds event
    adds event good =
        by_sample event
        (λ fan count e.
        let right : fan_in_range fan ≡ true = fan_right_lem log (Sample fan count) (rw e at good) in
        rw e
        (by_test (is_taken g log (Sample fan count) here)
        (adds_taken fan count (leb-true 1 fan (and_left (leb 1 fan) (leb fan 5) right)) (leb-true fan 5 (and_right (leb 1 fan) (leb fan 5) right)))
        (adds_refused fan count)))
        (adds_other event)

  -- where a report has come to that took records
  abbrev pub come_to : List Found → Come g
  come_to front =
      record {
        number = cond (ltb (length front) (length (records_of log))) 14 (number_read (read_at log (place_after 0 front)));
        place = place_after 0 front;
        records = length front;
        reported = standing front;
      }

  -- from a place on, behind the records that stand before it
  abbrev ComesFrom : ℕ → Type 0
  ComesFrom place =
      (front : List Found) → within_limit g log front ≡ true → place_after 0 front ≡ place → records_of log ≡ front ++ records_at log place
      → come_from g log place (length front) (standing front) ≡ come_to (longest (within_limit g log) front (records_at log place))

  comes_none : (place : ℕ) → over (read_at log place) ≡ true → ComesFrom place
  unfolding come_over longest
  comes_none place o front within stands all =
      let none = none_at log place o in
      let whole : records_of log ≡ front = all ∙ rw none (append-nil front) in
      rw (none, whole, stands, le-ltb (length front) (length front) (omega arith))

  comes_record : (place : ℕ) (event : Event) (next : ℕ) → read_at log place ≡ Record event next → ComesFrom next → ComesFrom place
  unfolding come_over longest
  comes_record place event next e rest front within stands all =
      let found : Found = record { place = place; event = event; next = next } in
      let then = record_then log place event next e in
      let a = adds front within place next event (read_good log place event next e) in
      let n : length (front ++ (found ∷ [])) ≡ length front + 1 = length-append front (found ∷ []) in
      by_test (past_limit g log event (standing front))
      (λ past.
      let short : length front < length (records_of log) = rw (all, then) (omega (arith, length-append front (found ∷ records_at log next))) in
      let outside : within_limit g log (front ++ (found ∷ [])) ≡ false = a.0 ∙ rw past refl in
      rw (then, past, outside, stands, lt-ltb (length front) (length (records_of log)) short))
      (λ free.
      let inside : within_limit g log (front ++ (found ∷ [])) ≡ true = a.0 ∙ rw free refl in
      let more = rest (front ++ (found ∷ [])) inside (place_more front found 0)
      (all ∙ rw then (sym (append_assoc front (found ∷ []) (records_at log next)))) in
      rw (then, free, inside, a.1 free, ← n) more)

  pub comes : (place : ℕ) → ComesFrom place
  comes = along log ComesFrom comes_none comes_record

  -- over the whole log
  pub comes_whole : come_from g log 0 0 (report g).begun ≡ come_to (reported g log)
  unfolding records_of place_after figures_of list.speeds list.zero_counts list.least list.greatest list.sum state_after samples_from each
  comes_whole = comes 0 [] refl refl refl

  -- so what a walk over the whole log comes to is the report
  pub report_is : (number place records : ℕ) (state : g.device.State) (figures : List Figures)
      → record { number = number; place = place; records = records; reported = record { state = state; fans = figures } } ≡ come_from g log 0 0 (report g).begun
      → record { number = number; place = place; records = records; fans = figures } ≡ report_of g log
  unfolding report_of
  report_is number place records state figures e =
      ap (λ (c : Come g). record { number = c.number; place = c.place; records = c.records; fans = c.reported.fans }) (e ∙ comes_whole)
