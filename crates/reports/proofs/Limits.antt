-- The limit of a report: how many records it takes, and when it ends with 14 (specs/Promises.antt).
use Rattle.std.proofs.Common.{◌≡◌, ℕ, ◌+◌, ◌<◌, Bool, true, false, eqb, ltb, leb, List, [], ◌∷◌, ◌++◌, length, take, sym, refl, ap, ◌∙◌, true≢false, append_assoc, append-nil, arith, length-append, ltb-true, lt-ltb, eqb-true, le-leb, leb-true}
use lib.Seq.{take-append_seam}
use borrow.Author.Tests.{eqb-false}
use Rattle.laws.proofs.Tests.{by_test}
use Rattle.eventlog.specs.Numbers.{reading_fault, number_read}
use Rattle.eventlog.specs.Reading.{read_at}
use Rattle.eventlog.proofs.Numbered.{refused_fault}
use Rattle.records.specs.Records.{Found, records_of}
use Rattle.records.specs.Promises.{place_after}
use Rattle.records.proofs.AllRecords.{by_reading}
use Rattle.reports.specs.Samples.{Gauge, next_on, sample_in, state_after, samples_from, samples_of}
use Rattle.reports.specs.Report.{limit, longest, each, within_limit, reported, report_of}
use Rattle.reports.specs.Promises.{LimitRule}
use Rattle.reports.proofs.Fronts.{each_all, each_one}

-- the longest front of which a test holds
module _ (test : List Found → Bool) where
  pub longest_holds : (front rest : List Found) → test front ≡ true → test (longest test front rest) ≡ true
  unfolding longest
  longest_holds front [] h = h
  longest_holds front (found ∷ rest) h =
      by_test (test (front ++ (found ∷ []))) (λ y. rw y (longest_holds (front ++ (found ∷ [])) rest y)) (λ n. rw n h)

  -- it is a front of the whole
  pub longest_front : (front rest : List Found) → (more : List Found) × (front ++ rest ≡ longest test front rest ++ more)
  unfolding longest
  longest_front front [] = ([], refl)
  longest_front front (found ∷ rest) =
      by_test (test (front ++ (found ∷ [])))
      (λ y. let r = longest_front (front ++ (found ∷ [])) rest in rw y (r.0, sym (append_assoc front (found ∷ []) rest) ∙ r.1))
      (λ n. rw n (found ∷ rest, refl))

  -- with one record more the test fails
  pub longest_next : (front rest : List Found) → length (longest test front rest) < length (front ++ rest)
      → test (take (length (longest test front rest) + 1) (front ++ rest)) ≡ false
  unfolding longest
  longest_next front [] h = absurd (omega (arith, ap length (append-nil front)))
  longest_next front (found ∷ rest) h =
      let whole = sym (append_assoc front (found ∷ []) rest) in
      by_test (test (front ++ (found ∷ [])))
      (λ y. rw (y, whole) (longest_next (front ++ (found ∷ [])) rest (rw (y, whole) at h)))
      (λ n.
      let l : length front + 1 ≡ length (front ++ (found ∷ [])) = sym (length-append front (found ∷ [])) in
      rw (n, whole, l, take-append_seam (front ++ (found ∷ [])) rest) n)

  -- where the test holds of every front of the whole, it is the whole
  pub longest_all : (front rest : List Found) → ((a b : List Found) → a ++ b ≡ front ++ rest → test a ≡ true) → longest test front rest ≡ front ++ rest
  unfolding longest
  longest_all front [] h = sym (append-nil front)
  longest_all front (found ∷ rest) h =
      let whole = append_assoc front (found ∷ []) rest in
      rw (h (front ++ (found ∷ [])) rest whole) (longest_all (front ++ (found ∷ [])) rest (λ a b e. h a b (e ∙ whole)) ∙ whole)

-- reading gives no other number than those of its faults
pub never_read : (log : List ℕ) (place n : ℕ) → reading_fault n ≡ false → (n ≡ 0 → ⊥) → number_read (read_at log place) ≡ n → ⊥
never_read log place n other some e =
    by_reading log place (λ event next r. some (sym e ∙ rw r refl)) (λ r. some (sym e ∙ rw r refl))
    (λ number fault r.
    let same : number ≡ n = rw r at e in
    true≢false (sym (refused_fault log place number fault r) ∙ ap reading_fault same ∙ other))

pub not_fourteen : (log : List ℕ) (place : ℕ) → number_read (read_at log place) ≡ 14 → ⊥
not_fourteen log place = never_read log place 14 refl (λ z. omega arith)

module _ (g : Gauge) (log : List ℕ) where
  -- the samples of records are those of a front of them, and others
  samples_append : (fan : ℕ) (a b : List Found) (s : g.device.State)
      → samples_from g log fan (a ++ b) s ≡ samples_from g log fan a s ++ samples_from g log fan b (state_after g log a s)
  unfolding samples_from state_after
  samples_append fan [] b s = refl
  samples_append fan (found ∷ a) b s =
      let after = next_on g log found.event s in
      rw (samples_append fan a b after)
      (sym (append_assoc (sample_in g log fan found.event s) (samples_from g log fan a after) (samples_from g log fan b (state_after g log a after))))

  -- so what is within the limit is so at each front
  within_front : (a b : List Found) → within_limit g log (a ++ b) ≡ true → within_limit g log a ≡ true
  within_front a b h =
      each_all 5 1 (λ fan. leb (length (samples_of g log fan a)) limit)
      (λ i l.
      let k = each_one 5 1 (λ fan. leb (length (samples_of g log fan (a ++ b))) limit) h i l in
      let all = samples_of g log (i + 1) (a ++ b) in
      let first = samples_of g log (i + 1) a in
      let more = samples_from g log (i + 1) b (state_after g log a g.device.begun) in
      le-leb (length first) limit
      (omega (arith, leb-true (length all) limit k, ap length (samples_append (i + 1) a b g.device.begun), length-append first more)))

  none_within : within_limit g log [] ≡ true
  unfolding each samples_from
  none_within = refl

  pub reported_within : within_limit g log (reported g log) ≡ true
  reported_within = longest_holds (within_limit g log) [] (records_of log) none_within

  pub reported_front : (more : List Found) × (records_of log ≡ reported g log ++ more)
  reported_front = longest_front (within_limit g log) [] (records_of log)

  -- all records where they are within the limit
  pub reported_all : within_limit g log (records_of log) ≡ true → reported g log ≡ records_of log
  reported_all h = longest_all (within_limit g log) [] (records_of log) (λ a b e. within_front a b (rw e h))

  -- 14 is given just where the report takes fewer records than there are
  pub fourteen : (report_of g log).number ≡ 14 → length (reported g log) < length (records_of log)
  unfolding report_of
  fourteen e =
      by_test (ltb (length (reported g log)) (length (records_of log))) (λ y. ltb-true (length (reported g log)) (length (records_of log)) y)
      (λ n. absurd (not_fourteen log (place_after 0 (reported g log)) (rw n at e)))

  pub fewer : length (reported g log) < length (records_of log) → (report_of g log).number ≡ 14
  unfolding report_of
  fewer h = rw (lt-ltb (length (reported g log)) (length (records_of log)) h)

  -- else it takes all
  pub takes_all : ((report_of g log).number ≡ 14 → ⊥) → reported g log ≡ records_of log
  takes_all other =
      by_test (within_limit g log (records_of log)) reported_all
      (λ n.
      let f = reported_front in
      absurd (other (fewer (shorter f.0 f.1 n))))
    where
      shorter : (more : List Found) → records_of log ≡ reported g log ++ more → within_limit g log (records_of log) ≡ false
          → length (reported g log) < length (records_of log)
      shorter [] e n = absurd (true≢false (sym reported_within ∙ rw (sym (e ∙ append-nil (reported g log))) n))
      shorter (x ∷ more) e n = omega (arith, ap length e, length-append (reported g log) (x ∷ more))

  records_is : (report_of g log).records ≡ length (reported g log)
  unfolding report_of
  records_is = refl

-- a report's number is 14 or one of reading's
pub report_number : (g : Gauge) (log : List ℕ) (n : ℕ) → (n ≡ 14 → ⊥) → reading_fault n ≡ false → (n ≡ 0 → ⊥) → (report_of g log).number ≡ n → ⊥
unfolding report_of
report_number g log n other none some e =
    by_test (ltb (length (reported g log)) (length (records_of log))) (λ y. other (sym (rw y at e)))
    (λ f. never_read log (place_after 0 (reported g log)) n none some (rw f at e))

pub limit_rule : (g : Gauge) → LimitRule g
limit_rule g log =
    let f = reported_front g log in
    let front : reported g log ≡ take (length (reported g log)) (records_of log) = sym (ap (take (length (reported g log))) f.1 ∙ take-append_seam (reported g log) f.0) in (
      rw (records_is g log) front,
      reported_within g log,
      (
        λ e.
            by_test (within_limit g log (records_of log)) (λ y. absurd (omega (arith, fourteen g log e, ap length (reported_all g log y)))) (λ n. n),
        λ n.
            by_test (eqb (report_of g log).number 14) (λ y. eqb-true (report_of g log).number 14 y)
            (λ o. absurd (true≢false (sym (reported_within g log) ∙ rw (takes_all g log (eqb-false (report_of g log).number 14 o)) n))),
      ),
      λ e. rw (records_is g log) (longest_next (within_limit g log) [] (records_of log) (fourteen g log e)),
    )
