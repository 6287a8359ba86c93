-- The records of a log so far, with one more: the state after them, the samples of a fan, the place; and what holds of all fans.
use Rattle.std.proofs.Common.{◌≡◌, ℕ, zero, suc, ◌+◌, ◌<◌, ◌≤◌, Bool, true, List, [], ◌∷◌, ◌++◌, map, get_or, set, sym, refl, ap, ◌∙◌, append_assoc, append-nil, le_of_suc-le-suc, not-suc-le-zero, zero-add, arith}
use Rattle.laws.proofs.Tests.{and_left, and_right}
use Rattle.records.specs.Records.{Found}
use Rattle.records.specs.Promises.{place_after}
use Rattle.reports.specs.Samples.{Gauge, next_on, sample_in, state_after, samples_from}
use Rattle.reports.specs.Report.{each}

pub place_more : (front : List Found) (found : Found) (place : ℕ) → place_after place (front ++ (found ∷ [])) ≡ found.next
unfolding place_after
place_more [] found place = refl
place_more (f ∷ front) found place = place_more front found f.next

module _ (g : Gauge) (log : List ℕ) where
  pub state_more : (front : List Found) (found : Found) (s : g.device.State)
      → state_after g log (front ++ (found ∷ [])) s ≡ next_on g log found.event (state_after g log front s)
  unfolding state_after
  state_more [] found s = refl
  state_more (f ∷ front) found s = state_more front found (next_on g log f.event s)

  pub samples_more : (fan : ℕ) (front : List Found) (found : Found) (s : g.device.State)
      → samples_from g log fan (front ++ (found ∷ [])) s
      ≡ samples_from g log fan front s ++ sample_in g log fan found.event (state_after g log front s)
  unfolding samples_from state_after
  samples_more fan [] found s = append-nil (sample_in g log fan found.event s)
  samples_more fan (f ∷ front) found s =
      let after = next_on g log f.event s in
      rw (samples_more fan front found after)
      (sym (append_assoc (sample_in g log fan f.event s) (samples_from g log fan front after)
      (sample_in g log fan found.event (state_after g log front after))))

-- n numbers from k on, as the fans are
abbrev pub up_from : ℕ → ℕ → List ℕ
up_from zero k = []
up_from (suc n) k = k ∷ up_from n (suc k)

-- a test of each holds where it holds of each by its place among them, and the other way round
pub each_all : (n k : ℕ) (test : ℕ → Bool) → ((i : ℕ) → i < n → test (i + k) ≡ true) → each test (up_from n k) ≡ true
unfolding each
each_all zero k test h = refl
each_all (suc n) k test h =
    let first : test k ≡ true = rw (zero-add k) at (h 0 (omega arith)) in
    rw first (each_all n (suc k) test (λ i l. let e : i + suc k ≡ suc i + k = omega arith in rw e (h (suc i) (omega arith))))

pub each_one : (n k : ℕ) (test : ℕ → Bool) → each test (up_from n k) ≡ true → (i : ℕ) → i < n → test (i + k) ≡ true
unfolding each
each_one zero k test e i h = absurd (not-suc-le-zero h)
each_one (suc n) k test e zero h = rw (zero-add k) (and_left (test k) (each test (up_from n (suc k))) e)
each_one (suc n) k test e (suc i) h =
    let q : suc i + k ≡ i + suc k = omega arith in
    rw q (each_one n (suc k) test (and_right (test k) (each test (up_from n (suc k))) e) i (le_of_suc-le-suc h))

-- one for each of them: that at a place, and what setting it there makes of them
module _ {A : Type 0} where
  pub got_up : (n k : ℕ) (f : ℕ → A) (i : ℕ) (other : A) → i < n → get_or (map f (up_from n k)) i other ≡ f (i + k)
  got_up zero k f i other h = absurd (not-suc-le-zero h)
  got_up (suc n) k f zero other h = ap f (sym (zero-add k))
  got_up (suc n) k f (suc i) other h =
      let q : i + suc k ≡ suc i + k = omega arith in
      got_up n (suc k) f i other (le_of_suc-le-suc h) ∙ ap f q

  pub same_up : (n k : ℕ) (f more : ℕ → A) → ((j : ℕ) → k ≤ j → more j ≡ f j) → map f (up_from n k) ≡ map more (up_from n k)
  same_up zero k f more same = refl
  same_up (suc n) k f more same =
      rw (same k (omega arith), same_up n (suc k) f more (λ j l. same j (omega arith)))

  pub set_up : (n k : ℕ) (f more : ℕ → A) (i : ℕ) (x : A) → i < n → more (i + k) ≡ x → ((j : ℕ) → (j ≡ i + k → ⊥) → more j ≡ f j)
      → set (map f (up_from n k)) i x ≡ map more (up_from n k)
  set_up zero k f more i x h e same = absurd (not-suc-le-zero h)
  set_up (suc n) k f more zero x h e same =
      rw (sym e, zero-add k) (ap (λ (l : List A). more k ∷ l) (same_up n (suc k) f more (λ j l. same j (λ z. omega arith))))
  set_up (suc n) k f more (suc i) x h e same =
      let q : i + suc k ≡ suc i + k = omega arith in
      rw (sym (same k (λ z. omega arith)))
      (ap (λ (l : List A). more k ∷ l) (set_up n (suc k) f more i x (le_of_suc-le-suc h) (rw q e) (λ j z. same j (λ w. z (w ∙ sym q)))))
