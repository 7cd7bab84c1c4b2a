-- Which of the two meanings a 16 in the note has (document 02, item 8).
use Prim.Native.Nat.{ℕ, suc, ◌<◌}
use mathlib.Core.Path.{◌≡◌, refl, ap}
use mathlib.Core.Bool.{Bool, true, false, cond}
use mathlib.Core.List.{List, [], ◌∷◌, ◌++◌}
use mathlib.Core.Logic.{⊎_elim}
use native.Mathlib.Omega.{arith}
use lib.Dec.{ltb}
use Rattle.std.proofs.Common.{Ok, Err, Option, Some}
use lib.IntN.{ℤ, pos}
use lib.Signed.{◌<ℤ◌}
use Rattle.paper.specs.Numbers.{assigned}
use Rattle.paper.specs.Analysis.{Tasks, tasks_of}
use Rattle.paper.specs.Lengths.{tolerance, no_instant, lowest_no_instant, lowest_below_zero}
use Rattle.paper.specs.Refusals.{number_of, Outcome, Asks, first_of, times_asks, tolerances_asks, lengths_asks, deadline_above_period, below_zero_at}
use Rattle.paper.specs.Answers.{answered, times_answer, tolerances_answer, lengths_answer}
use Rattle.paper.specs.declared.Table.{Table}
use Rattle.paper.specs.declared.Refusal.{Refusal}
use Rattle.paper.specs.declared.Response.{Response}
use Rattle.paper.specs.declared.Refusal.TheVariants.{ToleranceBelowZero}
use Rattle.paper.proofs.Tests.{never, ◌and◌}
use Rattle.paper.proofs.Lengths.{none_named, lowest_named}
use Rattle.paper.proofs.Jitters.{answered_instants}
use Rattle.verdicts.specs.Verdicts.{first_note}
use Rattle.verdicts.specs.declared.Note.{Note}

-- a list refuses with 16 of a record: its asks of another number don't apply, and the one of 16 names that record
abbrev Names : ℕ → Outcome → Type 0
Names m o = o ≡ Err (ToleranceBelowZero m)

apart : (r : Refusal) (m : ℕ) → ◌≡◌ {A = Outcome} (Err r) (Err (ToleranceBelowZero m)) → number_of r ≡ 16
apart r m e = let same : r ≡ ToleranceBelowZero m = cc in ap number_of same

-- asks of other numbers
abbrev Others : Asks → Type 0
Others [] = Unit {0}
Others (ask ∷ asks) = (number_of ask.0 ≡ 16 → ⊥) × Others asks

passed : (asks rest : Asks) (m : ℕ) → Others asks → Names m (first_of (asks ++ rest)) → Names m (first_of rest)
passed [] rest m others e = e
passed (ask ∷ asks) rest m others e = passed asks rest m others.1 (go ask.1 e)
  where
    go : (b : Bool) → Names m (cond b (Err ask.0) (first_of (asks ++ rest))) → Names m (first_of (asks ++ rest))
    go true e = absurd (others.0 (apart ask.0 m e))
    go false e = e

named : (low m : ℕ) → Names m (first_of (below_zero_at low ∷ [])) → low ≡ m
named low m e = go (ltb 0 low) e
  where
    go : (b : Bool) → Names m (cond b (Err (ToleranceBelowZero low)) (Ok tt)) → low ≡ m
    go true e = cc
    go false e = let z : ◌≡◌ {A = ℕ} 0 1 = cc in absurd (omega arith)

-- behind 5, 9, 10, 14 and 15
names_last : (t : Table) (low m : ℕ) → Names m (first_of (times_asks t ++ (deadline_above_period t ∷ below_zero_at low ∷ []))) → low ≡ m
names_last t low m e =
    named low m
    (passed (times_asks t ++ (deadline_above_period t ∷ [])) (below_zero_at low ∷ []) m
    ((λ z. omega (arith, z)) and (λ z. omega (arith, z)) and (λ z. omega (arith, z)) and (λ z. omega (arith, z)) and (λ z. omega (arith, z)) and tt) e)

-- a note is of the first call that was turned away, whatever the calls would answer
module _ (x : List Response) (y z : List ℤ) (r : Refusal) where
  of-tolerances : (a b c : Outcome) → first_note (answered a x) (answered b y) (answered c z) ≡ Some (Note.Tolerances r) → b ≡ Err r
  of-tolerances (Err q) b c e = let z : ◌≡◌ {A = ℕ} 0 1 = cc in absurd (omega arith)
  of-tolerances (Ok done) (Err q) c e = cc
  of-tolerances (Ok done) (Ok too) (Err q) e = let z : ◌≡◌ {A = ℕ} 0 1 = cc in absurd (omega arith)
  of-tolerances (Ok done) (Ok too) (Ok all) e = let z : ◌≡◌ {A = ℕ} 0 1 = cc in absurd (omega arith)

  of-lengths : (a b c : Outcome) → first_note (answered a x) (answered b y) (answered c z) ≡ Some (Note.Lengths r) → (b ≡ Ok tt) × (c ≡ Err r)
  of-lengths (Err q) b c e = let z : ◌≡◌ {A = ℕ} 0 1 = cc in absurd (omega arith)
  of-lengths (Ok done) (Err q) c e = let z : ◌≡◌ {A = ℕ} 0 1 = cc in absurd (omega arith)
  of-lengths (Ok done) (Ok too) (Err q) e = (refl, cc)
  of-lengths (Ok done) (Ok too) (Ok all) e = let z : ◌≡◌ {A = ℕ} 0 1 = cc in absurd (omega arith)

module _ (t : Table) where
  abbrev y : Tasks
  y = tasks_of t.records t.n

  abbrev note : Option Note
  note = first_note (times_answer t) (tolerances_answer t) (lengths_answer t)

  -- a 16 of the tolerances is of a job with no t: its jitter reaches its deadline
  pub note_no_instant : (k : ℕ) → note ≡ Some (Note.Tolerances (ToleranceBelowZero (suc k))) → (k < t.n) × (no_instant y k ≡ true)
  note_no_instant k e =
      let r = none_named y k (names_last t (lowest_no_instant y) (suc k) (of-tolerances _ _ _ _ (first_of (times_asks t)) (first_of (tolerances_asks t)) (first_of (lengths_asks t)) e)) in
      (r.0, r.1)

  -- a 16 of the lengths alone is of one whose tolerance is below zero
  pub note_below_zero : (k : ℕ) → note ≡ Some (Note.Lengths (ToleranceBelowZero (suc k))) → (k < t.n) × (tolerance y (assigned t.records) k <ℤ pos 0)
  note_below_zero k e =
      let o = of-lengths _ _ _ _ (first_of (times_asks t)) (first_of (tolerances_asks t)) (first_of (lengths_asks t)) e in
      let r = lowest_named y (assigned t.records) k (names_last t (lowest_below_zero y (assigned t.records)) (suc k) o.1) in
      (r.0, ⊎_elim (λ none. absurd (never _ none (answered_instants t o.0 k r.0))) (λ below. below) r.1)
