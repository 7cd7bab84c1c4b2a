-- Release jitter in a table (document 02, item 8). J is 0 to T − 1, and another value is refused with 9 by every call that asks it; 19 is for a J that edition 1 has no place for, asked between 11 and 12 when writing edition 1, and of it alone (item 9). 16 of a task with no t stands in Lengths.antt; where the tolerances answer there is none.
use Rattle.std.specs.Prelude.{Err, Ok}
use Prim.Native.Nat.{ℕ, ◌≤◌, ◌<◌}
use mathlib.Core.Path.{◌≡◌, refl, ap}
use mathlib.Core.Bool.{true, false, not, and-false}
use mathlib.Core.List.{List, [], ◌∷◌, map}
use mathlib.Core.Logic.{by_cases, ◌⊎◌, inl, inr}
use native.Mathlib.Decide.{dec_lt}
use native.Mathlib.Omega.{arith}
use borrow.Author.Tests.{le-leb, lt-ltb, le-ltb, ltb-false, eqb-true, eq-eqb, ne_eqb, not-false}
use lib.Dec.{leb, eqb}
use lib.ListN.{length, take, replicate}
use Rattle.paper.specs.Numbers.{rec, most_words, most_name, ticks_in_range, tasks_in_range, counts_in_range, record_in_range, any_jitter}
use Rattle.paper.specs.File.{is_edition, in_edition}
use Rattle.paper.specs.Analysis.{tasks_of}
use Rattle.paper.specs.Lengths.{no_instant, lowest_no_instant}
use Rattle.paper.specs.Refusals.{number_of, Asks, first_of, blank, write_asks, times_asks, tolerances_asks, lengths_asks, fit_asks, first_asks, next_asks}
use Rattle.paper.specs.Answers.{write_outcome}
use Rattle.paper.specs.declared.Record.{Record}
use Rattle.paper.specs.declared.Table.{Table}
use Rattle.paper.specs.declared.Refusal.TheVariants.{OutOfRange, JitterInEditionOne}
use Rattle.paper.proofs.Tests.{never, both, every_says, every_all, every_fails}
use Rattle.paper.proofs.Asks.{NoneApplies, done_none}
use Rattle.paper.proofs.Lengths.{none_zero}
use Rattle.paper.proofs.Writing.{Taken, write_says}
use Rattle.paper.proofs.Editions.{edition_says}

-- the range
pub jitter_outside : (r : Record) → r.period ≤ r.jitter → record_in_range r ≡ false
jitter_outside r h = simp (le-ltb r.jitter r.period h, and-false) refl

pub jitter_says : (r : Record) → record_in_range r ≡ true → r.jitter < r.period
jitter_says r e =
    by_cases (dec_lt r.jitter r.period) (λ (l : r.jitter < r.period). l) (λ l. absurd (never _ e (jitter_outside r (omega arith))))

pub jitter_inside : (r : Record) → ticks_in_range r.cost ≡ true → ticks_in_range r.period ≡ true → ticks_in_range r.deadline ≡ true → r.name ≤ most_name
    → r.jitter < r.period → record_in_range r ≡ true
jitter_inside r c t d m j = rw (c, t, d, le-leb r.name most_name m, lt-ltb r.jitter r.period j)

-- the calls on a table that ask 9: behind 5, and writing behind 2 (of the edition e that it is told), 5 and 18
abbrev asks_of_range : ℕ → Table → List ℕ → List ℕ → List ℕ → ℕ → ℕ → ℕ → List Asks
asks_of_range e t own catalogue given cabinet line room =
    write_asks e t cabinet line own catalogue room ∷
    times_asks t ∷
    tolerances_asks t ∷
    lengths_asks t ∷
    fit_asks t own catalogue ∷
    first_asks t room ∷
    next_asks t given room ∷ []

pub range_refused : (e : ℕ) (t : Table) (own catalogue given : List ℕ) (cabinet line room : ℕ)
    → is_edition e ≡ true → counts_in_range t.n (length own) ≡ true → blank cabinet line ≡ false
    → (k : ℕ) → k < t.n → (rec t.records k).period ≤ (rec t.records k).jitter
    → map (λ asks. first_of asks) (asks_of_range e t own catalogue given cabinet line room) ≡ replicate 7 (Err OutOfRange)
range_refused e t own catalogue given cabinet line room edition counts plate k l h =
    let both-counts = both (tasks_in_range t.n) (leb (length own) most_words) counts in
    let outside = every_fails t.n (λ j. record_in_range (rec t.records j)) k l (jitter_outside (rec t.records k) h) in
    simp (edition, both-counts.0, both-counts.1, plate, outside, and-false) refl

-- 19
pub with_19 : number_of JitterInEditionOne ≡ 19
with_19 = refl

pub no_jitter : (rs : List Record) (n : ℕ) → any_jitter rs n ≡ false → (k : ℕ) → k < n → (rec rs k).jitter ≡ 0
no_jitter rs n e k l = eqb-true _ _ (every_says n (λ j. eqb (rec rs j).jitter 0) (not-false _ e) k l)

pub all_still : (rs : List Record) (n : ℕ) → ((k : ℕ) → k < n → (rec rs k).jitter ≡ 0) → any_jitter rs n ≡ false
all_still rs n h = ap not (every_all n (λ j. eqb (rec rs j).jitter 0) (λ k l. eq-eqb _ _ (h k l)))

pub some_jitter : (rs : List Record) (n k : ℕ) → k < n → ((rec rs k).jitter ≡ 0 → ⊥) → any_jitter rs n ≡ true
some_jitter rs n k l h = ap not (every_fails n (λ j. eqb (rec rs j).jitter 0) k l (ne_eqb _ 0 h))

module _ (t : Table) (cabinet line : ℕ) (own catalogue : List ℕ) (room : ℕ) where
  -- written as edition 1, a table of which 2, 5, 18, 9, 10 and 11 say nothing is refused with 19 where some J isn't 0, whatever the room
  pub jitter_refused : NoneApplies (take 6 (write_asks 1 t cabinet line own catalogue room))
      → (k : ℕ) → k < t.n → ((rec t.records k).jitter ≡ 0 → ⊥)
      → write_outcome 1 t cabinet line own catalogue room ≡ Err JitterInEditionOne
  jitter_refused clear k l h =
      rw (clear.1.0, clear.1.1.0, clear.1.1.1.0, clear.1.1.1.1.0, clear.1.1.1.1.1.0, some_jitter t.records t.n k l h) refl

  -- and what is written has none
  pub written_still : write_outcome 1 t cabinet line own catalogue room ≡ Ok tt → (k : ℕ) → k < t.n → (rec t.records k).jitter ≡ 0
  written_still e = no_jitter t.records t.n (write_says 1 t cabinet line own catalogue room e).unjittered

-- so the edition that a table is written as has a place for each J
pub jitter_kept : (e : ℕ) (t : Table) (cabinet line : ℕ) (own catalogue : List ℕ) (room : ℕ) → Taken e t cabinet line own catalogue room
    → (k : ℕ) → k < t.n → in_edition e 0 (rec t.records k).jitter ≡ (rec t.records k).jitter
jitter_kept e t cabinet line own catalogue room w k l = go (edition_says e w.edition)
  where
    go : (e ≡ 1) ⊎ (e ≡ 2) → in_edition e 0 (rec t.records k).jitter ≡ (rec t.records k).jitter
    go (inl h) = let still = no_jitter t.records t.n (rw h at w).unjittered k l in rw (h, still)
    go (inr h) = rw h

-- where the call of tolerances answers, each task has a t
pub answered_instants : (t : Table) → first_of (tolerances_asks t) ≡ Ok tt → (k : ℕ) → k < t.n → no_instant (tasks_of t.records t.n) k ≡ false
answered_instants t e =
    let y = tasks_of t.records t.n in
    (none_zero y).0 (omega (arith, ltb-false 0 (lowest_no_instant y) (done_none (tolerances_asks t) e).1.1.1.1.1.0))
