-- From what a stage found to the answer of the call.
use Rattle.std.specs.Prelude.{Ok, Err}
use Prim.Native.Nat.{ℕ, suc, ◌+◌, ◌<◌}
use mathlib.Core.Path.{◌≡◌, refl, ap, ◌∙◌}
use mathlib.Core.List.{List, [], ◌∷◌}
use native.Mathlib.Numerals.{add-one}
use native.Mathlib.Omega.{arith}
use borrow.Author.Tests.{lt-ltb}
use lib.ListN.{length}
use Rattle.paper.specs.Numbers.{counts_in_range, records_in_range}
use Rattle.paper.specs.Analysis.{tasks_of}
use Rattle.paper.specs.Refusals.{Outcome, first_of, below_zero_at}
use Rattle.paper.specs.Answers.{answered}
use Rattle.paper.specs.declared.Table.{Table}
use Rattle.paper.specs.declared.Refusal.{Refusal}
use Rattle.paper.specs.declared.Refusal.TheVariants.{ToleranceBelowZero}
use Rattle.paper.proofs.Asks.{met}
use Rattle.columns.specs.Columns.{Ranged}
use Rattle.columns.proofs.Tables.{ranged}
use Rattle.checks.proofs.Meaning.{counts_say}
use Rattle.outcomes.specs.Shared.{deadlines_asks}
use Rattle.outcomes.proofs.Meaning.{times_ranged, deadlines_done}
use Rattle.lengths.specs.Stages.{early_asks}

-- refusal 16, by the number of the lowest record that falls under it
pub below_zero : {low : ℕ} (k : ℕ) → suc k ≡ low → Err (ToleranceBelowZero (k + 1)) ≡ first_of (below_zero_at low ∷ [])
below_zero k e = let some : 0 < suc k = omega arith in rw (← e, lt-ltb 0 (suc k) some, add-one)

pub none_below : {low : ℕ} → 0 ≡ low → ◌≡◌ {A = Outcome} (Ok tt) (first_of (below_zero_at low ∷ []))
none_below e = rw (← e)

-- which two stages may have named by different words
module _ {A : Type 0} (x : A) {low low' : ℕ} (e : low ≡ low') where
  same : first_of (below_zero_at low ∷ []) ≡ first_of (below_zero_at low' ∷ [])
  same = ap (λ l. first_of (below_zero_at l ∷ [])) e

  pub one_falls : {r : Refusal} → Err r ≡ first_of (below_zero_at low ∷ []) → Err r ≡ answered (first_of (below_zero_at low' ∷ [])) x
  one_falls h = ap (λ o. answered o x) (h ∙ same)

  pub all_stand : {y : A} {u : Unit {0}} → Ok u ≡ first_of (below_zero_at low ∷ []) → y ≡ x → Ok y ≡ answered (first_of (below_zero_at low' ∷ [])) x
  all_stand h q = ap (λ z. Ok z) q ∙ ap (λ o. answered o x) (h ∙ same)

-- the parts of an answer
pub answer_parts : {A : Type 0} (o : Outcome) {x y : A} → Ok y ≡ answered o x → (o ≡ Ok tt) × (y ≡ x)
answer_parts (Ok done) e = (refl, cc)
answer_parts (Err r) e = cc

-- where tolerances and lengths ask nothing but 16 any more, the walk may run
pub in-range : (t : Table) → first_of (deadlines_asks t) ≡ Ok tt → Ranged (tasks_of t.records t.n)
in-range t e = times_ranged t (deadlines_done t e).times

-- and where the region check asks nothing more before them
pub early_done : (t : Table) (own catalogue : List ℕ) → first_of (early_asks t own catalogue) ≡ Ok tt → Ranged (tasks_of t.records t.n)
early_done t own catalogue e =
    let c = met (counts_in_range t.n (length own)) _ _ e in
    ranged t.records t.n (counts_say t.n (length own) c.0).tasks (met (records_in_range t.records t.n) _ _ c.1).0
