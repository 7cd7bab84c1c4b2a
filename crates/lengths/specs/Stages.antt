-- What the stages of a call promise each other.
use Rattle.std.specs.Prelude.{ℕ, Bool, ◌||◌, List, [], ◌∷◌, ℤ, pos, get_or, take, Result}
use Rattle.std.specs.Int.Signed.{lt_z}
use Rattle.paper.specs.Numbers.{per_task, Assignment}
use Rattle.paper.specs.Analysis.{Tasks}
use Rattle.paper.specs.Lengths.{tolerance, no_instant, lowest_no_instant, lowest_below_zero, length_of}
use Rattle.paper.specs.Refusals.{Asks, first_of, below_zero_at, fit_asks}
use Rattle.paper.specs.Answers.{answered}
use Rattle.paper.specs.declared.Table.{Table}
use Rattle.paper.specs.declared.Refusal.{Refusal}

-- the tolerances of all tasks, as an array has them
abbrev pub tolerances_of : Tasks → Assignment → List ℤ
tolerances_of y a = per_task y.n (tolerance y a) (pos 0)

-- what is left of a call once the deadlines hold: refusal 16, or the tolerances
abbrev pub tolerances_left : Tasks → Assignment → Result (List ℤ) Refusal
tolerances_left y a = answered (first_of (below_zero_at (lowest_no_instant y) ∷ [])) (tolerances_of y a)

-- or the lengths
abbrev pub lengths_left : Tasks → Assignment → Result (List ℤ) Refusal
lengths_left y a = answered (first_of (below_zero_at (lowest_below_zero y a) ∷ [])) (per_task y.n (length_of y a) (pos 0))

-- task k falls under 16 of lengths: there is no t, or its ticks are below zero
abbrev pub falls : Tasks → List ℤ → ℕ → Bool
falls y ticks k = no_instant y k || lt_z (get_or ticks k (pos 0)) (pos 0)

-- what the region check asks before the tolerances: all but 16
abbrev pub early_asks : Table → List ℕ → List ℕ → Asks
early_asks t own catalogue = take 6 (fit_asks t own catalogue)
