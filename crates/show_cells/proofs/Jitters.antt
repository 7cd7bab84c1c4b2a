-- The columns in their order, and where the column of the jitters stands (document 02, item 8).
use Prim.Native.Nat.{ℕ, zero, suc, ◌<◌}
use mathlib.Core.Path.{◌≡◌, refl, ap}
use mathlib.Core.Bool.{true, false, not}
use mathlib.Core.Logic.{◌↔◌}
use native.Mathlib.Omega.{arith}
use borrow.Author.Tests.{not-false, eqb-true, eq-eqb, ltb-false}
use lib.Dec.{ltb, eqb}
use lib.ListN.{get_or}
use Rattle.cells.specs.declared.Cell.{Cell}
use Rattle.paper.proofs.Extremes.{lowest_none, none_passes}
use Rattle.show_facts.specs.Facts.{job_of}
use Rattle.first_jobs.specs.Firsts.{jobs, first_jitter}
use Rattle.show_cells.specs.Cells.{cell_of, columns, place_of, cells_of, column_stands, stands_at}
use Rattle.show_cells.specs.declared.Column.{Column}
use Rattle.show_cells.specs.declared.Column.TheVariants.{Cost, Period, Deadline, Jitter, Priority, Threshold, Time, Slack, Tolerance, Length, Fit, Points}
use Rattle.show_cells.specs.declared.TheConstants.{COLUMNS}
use Rattle.show_facts.specs.declared.Facts.{Facts}

pub columns_in_order : COLUMNS ≡ columns
columns_in_order = refl

-- a cell stands in its row at its column's place
pub in_row : (f : Facts) (k : ℕ) (column : Column) → cell_of f k column ≡ get_or (cells_of f k) (place_of column) Cell.Dash
in_row f k Cost = refl
in_row f k Period = refl
in_row f k Deadline = refl
in_row f k Jitter = refl
in_row f k Priority = refl
in_row f k Threshold = refl
in_row f k Time = refl
in_row f k Slack = refl
in_row f k Tolerance = refl
in_row f k Length = refl
in_row f k Fit = refl
in_row f k Points = refl

-- the column is left out exactly where every jitter is 0; every other column stands (`others_stand`)
pub jitters_left_out : (f : Facts) → (column_stands f Jitter ≡ false) ↔ ((k : ℕ) → k < jobs f → (job_of f k).jitter ≡ 0)
jitters_left_out f = (
  λ e k l.
      let none : first_jitter f ≡ 0 = omega (arith, ltb-false 0 (first_jitter f) e) in
      eqb-true _ 0 (not-false _ (none_passes (λ j. not (eqb (job_of f j).jitter 0)) (jobs f) none k l)),
  λ h. ap (ltb 0) (lowest_none (λ j. not (eqb (job_of f j).jitter 0)) (jobs f) (λ k l. ap not (eq-eqb _ 0 (h k l)))),
)

pub others_stand : (f : Facts) (column : Column) → (column ≡ Jitter → ⊥) → true ≡ column_stands f column
others_stand f Jitter h = absurd (h refl)
others_stand f Cost h = refl
others_stand f Period h = refl
others_stand f Deadline h = refl
others_stand f Priority h = refl
others_stand f Threshold h = refl
others_stand f Time h = refl
others_stand f Slack h = refl
others_stand f Tolerance h = refl
others_stand f Length h = refl
others_stand f Fit h = refl
others_stand f Points h = refl

-- and so by places, of which the jitters' column has 3
pub stands_in_row : (f : Facts) (column : Column) → column_stands f column ≡ stands_at f (place_of column)
stands_in_row f Cost = refl
stands_in_row f Period = refl
stands_in_row f Deadline = refl
stands_in_row f Jitter = refl
stands_in_row f Priority = refl
stands_in_row f Threshold = refl
stands_in_row f Time = refl
stands_in_row f Slack = refl
stands_in_row f Tolerance = refl
stands_in_row f Length = refl
stands_in_row f Fit = refl
stands_in_row f Points = refl

pub jitters_place : (f : Facts) → stands_at f 3 ≡ column_stands f Jitter
jitters_place f = refl

pub other_places_stand : (f : Facts) (place : ℕ) → (place ≡ 3 → ⊥) → true ≡ stands_at f place
other_places_stand f zero h = refl
other_places_stand f (suc zero) h = refl
other_places_stand f (suc (suc zero)) h = refl
other_places_stand f (suc (suc (suc zero))) h = absurd (h refl)
other_places_stand f (suc (suc (suc (suc zero)))) h = refl
other_places_stand f (suc (suc (suc (suc (suc zero))))) h = refl
other_places_stand f (suc (suc (suc (suc (suc (suc zero)))))) h = refl
other_places_stand f (suc (suc (suc (suc (suc (suc (suc zero))))))) h = refl
other_places_stand f (suc (suc (suc (suc (suc (suc (suc (suc zero)))))))) h = refl
other_places_stand f (suc (suc (suc (suc (suc (suc (suc (suc (suc zero))))))))) h = refl
other_places_stand f (suc (suc (suc (suc (suc (suc (suc (suc (suc (suc zero)))))))))) h = refl
other_places_stand f (suc (suc (suc (suc (suc (suc (suc (suc (suc (suc (suc zero))))))))))) h = refl
other_places_stand f (suc (suc (suc (suc (suc (suc (suc (suc (suc (suc (suc (suc k)))))))))))) h = refl
