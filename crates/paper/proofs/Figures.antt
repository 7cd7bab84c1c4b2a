-- The table of figures comes out of the definitions: document 01's that are marked P, as document 02, item 5, changes them, and ours. So does the CRC's published check value.
-- By computation.
use mathlib.Core.Path.{◌≡◌, refl}
use mathlib.Core.Bool.{true, false}
use mathlib.Core.List.{List, [], ◌∷◌, map}
use Rattle.std.specs.Prelude.{Ok}
use Rattle.paper.specs.Vocabulary.{every, some, list_to, lowest, sum_to, max_to}
use Rattle.paper.specs.Numbers.{per_task, each_once, thresholds_hold}
use Rattle.paper.specs.Seal.{seal_bit, seal_bits, seal_byte, seal_from, seal_of}
use Rattle.paper.specs.Regions.{regions_hold, all_regions_hold}
use Rattle.paper.specs.Analysis.{least, before, by, load, blocks, blocking, standing, level_sum, level_of, start_sum, start_of, finish_sum, finish_of, finish_from, job, later, worst, worst_from, response, reaches, first_reaching, worst_job, with_job, within, task_passes, passes}
use Rattle.paper.specs.Lengths.{larger, smaller, largest, slack, tolerance, no_instant, lowest_no_instant, lowest_below_zero, least_of, allowed, length_of, regions_fit, all_fit}
use Rattle.paper.specs.Points.{alpha, before_last, has_time, points_pass}
use Rattle.paper.specs.Rows.{place_of, row_assignment, row_holds}
use Rattle.paper.specs.Answers.{fit_answer, points_answer}
use Rattle.paper.specs.Figures.{Figure, Came, comes_out, figures, numbered, join, those, passing_rows, points, point_words}
use Rattle.paper.specs.declared.Shown.TheVariants.{NotShown, Passes}

abbrev came_out : List Figure → List Came
came_out fs = map (λ f. comes_out f.asked) fs

abbrev foretold : List Figure → List Came
foretold fs = map (λ f. f.comes) fs

-- every figure of the table, as one statement
pub figures_hold : came_out figures ≡ foretold figures
unfolding every some list_to lowest sum_to max_to per_task each_once thresholds_hold regions_hold all_regions_hold least before by load blocks blocking standing level_sum level_of start_sum start_of finish_sum finish_of finish_from job later worst worst_from response reaches first_reaching worst_job with_job within task_passes passes larger smaller largest slack tolerance no_instant lowest_no_instant lowest_below_zero least_of allowed length_of regions_fit all_fit alpha before_last has_time points_pass place_of row_assignment row_holds numbered join those passing_rows
figures_hold = refl

-- Fixed preemption points let regions be longer than the region check does: the regions of this table don't fit, and all its tasks pass.
pub points_beyond_lengths : (fit_answer (points 5 0 0) (point_words 5) [] ≡ Ok false)
    × (points_answer (points 5 0 0) (point_words 5) [] ≡ Ok (per_task 3 (λ _. Passes) NotShown))
unfolding every some list_to lowest sum_to max_to per_task each_once thresholds_hold regions_hold all_regions_hold before load larger smaller largest slack tolerance no_instant lowest_below_zero least_of allowed length_of regions_fit all_fit alpha before_last has_time points_pass
points_beyond_lengths = (refl, refl)

-- CRC-16/IBM-3740 over the digits 1 to 9
pub check_value : seal_of (0x31 ∷ 0x32 ∷ 0x33 ∷ 0x34 ∷ 0x35 ∷ 0x36 ∷ 0x37 ∷ 0x38 ∷ 0x39 ∷ []) ≡ 0x29b1
unfolding seal_bit seal_bits seal_byte seal_from
check_value = refl
