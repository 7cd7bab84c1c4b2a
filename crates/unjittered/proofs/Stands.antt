-- The analysis with every J at 0: response times and their jobs, the pass test, tolerances, lengths and what 16 asks are those of the definitions as they stood (`Before`). What the calls answer by them: `Calls`.
use Rattle.std.proofs.Common.{Option, Some, None}
use Prim.Native.Nat.{ℕ, zero, suc, ◌+◌, ◌-◌, ◌*◌, ◌/◌, ◌≤◌, ◌<◌, max}
use mathlib.Core.Path.{◌≡◌, refl, ap, ap₂, ◌∙◌, fun_ext}
use mathlib.Core.Bool.{Bool, false, ◌||◌, cond}
use mathlib.Core.List.{List}
use native.Mathlib.Omega.{arith}
use borrow.Author.Tests.{lt-leb}
use lib.Dec.{eqb}
use lib.IntN.{ℤ, pos, sub_ℕ, ◌+ℤ◌}
use lib.Signed.{lt_z}
use Rattle.paper.specs.Vocabulary.{ceil_div}
use Rattle.paper.specs.Numbers.{horizon, rec, Assignment}
use Rattle.paper.specs.Regions.{list_of}
use Rattle.paper.specs.Analysis.{Tasks, Standing, standing, before, by, level_sum, level_of, start_sum, start_of, finish_sum, finish_of, finish_from, job, later, worst, worst_from, response, reaches, first_reaching, worst_job, with_job, within, task_passes, passes}
use Rattle.paper.specs.Lengths.{largest, slack, tolerance, no_instant, lowest_no_instant, lowest_below_zero, least_of, smaller, allowed, length_of, regions_fit, all_fit}
use Rattle.paper.specs.declared.Record.{Record}
use Rattle.paper.proofs.Extremes.{lowest_none}
use Rattle.laws.proofs.Every.{every_same, lowest_same}
use Rattle.laws.proofs.Least.{least_same}
use Rattle.laws.proofs.Arrivals.{load_same}
use Rattle.unjittered.proofs.Before as Was

-- the smallest of x and of f j for each j of a set below n looks at those j alone
least_of_same : (n : ℕ) (set : ℕ → Bool) (f g : ℕ → ℤ) (x : ℤ) → ((j : ℕ) → j < n → f j ≡ g j) → least_of n set f x ≡ least_of n set g x
unfolding least_of
least_of_same zero set f g x h = refl
least_of_same (suc n) set f g x h = ap₂ (λ v w. cond (set n) (smaller v w) v) (least_of_same n set f g x (λ j l. h j (omega arith))) (h n (omega arith))

-- The analysis: tasks of which each J is 0
module _ (y : Tasks) (still : (k : ℕ) → k < y.n → y.j k ≡ 0) where
  plus : (x k : ℕ) → k < y.n → x + y.j k ≡ x
  plus x k l = omega (arith, still k l)

  before_stands : (x k : ℕ) → k < y.n → before y x k ≡ Was.before y x k
  unfolding before Was.before
  before_stands x k l = ap (λ v. ceil_div v (y.t k)) (plus x k l)

  by_stands : (x k : ℕ) → k < y.n → by y x k ≡ Was.by y x k
  unfolding by Was.by
  by_stands x k l = ap (λ v. 1 + v / y.t k) (plus x k l)

  module _ (s : Standing) where
    level_stands : level_of y s ≡ Was.level_of y s
    unfolding level_of level_sum Was.level_of Was.level_sum
    level_stands = least_same _ _ 1 horizon (λ x _. ap (λ w. eqb x (s.b + w)) (load_same y _ _ _ (before_stands x)))

    module _ (i : ℕ) where
      start_stands : (k : ℕ) → start_of y s i k ≡ Was.start_of y s i k
      unfolding start_of start_sum Was.start_of Was.start_sum
      start_stands k = least_same _ _ 0 (horizon + 1) (λ x _. ap (λ w. eqb x (s.b + k * y.c i + w)) (load_same y _ _ _ (by_stands x)))

      finish_stands : (start : ℕ) → finish_of y s i start ≡ Was.finish_of y s i start
      unfolding finish_of finish_sum Was.finish_of Was.finish_sum
      finish_stands start =
          least_same _ _ (start + 1) (horizon - start) (λ x _.
          ap (λ w. eqb x (start + y.c i + w)) (load_same y _ _ _ (λ j l. ap₂ ◌-◌ (before_stands x j l) (by_stands start j l))))

      finishes_stand : (start : Option ℕ) → finish_from y s i start ≡ Was.finish_from y s i start
      unfolding finish_from Was.finish_from
      finishes_stand (Some start) = finish_stands start
      finishes_stand None = refl

      pub job_stands : (k : ℕ) → job y s i k ≡ Was.job y s i k
      unfolding job Was.job
      job_stands k = finishes_stand (start_of y s i k) ∙ ap (Was.finish_from y s i) (start_stands k)

      module _ (among : i < y.n) where
        later_stands : (r f : Option ℕ) (released : ℕ) → later r f (y.j i) released ≡ Was.later r f released
        unfolding later Was.later
        later_stands (Some r) (Some f) released = ap (λ v. Some (max r (v - released))) (plus f i among)
        later_stands (Some r) None released = refl
        later_stands None f released = refl

        worst_stands : (k : ℕ) → worst y s i k ≡ Was.worst y s i k
        unfolding worst Was.worst
        worst_stands zero = refl
        worst_stands (suc k) = later_stands _ _ _ ∙ ap₂ (λ r f. Was.later r f (k * y.t i)) (worst_stands k) (job_stands k)

        worsts_stand : (l : Option ℕ) → worst_from y s i l ≡ Was.worst_from y s i l
        unfolding worst_from Was.worst_from
        worsts_stand (Some l) = worst_stands (before y l i) ∙ ap (Was.worst y s i) (before_stands l i among)
        worsts_stand None = refl

        pub response_stands : response y s i ≡ Was.response y s i
        unfolding response Was.response
        response_stands = worsts_stand (level_of y s) ∙ ap (Was.worst_from y s i) level_stands

        reaches_stands : (f : Option ℕ) (released r : ℕ) → reaches f (y.j i) released r ≡ Was.reaches f released r
        unfolding reaches Was.reaches
        reaches_stands (Some f) released r = ap (λ v. eqb (v - released) r) (plus f i among)
        reaches_stands None released r = refl

        first_reaching_stands : (count : ℕ) (r : Option ℕ) → first_reaching y s i count r ≡ Was.first_reaching y s i count r
        unfolding first_reaching Was.first_reaching
        first_reaching_stands count (Some r) =
            ap (λ (v : ℕ). v - 1)
            (lowest_same count _ _ (λ k _. reaches_stands (job y s i k) (k * y.t i) r ∙ ap (λ f. Was.reaches f (k * y.t i) r) (job_stands k)))
        first_reaching_stands count None = refl

        worst_job_stands : (l r : Option ℕ) → worst_job y s i l r ≡ Was.worst_job y s i l r
        unfolding worst_job Was.worst_job
        worst_job_stands (Some l) r = first_reaching_stands (before y l i) r ∙ ap (λ count. Was.first_reaching y s i count r) (before_stands l i among)
        worst_job_stands None r = refl

        pub with_job_stands : with_job y s i ≡ Was.with_job y s i
        unfolding with_job Was.with_job
        with_job_stands =
            ap₂ (λ t k. record { time = t; job = k }) response_stands
            (worst_job_stands (level_of y s) (response y s i) ∙ ap₂ (Was.worst_job y s i) level_stands response_stands)

  -- the pass test
  pub passes_stand : (a : Assignment) → passes y a ≡ Was.passes y a
  unfolding passes task_passes Was.passes Was.task_passes
  passes_stand a = every_same y.n _ _ (λ i l. ap (λ r. within r.time (y.d i)) (with_job_stands (standing y a i) i l))

  module _ (a : Assignment) where
    slack_stands : (i t : ℕ) → slack y a i t ≡ Was.slack y a i t
    unfolding slack Was.slack
    slack_stands i t = ap (λ w. sub_ℕ t (y.c i + w)) (load_same y _ _ _ (before_stands t))

    pub tolerance_stands : (i : ℕ) → i < y.n → tolerance y a i ≡ Was.tolerance y a i
    unfolding tolerance Was.tolerance
    tolerance_stands i l =
        let e : y.d i - y.j i - 1 ≡ y.d i - 1 = omega (arith, still i l) in
        ap₂ largest (fun_ext (slack_stands i)) e

    pub length_stands : (k : ℕ) → length_of y a k ≡ Was.length_of y a k
    unfolding length_of allowed Was.length_of Was.allowed
    length_stands k = least_of_same y.n _ _ _ _ (λ j l. ap (λ v. v +ℤ pos 1) (tolerance_stands j l))

    pub fit_stands : (rs : List Record) (own catalogue : List ℕ) → all_fit rs y a own catalogue ≡ Was.all_fit rs y a own catalogue
    unfolding all_fit Was.all_fit
    fit_stands rs own catalogue = every_same y.n _ _ (λ k _. ap (regions_fit (list_of (rec rs k).source own catalogue) (rec rs k)) (length_stands k))

    -- D is at least 1, so that there is a t
    module _ (due : (k : ℕ) → k < y.n → 1 ≤ y.d k) where
      some_instant : (k : ℕ) → k < y.n → no_instant y k ≡ false
      unfolding no_instant
      some_instant k l = lt-leb (y.d k) (y.j k) (omega (arith, still k l, due k l))

      pub none_stands : lowest_no_instant y ≡ 0
      unfolding lowest_no_instant
      none_stands = lowest_none (no_instant y) y.n some_instant

      pub lowest_stands : lowest_below_zero y a ≡ Was.lowest_below_zero y a
      unfolding lowest_below_zero Was.lowest_below_zero
      lowest_stands = lowest_same y.n _ _ (λ k l. ap₂ (λ n v. n || lt_z v (pos 0)) (some_instant k l) (tolerance_stands k l))
