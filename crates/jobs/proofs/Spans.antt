-- A job's span says its start and its finish, and L says how many jobs there are.
use Prim.Native.Nat.{ℕ, ◌+◌, ◌≤◌, ◌<◌}
use Rattle.std.proofs.Common.{Option, Some, None}
use mathlib.Core.Path.{◌≡◌, refl, ap, ◌∙◌}
use native.Mathlib.Omega.{arith}
use Rattle.paper.specs.Vocabulary.{ceil_div}
use Rattle.paper.specs.Numbers.{horizon}
use Rattle.paper.specs.Analysis.{Tasks, Standing, before, level_of, start_of, finish_of, finish_from, job, worst_from, response}
use Rattle.laws.proofs.Arrivals.{late_bound}
use Rattle.jobs.specs.Stands.{finished, ran_from, ran_of, count_from, job_count}
use Rattle.jobs.specs.declared.Ran.{Ran}

module _ (y : Tasks) (s : Standing) (i k : ℕ) where
  pub span_no_start : start_of y s i k ≡ None → None ≡ ran_of y s i k
  unfolding ran_of ran_from
  span_no_start e = rw e

  pub span_no_finish : (v : ℕ) → start_of y s i k ≡ Some v → finish_of y s i v ≡ None → None ≡ ran_of y s i k
  unfolding ran_of ran_from finished
  span_no_finish v e g = rw (e, g)

  pub span_ends : (v f : ℕ) → start_of y s i k ≡ Some v → finish_of y s i v ≡ Some f → Some (record { start = v; end = f }) ≡ ran_of y s i k
  unfolding ran_of ran_from finished
  span_ends v f e g = rw (e, g)

  pub record Ended (v f : ℕ) : Type 0 where
    pub start : start_of y s i k ≡ Some v
    pub finish : job y s i k ≡ Some f

  pub ended : (r : Ran) → ran_of y s i k ≡ Some r → Ended r.start r.end
  unfolding ran_of ran_from finished job finish_from
  ended r e = begun (start_of y s i k) refl e
    where
      begun : (a : Option ℕ) → start_of y s i k ≡ a → ran_from y s i a ≡ Some r → Ended r.start r.end
      begun (Some u) ea h = go (finish_of y s i u) refl h
        where
          go : (b : Option ℕ) → finish_of y s i u ≡ b → finished u b ≡ Some r → Ended r.start r.end
          go (Some w) eb q =
              let er : ◌≡◌ {A = Ran} (record { start = u; end = w }) r = cc in
              record { start = ea ∙ ap (λ (r : Ran). Some r.start) er; finish = rw ea (eb ∙ ap (λ (r : Ran). Some r.end) er) }
          go None eb q = let z : ◌≡◌ {A = ℕ} 0 1 = cc in absurd (omega arith)
      begun None ea h = let z : ◌≡◌ {A = ℕ} 0 1 = cc in absurd (omega arith)

  pub beyond : ran_of y s i k ≡ None → job y s i k ≡ None
  unfolding ran_of ran_from finished job finish_from
  beyond e = begun (start_of y s i k) e
    where
      begun : (a : Option ℕ) → ran_from y s i a ≡ None → finish_from y s i a ≡ None
      begun (Some u) h = go (finish_of y s i u) h
        where
          go : (b : Option ℕ) → finished u b ≡ None → b ≡ None
          go (Some w) q = let z : ◌≡◌ {A = ℕ} 0 1 = cc in absurd (omega arith)
          go None q = refl
      begun None h = refl

-- the number of jobs, by L
module _ (y : Tasks) (s : Standing) (i : ℕ) where
  pub count_at : (l period jitter jobs : ℕ) → level_of y s ≡ Some l → period ≡ y.t i → jitter ≡ y.j i → jobs ≡ ceil_div (l + jitter) period
      → Some jobs ≡ job_count y s i
  unfolding job_count count_from before
  count_at l period jitter jobs h e f j = rw (h, ← e, ← f, j)

  pub count_beyond : level_of y s ≡ None → None ≡ job_count y s i
  unfolding job_count count_from
  count_beyond h = rw h

  -- no more jobs than ticks, and one that came late
  pub count_bound : (jobs : ℕ) → y.j i < y.t i → ((l : ℕ) → level_of y s ≡ Some l → l ≤ horizon) → job_count y s i ≡ Some jobs → jobs ≤ horizon + 1
  unfolding job_count count_from before
  count_bound jobs hj range h = go (level_of y s) refl h
    where
      go : (v : Option ℕ) → level_of y s ≡ v → count_from y i v ≡ Some jobs → jobs ≤ horizon + 1
      go (Some l) f e = let z : ceil_div (l + y.j i) (y.t i) ≡ jobs = cc in rw (← z) (omega (arith, late_bound (y.t i) l (y.j i) hj, range l f))
      go None f e = let z : ◌≡◌ {A = ℕ} 0 1 = cc in absurd (omega arith)

  -- where they can't be counted, there is no R
  pub response_beyond : job_count y s i ≡ None → response y s i ≡ None
  unfolding job_count count_from response worst_from
  response_beyond h = go (level_of y s) h
    where
      go : (v : Option ℕ) → count_from y i v ≡ None → worst_from y s i v ≡ None
      go (Some l) e = let z : ◌≡◌ {A = ℕ} 0 1 = cc in absurd (omega arith)
      go None e = refl
