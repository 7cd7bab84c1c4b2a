-- L, S and F are each the solution of such an equation, and each may be climbed to from where the code starts.
use Prim.Native.Nat.{ℕ, zero, suc, ◌+◌, ◌-◌, ◌*◌, ◌≤◌, ◌<◌, zero-le}
use Rattle.std.proofs.Common.{Some}
use mathlib.Core.Path.{◌≡◌, ap, sym, ◌∙◌, fun_ext}
use native.Mathlib.Omega.{arith}
use native.Mathlib.Numerals.{add-one}
use native.Mathlib.Nat.{le_refl, mul-le-mul, add-mul, one-mul}
use borrow.Author.Tests.{le-leb, eqb-true}
use lib.Dec.{leb, ltb, eqb, leb-suc-suc}
use Rattle.paper.specs.Numbers.{most_ticks, horizon, Assignment}
use Rattle.paper.specs.Analysis.{Tasks, before, by, load, level_sum, level_of, start_sum, start_of, finish_sum, finish_of}
use Rattle.paper.proofs.Searched.{searched}
use Rattle.paper.proofs.Responses.{first_job}
use Rattle.laws.proofs.Least.{fixed, least_same, under_skip, under_larger}
use Rattle.laws.proofs.Arrivals.{before_le, by_is, load_same, load_part, load_less}
use Rattle.laws.proofs.Rising.{start_le}
use Rattle.columns.specs.Columns.{Ranged}
use Rattle.climb.specs.Work.{work, side, solution, Rises}
use Rattle.climb.specs.declared.Equation.{Equation}
use Rattle.climb.proofs.Works.{work_le}
use Rattle.jobs.specs.Stands.{stand_by, Stands, Climbs}
use Rattle.jobs.specs.declared.Stand.{Stand}

-- `p ≤ own` as `p < own + 1`
limit_up : (p own : ℕ) → ltb p (own + 1) ≡ leb p own
limit_up p own = simp (add-one, leb-suc-suc)

abbrev level_by : Stand → Equation
level_by s = record { limit = s.p + 1; base = s.b; off = 0; edge = 0 }

abbrev start_by : Stand → ℕ → Equation
start_by s base = record { limit = s.p; base = base; off = 0; edge = 1 }

abbrev finish_by : Stand → ℕ → ℕ → Equation
finish_by s base off = record { limit = s.h; base = base; off = off; edge = 0 }

module _ (y : Tasks) (a : Assignment) (r : Ranged y) (s : Stand) where
  -- the jobs asked for by x are those before x + 1
  by_work : (limit x : ℕ) → load y (λ j. ltb (a.p j) limit) (by y x) ≡ work y a limit (x + 1)
  unfolding work
  by_work limit x = load_same y _ _ _ (λ j l. by_is y j (r.periods j l).0 x)

  -- L

  level_side : (x : ℕ) → side y a (level_by s) x ≡ level_sum y (stand_by a s) x
  unfolding side work level_sum
  level_side x =
      let e : x + 0 ≡ x = omega arith in
      let q = ap (λ set. load y set (before y x)) (fun_ext (λ j. limit_up (a.p j) s.p)) in
      rw e (omega (arith, q))

  pub level_is : solution y a (level_by s) 1 ≡ level_of y (stand_by a s)
  unfolding solution level_of
  level_is = least_same _ _ 1 horizon (λ x _. ap (eqb x) (level_side x))

  -- the climb may start at 0 or at 1: only its start keeps L above the trivial answer 0
  own_job : (i from : ℕ) → i < y.n → from ≤ 1 → from ≤ before y from i
  own_job i zero l h = zero-le
  own_job i (suc zero) l h = first_job y i 1 (r.periods i l).0 (le_refl 1)
  own_job i (suc (suc k)) l h = absurd (omega arith)

  pub level_rises : (from : ℕ) → from ≤ 1 → Stands y a s → Rises y a (level_by s) from
  unfolding level_sum
  level_rises from one o =
      record {
        base = omega (arith, o.blocked);
        edge = zero-le;
        off = zero-le;
        rise =
            omega (
              arith,
              level_side from,
              load_part y (λ j. leb (a.p j) s.p) (before y from) s.i o.among (le-leb (a.p s.i) s.p (omega (arith, o.place))),
              mul-le-mul (own_job s.i from o.among one) (r.costs s.i o.among).0,
            );
      }

  pub level_range : (l : ℕ) → level_of y (stand_by a s) ≡ Some l → l ≤ horizon
  unfolding level_of
  level_range l e = omega (arith, (searched _ 1 horizon l e).high)

  -- S of job k of task i

  module _ (i k : ℕ) where
    start_side : (x : ℕ) → side y a (start_by s (s.b + k * y.c i)) x ≡ start_sum y (stand_by a s) i k x
    unfolding side start_sum
    start_side x = omega (arith, by_work s.p x)

    pub start_range : (v : ℕ) → start_of y (stand_by a s) i k ≡ Some v → v ≤ horizon
    unfolding start_of
    start_range v e = omega (arith, (searched _ 0 (horizon + 1) v e).high)

    module _ (from own : ℕ) (c : own ≡ y.c i) (up : Climbs (start_sum y (stand_by a s) i k) from) where
      pub start_is : solution y a (start_by s (s.b + k * own)) from ≡ start_of y (stand_by a s) i k
      unfolding solution start_of
      start_is =
          rw c (least_same _ _ from (horizon + 1 - from) (λ x _. ap (eqb x) (start_side x)))
          ∙ sym (under_skip _ 0 from (horizon + 1) (λ x _ e. up.under x e) zero-le)

      pub start_rises : i < y.n → s.b ≤ most_ticks → k ≤ horizon → Rises y a (start_by s (s.b + k * own)) from
      start_rises l b m =
          record {
            base = rw c (omega (arith, mul-le-mul {n₂ = horizon} {m₂ = most_ticks} m (r.costs i l).1));
            edge = le_refl 1;
            off = zero-le;
            rise = rw c (omega (arith, start_side from, up.rises));
          }

  -- job 0 starts at 0 or later
  pub climbs_none : (i : ℕ) → Climbs (start_sum y (stand_by a s) i 0) 0
  climbs_none i = record { rises = zero-le; under = λ x e. zero-le }

  start_next : (i k x : ℕ) → start_sum y (stand_by a s) i (k + 1) x ≡ start_sum y (stand_by a s) i k x + y.c i
  unfolding start_sum
  start_next i k x = omega (arith, add-mul k 1 (y.c i), one-mul (y.c i))

  -- and the next at least a cost later than this one
  pub climbs_next : (i k v : ℕ) → start_of y (stand_by a s) i k ≡ Some v → Climbs (start_sum y (stand_by a s) i (k + 1)) (v + y.c i)
  unfolding start_of
  climbs_next i k v e =
      let this = start_sum y (stand_by a s) i k in
      let next = start_sum y (stand_by a s) i (k + 1) in
      let q : v ≡ this v = eqb-true v (this v) (searched (fixed this) 0 (horizon + 1) v e).hit in
      let m : next v ≡ v + y.c i = omega (arith, start_next i k v) in
      record {
        rises = omega (arith, start_le y (stand_by a s) i (k + 1) v (v + y.c i) (omega arith));
        under =
            λ x f.
            omega (
              arith,
              under_larger this next 0 (horizon + 1) v (start_le y (stand_by a s) i k) (start_le y (stand_by a s) i (k + 1)) zero-le (λ z. omega (arith, start_next i k z)) e x zero-le f,
            );
      }

  -- F of a job of task i that starts at `begun`

  module _ (i begun off own : ℕ) (o : off ≡ work y a s.h (begun + 1)) (c : own ≡ y.c i) where
    off_before : (x : ℕ) → begun < x → off ≤ work y a s.h x
    off_before x l = omega (arith, work_le y a s.h (begun + 1) x (omega arith))

    finish_side : (x : ℕ) → begun < x → side y a (finish_by s (begun + own) off) x ≡ finish_sum y (stand_by a s) i begun x
    unfolding side finish_sum work
    finish_side x l =
        let e : x + 0 ≡ x = omega arith in
        rw e
        (omega (
          arith,
          by_work s.h begun,
          load_less y (λ j. ltb (a.p j) s.h) (before y x) (by y begun) (λ j m. rw (by_is y j (r.periods j m).0 begun) (before_le y j (begun + 1) x (omega arith))),
        ))

    pub finish_is : solution y a (finish_by s (begun + own) off) (begun + 1) ≡ finish_of y (stand_by a s) i begun
    unfolding solution finish_of
    finish_is =
        let e : horizon + 1 - (begun + 1) ≡ horizon - begun = omega arith in
        rw e (least_same _ _ (begun + 1) (horizon - begun) (λ x l. ap (eqb x) (finish_side x (omega arith))))

    pub finish_rises : i < y.n → begun ≤ horizon → Rises y a (finish_by s (begun + own) off) (begun + 1)
    unfolding side
    finish_rises l m =
        let e : begun + 1 + 0 ≡ begun + 1 = omega arith in
        let w = off_before (begun + 1) (omega arith) in
        let q = r.costs i l in
        record {
          base = omega (arith, q.1);
          edge = zero-le;
          off = rw e (omega arith);
          rise = rw e (omega (arith, q.0));
        }
