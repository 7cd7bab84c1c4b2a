-- Document 01, "The analysis": response times; by document 02 blocking on a ticking controller (item 5), which job was worst (item 4) and release jitter (item 8). Task i is record i + 1.
use Rattle.std.specs.Prelude.{ℕ, zero, suc, ◌+◌, ◌-◌, ◌*◌, ◌/◌, max, Bool, true, false, ◌&&◌, cond, List, leb, ltb, eqb, Option, Some, None}
use Rattle.paper.specs.Vocabulary.{every, lowest, sum_to, max_to, ceil_div}
use Rattle.paper.specs.Numbers.{rec, horizon, Assignment}
use Rattle.paper.specs.declared.Record.{Record}
use Rattle.paper.specs.declared.Response.{Response}

-- cost C, period T, deadline D, jitter J of each of n tasks
pub record Tasks : Type 0 where
  pub n : ℕ
  pub c : ℕ → ℕ
  pub t : ℕ → ℕ
  pub d : ℕ → ℕ
  pub j : ℕ → ℕ

abbrev pub tasks_of : List Record → ℕ → Tasks
tasks_of rs n =
    record { n = n; c = λ k. (rec rs k).cost; t = λ k. (rec rs k).period; d = λ k. (rec rs k).deadline; j = λ k. (rec rs k).jitter }

-- "the smallest x with ..": the first of from, from + 1, .., from + count - 1 that passes the test; None, which is "beyond", where none does
unfoldable pub least : (ℕ → Bool) → ℕ → ℕ → Option ℕ
least test from zero = None
least test from (suc count) = elim (test from) [ true ↦ Some from | false ↦ least test (suc from) count ]

-- In sums, an argument x of a ceiling or floor becomes x + J(j): how many jobs of j may have been asked for before x, ceil((x + J(j))/T(j)),
-- and how many by x, 1 + floor((x + J(j))/T(j))
unfoldable pub before : Tasks → ℕ → ℕ → ℕ
before y x j = ceil_div (x + y.j j) (y.t j)

unfoldable pub by : Tasks → ℕ → ℕ → ℕ
by y x j = 1 + (x + y.j j) / y.t j

-- sum over the tasks j of a set of count(j)·C(j)
unfoldable pub load : Tasks → (ℕ → Bool) → (ℕ → ℕ) → ℕ
load y set count = sum_to y.n (λ j. cond (set j) (count j * y.c j) 0)

-- B(i) is the largest C(j) with h(j) ≤ p(i) < p(j), or 0
unfoldable pub blocks : Assignment → ℕ → ℕ → Bool
blocks a i j = leb (a.h j) (a.p i) && ltb (a.p i) (a.p j)

unfoldable pub blocking : Tasks → Assignment → ℕ → ℕ
blocking y a i = max_to y.n (λ j. cond (blocks a i j) (y.c j) 0)

-- where a task stands: for how long, b, it is blocked in L and S, and which tasks count in L, in S and in F
pub record Standing : Type 0 where
  pub b : ℕ
  pub level : ℕ → Bool
  pub above : ℕ → Bool
  pub cuts : ℕ → Bool

-- b is B(i) − 1, or 0 where B(i) is 0: a blocker has run for at least one tick when the higher task arrives.
-- In L count those with p(j) ≤ p(i), in S those with p(j) < p(i), in F those with p(j) < h(i)
unfoldable pub standing : Tasks → Assignment → ℕ → Standing
standing y a i = record {
  b = blocking y a i - 1;
  level = λ j. leb (a.p j) (a.p i);
  above = λ j. ltb (a.p j) (a.p i);
  cuts = λ j. ltb (a.p j) (a.h i);
}

-- L(i) is the smallest positive L with L = b + sum over p(j) ≤ p(i) of ceil((L + J(j))/T(j))·C(j), where b is B(i) − 1, or 0
unfoldable pub level_sum : Tasks → Standing → ℕ → ℕ
level_sum y s x = s.b + load y s.level (before y x)

-- from 1 to H
unfoldable pub level_of : Tasks → Standing → Option ℕ
level_of y s = least (λ x. eqb x (level_sum y s x)) 1 horizon

-- Start S: the smallest S ≥ 0 with S = b + k·C(i) + sum over p(j) < p(i) of (1 + floor((S + J(j))/T(j)))·C(j), blocked or not
unfoldable pub start_sum : Tasks → Standing → ℕ → ℕ → ℕ → ℕ
start_sum y s i k x = s.b + k * y.c i + load y s.above (by y x)

-- from 0 to H
unfoldable pub start_of : Tasks → Standing → ℕ → ℕ → Option ℕ
start_of y s i k = least (λ x. eqb x (start_sum y s i k x)) 0 (horizon + 1)

-- Finish F: the smallest F > S with F = S + C(i) + sum over p(j) < h(i) of (ceil((F + J(j))/T(j)) − started(j))·C(j), where started(j) is 1 + floor((S + J(j))/T(j)), blocked or not;
-- no such difference is below zero, as F > S
unfoldable pub finish_sum : Tasks → Standing → ℕ → ℕ → ℕ → ℕ
finish_sum y s i start x = start + y.c i + load y s.cuts (λ j. before y x j - by y start j)

-- from S + 1 to H
unfoldable pub finish_of : Tasks → Standing → ℕ → ℕ → Option ℕ
finish_of y s i start = least (λ x. eqb x (finish_sum y s i start x)) (start + 1) (horizon - start)

unfoldable pub finish_from : Tasks → Standing → ℕ → Option ℕ → Option ℕ
finish_from y s i (Some start) = finish_of y s i start
finish_from y s i None = None

-- F of job k
unfoldable pub job : Tasks → Standing → ℕ → ℕ → Option ℕ
job y s i k = finish_from y s i (start_of y s i k)

-- R(i) is the largest F + J(i) − k·T(i) over jobs k from 0 to ceil((L + J(i))/T(i)) − 1; if L, any S or any F has no solution at or below H, "beyond".
-- A difference below zero counts as 0 here. L ≥ 1, so job 0 is among them, and its F + J(i) − 0 is above zero (proofs/Responses.antt has R by the signed differences).
unfoldable pub later : Option ℕ → Option ℕ → ℕ → ℕ → Option ℕ
later (Some r) (Some f) jitter released = Some (max r (f + jitter - released))
later (Some r) None jitter released = None
later None f jitter released = None

unfoldable pub worst : Tasks → Standing → ℕ → ℕ → Option ℕ
worst y s i zero = Some 0
worst y s i (suc k) = later (worst y s i k) (job y s i k) (y.j i) (k * y.t i)

unfoldable pub worst_from : Tasks → Standing → ℕ → Option ℕ → Option ℕ
worst_from y s i (Some l) = worst y s i (before y l i)
worst_from y s i None = None

unfoldable pub response : Tasks → Standing → ℕ → Option ℕ
response y s i = worst_from y s i (level_of y s)

-- Beside R stands the number k of the job that reached it; where several reach the same value, the first. Jobs count from 0, `lowest` from 1, so 1 is taken off.
-- R is above zero, so that a difference below zero, counted as 0, never reaches it.
unfoldable pub reaches : Option ℕ → ℕ → ℕ → ℕ → Bool
reaches (Some f) jitter released r = eqb (f + jitter - released) r
reaches None jitter released r = false

-- Where R is "beyond" k is 0 and means nothing.
unfoldable pub first_reaching : Tasks → Standing → ℕ → ℕ → Option ℕ → ℕ
first_reaching y s i count (Some r) = lowest count (λ k. reaches (job y s i k) (y.j i) (k * y.t i) r) - 1
first_reaching y s i count None = 0

-- over jobs k from 0 to ceil((L + J(i))/T(i)) − 1
unfoldable pub worst_job : Tasks → Standing → ℕ → Option ℕ → Option ℕ → ℕ
worst_job y s i (Some l) r = first_reaching y s i (before y l i) r
worst_job y s i None r = 0

unfoldable pub with_job : Tasks → Standing → ℕ → Response
with_job y s i = record { time = response y s i; job = worst_job y s i (level_of y s) (response y s i) }

-- An assignment passes when every R(i) exists and R(i) ≤ D(i)
unfoldable pub within : Option ℕ → ℕ → Bool
within (Some r) d = leb r d
within None d = false

unfoldable pub task_passes : Tasks → Assignment → ℕ → Bool
task_passes y a i = within (with_job y (standing y a i) i).time (y.d i)

unfoldable pub passes : Tasks → Assignment → Bool
passes y a = every y.n (task_passes y a)
