-- L, S and F by document 01's own equations, written out, with document 02's changes to them (items 5 and 8): each is the smallest solution from where its search begins to H, and "beyond" says that there is none.
use Rattle.std.specs.Prelude.{None, Option, Some}
use Prim.Native.Nat.{ℕ, ◌+◌, ◌-◌, ◌*◌, ◌/◌, ◌≤◌, ◌<◌}
use mathlib.Core.Path.{◌≡◌, refl}
use mathlib.Core.Bool.{cond}
use native.Mathlib.Omega.{arith}
use borrow.Author.Tests.{eqb-true, eqb-false}
use lib.Dec.{eqb}
use Rattle.paper.specs.Vocabulary.{sum_to, ceil_div}
use Rattle.paper.specs.Numbers.{horizon}
use Rattle.paper.specs.Analysis.{Tasks, Standing, least, before, by, load, level_sum, level_of, start_sum, start_of, finish_sum, finish_of}
use Rattle.paper.proofs.Searched.{searched, none_found}

-- x is the smallest solution of x = f x, from `from` to H
pub record Smallest (f : ℕ → ℕ) (from x : ℕ) : Type 0 where
  pub low : from ≤ x
  pub high : x ≤ horizon
  pub solves : x ≡ f x
  pub first : (z : ℕ) → from ≤ z → z < x → z ≡ f z → ⊥

-- what a search answers: the smallest, or that there is none
abbrev pub Solved : (ℕ → ℕ) → ℕ → Option ℕ → Type 0
Solved f from (Some x) = Smallest f from x
Solved f from None = (x : ℕ) → from ≤ x → x ≤ horizon → x ≡ f x → ⊥

solved : (f : ℕ → ℕ) (from n : ℕ) → from + n ≡ horizon + 1 → Solved f from (least (λ x. eqb x (f x)) from n)
solved f from n h = go (least (λ x. eqb x (f x)) from n) refl
  where
    go : (v : Option ℕ) → least (λ x. eqb x (f x)) from n ≡ v → Solved f from v
    go (Some x) e =
        let w = searched _ from n x e in
        record { low = w.low; high = omega (arith, w.high); solves = eqb-true _ _ w.hit; first = λ z l m. eqb-false _ _ (w.first z l m) }
    go None e = λ z l m. eqb-false _ _ (none_found _ from n e z l (omega arith))

module _ (y : Tasks) (s : Standing) where
  -- L(i) is the smallest positive L with L = b + sum over p(j) ≤ p(i) of ceil((L + J(j))/T(j))·C(j)
  pub level_found : Solved (λ l. s.b + sum_to y.n (λ j. cond (s.level j) (ceil_div (l + y.j j) (y.t j) * y.c j) 0)) 1 (level_of y s)
  unfolding level_of level_sum load before
  level_found = solved _ 1 horizon refl

  module _ (i : ℕ) where
    -- Start S: the smallest S ≥ 0 with S = b + k·C(i) + sum over p(j) < p(i) of (1 + floor((S + J(j))/T(j)))·C(j)
    pub start_found : (k : ℕ)
        → Solved (λ v. s.b + k * y.c i + sum_to y.n (λ j. cond (s.above j) ((1 + (v + y.j j) / y.t j) * y.c j) 0)) 0 (start_of y s i k)
    unfolding start_of start_sum load by
    start_found k = solved _ 0 (horizon + 1) refl

    -- Finish F: the smallest F > S with F = S + C(i) + sum over p(j) < h(i) of (ceil((F + J(j))/T(j)) − (1 + floor((S + J(j))/T(j))))·C(j)
    pub finish_found : (v : ℕ) → v ≤ horizon
        → Solved (λ f. v + y.c i + sum_to y.n (λ j. cond (s.cuts j) ((ceil_div (f + y.j j) (y.t j) - (1 + (v + y.j j) / y.t j)) * y.c j) 0)) (v + 1) (finish_of y s i v)
    unfolding finish_of finish_sum load before by
    finish_found v h = solved _ (v + 1) (horizon - v) (omega arith)

  -- jobs k run from 0 to ceil((L + J(i))/T(i)) − 1: how many these are, in R (Responses.antt) and where the worst job is told
  pub job-count : (i l : ℕ) → before y l i ≡ ceil_div (l + y.j i) (y.t i)
  unfolding before
  job-count i l = refl
