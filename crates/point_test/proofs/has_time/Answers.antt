-- The equation is climbed to its least solution, which is compared with the last t.
use Rattle.std.specs.Prelude.{Option, Some, None, MatchOption}
use Prim.Native.Nat.{ℕ, ◌+◌, ◌-◌}
use mathlib.Core.Path.{◌≡◌, ap, sym, ◌∙◌}
use mathlib.Core.Bool.{Bool, false}
use native.Mathlib.Omega.{arith}
use borrow.Author.Rules.{rules}
use lib.Dec.{leb}
use Rattle.paper.specs.Analysis.{Tasks, within}
use Rattle.columns.specs.Columns.{ranked_by}
use Rattle.columns.specs.Tasks.{tasks_in}
use Rattle.point_test.proofs.Starts.{start_rises, start_is}
use Rattle.point_test.proofs.has_time.Goals as goal

-- what the numbers of the equation are, and the last t
base_is : (y : Tasks) (i q longest : ℕ) {cost ahead : ℕ} → cost ≡ y.c i → ahead ≡ cost - q → ahead + longest ≡ y.c i - q + longest
base_is y i q longest e f = ap (λ x. x + longest) (f ∙ ap (λ x. x - q) e)

latest_is : (y : Tasks) (i q : ℕ) {deadline jitter due latest : ℕ} → deadline ≡ y.d i → jitter ≡ y.j i → due ≡ deadline - jitter → latest ≡ due - q
    → latest ≡ y.d i - y.j i - q
latest_is y i q d j u l = rw (← d, ← j, ← u) l

pub solve-requires : goal.solve-requires
solve-requires c =
    let a = c.args in
    let y = tasks_in a.y.now in
    let base = base_is y a.i a.q a.longest c.cost.ensures c.saturating_sub-ahead.ensures in
    start_rises y (ranked_by a.p.now) a.i a.q a.longest _ base (rw base c.requires.1) (omega (arith, base, (a.y.now.ranged.costs a.i c.requires.0).1, c.requires.2))

-- a solution at or before the last t
by_some : (o : Option ℕ) (latest : ℕ) {b : Bool} → MatchOption o (b ≡ false) (λ t. b ≡ leb t latest) → b ≡ within o latest
unfolding within
by_some (Some t) latest h = h
by_some None latest h = h

-- the answer is whether the solution lies there
pub returns : goal.returns
returns c =
    let a = c.args in
    let y = tasks_in a.y.now in
    let base = base_is y a.i a.q a.longest c.cost.ensures c.saturating_sub-ahead.ensures in
    let latest = latest_is y a.i a.q c.deadline.ensures c.jitter.ensures c.saturating_sub-due.ensures c.saturating_sub-latest.ensures in
    let decided = start_is y (ranked_by a.p.now) a.i a.q a.longest _ base (rw base c.requires.1) _ latest (omega (arith, latest, (a.y.now.ranged.deadlines a.i c.requires.0).1)) in
    let found : MatchOption c.solve.result (c.is_some_and.result ≡ false) (λ t. c.is_some_and.result ≡ leb t c.saturating_sub-latest.result) = search rules in
    by_some c.solve.result _ found ∙ sym (decided ∙ ap (λ x. within x c.saturating_sub-latest.result) (sym c.solve.ensures))
