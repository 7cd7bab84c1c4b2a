use mathlib.Core.Path.{◌≡◌, sym, ◌∙◌}
use native.Mathlib.Omega.{arith}
use borrow.Author.Count.{below_more}
use mathlib.Core.Bool.{false}
use Rattle.paper.proofs.Extremes.{lowest_none, lowest_found}
use Rattle.lengths.proofs.Outcomes.{below_zero, none_below}
use Rattle.lengths.proofs.none_falls.Goals as goal

pub returns-then-falls : goal.returns-then-falls
returns-then-falls g c =
    let k = c.loop-k.k in
    let l = c.loop-k-test.true in
    below_zero k (sym (lowest_found g.p c.args.n k l (sym (c.requires.1.1 k _ l c.falls.ensures) ∙ c.if-falls.true) c.loop-k.invariant))

pub loop-k-preserved : goal.loop-k-preserved
loop-k-preserved g c =
    let k = c.loop-k.k in
    below_more (λ j. g.p j ≡ false) k c.loop-k.invariant (sym (c.requires.1.1 k _ c.loop-k-test.true c.falls.ensures) ∙ c.if-falls.false)

pub returns : goal.returns
returns g c = none_below (sym (lowest_none g.p c.args.n (λ j h. c.loop-k.invariant j (omega arith))))
