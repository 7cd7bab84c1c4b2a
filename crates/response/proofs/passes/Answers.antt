use Rattle.std.proofs.Common.{sym, ◌∙◌, arith}
use Rattle.paper.specs.Analysis.{passes}
use Rattle.paper.proofs.Tests.{every_all, every_fails}
use Rattle.response.proofs.passes.Goals as goal

pub returns-then-not-task_passes : goal.returns-then-not-task_passes
unfolding passes
returns-then-not-task_passes c =
    sym (every_fails c.args.y.now.n _ _ c.loop-i-test.true (sym c.task_passes.ensures ∙ c.if-not-task_passes.true))

pub returns : goal.returns
unfolding passes
returns c = sym (every_all _ _ (λ j l. c.loop-i.invariant j (omega arith)))
