use mathlib.Core.Path.{◌∙◌}
use native.Mathlib.Omega.{arith}
use lib.IntN.{pos}
use Rattle.laws.proofs.Lists.{per_task_none, per_task_turn}
use Rattle.tolerance.proofs.Machine.{kept}
use Rattle.tolerance.proofs.all_tolerances.Goals as goal

pub loop-i-init : goal.loop-i-init
loop-i-init c = per_task_none _ (pos 0)

pub loop-i-preserved : goal.loop-i-preserved
loop-i-preserved c =
    let l = c.loop-i in
    per_task_turn l.i _ (pos 0) (omega arith) l.invariant (kept c.signed.result c.signed.type_inv (c.signed.ensures ∙ c.tolerance_of.ensures))
