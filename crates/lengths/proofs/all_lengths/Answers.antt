use native.Mathlib.Omega.{arith}
use lib.IntN.{pos}
use Rattle.laws.proofs.Lists.{per_task_none, per_task_turn}
use Rattle.tolerance.proofs.Machine.{kept}
use Rattle.lengths.proofs.all_lengths.Goals as goal

pub loop-k-init : goal.loop-k-init
loop-k-init c = per_task_none _ (pos 0)

pub loop-k-preserved : goal.loop-k-preserved
loop-k-preserved c =
    let l = c.loop-k in
    per_task_turn l.k _ (pos 0) (omega arith) l.invariant (kept c.length_of.result c.length_of.type_inv c.length_of.ensures)
