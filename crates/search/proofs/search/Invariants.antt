-- The invariant is `State`: the candidate is from the start on, and no passing row was left behind. What is left to search falls with each move.
use Prim.Native.Nat.{suc}
use lib.ListN.{take}
use Rattle.columns.specs.Tasks.{tasks_in}
use Rattle.search.proofs.Moves.{State, left}
use Rattle.search.proofs.search.Given as goal

abbrev pub invariant-loop-digits : goal.invariant-loop-digits
invariant-loop-digits l = State (tasks_in l.y) (take (suc l.at) l.initial.digits) l.digits l.pos

abbrev pub decreases-loop-digits : goal.decreases-loop-digits
decreases-loop-digits l = left l.y.n l.digits l.pos
