use native.Mathlib.Omega.{arith}
use Rattle.search.specs.Search.{Finds}
use Rattle.search.proofs.Moves.{state_start, bump, on, back, over, found, under, leaf}
use Rattle.search.proofs.search.Goals as goal

pub loop-digits-init : goal.loop-digits-init
loop-digits-init c = state_start _ _ _ c.requires

pub returns-then-pos-eq0 : goal.returns-then-pos-eq0
unfolding Finds
returns-then-pos-eq0 c = over c.loop-digits.invariant (omega arith) (omega arith)

pub overflow_add-digits : goal.overflow_add-digits
overflow_add-digits c = omega (arith, under c.loop-digits.invariant (omega arith))

pub loop-digits-smaller-then-from-y : goal.loop-digits-smaller-then-from-y
loop-digits-smaller-then-from-y c = (back c.loop-digits.invariant (omega arith) (omega arith)).1

pub loop-digits-preserved-then-from-y : goal.loop-digits-preserved-then-from-y
loop-digits-preserved-then-from-y c = (back c.loop-digits.invariant (omega arith) (omega arith)).0

pub loop-digits-smaller-then-hopeless : goal.loop-digits-smaller-then-hopeless
loop-digits-smaller-then-hopeless c = (bump c.loop-digits.invariant (omega arith) (c.hopeless.ensures c.if-hopeless.true)).1

pub loop-digits-preserved-then-hopeless : goal.loop-digits-preserved-then-hopeless
loop-digits-preserved-then-hopeless c = (bump c.loop-digits.invariant (omega arith) (c.hopeless.ensures c.if-hopeless.true)).0

pub returns-then-row_passes : goal.returns-then-row_passes
unfolding Finds
returns-then-row_passes c = found c.loop-digits.invariant (omega arith) c.row_passes.ensures c.if-row_passes.true

pub loop-digits-smaller-then-pos-y : goal.loop-digits-smaller-then-pos-y
loop-digits-smaller-then-pos-y c =
    (bump c.loop-digits.invariant (omega arith) (leaf c.loop-digits.invariant (omega arith) c.row_passes.ensures c.if-row_passes.false)).1

pub loop-digits-preserved-then-pos-y : goal.loop-digits-preserved-then-pos-y
loop-digits-preserved-then-pos-y c =
    (bump c.loop-digits.invariant (omega arith) (leaf c.loop-digits.invariant (omega arith) c.row_passes.ensures c.if-row_passes.false)).0

pub loop-digits-smaller : goal.loop-digits-smaller
loop-digits-smaller c = (on c.loop-digits.invariant (omega arith) (omega arith)).1

pub loop-digits-preserved : goal.loop-digits-preserved
loop-digits-preserved c = (on c.loop-digits.invariant (omega arith) (omega arith)).0
