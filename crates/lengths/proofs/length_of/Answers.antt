use Prim.Native.Nat.{ℕ}
use mathlib.Core.Path.{◌≡◌, sym, ◌∙◌}
use mathlib.Core.Bool.{Bool}
use native.Mathlib.Omega.{arith}
use borrow.Author.Rules.{rules}
use lib.IntN.{ℤ, pos}
use lib.ListN.{get_or}
use mir.Syntax.{w64}
use mir.Val.{to_z, of_z}
use mir.Facts.{to_z_pos}
use Rattle.paper.specs.Lengths.{least_of, length_of}
use Rattle.laws.proofs.Every.{at_end}
use Rattle.tolerance.proofs.Machine.{kept}
use Rattle.lengths.proofs.Tables.{allowed_at}
use Rattle.lengths.proofs.Turns.{least_none, least_turn}
use Rattle.lengths.proofs.length_of.Goals as goal

pub loop-j-init : goal.loop-j-init
loop-j-init c = rw c.cost-q.ensures (to_z_pos w64 (omega (arith, (c.args.y.now.ranged.costs c.args.k c.requires.k_lt_n).1)) ∙ sym (least_none _ _ _))

pub loop-j-preserved : goal.loop-j-preserved
loop-j-preserved c =
    let l = c.loop-j in
    let read : to_z w64 (of_z w64 (get_or c.args.ticks.now l.j (pos 0))) ≡ get_or c.args.ticks.now l.j (pos 0) = search rules in
    kept c.narrowed-q.result c.narrowed-q.type_inv
    (c.narrowed-q.ensures ∙ least_turn _ _ _ l.j l.invariant (allowed_at _ _ c.requires.ticks_value l.j c.loop-j-test.true read))

pub returns : goal.returns
unfolding length_of
returns c =
    let l = c.loop-j in
    at_end (λ j (b : (ℕ → Bool) × (ℕ → ℤ) × ℤ). least_of j b.0 b.1 b.2) l.j _ l.invariant (omega arith)
