-- A call is done exactly when none of its asks applies.
use Rattle.std.specs.Prelude.{Err, Ok}
use Prim.{Unit, tt}
use mathlib.Core.Path.{◌≡◌, refl}
use mathlib.Core.Bool.{Bool, true, false, not, cond}
use mathlib.Core.List.{[], ◌∷◌}
use Prim.Native.Nat.{ℕ}
use native.Mathlib.Omega.{arith}
use borrow.Author.Tests.{not-false}
use Rattle.paper.specs.Refusals.{Asks, first_of, Outcome}
use Rattle.paper.specs.declared.Refusal.{Refusal}

refused_not_done : (r : Refusal) → ◌≡◌ {A = Outcome} (Err r) (Ok tt) → ⊥
refused_not_done r e = let z : ◌≡◌ {A = ℕ} 0 1 = cc in omega arith

-- a list is done: its first ask does not apply, and the rest is done
pub clear : (b : Bool) (r : Refusal) (o : Outcome) → cond b (Err r) o ≡ Ok tt → (b ≡ false) × (o ≡ Ok tt)
clear true r o e = absurd (refused_not_done r e)
clear false r o e = (refl, e)

-- the same where the ask is that a condition fails: the condition holds
pub met : (b : Bool) (r : Refusal) (o : Outcome) → cond (not b) (Err r) o ≡ Ok tt → (b ≡ true) × (o ≡ Ok tt)
met b r o e = let p = clear (not b) r o e in (not-false b p.0, p.1)

abbrev pub NoneApplies : Asks → Type 0
NoneApplies [] = Unit {0}
NoneApplies (ask ∷ asks) = (ask.1 ≡ false) × NoneApplies asks

pub done_none : (asks : Asks) → first_of asks ≡ Ok tt → NoneApplies asks
done_none [] e = tt
done_none (ask ∷ asks) e = let p = clear ask.1 ask.0 (first_of asks) e in (p.0, done_none asks p.1)

pub none_done : (asks : Asks) → NoneApplies asks → first_of asks ≡ Ok tt
none_done [] h = refl
none_done (ask ∷ asks) h = rw h.0 (none_done asks h.1)
