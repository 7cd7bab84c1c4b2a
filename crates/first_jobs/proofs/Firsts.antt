-- A loop that looks for the first job that fails a test.
use Prim.Native.Nat.{ℕ, zero, suc, ◌+◌, ◌<◌}
use mathlib.Core.Path.{◌≡◌, refl, sym, ◌∙◌, ap}
use mathlib.Core.Bool.{Bool, true, false, not}
use mathlib.Core.Logic.{◌↔◌}
use native.Mathlib.Numerals.{add-one}
use native.Mathlib.Omega.{arith}
use Rattle.std.proofs.Common.{Some, None}
use Rattle.paper.specs.Vocabulary.{lowest}
use Rattle.paper.proofs.Extremes.{lowest_none, lowest_found}
use Rattle.first_jobs.specs.Firsts.{numbered}

pub first_found : (test : ℕ → Bool) (n k : ℕ) {b : Bool} → k < n → b ≡ test k → b ≡ false → ((j : ℕ) → j < k → test j ≡ true)
    → Some (k + 1) ≡ numbered (lowest n (λ j. not (test j)))
first_found test n k l e h before = rw (lowest_found (λ j. not (test j)) n k l (ap not (sym e ∙ h)) (λ j i. ap not (before j i)), add-one k)

pub none_found : (test : ℕ → Bool) (n : ℕ) → ((j : ℕ) → j < n → test j ≡ true) → None ≡ numbered (lowest n (λ j. not (test j)))
none_found test n all = rw (lowest_none (λ j. not (test j)) n (λ j l. ap not (all j l)))

pub ruleset firsts = (first_found, none_found)

-- what a number is by its shape
pub numbered_none : (n : ℕ) → (numbered n ≡ None) ↔ (n ≡ 0)
numbered_none zero = (λ e. refl, λ e. refl)
numbered_none (suc n) = (λ e. let z : ◌≡◌ {A = ℕ} 0 1 = cc in absurd (omega arith), λ e. absurd (omega arith))

pub numbered_some : (n j : ℕ) → numbered n ≡ Some j → n ≡ j
numbered_some zero j e = let z : ◌≡◌ {A = ℕ} 0 1 = cc in absurd (omega arith)
numbered_some (suc n) j e = cc
