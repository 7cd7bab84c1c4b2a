-- A list copied over the front of another, one store a turn.
use Prim.Native.Nat.{ℕ, ◌≤◌}
use native.Mathlib.Omega.{arith}
use mathlib.Core.Path.{◌≡◌, refl, ap, ◌∙◌}
use mathlib.Core.List.{List, ◌++◌}
use lib.ListN.{length, take, drop, length-append, length-drop}
use lib.Seq.{take_all, take_at}

-- all of it is there
pub copied : (s o : List ℕ) (i k : ℕ) {d : List ℕ} → d ≡ take i s ++ drop i o → i ≡ length s → length o ≡ k → length s ≤ k
    → (length d ≡ k) × (take (length s) d ≡ s)
copied s o i k {d} e q z l =
    let whole : d ≡ s ++ drop i o = e ∙ ap (λ (x : List ℕ). x ++ drop i o) (take_all i s (omega arith)) in (
      ap length whole ∙ simp (length-append, length-drop) (omega arith),
      ap (λ (x : List ℕ). take (length s) x) whole ∙ take_at s (drop i o) (length s) refl,
    )
