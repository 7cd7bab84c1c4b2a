-- From what a call gave to what the paper asks.
use mathlib.Core.Path.{◌≡◌}
use mathlib.Core.Bool.{Bool, ◌||◌}
use Prim.Native.Nat.{ℕ}
use Rattle.paper.specs.Refusals.{blank}

-- Two numbers of the file were found blank or not, and so was the plate.
pub either_blank : {x y cabinet line : ℕ} {a b plate : Bool} → x ≡ cabinet → y ≡ line → a ≡ blank x y → b ≡ plate
    → (blank cabinet line || plate) ≡ (a || b)
either_blank c l e f = rw (e, f, c, l)
