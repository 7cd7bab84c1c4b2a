-- Names: the last of the bytes that are left is a space and goes, or isn't and ends the name.
use mathlib.Core.Path.{◌≡◌}
use mathlib.Core.List.{List}
use Prim.Native.Nat.{ℕ, ◌+◌}
use native.Mathlib.Numerals.{add-one}
use borrow.Author.Tests.{eq-eqb, ne_eqb}
use lib.ListN.{get_or}
use Rattle.paper.specs.Regions.{trimmed}

pub space_goes : (s : List ℕ) (at last stay : ℕ) → last + 1 ≡ stay → get_or s (at + last) 0 ≡ 32 → trimmed s at stay ≡ trimmed s at last
unfolding trimmed
space_goes s at last stay e h = rw (← e, add-one last, eq-eqb (get_or s (at + last) 0) 32 h)

pub name_ends : (s : List ℕ) (at last stay : ℕ) → last + 1 ≡ stay → (get_or s (at + last) 0 ≡ 32 → ⊥) → trimmed s at stay ≡ stay
unfolding trimmed
name_ends s at last stay e h = rw (← e, add-one last, ne_eqb (get_or s (at + last) 0) 32 h)

pub none_left : (s : List ℕ) (at stay : ℕ) → stay ≡ 0 → trimmed s at stay ≡ stay
unfolding trimmed
none_left s at stay e = rw e
