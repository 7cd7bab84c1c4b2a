-- The test of a full row, on the columns of its digits.
use Prim.Native.Nat.{ℕ, suc, ◌<◌}
use mathlib.Core.Path.{◌≡◌, refl, sym, ◌∙◌}
use mathlib.Core.Bool.{Bool, true, false}
use mathlib.Core.List.{List}
use lib.ListN.{take}
use Rattle.paper.specs.Numbers.{Assignment}
use Rattle.paper.specs.Analysis.{Tasks, passes}
use Rattle.paper.specs.Rows.{row_size, row_assignment, row_holds}
use Rattle.paper.proofs.Tests.{never}
use Rattle.paper.proofs.Formed.{formed}
use Rattle.laws.proofs.Agree.{SameAssignment, passes_agree}
use Rattle.rows.specs.Places.{fits_at}
use Rattle.rows.proofs.Places.{formed_fits, fits_alike}
use Rattle.search.specs.Search.{Barren, Tests}

-- a row that is not well formed does not pass
pub ill_formed : (y : Tasks) (d : List ℕ) (b : Bool) → b ≡ row_holds y.n (take (row_size y.n) d) → b ≡ false → Tests y b d
unfolding Tests
ill_formed y d true e f = absurd (never true refl f)
ill_formed y d false e f = λ p. never _ p.form (sym e)

-- one that is passes where its assignment does
well_formed : (y : Tasks) (d : List ℕ) (b : Bool) → row_holds y.n (take (row_size y.n) d) ≡ true
    → b ≡ passes y (row_assignment y.n (take (row_size y.n) d)) → Tests y b d
unfolding Tests
well_formed y d true h e = record { form = h; pass = sym e }
well_formed y d false h e = λ p. never _ p.pass (sym e)

-- that of any columns that hold it
pub row_tested : (y : Tasks) (d : List ℕ) {a : Assignment} {b : Bool} → row_holds y.n (take (row_size y.n) d) ≡ true
    → SameAssignment y.n a (row_assignment y.n (take (row_size y.n) d)) → b ≡ passes y a → Tests y b d
row_tested y d {a} {b} h s e = well_formed y d b h (e ∙ passes_agree y a _ s)

-- A number that does not fit after those before it leaves no passing row.
pub unfit_barren : (y : Tasks) (d : List ℕ) (pos : ℕ) → pos < row_size y.n → fits_at y.n d pos ≡ false → Barren y d (suc pos)
unfolding Barren
unfit_barren y d pos l e r p q =
    never _ (formed_fits y.n r (formed y.n r p.form) pos l) (fits_alike y.n pos r d q ∙ e)
