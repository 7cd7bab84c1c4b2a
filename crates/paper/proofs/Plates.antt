-- Blank plates (document 02, item 1). Cabinet 0 or line 0, in the file or on the plate, is refused with 18, whatever is wrong behind it: straight after 2 when reading, straight after 5 when writing.
use Rattle.std.specs.Prelude.{Err}
use Prim.Native.Nat.{ℕ, ◌≤◌, ◌<◌}
use mathlib.Core.Path.{◌≡◌, refl}
use mathlib.Core.Bool.{true, false, ◌||◌, or-true}
use mathlib.Core.List.{List, map, ◌++◌}
use mathlib.Core.Logic.{◌⊎◌, inl, inr}
use lib.Dec.{eqb}
use lib.ListN.{length, take, drop, replicate}
use borrow.Author.Tests.{eqb-false, eq-eqb, ne_eqb, lt-ltb, le-ltb}
use native.Mathlib.Omega.{arith}
use Rattle.paper.specs.Numbers.{counts_in_range}
use Rattle.paper.specs.File.{is_edition, edition_in, cabinet_in, line_in, shortest}
use Rattle.paper.specs.Refusals.{number_of, first_of, blank, write_asks}
use Rattle.paper.specs.Answers.{write_outcome}
use Rattle.paper.proofs.Tests.{neither}
use Rattle.paper.proofs.Counts.{asks_of_file}
use Rattle.paper.proofs.Editions.{no_edition}
use Rattle.paper.specs.declared.Table.{Table}
use Rattle.paper.specs.declared.Refusal.TheVariants.{Short, WrongEdition, WrongCounts, BlankPlate}

pub with_18 : number_of BlankPlate ≡ 18
with_18 = refl

-- two numbers are blank exactly where one of them is 0
pub no_zero : (cabinet line : ℕ) → 1 ≤ cabinet → 1 ≤ line → blank cabinet line ≡ false
no_zero cabinet line c l = simp (ne_eqb cabinet 0 (λ e. omega arith), ne_eqb line 0 (λ e. omega arith)) refl

pub plate_says : (cabinet line : ℕ) → blank cabinet line ≡ false → (1 ≤ cabinet) × (1 ≤ line)
plate_says cabinet line e =
    let h = neither (eqb cabinet 0) (eqb line 0) e in
    let c = eqb-false cabinet 0 h.0 in
    let l = eqb-false line 0 h.1 in
    (omega arith, omega arith)

pub zero_blank : (cabinet line : ℕ) → (cabinet ≡ 0) ⊎ (line ≡ 0) → blank cabinet line ≡ true
zero_blank cabinet line (inl e) = rw (eq-eqb cabinet 0 e)
zero_blank cabinet line (inr e) = rw (eq-eqb line 0 e) (or-true (eqb cabinet 0))

module _ (f : List ℕ) (cabinet line : ℕ) (catalogue : List ℕ) (room number : ℕ) where
  -- 1 and 2 come first on any plate, a blank one too
  pub short_first : length f < shortest
      → map (λ asks. first_of asks) (asks_of_file f cabinet line catalogue room number) ≡ replicate 3 (Err Short)
  short_first h = rw (lt-ltb (length f) shortest h) refl

  pub edition_first : shortest ≤ length f → (edition_in f ≡ 1 → ⊥) → (edition_in f ≡ 2 → ⊥)
      → map (λ asks. first_of asks) (asks_of_file f cabinet line catalogue room number) ≡ replicate 3 (Err WrongEdition)
  edition_first h one two = rw (le-ltb (length f) shortest h, no_edition (edition_in f) one two) refl

  -- then a zero in the file or on the plate
  pub file_refused : shortest ≤ length f → is_edition (edition_in f) ≡ true
      → ((cabinet_in f ≡ 0) ⊎ (line_in f ≡ 0)) ⊎ ((cabinet ≡ 0) ⊎ (line ≡ 0))
      → map (λ asks. first_of asks) (asks_of_file f cabinet line catalogue room number) ≡ replicate 3 (Err BlankPlate)
  file_refused h e z = simp (le-ltb (length f) shortest h, e, blank_here z) refl
    where
      blank_here : ((cabinet_in f ≡ 0) ⊎ (line_in f ≡ 0)) ⊎ ((cabinet ≡ 0) ⊎ (line ≡ 0))
          → (blank (cabinet_in f) (line_in f) || blank cabinet line) ≡ true
      blank_here (inl z) = rw (zero_blank (cabinet_in f) (line_in f) z)
      blank_here (inr z) = rw (zero_blank cabinet line z) (or-true (blank (cabinet_in f) (line_in f)))

  -- and with no zero all is as if 18 were not asked
  pub file_as_before : 1 ≤ cabinet_in f → 1 ≤ line_in f → 1 ≤ cabinet → 1 ≤ line
      → map (λ asks. first_of asks) (asks_of_file f cabinet line catalogue room number)
      ≡ map (λ asks. first_of (take 2 asks ++ drop 3 asks)) (asks_of_file f cabinet line catalogue room number)
  file_as_before a b c l = rw (no_zero (cabinet_in f) (line_in f) a b, no_zero cabinet line c l) refl

-- Writing: behind the edition that is told the counts, then a zero on the plate, and with no zero all as before
module _ (e : ℕ) (t : Table) (cabinet line : ℕ) (own catalogue : List ℕ) (room : ℕ) where
  pub counts_first : is_edition e ≡ true → counts_in_range t.n (length own) ≡ false → write_outcome e t cabinet line own catalogue room ≡ Err WrongCounts
  counts_first edition c = rw (edition, c) refl

  pub write_refused : is_edition e ≡ true → counts_in_range t.n (length own) ≡ true → (cabinet ≡ 0) ⊎ (line ≡ 0)
      → write_outcome e t cabinet line own catalogue room ≡ Err BlankPlate
  write_refused edition c z = rw (edition, c, zero_blank cabinet line z) refl

  pub write_as_before : 1 ≤ cabinet → 1 ≤ line
      → let asks = write_asks e t cabinet line own catalogue room in first_of asks ≡ first_of (take 2 asks ++ drop 3 asks)
  write_as_before c l = rw (no_zero cabinet line c l) refl
