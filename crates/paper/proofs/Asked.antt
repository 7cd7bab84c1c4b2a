-- The numbers that each call asks, in the order asked, as document 01 lists them under its table, with what document 02 adds: 18 (item 1), 19 and 16 for tolerances (item 8), 2 for writing (item 9). By computation.
use Prim.Native.Nat.{ℕ}
use mathlib.Core.Path.{◌≡◌, refl}
use mathlib.Core.List.{List, [], ◌∷◌, map}
use Rattle.paper.specs.Refusals.{number_of, Asks, record_asks, read_asks, write_asks, times_asks, tolerances_asks, lengths_asks, fit_asks, first_asks, next_asks, regions_asks, name_asks}
use Rattle.paper.specs.declared.Table.{Table}

abbrev numbers : Asks → List ℕ
numbers asks = map (λ a. number_of a.0) asks

-- Reading asks 1 to 12, and 18 straight after 2
pub reading : (f : List ℕ) (cabinet line : ℕ) (catalogue : List ℕ) (room : ℕ)
    → numbers (read_asks f cabinet line catalogue room) ≡ 1 ∷ 2 ∷ 18 ∷ 3 ∷ 4 ∷ 5 ∷ 6 ∷ 7 ∷ 8 ∷ 9 ∷ 10 ∷ 11 ∷ 12 ∷ []
reading f cabinet line catalogue room = refl

-- Writing asks 5, 9, 10, 11, 12, with 2 first, 18 straight after 5 and 19 between 11 and 12
pub writing : (e : ℕ) (t : Table) (cabinet line : ℕ) (own catalogue : List ℕ) (room : ℕ)
    → numbers (write_asks e t cabinet line own catalogue room) ≡ 2 ∷ 5 ∷ 18 ∷ 9 ∷ 10 ∷ 11 ∷ 19 ∷ 12 ∷ []
writing e t cabinet line own catalogue room = refl

-- Response times ask 5, 9, 10, 14
pub response-times : (t : Table) → numbers (times_asks t) ≡ 5 ∷ 9 ∷ 10 ∷ 14 ∷ []
response-times t = refl

-- Tolerances ask 5, 9, 10, 14, 15, 16; lengths ask the same numbers, 16 of more tables; the region check 11 too
pub tolerances : (t : Table) → numbers (tolerances_asks t) ≡ 5 ∷ 9 ∷ 10 ∷ 14 ∷ 15 ∷ 16 ∷ []
tolerances t = refl

pub lengths : (t : Table) → numbers (lengths_asks t) ≡ 5 ∷ 9 ∷ 10 ∷ 14 ∷ 15 ∷ 16 ∷ []
lengths t = refl

pub region-check : (t : Table) (own catalogue : List ℕ) → numbers (fit_asks t own catalogue) ≡ 5 ∷ 9 ∷ 10 ∷ 11 ∷ 14 ∷ 15 ∷ 16 ∷ []
region-check t own catalogue = refl

-- Listing asks 5, 9, 12, 17; the first row is asked from no row
pub first-row : (t : Table) (room : ℕ) → numbers (first_asks t room) ≡ 5 ∷ 9 ∷ 12 ∷ []
first-row t room = refl

pub next_row : (t : Table) (given : List ℕ) (room : ℕ) → numbers (next_asks t given room) ≡ 5 ∷ 9 ∷ 12 ∷ 17 ∷ []
next_row t given room = refl

-- Handing back a record asks 1 to 11, with 18 as reading has it, then 13
pub a_record : (f : List ℕ) (cabinet line : ℕ) (catalogue : List ℕ) (number : ℕ)
    → numbers (record_asks f cabinet line catalogue number) ≡ 1 ∷ 2 ∷ 18 ∷ 3 ∷ 4 ∷ 5 ∷ 6 ∷ 7 ∷ 8 ∷ 9 ∷ 10 ∷ 11 ∷ 13 ∷ []
a_record f cabinet line catalogue number = refl

-- regions ask 5, 13, then 11
pub regions : (t : Table) (own catalogue : List ℕ) (number : ℕ) → numbers (regions_asks t own catalogue number) ≡ 5 ∷ 13 ∷ 11 ∷ []
regions t own catalogue number = refl

-- a name 9, then 13
pub a_name : (number : ℕ) (cabinet house : List ℕ) → numbers (name_asks number cabinet house) ≡ 9 ∷ 13 ∷ []
a_name number cabinet house = refl
